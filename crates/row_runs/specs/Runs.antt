-- Runs of positions: what is asked of a run, and what steps 1 and 5 make of it. Definitions only.
use Rattle.std.specs.Prelude.{◌≡◌, Bool, true, List, ◌++◌, ℕ, ◌+◌, ◌*◌, ◌≤◌, ◌<◌, length, drop, Float}
use Rattle.tensor_laws.specs.Layout.{tabulate}
use Rattle.exponential.specs.ExpNeg.{plus_zero}
use Rattle.softmax.specs.Row.{score_of}
use Rattle.softmax.specs.Lists.{element_of}
use Rattle.call.specs.declared.Call.{Call}
use Rattle.call.specs.Limits.{total_of, limits_hold}
use Rattle.caches.specs.declared.HeadCache.{HeadCache}
use Rattle.caches.specs.Lent.{head_cell}
use Rattle.admitted_sum.specs.Sums.{added_row_of}
use Rattle.admitted_sum.specs.Masks.{admits}
use Rattle.row_steps.specs.declared.RowMask.{RowMask}
use Rattle.row_steps.specs.Steps.{shown_where}

-- the positions of key head g in batch b from `from` for `count` stand in one of the two tensors, whose lengths are given
pub record RunFits (c : Call) (past_length incoming_length size b g from count : ℕ) : Type 0 where
  pub limits : limits_hold c ≡ true
  pub size_some : 1 ≤ size
  pub size_most : size ≤ 256
  pub past_length_is : past_length ≡ c.batches * c.kvheads * c.past * size
  pub incoming_length_is : incoming_length ≡ c.batches * c.kvheads * c.klen * size
  pub batch : b < c.batches
  pub head : g < c.kvheads
  pub together : from < c.past → from + count ≤ c.past
  pub inside : from + count ≤ total_of c

-- the same of the rows of a key head as they are lent: `cache` in a `requires`, `cache.entry` in an `ensures`
abbrev pub HeadRunFits : Call → HeadCache → (from count : ℕ) → Type 0
HeadRunFits c cache from count = RunFits c (length cache.past.now) (length cache.incoming.now) cache.size cache.b cache.g from count

-- step 1 leaves the scores of the first m positions in the scratch row, the rest of it as it was, and shows them, +0 behind, where `dots` holds
pub record ScoresDone (m : ℕ) (score : ℕ → Float) (dots : Bool) (shown₀ work₀ shown work : List Float) : Type 0 where
  pub scores : work ≡ tabulate m score ++ drop m work₀
  pub shows : shown ≡ shown_where dots plus_zero (tabulate m score) shown₀

-- position j's score under the query row q
abbrev pub head_score : Call → (scale : Float) → (q : List Float) → HeadCache → (j : ℕ) → Float
head_score c scale q cache j = score_of cache.size (element_of q) (head_cell c cache j) scale

-- the output row with the weighted values of the admitted positions added, as many positions as there are weights: from `from` on, and from 0 on
abbrev pub weighed_run : Call → RowMask → HeadCache → (from : ℕ) → (weights out : List Float) → List Float
weighed_run c mask cache from weights out =
    added_row_of (length weights) (λ j. admits mask (from + j)) (element_of weights)
    (λ j k. head_cell c cache (from + j) k) out

abbrev pub weighed_row : Call → RowMask → HeadCache → (weights out : List Float) → List Float
weighed_row c mask cache weights out =
    added_row_of (length weights) (admits mask) (element_of weights) (λ j k. head_cell c cache j k) out
