-- The unit of work: the rows of one query head from `first` for `count`. What is asked of its caller, which rows it writes, and what is shown of a row. Definitions only.
use Rattle.std.specs.Prelude.{◌≡◌, Bool, ◌&&◌, List, ℕ, ◌+◌, ◌-◌, eqb, leb, ltb, Float, Option, Some, None, Ok}
use Rattle.std.specs.Float.{nan}
use Rattle.bool_laws.specs.Counts.{count_where}
use Rattle.tensor_laws.specs.Layout.{tabulate, written_of}
use Rattle.exponential.specs.ExpNeg.{plus_zero}
use Rattle.call.specs.declared.Call.{Call}
use Rattle.call.specs.Limits.{total_of}
use Rattle.call.specs.Lengths.{in_scores}
use Rattle.call.specs.Tensors.{Inputs, Outputs}
use Rattle.call.specs.Refusals.{verdict_of}
use Rattle.attention.specs.Formula.{effective_scale, attention_output, attention_weight, row_masked, shown_score}

-- what is shown of row (b, h, i) at key j; without a mode the scores are empty
abbrev pub shown_at : Option ℕ → Call → Inputs → (b h i j : ℕ) → Float
shown_at None c x b h i j = plus_zero
shown_at (Some m) c x b h i j = shown_score m c x b h i j

-- the row (b', h', i') is one of those of head h in batch b from first for count
abbrev pub is_unit_row : (b h first count : ℕ) → (b' h' i' : ℕ) → Bool
is_unit_row b h first count b' h' i' = eqb b' b && eqb h' h && leb first i' && ltb i' (first + count)

-- ---- what is asked

-- the call is one to which no refusal applies, with some tensors lent for writing, and that is its scale
pub record Accepting (c : Call) (x : Inputs) (scale : Float) : Type 0 where
  pub lent : Outputs
  pub accepted : verdict_of c x lent ≡ Ok tt
  pub scale_is : scale ≡ effective_scale c

-- ---- what is left

-- the output, the shown scores, the weights and the mark of row (b, h, i)
pub record RowDone (c : Call) (x : Inputs) (b h i : ℕ) (out shown work : List Float) (masked : Bool) : Type 0 where
  pub output : out ≡ tabulate c.vsize (attention_output c x b h i)
  pub scores : shown ≡ tabulate (in_scores c.mode (total_of c)) (shown_at c.mode c x b h i)
  pub weights : work ≡ tabulate (total_of c) (attention_weight c x b h i)
  pub told : masked ≡ row_masked c x b h i

-- the rows of the unit are the formula's in Y and in the scores, and every other row is as it came in (y₀, s₀); the scratch row holds the weights of the unit's last row; masked is the number of its rows that are fully masked
pub record HeadDone (c : Call) (x : Inputs) (b h first count : ℕ) (y₀ s₀ y s work : List Float) (masked : ℕ) : Type 0 where
  pub output : y ≡ written_of c.rank c.batches c.qheads c.qlen c.vsize (is_unit_row b h first count) (attention_output c x) nan y₀
  pub scores : s ≡ written_of 4 c.batches c.qheads c.qlen (in_scores c.mode (total_of c)) (is_unit_row b h first count) (shown_at c.mode c x) nan s₀
  pub weights : work ≡ tabulate (total_of c) (attention_weight c x b h (first + count - 1))
  pub told : masked ≡ count_where count (λ n. row_masked c x b h (first + n))
