-- What the heads of a call, one after the other, leave: those before a number, a run of them more, and all. Definitions only.
use Rattle.std.specs.Prelude.{◌≡◌, Bool, List, ℕ, ◌+◌, ◌-◌, ◌*◌, ◌/◌, ◌%◌, ◌≤◌, ◌<◌, length, Float}
use Rattle.std.specs.Float.{nan}
use Rattle.bool_laws.specs.Counts.{count_where}
use Rattle.tensor_laws.specs.Layout.{batch_at, head_at, position_at, tabulate, written_of}
use Rattle.call.specs.declared.Call.{Call}
use Rattle.call.specs.Limits.{total_of}
use Rattle.call.specs.Lengths.{in_scores}
use Rattle.call.specs.Tensors.{Inputs}
use Rattle.attention.specs.Formula.{attention_output, attention_weight, row_masked}
use Rattle.attention.specs.Outcomes.{output_tensor, present_key_tensor, present_value_tensor, scores_tensor, work_row, masked_rows_of}
use Rattle.caches.specs.Rows.{heads_before}
use Rattle.rows.specs.Unit.{shown_at}

-- whether the row with the number m is fully masked
abbrev pub masked_number : Call → Inputs → ℕ → Bool
masked_number c x m = row_masked c x (batch_at c.qheads c.qlen m) (head_at 4 c.qheads c.qlen m) (position_at 4 c.qheads c.qlen m)

-- the query heads before head n are done, and what does not belong to them is as in y₀ and s₀; the scratch row holds the weights of the last row of the last of them; masked is the number of their rows that are fully masked
pub record HeadsTo (c : Call) (x : Inputs) (y₀ s₀ : List Float) (n : ℕ) (y s work : List Float) (masked : ℕ) : Type 0 where
  pub high : n ≤ c.batches * c.qheads
  pub output : y ≡ written_of c.rank c.batches c.qheads c.qlen c.vsize (heads_before c.qheads n) (attention_output c x) nan y₀
  pub scores : s ≡ written_of 4 c.batches c.qheads c.qlen (in_scores c.mode (total_of c)) (heads_before c.qheads n) (shown_at c.mode c x) nan s₀
  pub long : length work ≡ total_of c
  pub weights : 0 < n → work ≡ tabulate (total_of c) (attention_weight c x ((n - 1) / c.qheads) ((n - 1) % c.qheads) (c.qlen - 1))
  pub told : masked ≡ count_where (n * c.qlen) (masked_number c x)

-- where the heads before `from` were done, those before `to` are, and r of the rows between are fully masked
abbrev pub HeadsCarried : Call → Inputs → (from to : ℕ) → (y s work y' s' work' : List Float) → (r : ℕ) → Type 0
HeadsCarried c x from to y s work y' s' work' r = (y₀ s₀ : List Float) (masked : ℕ) → HeadsTo c x y₀ s₀ from y s work masked → HeadsTo c x y₀ s₀ to y' s' work' (masked + r)

-- the output, the present caches, the scores, the scratch row and the number of fully masked rows are those of the call
pub record HeadsDone (c : Call) (x : Inputs) (output present_key present_value scores work : List Float) (masked : ℕ) : Type 0 where
  pub outputs : output ≡ output_tensor c x
  pub keys : present_key ≡ present_key_tensor c x
  pub values : present_value ≡ present_value_tensor c x
  pub shown : scores ≡ scores_tensor c x
  pub weights : work ≡ work_row c x
  pub told : masked ≡ masked_rows_of c x
