-- `exponential_powers::halve` meets its contract. The loop's invariant: the elements before i are halved, the others are as they were. Assumes nothing.
use mathlib.Core.Path.{◌≡◌}
use Prim.Native.Nat.{ℕ, ◌<◌, ◌≤◌}
use lib.ListN.{get_or}
use lib.Ieee.{nan}
use Rattle.exponential.proofs.Blocks.{halved_by}
use Rattle.exponential_powers.proofs.halve.Given as goal

abbrev pub invariant-loop-i : goal.invariant-loop-i
invariant-loop-i l = ((k : ℕ) → k < l.i → get_or l.row k nan ≡ halved_by (get_or l.wholes k 0) (get_or l.initial.row k nan)) × ((k : ℕ) → l.i ≤ k → get_or l.row k nan ≡ get_or l.initial.row k nan)
