-- `admitted_sum::weigh_admitted` meets its contract. The loop's invariant: the positions before j are weighed; j is one past the end after a run that the end stops.
use mathlib.Core.Path.{◌≡◌}
use mathlib.Core.Bool.{Bool}
use Prim.Native.Nat.{ℕ, ◌+◌, ◌-◌, ◌≤◌, min}
use lib.ListN.{length}
use Rattle.row_steps.specs.declared.RowMask.{RowMask}
use Rattle.admitted_sum.specs.Masks.{admits}
use Rattle.admitted_sum.proofs.Weighed.{weighed_to}
use Rattle.admitted_sum.proofs.weigh_admitted.Given as goal

-- the mask admits position j of those given
abbrev pub sees_of : RowMask → (from j : ℕ) → Bool
sees_of mask from j = admits mask (from + j)

abbrev pub invariant-loop-j : goal.invariant-loop-j
invariant-loop-j l = (l.j ≤ length l.weights + 1) × (l.out ≡ weighed_to (sees_of l.mask l.from) l.weights l.values l.stride l.initial.out (min l.j (length l.weights)))

abbrev pub decreases-loop-j : goal.decreases-loop-j
decreases-loop-j l = length l.weights + 1 - l.j
