-- `contents_incoming::first_live_fault` meets its contract. The loop's invariant: before the group nothing is both looked at and at fault. Assumes nothing.
use mathlib.Core.Path.{◌≡◌}
use mathlib.Core.Bool.{false, ◌&&◌}
use mathlib.Core.List.{List}
use Prim.Native.Nat.{ℕ, ◌*◌, ◌<◌}
use lib.IntN.{ℤ}
use lib.ListN.{get_or}
use lib.Ieee.{Float, nan}
use Rattle.call.specs.declared.Call.{Call}
use Rattle.call.specs.Contents.{element_fault}
use Rattle.contents.specs.Faults.{in_prefix}
use Rattle.contents_incoming.proofs.first_live_fault.Given as goal

-- index k is not both looked at and at fault
abbrev pub Clear : Call → List ℤ → ℕ → ℕ → List Float → ℕ → Type 0
Clear call live heads unit tensor k = (in_prefix call live heads unit k && element_fault (get_or tensor k nan)) ≡ false

abbrev pub invariant-loop-group : goal.invariant-loop-group
invariant-loop-group l = (k : ℕ) → k < l.group * l.span → Clear l.call l.live l.heads l.unit l.tensor k
