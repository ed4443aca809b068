-- `score_cap_steps::cap_elements` meets its contract. The loop's invariant: the scores before j are capped, the others are as they were. Assumes nothing.
use mathlib.Core.Path.{◌≡◌}
use mathlib.Core.Bool.{cond}
use Prim.Native.Nat.{ℕ}
use mathlib.Core.List.{List}
use lib.Ieee.{Float, binary32, mul}
use Rattle.tensor_laws.proofs.InPlace.{indexed_to}
use Rattle.softmax.specs.Lists.{element_of, hidden, is_hidden}
use Rattle.softmax.specs.Cap.{signed_by, ratio_of}
use Rattle.score_cap_steps.proofs.cap_elements.Given as goal

-- what element k becomes
abbrev pub each_of : Float → List Float → List Float → ℕ → Float → Float
each_of c xs terms k s = cond (is_hidden s) hidden (mul binary32 c (signed_by (element_of xs k) (ratio_of (element_of terms k))))

abbrev pub invariant-loop-j : goal.invariant-loop-j
invariant-loop-j l = l.row ≡ indexed_to (each_of l.c l.xs l.terms) l.j l.initial.row
