-- `exponential_steps::polys` meets its contract. The loop's invariant: the elements before i are mapped, the others are as they were. Assumes nothing.
use Rattle.std.proofs.Common.{◌≡◌, ℕ, ◌≤◌, map, take, get_or}
use lib.Ieee.{nan}
use Rattle.exponential.specs.ExpNeg.{rest_of, poly_of}
use Rattle.exponential_steps.proofs.polys.Given as goal

abbrev pub invariant-loop-i : goal.invariant-loop-i
invariant-loop-i l = (take l.i l.row ≡ map (λ y. poly_of (rest_of y)) (take l.i l.initial.row)) × ((k : ℕ) → l.i ≤ k → get_or l.row k nan ≡ get_or l.initial.row k nan)
