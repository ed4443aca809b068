-- `score_cap_steps::minus_twices` meets its contract. The loop's invariant: the elements before j are set. Assumes nothing.
use Rattle.std.proofs.Common.{◌≡◌, map, take}
use lib.Ieee.{neg}
use Rattle.softmax.specs.Cap.{twice_of}
use Rattle.score_cap_steps.proofs.minus_twices.Given as goal

abbrev pub invariant-loop-j : goal.invariant-loop-j
invariant-loop-j l = take l.j l.terms ≡ map (λ x. neg (twice_of x)) (take l.j l.xs)
