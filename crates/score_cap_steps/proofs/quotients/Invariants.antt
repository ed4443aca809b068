-- `score_cap_steps::quotients` meets its contract. The loop's invariant: the elements before j are the quotients. Assumes nothing.
use Rattle.std.proofs.Common.{◌≡◌, map, take}
use lib.Ieee.{binary32, div}
use Rattle.score_cap_steps.proofs.quotients.Given as goal

abbrev pub invariant-loop-j : goal.invariant-loop-j
invariant-loop-j l = take l.j l.xs ≡ map (λ s. div binary32 s l.c) (take l.j l.row)
