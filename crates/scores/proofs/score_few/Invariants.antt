-- `scores::score_few` meets its contract. The loop's invariant: the elements before j are the scores of their keys.
use Rattle.std.proofs.Common.{◌≡◌, ℕ, ◌<◌}
use Rattle.softmax.specs.Lists.{element_of}
use Rattle.scores.proofs.Keys.{score_of_key}
use Rattle.scores.proofs.score_few.Given as goal

abbrev pub invariant-loop-j : goal.invariant-loop-j
invariant-loop-j l = (k : ℕ) → k < l.j → element_of l.out k ≡ score_of_key l.q l.keys l.stride l.scale k
