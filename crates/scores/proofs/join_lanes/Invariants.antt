-- `scores::join_lanes` meets its contract. The loop's invariant: the elements before j are the joined lanes of their keys.
use Rattle.std.proofs.Common.{◌≡◌, ℕ, ◌<◌}
use Rattle.softmax.specs.Lists.{element_of}
use Rattle.scores.specs.Sums.{joined_at}
use Rattle.scores.proofs.join_lanes.Given as goal

abbrev pub invariant-loop-j : goal.invariant-loop-j
invariant-loop-j l = (k : ℕ) → k < l.j → element_of l.out k ≡ joined_at l.lanes l.scale k
