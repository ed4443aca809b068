-- `lanes_dot::add_lanes` meets its contract. The loop's invariant: the lanes are those of the elements before from + l.
use Rattle.std.proofs.Common.{◌≡◌, ◌+◌}
use Rattle.lanes.specs.Sums.{lanes_of}
use Rattle.lanes_dot.proofs.add_lanes.Given as goal

abbrev pub invariant-loop-l : goal.invariant-loop-l
invariant-loop-l l = l.lanes ≡ lanes_of l.q l.k (l.from + l.l)
