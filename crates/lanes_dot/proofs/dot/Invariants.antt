-- `lanes_dot::dot` meets its contract. The loop's invariant: the lanes are those of the first 4 m elements.
use Rattle.std.proofs.Common.{◌≡◌, ◌*◌}
use Rattle.lanes.specs.Sums.{lanes_of}
use Rattle.lanes_dot.proofs.dot.Given as goal

abbrev pub invariant-loop-m : goal.invariant-loop-m
invariant-loop-m l = l.lanes ≡ lanes_of l.q l.k (l.m * 4)
