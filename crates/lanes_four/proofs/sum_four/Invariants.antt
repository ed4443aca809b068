-- `lanes_four::sum_four` meets its contract. The loop's invariant: the lanes of each key are those of the first 4 m elements.
use Rattle.std.proofs.Common.{◌≡◌, ◌*◌}
use Rattle.lanes.specs.Sums.{lanes_of}
use Rattle.lanes_four.proofs.sum_four.Given as goal

abbrev pub invariant-loop-m : goal.invariant-loop-m
invariant-loop-m l =
    (l.a ≡ lanes_of l.q l.first (l.m * 4)) × (l.b ≡ lanes_of l.q l.second (l.m * 4)) × (l.c ≡ lanes_of l.q l.third (l.m * 4)) × (l.d ≡ lanes_of l.q l.fourth (l.m * 4))
