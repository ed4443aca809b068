-- `lanes_keys::sum_rest` meets its contract. The loop's invariant: the lanes of the keys before j are those over the whole row, the others are as they were.
use Rattle.std.proofs.Common.{◌≡◌, ◌*◌, length}
use Rattle.tensor_laws.proofs.Blocks.{written_to}
use Rattle.lanes.specs.Sums.{lane_at}
use Rattle.lanes_keys.proofs.sum_rest.Given as goal

abbrev pub invariant-loop-j : goal.invariant-loop-j
invariant-loop-j l = l.lanes ≡ written_to (lane_at l.q l.keys l.stride (length l.q)) (l.j * 4) l.initial.lanes
