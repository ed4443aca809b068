-- `lanes_keys::sum_fours` meets its contract. The loop's invariant: the lanes of the keys before 4 p are written, the others are as they were.
use Rattle.std.proofs.Common.{◌≡◌, ◌*◌, ◌/◌, length}
use Rattle.tensor_laws.proofs.Blocks.{written_to}
use Rattle.lanes.specs.Sums.{lane_at}
use Rattle.lanes_keys.proofs.sum_fours.Given as goal

abbrev pub invariant-loop-p : goal.invariant-loop-p
invariant-loop-p l = l.lanes ≡ written_to (lane_at l.q l.keys l.stride (length l.q / 4 * 4)) (l.p * 16) l.initial.lanes
