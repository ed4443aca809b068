-- `weighted_columns::weighted_columns` meets its contract. The invariant of both loops: the weighted values are added in the columns of the blocks before this one, the others are as they were.
use Rattle.std.proofs.Common.{◌≡◌, ◌*◌, min, length}
use Rattle.weighted_columns.proofs.Columns.{columns_to}
use Rattle.weighted_columns.proofs.weighted_columns.Given as goal

abbrev pub invariant-loop-block : goal.invariant-loop-block
invariant-loop-block l = l.out ≡ columns_to l.weights l.values l.stride l.fn.out (l.block * 16)

abbrev pub invariant-loop-block-2 : goal.invariant-loop-block-2
invariant-loop-block-2 l = l.out ≡ columns_to l.weights l.values l.stride l.fn.out (min (l.block * 16) (length l.fn.out))
