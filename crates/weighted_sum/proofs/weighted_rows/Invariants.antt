-- `weighted_sum::weighted_rows` meets its contract. The loop's invariant: the weighted values of the positions before the block are added in every column.
use Rattle.std.proofs.Common.{◌≡◌, ◌*◌, length}
use Rattle.tensor_laws.specs.Layout.{tabulate}
use Rattle.softmax.proofs.Rows.{column_of}
use Rattle.weighted_sum.proofs.weighted_rows.Given as goal

abbrev pub invariant-loop-block : goal.invariant-loop-block
invariant-loop-block l = l.out ≡ tabulate (length l.initial.out) (column_of l.weights l.values l.stride l.initial.out (l.block * 32))
