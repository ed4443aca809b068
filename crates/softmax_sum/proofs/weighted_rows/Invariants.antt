-- `softmax_sum::weighted_rows` meets its contract. The loop's invariant: the weighted values of the positions before j are added in every column.
use Rattle.std.proofs.Common.{◌≡◌, length}
use Rattle.tensor_laws.specs.Layout.{tabulate}
use Rattle.softmax.proofs.Rows.{column_of}
use Rattle.softmax_sum.proofs.weighted_rows.Given as goal

abbrev pub invariant-loop-j : goal.invariant-loop-j
invariant-loop-j l = l.out ≡ tabulate (length l.initial.out) (column_of l.weights l.values l.stride l.initial.out l.j)
