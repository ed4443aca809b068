-- `records_write::write_row` meets its contract. The loop's invariant: the bytes of the elements before i are written, the others are as they were. Assumes nothing.
use mathlib.Core.Path.{◌≡◌}
use Rattle.records.proofs.RowFronts.{row_to}
use Rattle.records_write.proofs.write_row.Given as goal

abbrev pub invariant-loop-i : goal.invariant-loop-i
invariant-loop-i l = l.bytes ≡ row_to l.row l.i l.initial.bytes
