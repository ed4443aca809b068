-- `row_copies::copy_row` meets its contract. The loop's invariant: the elements before i are the other row's. Assumes nothing.
use Rattle.std.proofs.Common.{◌≡◌, take}
use Rattle.row_copies.proofs.copy_row.Given as goal

abbrev pub invariant-loop-i : goal.invariant-loop-i
invariant-loop-i l = take l.i l.to ≡ take l.i l.from
