use Rattle.std.proofs.Common.{arith, zero-add}
use Rattle.std.proofs.lemmas.List.Edits.{fill_from_more}
use Rattle.row_copies.proofs.fill_row.Goals as goal

pub loop-e-preserved : goal.loop-e-preserved
loop-e-preserved c = rw c.loop-e.invariant (simp zero-add (simp zero-add at (fill_from_more c.args.row.now 0 c.loop-e.e-index c.args.x (omega arith))))
