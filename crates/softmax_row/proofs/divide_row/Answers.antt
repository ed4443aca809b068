use Rattle.std.proofs.Common.{arith}
use Rattle.std.proofs.lemmas.List.{get_or_default}
use Rattle.std.proofs.lemmas.List.Edits.{map_over_more}
use lib.ListN.{get_or}
use lib.Ieee.{binary32, div, nan}
use Rattle.softmax_row.proofs.divide_row.Goals as goal

pub loop-e-preserved : goal.loop-e-preserved
loop-e-preserved c = map_over_more (λ e. div binary32 e c.args.x) c.args.row.now c.loop-e.row c.loop-e.e-index (get_or c.loop-e.row c.loop-e.e-index nan) c.loop-e-test.true c.loop-e.invariant (get_or_default c.loop-e.row c.loop-e.e-index nan _ (omega arith))
