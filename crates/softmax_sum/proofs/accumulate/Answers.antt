use Rattle.std.proofs.Common.{◌∙◌, arith}
use lib.Ieee.{nan}
use Rattle.tensor_laws.proofs.InPlace.{indexed_next, indexed_all}
use Rattle.softmax.specs.Lists.{accumulated_row_of}
use Rattle.softmax_sum.proofs.accumulate.Invariants.{each_of}
use Rattle.softmax_sum.proofs.accumulate.Goals as goal

pub loop-c-preserved : goal.loop-c-preserved
loop-c-preserved c = rw c.loop-c.invariant (indexed_next (each_of c.args.weight c.args.value.now) nan c.loop-c.c c.args.out.now (omega arith))

pub returns : goal.returns
unfolding accumulated_row_of
returns c = c.loop-c.invariant ∙ indexed_all (each_of c.args.weight c.args.value.now) nan c.loop-c.c c.args.out.now (omega arith)
