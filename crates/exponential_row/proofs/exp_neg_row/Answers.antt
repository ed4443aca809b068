use Rattle.std.proofs.Common.{◌+◌, ◌*◌, arith}
use Rattle.exponential.specs.ExpNeg.{exp_neg_row_of}
use Rattle.exponential_row.proofs.Rows.{block_mapped, all_mapped}
use Rattle.exponential_row.proofs.exp_neg_row.Invariants.{each_of}
use Rattle.exponential_row.proofs.exp_neg_row.Goals as goal

pub loop-block-preserved : goal.loop-block-preserved
unfolding exp_neg_row_of
loop-block-preserved c =
    let l = c.loop-block in
    (l.invariant.0, block_mapped (each_of c.args.largest) _ _ _ _ _ (64 * l.block) l.invariant.1 (omega arith) c.exp_block.ensures (omega arith) (64 * (l.block + 1)) (omega arith))

pub returns : goal.returns
unfolding exp_neg_row_of
returns c =
    let l = c.loop-block in
    all_mapped (each_of c.args.largest) _ _ _ _ _ (64 * l.block) l.invariant.1 (omega arith) c.exp_block-2.ensures (omega arith) (omega arith)
