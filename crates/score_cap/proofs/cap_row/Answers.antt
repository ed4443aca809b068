use Prim.Native.Nat.{◌+◌, ◌*◌}
use native.Mathlib.Omega.{arith}
use lib.Ieee.{of_bits}
use Rattle.exponential_row.proofs.Rows.{block_mapped, all_mapped}
use Rattle.softmax.specs.Cap.{capped_or_hidden, capped_row_of, capped_row_where}
use Rattle.score_cap.proofs.cap_row.Goals as goal

pub loop-block-preserved : goal.loop-block-preserved
unfolding capped_row_of
loop-block-preserved c =
    let l = c.loop-block in
    block_mapped (capped_or_hidden c.args.c) _ _ _ _ _ (64 * l.block) l.invariant (omega arith) c.cap_block.ensures (omega arith) (64 * (l.block + 1)) (omega arith)

pub returns : goal.returns
unfolding of_bits capped_row_of capped_row_where
returns c =
    let l = c.loop-block in
    rw c.if-c.false (all_mapped (capped_or_hidden c.args.c) _ _ _ _ _ (64 * l.block) l.invariant (omega arith) c.cap_block-2.ensures (omega arith) (omega arith))
