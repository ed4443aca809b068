use Rattle.std.proofs.Common.{◌+◌, ◌-◌, length, refl, arith}
use Rattle.tensor_laws.specs.Layout.{tabulate}
use Rattle.tensor_laws.proofs.Parts.{length_part}
use Rattle.scores.proofs.Keys.{block_scored, all_scored, block_inside, block_fits}
use Rattle.scores.proofs.score_rows.Goals as goal

pub loop-j-init : goal.loop-j-init
unfolding tabulate
loop-j-init c = (omega arith, refl)

pub score_block-requires-clause-by_index : goal.score_block-requires-clause-by_index
score_block-requires-clause-by_index c =
    let s = c.args in
    let j = c.loop-j.j in
    let m = c.block_size-m.result in
    let fits = block_fits (length s.out.now - j) m c.loop-j-test.true c.block_size-m.ensures in
    rw (length_part j (j + m - j) c.loop-j.out (omega arith)) (block_inside s.keys.now s.stride (length s.q.now) j _ (j + m - j) c.requires (omega arith))

pub loop-j-preserved : goal.loop-j-preserved
loop-j-preserved c =
    let s = c.args in
    let j = c.loop-j.j in
    let m = c.block_size-m.result in
    let fits = block_fits (length s.out.now - j) m c.loop-j-test.true c.block_size-m.ensures in
    (omega arith, block_scored s.q.now s.keys.now s.stride s.scale s.out.now c.loop-j.out c.score_block.new.out j (j + m - j) (j + m) c.loop-j.invariant.1 c.loop-j.auto.out (omega arith) (omega arith) c.score_block.ensures)

pub score_few-requires : goal.score_few-requires
score_few-requires c =
    let s = c.args in
    let j = c.loop-j.j in
    let out = c.loop-j.out in
    rw (length_part j (length out - j) out (omega arith)) (block_inside s.keys.now s.stride (length s.q.now) j _ (length out - j) c.requires (omega arith))

pub returns-then-j-n : goal.returns-then-j-n
returns-then-j-n c =
    let s = c.args in
    let j = c.loop-j.j in
    let out = c.loop-j.out in
    all_scored _ _ _ _ _ _ _ (block_scored s.q.now s.keys.now s.stride s.scale s.out.now out c.score_few.new.out j (length out - j) (length s.out.now) c.loop-j.invariant.1 c.loop-j.auto.out (omega arith) (omega arith) c.score_few.ensures) refl

pub returns-else-j-n : goal.returns-else-j-n
returns-else-j-n c = all_scored _ _ _ _ _ _ _ c.loop-j.invariant.1 (omega arith)
