use Rattle.std.proofs.Common.{◌+◌, ◌-◌, ◌*◌, refl, ◌∙◌, arith}
use Rattle.tensor_laws.specs.Layout.{tabulate}
use Rattle.tensor_laws.proofs.Tabulate.{tabulate_ext}
use Rattle.lanes.proofs.Keys.{lane_from}
use Rattle.lanes_keys.proofs.Blocks.{block_written}
use Rattle.lanes_keys.proofs.sum_fours.Goals as goal

pub loop-p-init : goal.loop-p-init
unfolding tabulate
loop-p-init c = refl

pub loop-p-preserved : goal.loop-p-preserved
loop-p-preserved c =
    let s = c.args in
    let a = c.loop-p.p * 16 in
    block_written _ s.lanes.now c.loop-p.lanes a (a + 16 - a) 16 c.loop-p.invariant (omega arith) (omega arith) _ c.sum_four.new.lanes (omega arith)
    (c.sum_four.ensures ∙ tabulate_ext 16 _ _ (λ t h. lane_from s.q.now s.keys.now s.stride _ c.loop-p.p t))
