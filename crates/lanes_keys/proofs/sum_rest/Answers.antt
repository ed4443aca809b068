use Rattle.std.proofs.Common.{◌+◌, ◌-◌, ◌*◌, ◌/◌, length, refl, sym, ◌∙◌, arith}
use Rattle.std.proofs.lemmas.Nat.{div-add-mod'}
use Rattle.tensor_laws.specs.Layout.{tabulate}
use Rattle.lanes.proofs.Keys.{lanes_of_key}
use Rattle.lanes_keys.proofs.Blocks.{block_written, block_unwritten}
use Rattle.lanes_keys.proofs.sum_rest.Goals as goal

pub loop-j-init : goal.loop-j-init
unfolding tabulate
loop-j-init c = refl

pub add_lanes-requires-clause-lanes_value : goal.add_lanes-requires-clause-lanes_value
add_lanes-requires-clause-lanes_value c =
    let s = c.args in
    let j = c.loop-j.j in
    let at = j * s.stride in
    let n = length s.q.now in
    block_unwritten _ s.lanes.now c.loop-j.lanes (j * 4) (j * 4 + 4 - j * 4) 4 c.loop-j.invariant (omega arith) (omega arith) _ c.requires.lanes_value
    ∙ sym (lanes_of_key s.q.now s.keys.now s.stride (n / 4 * 4) j at (at + n - at) refl (omega arith))

pub loop-j-preserved : goal.loop-j-preserved
loop-j-preserved c =
    let s = c.args in
    let j = c.loop-j.j in
    let at = j * s.stride in
    let n = length s.q.now in
    block_written _ s.lanes.now c.loop-j.lanes (j * 4) (j * 4 + 4 - j * 4) 4 c.loop-j.invariant (omega arith) (omega arith) _ c.add_lanes.new.lanes (omega arith)
    (rw div-add-mod' at c.add_lanes.ensures ∙ lanes_of_key s.q.now s.keys.now s.stride n j at (at + n - at) refl (omega arith))
