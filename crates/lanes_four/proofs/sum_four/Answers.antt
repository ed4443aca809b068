use Rattle.std.proofs.Common.{◌≡◌, ◌+◌, ◌-◌, ◌*◌, length, refl, sym, ◌∙◌, zero-mul, arith}
use Rattle.std.specs.Float.Ieee.{of_bits}
use Rattle.lanes.proofs.Lanes.{lanes_start}
use Rattle.lanes.proofs.Keys.{lanes_of_key, lanes_of_four}
use Rattle.lanes_four.proofs.sum_four.Goals as goal

pub loop-m-init : goal.loop-m-init
unfolding of_bits
loop-m-init c = (lanes_start _ _, lanes_start _ _, lanes_start _ _, lanes_start _ _)

pub returns : goal.returns
returns c =
    let s = c.args in
    let n = length s.q.now in
    let all : c.loop-m.m ≡ s.fours = omega arith in
    let inv = rw all at c.loop-m.invariant in
    let key = lanes_of_key s.q.now s.keys.now s.stride (s.fours * 4) in
    c.store_four.ensures
    ∙ lanes_of_four s.q.now s.keys.now s.stride (s.fours * 4) _ _ _ _
    (inv.0 ∙ key 0 0 (n - 0) (sym (zero-mul s.stride)) (omega arith))
    (inv.1 ∙ key 1 s.stride (s.stride + n - s.stride) (omega arith) (omega arith))
    (inv.2 ∙ key 2 (2 * s.stride) (2 * s.stride + n - 2 * s.stride) refl (omega arith))
    (inv.3 ∙ key 3 (3 * s.stride) (3 * s.stride + n - 3 * s.stride) refl (omega arith))
