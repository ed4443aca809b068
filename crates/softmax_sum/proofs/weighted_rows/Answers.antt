use Rattle.std.proofs.Common.{◌≡◌, sym, ap, ◌∙◌, ◌+◌, ◌*◌, ◌-◌, length, take, drop, arith}
use lib.Ieee.{nan}
use Rattle.tensor_laws.proofs.Tabulate.{tabulate_get_d}
use Rattle.softmax.specs.Lists.{element_of, accumulated_of, accumulated_row_of, weighted_rows_of}
use Rattle.softmax.proofs.Rows.{weighted_next}
use Rattle.softmax_sum.proofs.weighted_rows.Goals as goal

pub loop-j-init : goal.loop-j-init
unfolding accumulated_of
loop-j-init c = sym (tabulate_get_d c.args.out.now nan)

pub loop-j-preserved : goal.loop-j-preserved
loop-j-preserved c =
    let s = c.args in
    let j = c.loop-j.j in
    let at = j * s.stride in
    let k = at + length c.loop-j.out - at in
    c.accumulate.ensures
    ∙ ap (accumulated_row_of (element_of s.weights.now j) (take k (drop at s.values.now))) c.loop-j.invariant
    ∙ weighted_next s.weights.now s.values.now s.stride s.out.now j k (omega (arith, c.loop-j.auto.out))

pub returns : goal.returns
unfolding weighted_rows_of
returns c = let e : c.loop-j.j ≡ length c.args.weights.now = omega arith in rw (← e) c.loop-j.invariant
