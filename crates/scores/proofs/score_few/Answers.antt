use Rattle.std.proofs.Common.{◌<◌, ◌≢◌, ◌+◌, ◌-◌, ◌*◌, length, below_more, get_or-set_same, get_or-set_other, arith}
use Rattle.softmax.specs.Lists.{score_rows_of}
use Rattle.scores.proofs.Keys.{score_of_row, tabulate_by}
use Rattle.scores.proofs.score_few.Goals as goal

pub loop-j-preserved : goal.loop-j-preserved
loop-j-preserved c =
    let s = c.args in
    let j = c.loop-j.j in
    let at = j * s.stride in
    let lt : j < length c.loop-j.out = omega arith in
    below_more _ _
    (λ k h. let ne : k ≢ j = omega arith in rw get_or-set_other (c.loop-j.invariant k h))
    (rw (get_or-set_same, c.dot.ensures) (score_of_row s.q.now s.keys.now s.stride s.scale j (at + length s.q.now - at) (omega arith)))

pub returns : goal.returns
unfolding score_rows_of
returns c = tabulate_by _ _ _ c.loop-j.auto.out (λ k h. c.loop-j.invariant k (omega arith))
