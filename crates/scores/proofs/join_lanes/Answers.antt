use Rattle.std.proofs.Common.{arith}
use Rattle.scores.proofs.Keys.{tabulate_by}
use Rattle.scores.proofs.join_lanes.Goals as goal

pub returns : goal.returns
returns c = tabulate_by _ _ _ c.loop-j.auto.out (λ k h. c.loop-j.invariant k (omega arith))
