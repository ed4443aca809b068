-- `scores::score_rows` meets its contract. The loop's invariant: the elements before j are the scores of their keys, the others are as they were.
use Rattle.std.proofs.Common.{◌≡◌, ◌≤◌, ◌-◌}
use Rattle.tensor_laws.proofs.Blocks.{written_to}
use Rattle.scores.proofs.Keys.{score_of_key}
use Rattle.scores.proofs.score_rows.Given as goal

abbrev pub invariant-loop-j : goal.invariant-loop-j
invariant-loop-j l = (l.j ≤ l.n) × (l.out ≡ written_to (score_of_key l.q l.keys l.stride l.scale) l.j l.initial.out)

abbrev pub decreases-loop-j : goal.decreases-loop-j
decreases-loop-j l = l.n - l.j
