-- `row_mask::mask_all` meets its contract. The loop's invariant: the scores before the index are what `apply` made of them, the others are as they were.
use Rattle.std.proofs.Common.{◌≡◌, ℕ, ◌≤◌, ◌<◌}
use Rattle.softmax.specs.Lists.{element_of}
use Rattle.row_mask.proofs.mask_all.Given as goal

abbrev pub invariant-loop-score : goal.invariant-loop-score
invariant-loop-score g l = record {
  done : (k : ℕ) → k < l.score-index → goal.F-post g l.apply (element_of l.initial.row k) l.cell (element_of l.row k);
  left : (k : ℕ) → l.score-index ≤ k → element_of l.row k ≡ element_of l.initial.row k;
}
