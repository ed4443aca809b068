-- `row_mask::mask_each` meets its contract. The loop's invariant: the scores before j are what `apply` made of them, the others are as they were.
use Rattle.std.proofs.Common.{◌≡◌, ℕ, ◌+◌, ◌≤◌, ◌<◌, slice_index_or}
use Rattle.softmax.specs.Lists.{element_of}
use Rattle.attention.specs.Admission.{repeated}
use Rattle.row_mask.proofs.mask_each.Given as goal

abbrev pub invariant-loop-j : goal.invariant-loop-j
invariant-loop-j g l = record {
  done : (k : ℕ) (d : _) → k < l.j → goal.F-post g l.apply (element_of l.initial.row k) (slice_index_or l.cells (l.at + repeated l.width k) d) (element_of l.row k);
  left : (k : ℕ) → l.j ≤ k → element_of l.row k ≡ element_of l.initial.row k;
}
