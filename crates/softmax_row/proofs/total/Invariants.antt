use Rattle.std.proofs.Common.{◌≡◌, true}
use Rattle.softmax.specs.Row.{sum_of}
use Rattle.softmax.specs.Lists.{element_of}
use Rattle.softmax_row.proofs.total.Given as goal

abbrev pub invariant-loop-x : goal.invariant-loop-x
invariant-loop-x l = l.sum ≡ sum_of l.x-index (λ j. true) (element_of l.row)
