-- `contents_elements::element_fault` meets its contract: the bounds are the definition's. Assumes nothing.
use mathlib.Core.Path.{sym, ap, ◌∙◌}
use mathlib.Core.Bool.{Bool, not, ◌&&◌}
use lib.Ieee.{of_bits, neg, le}
use Rattle.call.specs.Contents.{element_bound, element_fault}
use Rattle.contents_elements.proofs.element_fault.Goals as goal
use Rattle.contents_elements.proofs.element_fault.Goals.{then-x, else-x}

pub returns : goal.returns
unfolding element_fault of_bits neg
returns c =
    let second = λ (b : Bool). not (b && le c.args.x element_bound) in
    elim c.if-x.branch [ then-x w ↦ ap not w.result-is ∙ ap second (sym w.if-x.true) | else-x w ↦ ap not (w.result-is ∙ w.if-x.false) ∙ ap second (sym w.if-x.false) ]
