-- `shapes_lengths::lengths_verdict` meets its contract: the first test that fails is the answer. Assumes nothing.
use mathlib.Core.Path.{sym, ◌∙◌}
use Rattle.call.specs.Refusals.{lengths_verdict}
use Rattle.shapes_lengths.proofs.lengths_verdict.Goals as goal

pub returns-then-not-inputs_fit : goal.returns-then-not-inputs_fit
unfolding lengths_verdict
returns-then-not-inputs_fit c = λ y w. rw (sym c.inputs_fit.ensures ∙ c.if-not-inputs_fit.true)

pub returns-then-not-outputs_fit : goal.returns-then-not-outputs_fit
unfolding lengths_verdict
returns-then-not-outputs_fit c = λ y w. rw (sym c.inputs_fit.ensures ∙ c.if-not-inputs_fit.false, sym (c.outputs_fit.ensures y w) ∙ c.if-not-outputs_fit.true)

pub returns : goal.returns
unfolding lengths_verdict
returns c = λ y w. rw (sym c.inputs_fit.ensures ∙ c.if-not-inputs_fit.false, sym (c.outputs_fit.ensures y w) ∙ c.if-not-outputs_fit.false)
