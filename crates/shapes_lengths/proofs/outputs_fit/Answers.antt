-- `shapes_lengths::outputs_fit` meets its contract: each test that fails is one of the lengths, and where all pass every tensor that is written has its length. Assumes nothing.
use mathlib.Core.Path.{sym, ◌∙◌}
use native.Mathlib.Omega.{arith}
use Rattle.call.proofs.Facts.{limits→facts, outputs→lengths, lengths→outputs}
use Rattle.shapes.proofs.Tests.{cannot_pass}
use Rattle.shapes_lengths.proofs.outputs_fit.Goals as goal

pub product-requires : goal.product-requires
product-requires c = let f = limits→facts _ c.requires in record { batches_bound = omega arith; heads_bound = omega arith; rows_bound = omega arith; columns_bound = omega arith }

pub returns-then-output-product : goal.returns-then-output-product
returns-then-output-product c = λ y w. cannot_pass _ (λ e. c.if-output-product.true (sym w.output_length_is ∙ (outputs→lengths _ y e).output ∙ sym c.product.ensures))

pub overflow_add-total : goal.overflow_add-total
overflow_add-total c = let f = limits→facts _ c.requires in omega arith

pub cached_length-requires : goal.cached_length-requires
cached_length-requires c =
    let f = limits→facts _ c.requires in
    record { call_value = c.requires; rows_bound = omega arith; size_bound = omega arith }

pub returns-then-presentkey-cached_length : goal.returns-then-presentkey-cached_length
returns-then-presentkey-cached_length c = λ y w. cannot_pass _ (λ e. c.if-presentkey-cached_length.true (sym w.present_key_length ∙ (outputs→lengths _ y e).present_key ∙ sym c.cached_length.ensures))

pub cached_length-requires-2 : goal.cached_length-requires-2
cached_length-requires-2 c =
    let f = limits→facts _ c.requires in
    record { call_value = c.requires; rows_bound = omega arith; size_bound = omega arith }

pub returns-then-presentvalue-cached_length : goal.returns-then-presentvalue-cached_length
returns-then-presentvalue-cached_length c = λ y w. cannot_pass _ (λ e. c.if-presentvalue-cached_length.true (sym w.present_value_length ∙ (outputs→lengths _ y e).present_value ∙ sym c.cached_length-2.ensures))

pub returns-then-scores-scores_length : goal.returns-then-scores-scores_length
returns-then-scores-scores_length c = λ y w. cannot_pass _ (λ e. c.if-scores-scores_length.true (sym w.scores_length_is ∙ (outputs→lengths _ y e).scores ∙ sym c.scores_length.ensures))

pub returns-then-work-total : goal.returns-then-work-total
returns-then-work-total c = λ y w. cannot_pass _ (λ e. c.if-work-total.true (sym w.work_length ∙ (outputs→lengths _ y e).work))

pub returns : goal.returns
returns c =
    λ y w. sym (lengths→outputs _ y record {
      output = w.output_length_is ∙ c.if-output-product.false ∙ c.product.ensures;
      present_key = w.present_key_length ∙ c.if-presentkey-cached_length.false ∙ c.cached_length.ensures;
      present_value = w.present_value_length ∙ c.if-presentvalue-cached_length.false ∙ c.cached_length-2.ensures;
      scores = w.scores_length_is ∙ c.if-scores-scores_length.false ∙ c.scores_length.ensures;
      work = w.work_length ∙ c.if-work-total.false;
    })
