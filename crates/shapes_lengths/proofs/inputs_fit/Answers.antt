-- `shapes_lengths::inputs_fit` meets its contract: each test that fails is one of the lengths, and where all pass every tensor that is read has its length. Assumes nothing.
use mathlib.Core.Path.{sym, ◌∙◌}
use native.Mathlib.Omega.{arith}
use Rattle.call.proofs.Facts.{limits→facts, fit→lengths, lengths→fit}
use Rattle.shapes.proofs.Tests.{cannot_pass}
use Rattle.shapes_lengths.proofs.inputs_fit.Goals as goal

pub product-requires : goal.product-requires
product-requires c = let f = limits→facts _ c.requires.call_value in record { batches_bound = omega arith; heads_bound = omega arith; rows_bound = omega arith; columns_bound = omega arith }

pub returns-then-inputs-product : goal.returns-then-inputs-product
returns-then-inputs-product c = cannot_pass _ (λ e. c.if-inputs-product.true ((fit→lengths _ _ e).query ∙ sym c.product.ensures))

pub product-requires-2 : goal.product-requires-2
product-requires-2 c = let f = limits→facts _ c.requires.call_value in record { batches_bound = omega arith; heads_bound = omega arith; rows_bound = omega arith; columns_bound = omega arith }

pub returns-then-inputs-product-2 : goal.returns-then-inputs-product-2
returns-then-inputs-product-2 c = cannot_pass _ (λ e. c.if-inputs-product-2.true ((fit→lengths _ _ e).key ∙ sym c.product-2.ensures))

pub product-requires-3 : goal.product-requires-3
product-requires-3 c = let f = limits→facts _ c.requires.call_value in record { batches_bound = omega arith; heads_bound = omega arith; rows_bound = omega arith; columns_bound = omega arith }

pub returns-then-inputs-product-3 : goal.returns-then-inputs-product-3
returns-then-inputs-product-3 c = cannot_pass _ (λ e. c.if-inputs-product-3.true ((fit→lengths _ _ e).value ∙ sym c.product-3.ensures))

pub returns-then-inputs-boolmask_length : goal.returns-then-inputs-boolmask_length
returns-then-inputs-boolmask_length c = cannot_pass _ (λ e. c.if-inputs-boolmask_length.true ((fit→lengths _ _ e).bool_mask ∙ sym c.boolmask_length.ensures))

pub returns-then-inputs-floatmask_length : goal.returns-then-inputs-floatmask_length
returns-then-inputs-floatmask_length c = cannot_pass _ (λ e. c.if-inputs-floatmask_length.true ((fit→lengths _ _ e).float_mask ∙ sym c.floatmask_length.ensures))

pub cached_length-requires : goal.cached_length-requires
cached_length-requires c =
    let f = limits→facts _ c.requires.call_value in
    record { call_value = c.requires.call_value; rows_bound = omega arith; size_bound = omega arith }

pub returns-then-inputs-cached_length : goal.returns-then-inputs-cached_length
returns-then-inputs-cached_length c = cannot_pass _ (λ e. c.if-inputs-cached_length.true ((fit→lengths _ _ e).past_key ∙ sym c.cached_length.ensures))

pub cached_length-requires-2 : goal.cached_length-requires-2
cached_length-requires-2 c =
    let f = limits→facts _ c.requires.call_value in
    record { call_value = c.requires.call_value; rows_bound = omega arith; size_bound = omega arith }

pub returns-then-inputs-cached_length-2 : goal.returns-then-inputs-cached_length-2
returns-then-inputs-cached_length-2 c = cannot_pass _ (λ e. c.if-inputs-cached_length-2.true ((fit→lengths _ _ e).past_value ∙ sym c.cached_length-2.ensures))

pub returns-then-inputs-live_length : goal.returns-then-inputs-live_length
returns-then-inputs-live_length c = cannot_pass _ (λ e. c.if-inputs-live_length.true ((fit→lengths _ _ e).live ∙ sym c.live_length.ensures))

pub returns : goal.returns
returns c =
    sym (lengths→fit _ _ record {
      query = c.if-inputs-product.false ∙ c.product.ensures;
      key = c.if-inputs-product-2.false ∙ c.product-2.ensures;
      value = c.if-inputs-product-3.false ∙ c.product-3.ensures;
      bool_mask = c.if-inputs-boolmask_length.false ∙ c.boolmask_length.ensures;
      float_mask = c.if-inputs-floatmask_length.false ∙ c.floatmask_length.ensures;
      past_key = c.if-inputs-cached_length.false ∙ c.cached_length.ensures;
      past_value = c.if-inputs-cached_length-2.false ∙ c.cached_length-2.ensures;
      live = c.if-inputs-live_length.false ∙ c.live_length.ensures;
    })
