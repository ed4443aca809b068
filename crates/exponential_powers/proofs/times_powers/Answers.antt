use Rattle.std.proofs.Common.{ap, ◌∙◌, arith}
use mathlib.Core.List.{zip_with}
use Rattle.exponential.proofs.Blocks.{times_entry, halved_by, both_products}
use Rattle.exponential_powers.proofs.Products.{products_by_index}
use Rattle.exponential_powers.proofs.times_powers.Goals as goal

pub returns : goal.returns
returns c =
    let s = c.args in
    c.halve.ensures
    ∙ ap (zip_with halved_by s.wholes.now) (products_by_index times_entry s.wholes.now s.row.now c.loop-i.row c.requires.wholes_len (omega arith) (λ k h. c.loop-i.invariant.0 k (omega arith)))
    ∙ both_products s.wholes.now s.row.now
