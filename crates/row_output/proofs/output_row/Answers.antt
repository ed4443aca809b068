-- `row_output::output_row` meets its contract. Assumes nothing.
use mathlib.Core.Path.{ap, ◌∙◌}
use mathlib.Core.List.{List}
use Prim.Native.Nat.{ℕ}
use lib.ListN.{length, replicate}
use lib.Ieee.{Float, of_bits}
use Rattle.exponential.specs.ExpNeg.{plus_zero}
use Rattle.softmax.specs.Lists.{element_of}
use Rattle.caches.specs.Lent.{head_cell}
use Rattle.admitted_sum.specs.Sums.{added_row_of}
use Rattle.admitted_sum.specs.Masks.{admits}
use Rattle.row_output.proofs.output_row.Goals as goal

pub weigh_positions-requires : goal.weigh_positions-requires
weigh_positions-requires c =
    let r = c.requires in
    record { out_len = c.fill_row.auto.row ∙ r.out_len; run_fits = r.run_fits; weights_len_bound = r.weights_len_bound; weights_bound = r.weights_bound }

pub returns : goal.returns
unfolding of_bits
returns c =
    let s = c.args in
    c.weigh_positions.ensures
    ∙ ap (λ (r : List Float). added_row_of (length s.weights.now) (admits s.mask) (element_of s.weights.now) (head_cell s.call s.cache) r)
    (c.fill_row.ensures ∙ ap (λ (n : ℕ). replicate n plus_zero) c.requires.out_len)
