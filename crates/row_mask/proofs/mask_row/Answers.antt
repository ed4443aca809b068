-- `row_mask::mask_row` meets its contract. Assumes nothing.
use Rattle.std.proofs.Common.{◌≡◌, ℕ, ◌+◌, ◌<◌, List, length, sym, ap, ◌∙◌, rules}
use Rattle.std.specs.Float.{Float, nan}
use Rattle.std.specs.Float.Ieee.{of_bits, neg}
use Rattle.tensor_laws.specs.Layout.{tabulate}
use Rattle.tensor_laws.proofs.Tabulate.{tabulate_get_d, tabulate_ext}
use Rattle.softmax.specs.Lists.{element_of}
use Rattle.call.specs.declared.MaskKind.{MaskKind}
use Rattle.call.specs.declared.MaskKind.TheVariants.{Boolean, FloatMask}
use Rattle.attention.specs.Admission.{repeated}
use Rattle.row_steps.specs.Steps.{masked_by, masked_row_by}
use Rattle.row_steps.proofs.Masked.{masked_none}
use Rattle.row_mask.proofs.mask_row.Goals as goal

-- a row whose every score is masked
masked : (kind : MaskKind) (bytes : List ℕ) (cells : List Float) (index : ℕ → ℕ) (row new : List Float) → length new ≡ length row → ((j : ℕ) → j < length row → element_of new j ≡ masked_by kind bytes cells (index j) (element_of row j)) → new ≡ masked_row_by kind bytes cells index row
unfolding masked_row_by
masked kind bytes cells index row new long each = sym (tabulate_get_d new nan) ∙ ap (λ (n : ℕ). tabulate n (element_of new)) long ∙ tabulate_ext (length row) (element_of new) _ each

pub returns-in-NoMask : goal.returns-in-NoMask
returns-in-NoMask c = let s = c.args in let m = s.mask in rw c.in-NoMask.is (sym (masked_none m.bytes.now m.cells.now (λ j. m.at + repeated m.width j) s.row.now))

pub returns-in-Boolean : goal.returns-in-Boolean
unfolding of_bits neg
returns-in-Boolean c =
    let s = c.args in let m = s.mask in
    rw c.in-Boolean.is (masked Boolean m.bytes.now m.cells.now (λ j. m.at + repeated m.width j) s.row.now c.mask_each.new.row c.mask_each.auto.row (λ j h. let e = c.mask_each.ensures j 0 h in search rules))

pub returns-in-FloatMask : goal.returns-in-FloatMask
returns-in-FloatMask c =
    let s = c.args in let m = s.mask in
    rw c.in-FloatMask.is (masked FloatMask m.bytes.now m.cells.now (λ j. m.at + repeated m.width j) s.row.now c.mask_each-in-FloatMask.new.row c.mask_each-in-FloatMask.auto.row (λ j h. let e = c.mask_each-in-FloatMask.ensures j nan h in search rules))
