-- The mask as one row sees it, on a row of scores. In a `requires` it is `mask`, in an `ensures` `mask.entry`. Definitions only.
use Rattle.std.specs.Prelude.{List, ℕ, ◌+◌, length, Float}
use Rattle.attention.specs.Admission.{repeated}
use Rattle.row_steps.specs.declared.RowMask.{RowMask}
use Rattle.row_steps.specs.Steps.{MaskRowFits, masked_row_by}

-- the mask has the cells of n positions
abbrev pub RowMaskFits : RowMask → (n : ℕ) → Type 0
RowMaskFits mask n = MaskRowFits mask.kind (length mask.bytes.now) (length mask.cells.now) mask.at mask.width n

-- every score of a row under the mask cell of its position
abbrev pub masked_under : RowMask → List Float → List Float
masked_under mask row = masked_row_by mask.kind mask.bytes.now mask.cells.now (λ j. mask.at + repeated mask.width j) row
