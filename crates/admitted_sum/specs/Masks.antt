-- The mask as one row sees it: which positions have a cell, and which it admits. In a `requires` it is `mask`, in an `ensures` `mask.entry`. Definitions only.
use Rattle.std.specs.Prelude.{ℕ, ◌+◌, ◌<◌, Bool, length}
use Rattle.attention.specs.Admission.{repeated}
use Rattle.row_steps.specs.declared.RowMask.{RowMask}
use Rattle.admitted_sum.specs.Sums.{MaskHas, admitted_by}

-- the mask has a cell for position k
abbrev pub HasCell : RowMask → ℕ → Type 0
HasCell mask k = MaskHas mask.kind (length mask.bytes.now) (length mask.cells.now) (mask.at + repeated mask.width k)

-- for each of the positions below n, at an index that fits
abbrev pub HasCells : RowMask → ℕ → Type 0
HasCells mask n = (mask.at + n < 0x100000000) × ((k : ℕ) → k < n → HasCell mask k)

-- the mask admits position k
abbrev pub admits : RowMask → ℕ → Bool
admits mask k = admitted_by mask.kind mask.bytes.now mask.cells.now (mask.at + repeated mask.width k)
