-- The bits are those of minus infinity, which is no NaN.
use lib.Ieee.{nan_bits}
use Rattle.row_mask.proofs.fn.mask_row.mask_each.Goals as goal

pub float_from_bits-result : goal.float_from_bits-result
unfolding nan_bits
float_from_bits-result c = tt
