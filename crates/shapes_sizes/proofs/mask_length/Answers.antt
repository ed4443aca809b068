-- `shapes_sizes::mask_length` meets its contract. Assumes nothing.
use native.Mathlib.Omega.{arith}
use Rattle.call.proofs.MaskBounds.{mask_bounds}
use Rattle.shapes_sizes.proofs.mask_length.Goals as goal

pub product-requires : goal.product-requires
product-requires c = let m = mask_bounds _ c.requires.limits c.requires.shape c.requires.masked in omega arith
