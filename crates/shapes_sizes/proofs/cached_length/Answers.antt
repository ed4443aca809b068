-- `shapes_sizes::cached_length` meets its contract, form by form. Assumes nothing.
use native.Mathlib.Omega.{arith}
use Rattle.call.proofs.Facts.{limits→facts}
use Rattle.shapes_sizes.proofs.cached_length.Goals as goal

pub product-requires : goal.product-requires
product-requires c = let f = limits→facts _ c.requires.call_value in omega arith
