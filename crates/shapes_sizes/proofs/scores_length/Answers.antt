-- `shapes_sizes::scores_length` meets its contract, mode by mode. Assumes nothing.
use native.Mathlib.Omega.{arith}
use Rattle.call.proofs.Facts.{limits→facts}
use Rattle.shapes_sizes.proofs.scores_length.Goals as goal

pub overflow_add-call : goal.overflow_add-call
overflow_add-call c = let f = limits→facts _ c.requires in omega arith

pub product-requires : goal.product-requires
product-requires c = let f = limits→facts _ c.requires in omega arith
