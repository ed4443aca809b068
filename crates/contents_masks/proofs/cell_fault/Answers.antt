-- `contents_masks::cell_fault` meets its contract: of all floats a NaN and plus infinity are not below plus infinity. Assumes nothing.
use mathlib.Core.Path.{◌≡◌, refl}
use mathlib.Core.Bool.{true, false, not}
use lib.Ieee.{Float, nan, inf, fin, lt, of_bits, nan_bits}
use Rattle.call.specs.Contents.{cell_fault}
use Rattle.contents_masks.proofs.cell_fault.Goals as goal

pub float_from_bits-result : goal.float_from_bits-result
unfolding nan_bits
float_from_bits-result c = tt

not-below-infinity : (x : Float) → not (lt x (inf false)) ≡ cell_fault x
unfolding lt
not-below-infinity nan = refl
not-below-infinity (inf true) = refl
not-below-infinity (inf false) = refl
not-below-infinity (fin s m e) = refl

pub returns : goal.returns
unfolding of_bits
returns c = not-below-infinity c.args.x
