-- `admitted_sum::admitted` meets its contract. The code's comparison of a cell with minus infinity is the test for a hidden one.
use Rattle.std.proofs.Common.{◌+◌}
use Rattle.attention.specs.Admission.{repeated}
use mathlib.Core.Path.{◌≡◌, refl}
use mathlib.Core.Bool.{true, false, not}
use lib.Ieee.{Float, nan, inf, fin, neg, ne, of_bits, nan_bits}
use Rattle.softmax.specs.Lists.{element_of, hidden, is_hidden}
use Rattle.admitted_sum.proofs.admitted.Goals as goal

pub float_from_bits-result : goal.float_from_bits-result
unfolding nan_bits
float_from_bits-result c = tt

-- a float is unequal to minus infinity where it is not the mark of a hidden position
ne_hidden : (x : Float) → ne x hidden ≡ not (is_hidden x)
unfolding ne
ne_hidden nan = refl
ne_hidden (inf true) = refl
ne_hidden (inf false) = refl
ne_hidden (fin s m e) = refl

pub returns-in-FloatMask : goal.returns-in-FloatMask
unfolding of_bits neg
returns-in-FloatMask c = let m = c.args.mask in rw (c.in-FloatMask.is, c.cell_at-in-FloatMask.ensures) (ne_hidden (element_of m.cells.now (m.at + repeated m.width c.args.j)))
