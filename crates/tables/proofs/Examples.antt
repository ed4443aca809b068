-- The example H, about the definition itself, by computation. Assumes nothing.
use Rattle.std.specs.Prelude.{Some}
use mathlib.Core.Path.{◌≡◌, refl}
use mathlib.Core.Bool.{false}
use lib.IntN.{negsuc}
use lib.Ieee.{fin, binary32, of_bits}
use Rattle.tables.specs.Scale.{default_scale_of}

-- H: the default scale for D 4, 16, 64 and 256 is 0.5, 0.25, 0.125 and 0.0625, and for D 2 it has the bits 3F3504F3
pub record ExampleH : Type 0 where
  pub at_4 : default_scale_of 4 ≡ Some (fin false 1 (negsuc 0))
  pub at_16 : default_scale_of 16 ≡ Some (fin false 1 (negsuc 1))
  pub at_64 : default_scale_of 64 ≡ Some (fin false 1 (negsuc 2))
  pub at_256 : default_scale_of 256 ≡ Some (fin false 1 (negsuc 3))
  pub at_2 : default_scale_of 2 ≡ Some (of_bits binary32 0x3f3504f3)

pub example_H : ExampleH
unfolding default_scale_of of_bits
example_H = record { at_4 = refl; at_16 = refl; at_64 = refl; at_256 = refl; at_2 = refl }
