-- The example G at the edges, about the definition itself, by computation. Assumes nothing.
use mathlib.Core.Path.{◌≡◌, refl}
use mathlib.Core.Bool.{false}
use lib.IntN.{negsuc}
use lib.Ieee.{fin, binary32, of_bits}
use Rattle.exponential.specs.ExpNeg.{plus_zero, one, limit, below_limit_of, scaled_of}

-- G: y 0, 0.5, 1 and 120 give 1, the value with the bits 3F3504F3, 0.5 and +0
pub record ExampleG : Type 0 where
  pub at_zero : scaled_of plus_zero ≡ one
  pub at_half : scaled_of (fin false 1 (negsuc 0)) ≡ of_bits binary32 0x3f3504f3
  pub at_one : scaled_of one ≡ fin false 1 (negsuc 0)
  pub at_limit : scaled_of limit ≡ plus_zero

pub example_G : ExampleG
unfolding scaled_of below_limit_of
example_G = record { at_zero = refl; at_half = unfold of_bits in refl; at_one = refl; at_limit = refl }
