-- The constants of the code. Assumes nothing.
use mathlib.Core.Path.{◌≡◌, refl}
use lib.Ieee.{binary32, of_bits}
pub use Rattle.std.proofs.lemmas.Float.{not_nan_f32_bits}
use Rattle.exponential.specs.ExpNeg.{plus_zero, limit}
use Rattle.exponential.specs.Blocks.{beyond}

pub zero_is : of_bits binary32 0 ≡ plus_zero
unfolding of_bits
zero_is = refl

pub limit_is : of_bits binary32 0x42f00000 ≡ limit
unfolding of_bits
limit_is = refl

pub beyond_is : of_bits binary32 0x42fe0000 ≡ beyond
unfolding of_bits
beyond_is = refl

pub ruleset constants = (not_nan_f32_bits, zero_is, limit_is, beyond_is)
