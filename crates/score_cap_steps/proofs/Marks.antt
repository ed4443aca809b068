-- The constants of the code, and its test for the mark of a hidden position. Assumes nothing.
use mathlib.Core.Path.{◌≡◌, refl}
use mathlib.Core.Bool.{true, false}
use lib.IntN.{pos}
use lib.Ieee.{Float, nan, inf, fin, binary32, neg, eq, of_bits}
pub use Rattle.std.proofs.lemmas.Float.{not_nan_f32_bits, one_f32_is}
use Rattle.softmax.specs.Lists.{hidden, is_hidden}

pub zero_is : of_bits binary32 0 ≡ fin false 0 (pos 0)
unfolding of_bits
zero_is = refl

pub minus_infinity_is : neg (of_bits binary32 0x7f800000) ≡ hidden
unfolding neg of_bits
minus_infinity_is = refl

-- a float is equal to minus infinity where it is the mark of a hidden position
pub is_hidden_lem : (s : Float) → is_hidden s ≡ eq s hidden
unfolding eq
is_hidden_lem nan = refl
is_hidden_lem (inf true) = refl
is_hidden_lem (inf false) = refl
is_hidden_lem (fin s m e) = refl

pub hidden_lem : (s : Float) → eq s hidden ≡ true → s ≡ hidden
unfolding eq
hidden_lem nan h = cc
hidden_lem (inf true) h = refl
hidden_lem (inf false) h = cc
hidden_lem (fin s m e) h = cc

-- what `capped` needs
pub ruleset capping = (not_nan_f32_bits, one_f32_is, minus_infinity_is, is_hidden_lem, hidden_lem)
