-- A live count, a signed number, by its sign: what it counts and whether it is at fault. Assumes nothing.
use mathlib.Core.Path.{◌≡◌, refl, subst}
use mathlib.Core.Bool.{Bool, true, false, true≢false}
use Prim.Native.Nat.{ℕ, ◌<◌, ◌^◌}
use native.Mathlib.Nat.{not-suc-le-zero}
use native.Mathlib.Omega.{arith}
use lib.Dec.{T, ltb}
use lib.IntN.{ℤ, pos, negsuc, nat_abs}
use lib.Signed.{lt_z, non_neg, mag}
use mir.Syntax.{w64}
use mir.Val.{Fits, SFits, to_z, of_z}
use mir.Facts.{to_z-of_z}
use borrow.Author.Rules.{sfits_of}
use borrow.Author.Tests.{ltb-true}
use Rattle.call.specs.Contents.{count_of, count_fault}

-- the machine's test of the sign, of the number itself
pub tested : {z : ℤ} {b : Bool} → SFits w64 z → lt_z (to_z w64 (of_z w64 z)) (pos 0) ≡ b → lt_z z (pos 0) ≡ b
tested {b = b} f e = subst (λ (y : ℤ). lt_z y (pos 0) ≡ b) (to_z-of_z f) e

-- below 0 it counts nothing and is at fault
pub none_below_zero : (z : ℤ) → lt_z z (pos 0) ≡ true → 0 ≡ count_of z
none_below_zero (pos n) e = absurd (not-suc-le-zero (ltb-true n 0 e))
none_below_zero (negsuc n) e = refl

pub fault_below_zero : (total : ℕ) (z : ℤ) → lt_z z (pos 0) ≡ true → true ≡ count_fault total z
fault_below_zero total (pos n) e = absurd (not-suc-le-zero (ltb-true n 0 e))
fault_below_zero total (negsuc n) e = refl

-- otherwise it is a number of positions, and at fault where that is above T
pub count_fits : (z : ℤ) → SFits w64 z → lt_z z (pos 0) ≡ false → T (non_neg z) × Fits w64 (nat_abs z)
count_fits (pos n) f e = (tt, omega arith)
count_fits (negsuc n) f e = absurd (true≢false e)

pub count_is : (z : ℤ) → lt_z z (pos 0) ≡ false → nat_abs z ≡ count_of z
count_is (pos n) e = refl
count_is (negsuc n) e = absurd (true≢false e)

pub fault_above : (total : ℕ) (z : ℤ) → lt_z z (pos 0) ≡ false → ltb total (count_of z) ≡ count_fault total z
fault_above total (pos n) e = refl
fault_above total (negsuc n) e = absurd (true≢false e)

-- a count that was read from memory
pub read_back : (z : ℤ) → mag z < 2 ^ 63 → to_z w64 (of_z w64 z) ≡ z
read_back z h = to_z-of_z {w = w64} (sfits_of h)
