-- The bits of 2 ^ -k, for k below 120, by one computed test. Assumes nothing.
use mathlib.Core.Path.{◌≡◌, sym, ap, ◌∙◌}
use Prim.Native.Nat.{ℕ, zero, suc, ◌-◌, ◌*◌, ◌<◌}
use native.Mathlib.Nat.{le_of_suc-le-suc, not-suc-le-zero, eq-or-lt_of_le}
use mathlib.Core.Logic.{inl, inr}
use mathlib.Core.Path.{subst}
use mathlib.Core.Bool.{Bool, true, not, ◌&&◌}
use lib.Dec.{T, eqb, eqb→eq}
use lib.Ieee.{binary32, fits, of_bits, to_bits, nan_bits}
use lib.Ieee.Bits.{of_bits-to_bits}
use lib.Ieee.Fits.{and_l, and_r}
use Rattle.bool_laws.proofs.Tests.{three}
use Rattle.exponential.specs.ExpNeg.{half_power}

abbrev pub half_power_bits : ℕ → ℕ
half_power_bits k = (127 - k) * 8388608

test : ℕ → Bool
test k = eqb (to_bits binary32 (half_power k)) (half_power_bits k) && fits binary32 (half_power k) && not (nan_bits binary32 (half_power_bits k))

all_below : ℕ → Bool
all_below zero = true
all_below (suc n) = test n && all_below n

passes : T (all_below 120)
unfolding all_below test to_bits fits nan_bits
passes = tt

at : (n : ℕ) → T (all_below n) → (k : ℕ) → k < n → T (test k)
unfolding all_below
at zero t k h = absurd (not-suc-le-zero h)
at (suc n) t k h =
    elim (eq-or-lt_of_le (le_of_suc-le-suc h)) [
      | inl e ↦ subst (λ (i : ℕ). T (test i)) (sym e) (and_l (test n) (all_below n) t)
      | inr l ↦ at n (and_r (test n) (all_below n) t) k l
    ]

split : (k : ℕ) → k < 120 → T (eqb (to_bits binary32 (half_power k)) (half_power_bits k)) × T (fits binary32 (half_power k)) × T (not (nan_bits binary32 (half_power_bits k)))
unfolding test
split k h = three (eqb (to_bits binary32 (half_power k)) (half_power_bits k)) (fits binary32 (half_power k)) (not (nan_bits binary32 (half_power_bits k))) (at 120 passes k h)

pub half_power_bits_lem : (k : ℕ) → k < 120 → of_bits binary32 (half_power_bits k) ≡ half_power k
half_power_bits_lem k h =
    let s = split k h in
    ap (of_bits binary32) (sym (eqb→eq (to_bits binary32 (half_power k)) (half_power_bits k) s.0)) ∙ of_bits-to_bits binary32 (half_power k) s.1

pub half_power_not_nan : (k : ℕ) → k < 120 → T (not (nan_bits binary32 (half_power_bits k)))
half_power_not_nan k h = (split k h).2
