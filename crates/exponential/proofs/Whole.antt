-- The whole part n of 256 * y, for y from 0 (-0 too) to below 120: it is the largest whole number not above 256 * y, it is below 30,720, and y's significand, shifted right by the places that its exponent says, is n.
-- Assumes nothing.
use mathlib.Core.Path.{◌≡◌, refl, sym, ap, ◌∙◌, subst}
use mathlib.Core.Logic.{◌⊎◌, inl, inr}
use Prim.Native.Nat.{ℕ, suc, ◌+◌, ◌-◌, ◌*◌, ◌/◌, ◌%◌, ◌^◌, ◌≤◌, ◌<◌, min}
use native.Mathlib.Nat.{le_refl, le_of_eq, lt_of_lt_of_le, lt_of_le_of_lt, mul-one, zero-mul, mul_assoc, mul-pos, mul-le-mul_right, lt_of_mul-lt-mul_right, mul-lt-mul_of_pos_right, mul_right_comm, mod-lt, div-lt_iff_lt-mul, div-mul-le_self, div-eq_of_lt, eq-zero-or-pos, eq-or-lt_of_le}
use native.Mathlib.Omega.{arith}
use mathlib.Core.Bool.{Bool, true, false, not, ◌&&◌, true≢false}
use lib.IntN.{ℤ, pos}
use lib.Dec.{T, leb, eqb, leb→le, ltb→lt, nleb→lt, eqb→eq, lit<, lit≤}
use lib.Pow.{pow_pos, pow_mono}
use borrow.Author.Tests.{lt-leb}
use lib.Ieee.{Float, nan, inf, fin, binary32, up, down, neg, le, lt, is_nan, fits, of_fields, of_bits, to_bits}
use lib.Ieee.Fits.{and_l, and_r, and_i, down_pos, up_pos}
use lib.Ieee.Bits.{of_bits-to_bits}
use lib.Ieee.Exact.{HasValue}
use lib.Ieee.Nearest.{div_same}
use lib.Ieee.Positive.{num, den}
use lib.Ieee.Scale.{finite}
use Rattle.float_laws.specs.Zero.{minus_zero}
use Rattle.float_laws.proofs.Exact.{same_value, Dyadic, dyadic}
use Rattle.float_laws.proofs.Magnitudes.{within_bits}
use Rattle.float_laws.proofs.Order.{lt→le}
use Rattle.float_laws.proofs.Order.{le_trans as le-trans-float}
use Rattle.exponential.specs.ExpNeg.{plus_zero, limit, whole_part_of, in_range}
use Rattle.exponential.specs.Blocks.{Exponent}
use Rattle.exponential.proofs.Bits.{units, field_value, whole_units, held}

-- ---- a y in range is -0, or not negative and of the form q / 2 ^ w

-- y as q / 2 ^ w
pub record Ranged (y : Float) : Type 0 where
  pub parts : Dyadic binary32 y false
  pub under : parts.q < 120 * 2 ^ parts.w

no_mag : (m u : ℕ) → 0 < u → 0 ≡ m * u → m ≡ 0
no_mag m u U h = elim (eq-zero-or-pos m) [ inl e ↦ e | inr p ↦ absurd (clash (m * u) (mul-pos p U) h) ]
  where
    clash : (z : ℕ) → 0 < z → 0 ≡ z → ⊥
    clash z a b = omega arith

zero_magnitude : (m : ℕ) (e : ℤ) → T (le plus_zero (fin true m e)) → m ≡ 0
unfolding le
zero_magnitude m e h =
    let z : 0 * down e ≡ m * up e * 1 = eqb→eq (0 * down e) (m * up e * 1) (and_l (eqb (0 * down e) (m * up e * 1)) (eqb (0 * down e) 0) h) in
    no_mag m (up e) (up_pos e) (sym (zero-mul (down e)) ∙ z ∙ mul-one (m * up e))

negative : (m : ℕ) (e : ℤ) → T (fits binary32 (fin true m e)) → T (le plus_zero (fin true m e)) → fin true m e ≡ minus_zero
negative m e t h =
    let m0 = zero_magnitude m e h in
    same_value binary32 (fin true m e) minus_zero true 0 1 (lit< tt) t (unfold fits in tt)
    (refl, ap (λ (k : ℕ). k * up e * 1) m0 ∙ ap (λ (k : ℕ). k * 1) (zero-mul (up e)) ∙ sym (zero-mul (down e))) (refl, refl)

under_limit : (m : ℕ) (e : ℤ) → T (lt (fin false m e) limit) → m * up e < 120 * down e
unfolding lt
under_limit m e t = lt_of_le_of_lt (le_of_eq (sym (mul-one (m * up e)))) (ltb→lt (m * up e * 1) (120 * down e) t)

wider : (x d : ℕ) → x < 120 * d → x < 2 ^ 24 * d
wider x d h = lt_of_lt_of_le h (mul-le-mul_right d (lit≤ tt))

ranged : (m : ℕ) (e : ℤ) → T (fits binary32 (fin false m e)) → T (lt (fin false m e) limit) → Ranged (fin false m e)
ranged m e t h =
    let u = under_limit m e h in
    let d = dyadic binary32 false m e t (wider (m * up e) (down e) u) in
    record {
      parts = d;
      under =
          lt_of_mul-lt-mul_right (down e)
          (lt_of_le_of_lt (le_of_eq (sym d.value.1))
          (lt_of_lt_of_le (mul-lt-mul_of_pos_right u (pow_pos d.w)) (le_of_eq (mul_right_comm 120 (down e) (2 ^ d.w)))));
    }

pub in_range_lem : (y : Float) → T (fits binary32 y) → T (in_range y) → (y ≡ minus_zero) ⊎ Ranged y
unfolding le lt
in_range_lem nan t h = absurd h
in_range_lem (inf true) t h = absurd h
in_range_lem (inf false) t h = absurd h
in_range_lem (fin true m e) t h = inl (negative m e t (and_l (le plus_zero (fin true m e)) (lt (fin true m e) limit) h))
in_range_lem (fin false m e) t h = inr (ranged m e t (and_r (le plus_zero (fin false m e)) (lt (fin false m e) limit) h))

-- ---- n, by y's q and w

whole_is : (y : Float) (q c : ℕ) → 0 < c → HasValue y false q c → whole_part_of y ≡ 256 * q / c
whole_is nan q c C h = elim h [ ]
whole_is (inf _) q c C h = elim h [ ]
whole_is (fin s m e) q c C h =
    div_same (256 * (m * up e)) (down e) (256 * q) c (down_pos e) C
    (mul_assoc 256 (m * up e) c ∙ ap (λ (z : ℕ). 256 * z) h.1 ∙ sym (mul_assoc 256 q (down e)))

pub whole_part : (y : Float) (r : Ranged y) → whole_part_of y ≡ 256 * r.parts.q / 2 ^ r.parts.w
whole_part y r = whole_is y r.parts.q (2 ^ r.parts.w) (pow_pos r.parts.w) r.parts.value

scaled_under : (q c : ℕ) → q < 120 * c → 256 * q < 30720 * c
scaled_under q c h = omega arith

pub whole_lt : (y : Float) → Ranged y → whole_part_of y < 30720
whole_lt y r =
    subst (λ (n : ℕ). n < 30720) (sym (whole_part y r))
    ((div-lt_iff_lt-mul (pow_pos r.parts.w)).1 (scaled_under r.parts.q (2 ^ r.parts.w) r.under))

-- the same of every y in range
pub whole_in_range : (y : Float) → T (in_range y) → whole_part_of y < 30720
unfolding le lt
whole_in_range nan h = absurd h
whole_in_range (inf true) h = absurd h
whole_in_range (inf false) h = absurd h
whole_in_range (fin true m e) h =
    let z = zero_magnitude m e (and_l (le plus_zero (fin true m e)) (lt (fin true m e) limit) h) in
    (div-lt_iff_lt-mul (down_pos e)).1 (none (m * up e) (down e) (ap (λ (k : ℕ). k * up e) z ∙ zero-mul (up e)) (down_pos e))
  where
    none : (x d : ℕ) → x ≡ 0 → 0 < d → 256 * x < 30720 * d
    none x d e h = omega arith
whole_in_range (fin false m e) h =
    (div-lt_iff_lt-mul (down_pos e)).1 (scaled_under (m * up e) (down e) (under_limit m e (and_r (le plus_zero (fin false m e)) (lt (fin false m e) limit) h)))

-- ---- the pattern of a y that has a whole part

-- a value has one sign
one_sign : (y : Float) (a c b d : ℕ) → HasValue y true a c → HasValue y false b d → ⊥
one_sign nan a c b d p q = elim p [ ]
one_sign (inf _) a c b d p q = elim p [ ]
one_sign (fin s m e) a c b d p q = true≢false (sym p.0 ∙ q.0)

-- the pattern has a clear sign and a field of at most 142, and the significand shifted right by the places is n
pub record Small (y : Float) : Type 0 where
  pub at_most : to_bits binary32 y ≤ 0x477fffff
  pub whole : whole_part_of y ≡ (to_bits binary32 y % 8388608 + 8388608) / 2 ^ (142 - to_bits binary32 y / 8388608)

whole_pattern : (b : ℕ) → b ≤ 0x477fffff → whole_part_of (of_bits binary32 b) ≡ (b % 8388608 + 8388608) / 2 ^ (142 - b / 8388608)
unfolding of_bits
whole_pattern b h =
    let s : leb 0x80000000 b ≡ false = lt-leb 0x80000000 b (omega arith) in
    let x : b % 0x80000000 / 8388608 ≡ b / 8388608 = omega arith in
    let t = b % 8388608 in
    ap whole_part_of (λ i. of_fields binary32 (s i) (x i) t)
    ∙ whole_is (of_fields binary32 false (b / 8388608) t) (units (b / 8388608) t) (2 ^ 149) (pow_pos 149) (field_value false (b / 8388608) t (omega arith))
    ∙ whole_units (b / 8388608) t (mod-lt b (lit< tt)) (omega arith)

small_of : (y : Float) → T (fits binary32 y) → to_bits binary32 y ≤ 0x477fffff → Small y
small_of y f h = record { at_most = h; whole = subst (λ (z : Float). whole_part_of z ≡ (to_bits binary32 y % 8388608 + 8388608) / 2 ^ (142 - to_bits binary32 y / 8388608)) (of_bits-to_bits binary32 y f) (whole_pattern (to_bits binary32 y) h) }

-- the pattern without its sign is at most that of 2 ^ 16
bounded : (y : Float) → T (fits binary32 y) → T (in_range y) → to_bits binary32 y % 0x80000000 ≤ 0x47800000
bounded y f h =
    let lo = fin true 1 (pos 16) in
    let hi = fin false 1 (pos 16) in
    let from : T (le lo y) = le-trans-float lo plus_zero y (unfold le in tt) (and_l (le plus_zero y) (lt y limit) h) in
    let to : T (le y hi) = le-trans-float y limit hi (lt→le y limit (and_r (le plus_zero y) (lt y limit) h)) (unfold le in tt) in
    leb→le (to_bits binary32 y % 0x80000000) 0x47800000
    (subst T (within_bits (to_bits binary32 y))
    (subst (λ (z : Float). T (le (neg hi) z && le z hi)) (sym (of_bits-to_bits binary32 y f)) (unfold neg in and_i (le lo y) (le y hi) from to)))

-- the sign is clear: a pattern with the sign set stands for a value below y, or for -0
clear : (y : Float) → T (fits binary32 y) → (r : Ranged y) → to_bits binary32 y % 0x80000000 ≤ 0x47800000 → to_bits binary32 y < 0x80000000
unfolding of_bits
clear y f r h =
    let b = to_bits binary32 y in
    let x = b % 0x80000000 / 8388608 in
    let v : HasValue y (leb 0x80000000 b) (units x (b % 8388608)) (2 ^ 149) = subst (λ (z : Float). HasValue z (leb 0x80000000 b) (units x (b % 8388608)) (2 ^ 149)) (of_bits-to_bits binary32 y f) (field_value (leb 0x80000000 b) x (b % 8388608) (omega arith)) in
    go (leb 0x80000000 b) refl v
  where
    go : (s : Bool) → leb 0x80000000 (to_bits binary32 y) ≡ s → HasValue y s (units (to_bits binary32 y % 0x80000000 / 8388608) (to_bits binary32 y % 8388608)) (2 ^ 149) → to_bits binary32 y < 0x80000000
    go true e v = absurd (one_sign y (units (to_bits binary32 y % 0x80000000 / 8388608) (to_bits binary32 y % 8388608)) (2 ^ 149) r.parts.q (2 ^ r.parts.w) v r.parts.value)
    go false e v = nleb→lt 0x80000000 (to_bits binary32 y) (subst (λ (z : Bool). T (not z)) (sym e) tt)

-- 2 ^ 16 itself has too large a whole part
below : (y : Float) → T (fits binary32 y) → Ranged y → to_bits binary32 y ≤ 0x47800000 → to_bits binary32 y ≤ 0x477fffff
unfolding of_bits
below y f r h =
    elim (eq-or-lt_of_le h) [
      | inl e ↦ let n : whole_part_of y ≡ 16777216 = sym (ap whole_part_of (sym (ap (of_bits binary32) e) ∙ of_bits-to_bits binary32 y f)) in absurd (omega (arith, whole_lt y r, n))
      | inr l ↦ omega arith
    ]

-- y's bits are those of -0, and n is 0, or the significand shifted right by the places is n; and n is below 30,720
pub record Cut (y : Float) : Type 0 where
  pub is : ((to_bits binary32 y ≡ 0x80000000) × (whole_part_of y ≡ 0)) ⊎ Small y
  pub small : whole_part_of y < 30720

pub cut_exact : (y : Float) → T (fits binary32 y) → T (in_range y) → Cut y
unfolding to_bits
cut_exact y f h = record {
  is =
      elim (in_range_lem y f h) [
        | inl e ↦ inl (ap (to_bits binary32) e, ap whole_part_of e)
        | inr r ↦ let b = bounded y f h in let c = clear y f r b in inr (small_of y f (below y f r (omega arith)))
      ];
  small = whole_in_range y h;
}

-- it is a number, so that it has bits
pub number : (y : Float) → Exponent y → T (not (is_nan y))
unfolding is_nan le
number nan (inr h) = h
number nan (inl e) = absurd (subst (λ (z : Float). T (not (is_nan z))) (sym e) tt)
number (inf s) h = tt
number (fin s m e) h = tt

-- n as the code finds it: r is the difference whose upper bits are the places
pub shift_is : (y : Float) (r : ℕ) → T (fits binary32 y) → Exponent y → r < 2 ^ 32 → (r + to_bits binary32 y) % 2 ^ 32 ≡ 0x477fffff
    → (to_bits binary32 y % 8388608 + 8388608) / 2 ^ min (r / 8388608) 31 ≡ whole_part_of y
shift_is y r f h l e = held significand (r / 8388608) under ∙ elim (pattern h) [ inl m ↦ minus m | inr s ↦ plain s ]
  where
    significand : ℕ
    significand = to_bits binary32 y % 8388608 + 8388608

    under : significand < 2 ^ 24
    under = omega arith

    pattern : Exponent y → ((to_bits binary32 y ≡ 0x80000000) × (whole_part_of y ≡ 0)) ⊎ Small y
    pattern (inl e) = inr (small_of y f (subst (λ (z : Float). to_bits binary32 z ≤ 0x477fffff) (sym e) (unfold to_bits in lit≤ tt)))
    pattern (inr g) = (cut_exact y f g).is

    minus : (to_bits binary32 y ≡ 0x80000000) × (whole_part_of y ≡ 0) → significand / 2 ^ (r / 8388608) ≡ whole_part_of y
    minus m =
        let b = m.0 in
        let p : 24 ≤ r / 8388608 = omega arith in
        div-eq_of_lt (lt_of_lt_of_le under (pow_mono {i = 24} {j = r / 8388608} p)) ∙ sym m.1

    plain : Small y → significand / 2 ^ (r / 8388608) ≡ whole_part_of y
    plain s =
        let b = s.at_most in
        let places : r / 8388608 ≡ 142 - to_bits binary32 y / 8388608 = omega arith in
        ap (λ (z : ℕ). significand / 2 ^ z) places ∙ sym s.whole

-- ---- n is the largest whole number not above 256 * y, for the finite y = num y / den y
pub whole_largest : (y : Float) → T (finite y) → (whole_part_of y * den y ≤ 256 * num y) × (256 * num y < suc (whole_part_of y) * den y)
whole_largest nan p = elim p [ ]
whole_largest (inf _) p = elim p [ ]
whole_largest (fin s m e) p = (div-mul-le_self (256 * (m * up e)) (down e), (div-lt_iff_lt-mul (down_pos e)).0 (le_refl (suc (256 * (m * up e) / down e))))
