-- How far a format's finite values reach, and the finite values with a clear sign bit. Assumes nothing.
use mathlib.Core.Path.{◌≡◌, sym, ap, ◌∙◌}
use mathlib.Core.Bool.{Bool, true, false, not, ◌&&◌, true≢false}
use Prim.Native.Nat.{ℕ, zero, suc, ◌+◌, ◌-◌, ◌*◌, ◌%◌, ◌^◌, ◌≤◌, ◌<◌}
use native.Mathlib.Nat.{le_refl, le_trans, le_of_eq, le_of_lt, mul_assoc, mul-le-mul, mul-le-mul_right, lt_of_mul-lt-mul_right}
use native.Mathlib.Omega.{arith}
use lib.IntN.{ℤ, pos, negsuc}
use lib.Dec.{T, ltb, eqb, leb, leb→le, nleb→lt, ltb→lt}
use lib.Pow.{pow-add, pow_pos, pow_mono}
use lib.Ieee.{Float, nan, inf, fin, Format, prec, emax, low, up, down, neg, le, fits, is_nan}
use lib.Ieee.Fits.{and_l, and_r, reach}
use lib.Ieee.Exact.{HasValue}
use lib.Ieee.Scale.{finite}
use Rattle.float_laws.proofs.Cross.{plus_zero, cross→le}

abbrev pub largest : Format → Float
largest f = fin false (2 ^ prec f - 1) (pos (suc (emax f) - prec f))

-- ---- m * 2 ^ k with m of p digits and the product of q digits, for p ≤ q
low_exponent : (p q m k : ℕ) → m < 2 ^ p → k ≤ q - p → m * 2 ^ k ≤ (2 ^ p - 1) * 2 ^ (q - p)
low_exponent p q m k h g = mul-le-mul {n₁ = m} {m₁ = 2 ^ k} {n₂ = 2 ^ p - 1} {m₂ = 2 ^ (q - p)} (omega arith) (pow_mono g)

high_exponent : (p q m k : ℕ) → p ≤ q → m * 2 ^ k < 2 ^ q → q - p ≤ k → m * 2 ^ k ≤ (2 ^ p - 1) * 2 ^ (q - p)
high_exponent p q m k P h g =
    let w : ℕ = 2 ^ (q - p) in
    let a : k ≡ (k - (q - p)) + (q - p) = omega arith in
    let b : q ≡ p + (q - p) = omega arith in
    let a' : 2 ^ k ≡ 2 ^ (k - (q - p)) * w = ap (λ (z : ℕ). 2 ^ z) a ∙ pow-add 2 (k - (q - p)) (q - p) in
    let b' : 2 ^ q ≡ 2 ^ p * w = ap (λ (z : ℕ). 2 ^ z) b ∙ pow-add 2 p (q - p) in
    let c : m * 2 ^ k ≡ m * 2 ^ (k - (q - p)) * w = ap (λ (z : ℕ). m * z) a' ∙ sym (mul_assoc m (2 ^ (k - (q - p))) w) in
    let d : m * 2 ^ (k - (q - p)) < 2 ^ p = lt_of_mul-lt-mul_right w (omega arith) in
    le_trans (le_of_eq c) (mul-le-mul_right w (omega arith))

whole_range : (p q m k : ℕ) → p ≤ q → m < 2 ^ p → m * 2 ^ k < 2 ^ q → m * 2 ^ k ≤ (2 ^ p - 1) * 2 ^ (q - p)
whole_range p q m k P h g = go (leb k (q - p)) (leb→le k (q - p)) (nleb→lt k (q - p))
  where
    go : (b : Bool) → (T b → k ≤ q - p) → (T (not b) → q - p < k) → m * 2 ^ k ≤ (2 ^ p - 1) * 2 ^ (q - p)
    go true a b = low_exponent p q m k h (a tt)
    go false a b = high_exponent p q m k P g (le_of_lt (b tt))

fraction_range : (p q m D : ℕ) → 0 < D → m < 2 ^ p → m ≤ (2 ^ p - 1) * 2 ^ (q - p) * D
fraction_range p q m D P h = le_trans {m = (2 ^ p - 1) * 1 * 1} (omega arith) (mul-le-mul (mul-le-mul (le_refl (2 ^ p - 1)) (pow_pos (q - p))) P)

in_range_lem : (f : Format) (m : ℕ) (e : ℤ) → m < 2 ^ prec f → m * up e < 2 ^ suc (emax f) * down e → m * up e ≤ (2 ^ prec f - 1) * 2 ^ (suc (emax f) - prec f) * down e
in_range_lem f m (pos k) h g = omega (arith, whole_range (prec f) (suc (emax f)) m k (reach f) h (omega arith))
in_range_lem f m (negsuc k) h g = omega (arith, fraction_range (prec f) (suc (emax f)) m (2 ^ suc k) (pow_pos (suc k)) h)

bounded : (f : Format) (s : Bool) (m : ℕ) (e : ℤ) → T (fits f (fin s m e)) → m * up e ≤ (2 ^ prec f - 1) * 2 ^ (suc (emax f) - prec f) * down e
bounded f s zero e t = omega arith
bounded f s (suc m) e t =
    let a : Bool = eqb (suc m % 2) 1 in
    let b : Bool = ltb (suc m) (2 ^ prec f) in
    let c : Bool = leb (down e) (2 ^ low f) in
    let d : Bool = ltb (suc m * up e) (2 ^ suc (emax f) * down e) in
    let t' : T (a && b && c && d) = unfold fits in t in
    in_range_lem f (suc m) e (ltb→lt (suc m) (2 ^ prec f) (and_r a b (and_l (a && b) c (and_l (a && b && c) d t')))) (ltb→lt (suc m * up e) (2 ^ suc (emax f) * down e) (and_r (a && b && c) d t'))

pub finite_range : (f : Format) (x : Float) → T (fits f x) → T (finite x) → T (le (neg (largest f)) x) × T (le x (largest f))
unfolding neg
finite_range f nan h p = absurd p
finite_range f (inf s) h p = absurd p
finite_range f (fin true m e) h p = (
  cross→le (neg (largest f)) (fin true m e) tt tt (omega (arith, bounded f true m e h)),
  cross→le (fin true m e) (largest f) tt tt (omega arith),
)
finite_range f (fin false m e) h p = (
  cross→le (neg (largest f)) (fin false m e) tt tt (omega arith),
  cross→le (fin false m e) (largest f) tt tt (omega (arith, bounded f false m e h)),
)

-- ---- finite, with the sign bit clear
abbrev pub plus : Float → Bool
plus nan = false
plus (inf s) = false
plus (fin true m e) = false
plus (fin false m e) = true

pub plus_finite : (x : Float) → T (plus x) → T (finite x)
plus_finite nan p = absurd p
plus_finite (inf s) p = absurd p
plus_finite (fin s m e) p = tt

pub zero_le : (x : Float) → T (plus x) → T (le plus_zero x)
zero_le nan p = absurd p
zero_le (inf s) p = absurd p
zero_le (fin true m e) p = absurd p
zero_le (fin false m e) p = cross→le plus_zero (fin false m e) tt tt (omega arith)

pub finite_not_nan : (x : Float) → T (finite x) → T (not (is_nan x))
unfolding is_nan
finite_not_nan nan p = absurd p
finite_not_nan (inf s) p = absurd p
finite_not_nan (fin s m e) p = tt

-- a value that is a fraction with the sign clear
pub plus_of_value : (x : Float) (a c : ℕ) → HasValue x false a c → T (plus x)
plus_of_value nan a c v = elim v [ ]
plus_of_value (inf _) a c v = elim v [ ]
plus_of_value (fin true m e) a c v = true≢false v.0
plus_of_value (fin false m e) a c v = tt
