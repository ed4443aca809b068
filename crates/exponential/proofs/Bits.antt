-- The fields of an f32's bits: the value that they stand for, and the whole part of 256 times it as the significand with its leading 1, shifted right by 142 places less the exponent's field. Assumes nothing.
use mathlib.Core.Path.{◌≡◌, sym, ap, ◌∙◌}
use Prim.Native.Nat.{ℕ, zero, suc, ◌+◌, ◌-◌, ◌*◌, ◌/◌, ◌^◌, ◌≤◌, ◌<◌, min}
use native.Mathlib.Nat.{lt_of_lt_of_le, mul_assoc, mul_comm, add_comm, div-eq_of_lt}
use native.Mathlib.Omega.{arith}
use mathlib.Core.Bool.{Bool, true, false, not, cond}
use lib.Dec.{T, ltb, eqb, ltb→lt, nltb→le, eqb→eq, lit≤}
use lib.Pow.{pow-add, pow_pos, pow_mono}
use lib.Ieee.{nan, inf, binary32, odd, of_fields}
use lib.Ieee.Exact.{HasValue, odd_sign}
use lib.Ieee.Nearest.{div_same}

-- ---- the value of a sign, an exponent's field x and the digits t

-- its magnitude, in units of 2 ^ -149
pub units : ℕ → ℕ → ℕ
units zero t = t * 1
units (suc x) t = (8388608 + t) * 2 ^ x

pub field_value : (s : Bool) (x t : ℕ) → x < 255 → HasValue (of_fields binary32 s x t) s (units x t) (2 ^ 149)
unfolding of_fields units
field_value s zero t h = odd_sign 24 s t 0 149
field_value s (suc x) t h = go (eqb (suc x) 255) (eqb→eq (suc x) 255)
  where
    go : (a : Bool) → (T a → suc x ≡ 255) → HasValue (cond a (cond (eqb t 0) (inf s) nan) (odd 24 s (8388608 + t) x 149)) s ((8388608 + t) * 2 ^ x) (2 ^ 149)
    go true e = absurd (omega (arith, e tt))
    go false e = odd_sign 24 s (8388608 + t) x 149

-- n, by the fields: where the field is 0 there is no leading 1, and either side is 0
pub whole_units : (x t : ℕ) → t < 8388608 → x ≤ 142 → 256 * units x t / 2 ^ 149 ≡ (t + 8388608) / 2 ^ (142 - x)
unfolding units
whole_units zero t h l =
    let a : 256 * (t * 1) < 2 ^ 31 = omega arith in
    let b : t + 8388608 < 2 ^ 24 = omega arith in
    div-eq_of_lt (lt_of_lt_of_le a (pow_mono {i = 31} {j = 149} (lit≤ tt))) ∙ sym (div-eq_of_lt (lt_of_lt_of_le b (pow_mono {i = 24} {j = 142} (lit≤ tt))))
whole_units (suc x) t h l =
    let a = 8388608 + t in
    let r = 2 ^ (142 - suc x) in
    let places : x + (142 - suc x) ≡ 141 = omega arith in
    let whole : 2 ^ x * r ≡ 2 ^ 141 = sym (pow-add 2 x (142 - suc x)) ∙ ap (λ (z : ℕ). 2 ^ z) places in
    div_same (256 * (a * 2 ^ x)) (2 ^ 149) (t + 8388608) r (pow_pos 149) (pow_pos (142 - suc x))
    (mul_assoc 256 (a * 2 ^ x) r
    ∙ ap (λ (z : ℕ). 256 * z) (mul_assoc a (2 ^ x) r ∙ ap (λ (z : ℕ). a * z) whole)
    ∙ mul_comm 256 (a * 2 ^ 141)
    ∙ mul_assoc a (2 ^ 141) 256
    ∙ ap (λ (z : ℕ). z * 2 ^ 149) (add_comm 8388608 t))

-- ---- the shift, held to 31 places, from which on nothing is left

pub same_shift : {a b d e : ℕ} → a ≡ b → d ≡ e → a / 2 ^ d ≡ b / 2 ^ e
same_shift p q = λ i. p i / 2 ^ q i

pub held : (a p : ℕ) → a < 2 ^ 24 → a / 2 ^ min p 31 ≡ a / 2 ^ p
held a p h = go (ltb p 31) (ltb→lt p 31) (nltb→le p 31)
  where
    none : (q : ℕ) → 31 ≤ q → a / 2 ^ q ≡ 0
    none q k = div-eq_of_lt (lt_of_lt_of_le h (pow_mono {i = 24} {j = q} (omega arith)))

    same : (q : ℕ) → q < 31 → min q 31 ≡ q
    same q l = omega arith

    most : (q : ℕ) → 31 ≤ q → min q 31 ≡ 31
    most q l = omega arith

    go : (b : Bool) → (T b → p < 31) → (T (not b) → 31 ≤ p) → a / 2 ^ min p 31 ≡ a / 2 ^ p
    go true l g = ap (λ (z : ℕ). a / 2 ^ z) (same p (l tt))
    go false l g = ap (λ (z : ℕ). a / 2 ^ z) (most p (g tt)) ∙ none 31 (lit≤ tt) ∙ sym (none p (g tt))
