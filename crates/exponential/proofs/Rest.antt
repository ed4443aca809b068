-- The rest r = y - n / 256, for y from 0 to below 120, is exact, not negative and below 1 / 256. Assumes nothing.
use mathlib.Core.Path.{◌≡◌, refl, sym, ap, ◌∙◌, subst}
use Prim.Native.Nat.{ℕ, ◌+◌, ◌-◌, ◌*◌, ◌/◌, ◌%◌, ◌^◌, ◌≤◌, ◌<◌}
use native.Mathlib.Nat.{le_trans, le_of_eq, le_of_lt, lt_of_le_of_lt, mul-one, mul_comm, mul-pos, mul-div_cancel, div-mul-le_self, div-add-mod', mod-lt, mul_right_comm}
use native.Mathlib.Omega.{arith}
use native.Mathlib.Decide.{dec_le}
use mathlib.Core.Bool.{false}
use lib.IntN.{pos}
use lib.Dec.{lit<}
use lib.Pow.{pow-add, pow_pos}
use lib.Ieee.{Float, fin, binary32, round, sub, div, of_int}
use lib.Ieee.Exact.{HasValue}
use lib.Ieee.Nearest.{div_same}
use lib.Ieee.Back.{round_whole}
use lib.Ieee.Scale.{round_same}
use Rattle.float_laws.proofs.Exact.{dyadic_exact}
use Rattle.float_laws.proofs.Fraction.{div_at, sub_at}
use Rattle.exponential.specs.ExpNeg.{whole_part_of, rest_of}
use Rattle.exponential.proofs.Whole.{Ranged, whole_part, whole_lt}

-- ---- n / 256
whole_float : (n : ℕ) → n ≤ 2 ^ 24 → HasValue (of_int binary32 (pos n)) false n 1
unfolding of_int
whole_float n h = round_whole binary32 false n h

step_float : (n : ℕ) → n < 30720 → HasValue (div binary32 (of_int binary32 (pos n)) (fin false 1 (pos 8))) false n 256
step_float n h =
    subst (λ (x : Float). HasValue x false n 256)
    (sym (div_at binary32 (of_int binary32 (pos n)) (fin false 1 (pos 8)) false false n 1 256 1 (lit< tt) (lit< tt) (lit< tt) (whole_float n (wide n h)) (refl, refl)
    ∙ ap (λ (a : ℕ). round binary32 false a 256) (mul-one n)))
    (dyadic_exact binary32 false n 8 (wide_lt n h) (le_of_lt (lit< tt)))
  where
    wide : (n : ℕ) → n < 30720 → n ≤ 2 ^ 24
    wide n h = omega arith

    wide_lt : (n : ℕ) → n < 30720 → n < 2 ^ 24
    wide_lt n h = omega arith

-- ---- 256 divides 256 * q - n * 2 ^ w, for n the quotient of 256 * q by 2 ^ w

left_over : (a b n : ℕ) → a / b ≡ n → a - n * b ≡ a % b
left_over a b n e = let h = div-add-mod' a b in let g : a / b * b ≡ n * b = ap (λ (z : ℕ). z * b) e in omega arith

record Parts (q w : ℕ) : Type 0 where
  p : ℕ
  is : 256 * p ≡ q * 256 - 256 * q / 2 ^ w * 2 ^ w
  le : p ≤ q

deep : (q v : ℕ) → Parts q (8 + v)
deep q v =
    let b = 2 ^ v in
    let c : 2 ^ (8 + v) ≡ 256 * b = pow-add 2 8 v in
    let n : 256 * q / (256 * b) ≡ q / b = div_same (256 * q) (256 * b) q b (mul-pos (lit< tt) (pow_pos v)) (pow_pos v) (mul_right_comm 256 q b ∙ mul_comm (256 * b) q) in
    let l : q / b * b ≤ q = div-mul-le_self q b in
    record {
      p = q - q / b * b;
      is = subst (λ (z : ℕ). 256 * (q - q / b * b) ≡ q * 256 - 256 * q / z * z) (sym c) (subst (λ (z : ℕ). 256 * (q - q / b * b) ≡ q * 256 - z * (256 * b)) (sym n) (omega arith));
      le = omega arith;
    }

shallow : (q w u : ℕ) → 2 ^ w * u ≡ 256 → Parts q w
shallow q w u e =
    let c = 2 ^ w in
    let n : 256 * q / c ≡ u * q = ap (λ (z : ℕ). z / c) (ap (λ (z : ℕ). z * q) (sym e ∙ mul_comm c u) ∙ mul_right_comm u c q) ∙ mul-div_cancel (u * q) (pow_pos w) in
    let z : u * q * c ≡ q * 256 = mul_right_comm u q c ∙ ap (λ (z : ℕ). z * q) (mul_comm u c ∙ e) ∙ mul_comm 256 q in
    record { p = 0; is = subst (λ (k : ℕ). 256 * 0 ≡ q * 256 - k * c) (sym n) (omega arith); le = omega arith }

split : (q w : ℕ) → Parts q w
split q w = elim (dec_le 8 w) [ yes g ↦ subst (λ (k : ℕ). Parts q k) (back w g) (deep q (w - 8)) | no g ↦ shallow q w (2 ^ (8 - w)) (sym (pow-add 2 w (8 - w)) ∙ ap (λ (k : ℕ). 2 ^ k) (up_to w g)) ]
  where
    back : (w : ℕ) → 8 ≤ w → 8 + (w - 8) ≡ w
    back w g = omega arith

    up_to : (w : ℕ) → ¬ (8 ≤ w) → w + (8 - w) ≡ 8
    up_to w g = omega arith

-- ---- r, by y's q and w
pub record Rest (y : Float) (r : Ranged y) : Type 0 where
  pub p : ℕ
  pub value : HasValue (rest_of y) false p (2 ^ r.parts.w)
  pub exact : 256 * p ≡ r.parts.q * 256 - whole_part_of y * 2 ^ r.parts.w
  pub small : 256 * p < 2 ^ r.parts.w

pub rest : (y : Float) (r : Ranged y) → Rest y r
unfolding rest_of
rest y r =
    let q = r.parts.q in
    let w = r.parts.w in
    let c = 2 ^ w in
    let n = whole_part_of y in
    let s = split q w in
    let e : 256 * s.p ≡ q * 256 - n * c = s.is ∙ ap (λ (z : ℕ). q * 256 - z * c) (sym (whole_part y r)) in
    let fit : n * c ≤ q * 256 = subst (λ (z : ℕ). z * c ≤ q * 256) (sym (whole_part y r)) (le_trans (div-mul-le_self (256 * q) c) (le_of_eq (mul_comm 256 q))) in
    let z = div binary32 (of_int binary32 (pos n)) (fin false 1 (pos 8)) in
    let rounded : sub binary32 y z ≡ round binary32 false (q * 256 - n * c) (c * 256) = sub_at binary32 y z q c n 256 (pow_pos w) (lit< tt) r.parts.value (step_float n (whole_lt y r)) fit in
    let same : round binary32 false (q * 256 - n * c) (c * 256) ≡ round binary32 false s.p c = round_same binary32 false (q * 256 - n * c) (c * 256) s.p c (mul-pos (pow_pos w) (lit< tt)) (pow_pos w) (ap (λ (a : ℕ). a * c) (sym e) ∙ mul_right_comm 256 s.p c ∙ mul_comm (256 * c) s.p ∙ ap (λ (a : ℕ). s.p * a) (mul_comm 256 c)) in
    record {
      p = s.p;
      value = subst (λ (x : Float). HasValue x false s.p c) (sym (rounded ∙ same)) (dyadic_exact binary32 false s.p w (lt_of_le_of_lt s.le r.parts.small) r.parts.fine);
      exact = e;
      small = subst (λ (a : ℕ). a < c) (sym (s.is ∙ ap (λ (a : ℕ). a - 256 * q / c * c) (mul_comm q 256) ∙ left_over (256 * q) c (256 * q / c) refl)) (mod-lt (256 * q) (pow_pos w));
    }
