-- The bounds of E below y = 120: the polynomial, its product with a power, and the last product, by 2 ^ -k, which is exact. Assumes nothing.
use mathlib.Core.Path.{◌≡◌, refl, sym, ap, ◌∙◌, subst}
use Prim.Native.Nat.{ℕ, ◌+◌, ◌*◌, ◌/◌, ◌%◌, ◌^◌, ◌≤◌, ◌<◌}
use native.Mathlib.Nat.{le_trans, le_of_eq, lt_of_le_of_lt, mul-one, one-mul, mul_comm, mul-le-mul_right, le_of_mul-le-mul_right, mul-pos, mod-lt, mul_assoc, mul-le-mul_left, lt_of_not-le, not-le_of_lt, div-lt_iff_lt-mul}
use native.Mathlib.Omega.{arith}
use mathlib.Core.Bool.{false}
use lib.IntN.{negsuc}
use lib.Dec.{T, lit<}
use lib.Pow.{pow-add, pow_pos, pow_mono}
use lib.Ieee.{Float, fin, binary32, up, down, round, sub, mul, le, fits}
use lib.Ieee.Fits.{mul-fits, down_pos}
use lib.Ieee.Digits.{minus_val}
use lib.Ieee.Exact.{HasValue}
use lib.Ieee.Order.{le_of_values}
use lib.Ieee.Scale.{finite}
use Rattle.float_laws.proofs.Order.{le→cross, plus, plus_finite, plus_of_value, finite_not_nan, zero_le, finite_between, le_refl}
use Rattle.float_laws.proofs.Order.{le_trans as le-trans-float}
use Rattle.float_laws.proofs.Sum.{sub_mono, sub_plus}
use Rattle.float_laws.proofs.Product.{mul_mono, mul_plus}
use Rattle.float_laws.proofs.Exact.{dyadic_exact, Dyadic, dyadic}
use Rattle.float_laws.proofs.Fraction.{mul_at}
use Rattle.tables.specs.Power.{power_of}
use Rattle.tables.proofs.Power.{power_rule}
use Rattle.exponential.specs.ExpNeg.{plus_zero, one, c1, c2, half_power, poly_of, rest_of, whole_part_of, below_limit_of}
use Rattle.exponential.proofs.Whole.{Ranged, whole_lt}
use Rattle.exponential.proofs.Rest.{rest}

-- ---- values between two others that are not negative

-- x is finite, has a clear sign bit, and lies from lo to hi
pub record Within (lo hi x : Float) : Type 0 where
  pub sign : T (plus x)
  pub from : T (le lo x)
  pub to : T (le x hi)

finite_of : {lo hi x : Float} → Within lo hi x → T (finite x)
finite_of {x = x} b = plus_finite x b.sign

-- a product of two such values, by the products of the ends
mul_within : (lo hi x lo' hi' y : Float) → T (plus lo) → T (plus hi) → T (plus lo') → T (plus hi') → T (finite (mul binary32 lo lo')) → T (finite (mul binary32 hi hi')) → Within lo hi x → Within lo' hi' y → Within (mul binary32 lo lo') (mul binary32 hi hi') (mul binary32 x y)
mul_within lo hi x lo' hi' y a b c d p q h k =
    let from = mul_mono binary32 lo x lo' y (plus_finite lo a) (finite_of h) (plus_finite lo' c) (finite_of k) (zero_le lo a) h.from (zero_le lo' c) k.from in
    let to = mul_mono binary32 x hi y hi' (finite_of h) (plus_finite hi b) (finite_of k) (plus_finite hi' d) (zero_le x h.sign) h.to (zero_le y k.sign) k.to in
    record { sign = mul_plus binary32 x y h.sign k.sign (finite_between (mul binary32 lo lo') (mul binary32 x y) (mul binary32 hi hi') p q from to); from = from; to = to }

-- a constant minus such a value
sub_within : (a lo hi x : Float) → T (plus a) → T (plus lo) → T (plus hi) → T (le hi a) → T (finite (sub binary32 a hi)) → T (finite (sub binary32 a lo)) → Within lo hi x → Within (sub binary32 a hi) (sub binary32 a lo) (sub binary32 a x)
sub_within a lo hi x A L H fit p q h =
    let fa = plus_finite a A in
    let refl-a = le_refl a (finite_not_nan a fa) in
    let from = sub_mono binary32 a a hi x fa fa (plus_finite hi H) (finite_of h) refl-a h.to in
    let to = sub_mono binary32 a a x lo fa fa (finite_of h) (plus_finite lo L) refl-a h.from in
    record { sign = sub_plus binary32 a x A h.sign (le-trans-float x hi a h.to fit) (finite_between (sub binary32 a hi) (sub binary32 a x) (sub binary32 a lo) p q from to); from = from; to = to }

-- ---- the polynomial, at a rest from 0 to 1 / 256

abbrev step : Float
step = fin false 1 (negsuc 7)

rest_within : (y : Float) (r : Ranged y) → Within plus_zero step (rest_of y)
rest_within y r =
    let s = rest y r in
    let c = 2 ^ r.parts.w in
    let v = s.value in
    record {
      sign = plus_of_value (rest_of y) s.p c v;
      from = le_of_values plus_zero (rest_of y) 0 1 s.p c (lit< tt) (pow_pos r.parts.w) (refl, refl) v (le_of_eq_zero c s.p);
      to = le_of_values (rest_of y) step s.p c 1 256 (pow_pos r.parts.w) (lit< tt) v (refl, refl) (to_step s.p c s.small);
    }
  where
    le_of_eq_zero : (c p : ℕ) → 0 * c ≤ p * 1
    le_of_eq_zero c p = omega arith

    to_step : (p c : ℕ) → 256 * p < c → p * 256 ≤ 1 * c
    to_step p c h = omega arith

-- C1 - r * C2
inner_within : (r : Float) → Within plus_zero step r → Within (sub binary32 c1 (mul binary32 step c2)) c1 (sub binary32 c1 (mul binary32 r c2))
unfolding mul sub le c1 c2
inner_within r h =
    let c2-within : Within c2 c2 c2 = record { sign = tt; from = tt; to = tt } in
    sub_within c1 plus_zero (mul binary32 step c2) (mul binary32 r c2) tt tt tt tt tt tt
    (mul_within plus_zero step r c2 c2 c2 tt tt tt tt tt tt h c2-within)

-- the least value of the polynomial's bound: 1 - C1 / 256
abbrev least : Float
least = sub binary32 one (mul binary32 step c1)

poly_within : (r : Float) → Within plus_zero step r → Within least one (poly_of r)
unfolding mul sub le c1 c2 poly_of
poly_within r h =
    let inner = sub binary32 c1 (mul binary32 step c2) in
    sub_within one plus_zero (mul binary32 step c1) (mul binary32 r (sub binary32 c1 (mul binary32 r c2))) tt tt tt tt tt tt
    (mul_within plus_zero step r inner c1 (sub binary32 c1 (mul binary32 r c2)) tt tt tt tt tt tt h (inner_within r h))

-- ---- the product with a power
abbrev half : Float
half = fin false 1 (negsuc 0)

power_within : (f : ℕ) → f < 256 → Within half one (power_of f)
power_within f h =
    let (m, v, r) = power_rule f h in
    record {
      sign = plus_of_value (power_of f) m (2 ^ 24) v;
      from = le_of_values half (power_of f) 1 2 m (2 ^ 24) (lit< tt) (lit< tt) (refl, refl) v (above m r.at_least);
      to = le_of_values (power_of f) one m (2 ^ 24) 1 1 (lit< tt) (lit< tt) v (refl, refl) (beneath m r.at_most);
    }
  where
    above : (m : ℕ) → 2 ^ 23 ≤ m → 1 * 2 ^ 24 ≤ m * 2
    above m h = omega arith

    beneath : (m : ℕ) → m ≤ 2 ^ 24 → m * 1 ≤ 1 * 2 ^ 24
    beneath m h = omega arith

-- P[f] * p
abbrev pub product_of : Float → Float
product_of y = mul binary32 (power_of (whole_part_of y % 256)) (poly_of (rest_of y))

product_within : (y : Float) → Ranged y → Within (mul binary32 half least) one (product_of y)
unfolding mul sub le c1
product_within y r =
    mul_within half one (power_of (whole_part_of y % 256)) least one (poly_of (rest_of y)) tt tt tt tt tt tt
    (power_within (whole_part_of y % 256) (mod-lt (whole_part_of y) (lit< tt))) (poly_within (rest_of y) (rest_within y r))

-- ---- the product by 2 ^ -k

half_power_value : (k : ℕ) → HasValue (half_power k) false 1 (2 ^ k)
half_power_value k = (refl, minus_val 1 0 k)

abbrev quarter : Float
quarter = fin false 1 (negsuc 1)

-- an f32 from 1 / 4 to 1 is q / 2 ^ w with w at most 25
record Short (x : Float) : Type 0 where
  parts : Dyadic binary32 x false
  whole : parts.q ≤ 2 ^ parts.w
  few : parts.w < 26

short : (x : Float) → T (fits binary32 x) → T (plus x) → T (le quarter x) → T (le x one) → Short x
short lib.Ieee.nan t p from to = elim p [ ]
short (lib.Ieee.inf _) t p from to = elim p [ ]
short (fin mathlib.Core.Bool.true m e) t p from to = elim p [ ]
short (fin false m e) t p from to =
    let d = dyadic binary32 false m e t (under (m * up e) (down e) (down_pos e) (le→cross (fin false m e) one tt tt to)) in
    let c = 2 ^ d.w in
    let v : m * up e * c ≡ d.q * down e = d.value.1 in
    let D = down_pos e in
    let lo : d.q * down e ≤ c * down e = le_trans (le_of_eq (sym v)) (le_trans (mul-le-mul_right c (at_most (m * up e) (down e) (le→cross (fin false m e) one tt tt to))) (le_of_eq (mul_comm (down e) c))) in
    let hi : c * down e ≤ 4 * d.q * down e = le_trans (le_of_eq (mul_comm c (down e))) (le_trans (mul-le-mul_right c (at_least (m * up e) (down e) (le→cross quarter (fin false m e) tt tt from))) (le_of_eq (mul_assoc 4 (m * up e) c ∙ ap (λ (z : ℕ). 4 * z) v ∙ sym (mul_assoc 4 d.q (down e))))) in
    record {
      parts = d;
      whole = le_of_mul-le-mul_right lo D;
      few = exponent_lt d.w (lt_of_le_of_lt (le_of_mul-le-mul_right hi D) (times_four d.q d.small));
    }
  where
    under : (x d : ℕ) → 0 < d → x * 1 + 0 * d ≤ 1 * d + 0 * 1 → x < 2 ^ 24 * d
    under x d D h = omega arith

    at_most : (x d : ℕ) → x * 1 + 0 * d ≤ 1 * d + 0 * 1 → x ≤ d
    at_most x d h = omega arith

    at_least : (x d : ℕ) → 1 * d + 0 * 4 ≤ x * 4 + 0 * d → d ≤ 4 * x
    at_least x d h = omega arith

    times_four : (q : ℕ) → q < 2 ^ 24 → 4 * q < 2 ^ 26
    times_four q h = omega arith

    exponent_lt : (w : ℕ) → 2 ^ w < 2 ^ 26 → w < 26
    exponent_lt w h = lt_of_not-le (λ (g : 26 ≤ w). not-le_of_lt h (pow_mono g))

-- E = u / 2 ^ k exactly, for u the product P[f] * p
pub record Halved (y : Float) : Type 0 where
  pub q : ℕ
  pub c : ℕ
  pub pos : 0 < c
  pub product : HasValue (product_of y) false q c
  pub exact : HasValue (below_limit_of y) false q (c * 2 ^ (whole_part_of y / 256))
  pub at_most : q ≤ c

pub last_product : (y : Float) → Ranged y → Halved y
unfolding below_limit_of
last_product y r =
    let b = product_within y r in
    let s = short (product_of y) (mul-fits binary32 (power_of (whole_part_of y % 256)) (poly_of (rest_of y))) b.sign (le-trans-float quarter (mul binary32 half least) (product_of y) (unfold mul sub le c1 in tt) b.from) b.to in
    let k = whole_part_of y / 256 in
    let w = s.parts.w in
    let q = s.parts.q in
    record {
      q = q;
      c = 2 ^ w;
      pos = pow_pos w;
      product = s.parts.value;
      exact =
          subst (λ (x : Float). HasValue x false q (2 ^ w * 2 ^ k))
          (sym (mul_at binary32 (product_of y) (half_power k) false false q (2 ^ w) 1 (2 ^ k) (pow_pos w) (pow_pos k) s.parts.value (half_power_value k)
          ∙ ap (λ (a : ℕ). round binary32 false a (2 ^ w * 2 ^ k)) (mul-one q)))
          (subst (λ (c : ℕ). HasValue (round binary32 false q c) false q c) (pow-add 2 w k)
          (dyadic_exact binary32 false q (w + k) s.parts.small (fine w k s.few ((div-lt_iff_lt-mul (lit< tt)).1 (whole_lt y r)))));
      at_most = s.whole;
    }
  where
    fine : (w k : ℕ) → w < 26 → k < 120 → w + k ≤ 149
    fine w k a b = omega arith

-- E lies from 0 to 1, with its sign bit clear
pub below_limit_within : (y : Float) → Ranged y → Within plus_zero one (below_limit_of y)
below_limit_within y r =
    let h = last_product y r in
    let d = h.c * 2 ^ (whole_part_of y / 256) in
    let D = mul-pos h.pos (pow_pos (whole_part_of y / 256)) in
    let s = plus_of_value (below_limit_of y) h.q d h.exact in
    record {
      sign = s;
      from = zero_le (below_limit_of y) s;
      to =
          le_of_values (below_limit_of y) one h.q d 1 1 D (lit< tt) h.exact (refl, refl)
          (le_trans (le_of_eq (mul-one h.q)) (le_trans h.at_most (le_trans (grow h.c (2 ^ (whole_part_of y / 256)) (pow_pos (whole_part_of y / 256))) (le_of_eq (sym (one-mul d))))));
    }
  where
    grow : (c p : ℕ) → 0 < p → c ≤ c * p
    grow c p h = le_trans (le_of_eq (sym (mul-one c))) (mul-le-mul_left c h)
