-- `le` is an order of all values but `nan`, infinities included, `lt` is its strict part, and `neg` turns it round. What lies between finite values is finite.
-- The statements on fractions and on a format's range are those of `Cross` and `Range`, passed on. Assumes nothing.
use mathlib.Core.Path.{◌≡◌, sym}
use mathlib.Core.Bool.{Bool, true, false, not, ◌||◌, beq}
use Prim.Native.Nat.{ℕ, ◌+◌, ◌*◌, ◌≤◌, ◌<◌}
use native.Mathlib.Nat.{mul-le-mul_right, le_of_mul-le-mul_right}
use native.Mathlib.Omega.{arith}
use lib.Dec.{T, T_not, not_T, eqb, eqb→eq}
use lib.Ieee.{Float, nan, inf, fin, up, down, neg, below, level, lt, eq, le, is_nan}
use lib.Ieee.Fits.{and_i, and_l, eq→eqb}
use lib.Ieee.Positive.{den, den_pos}
use lib.Ieee.Scale.{finite}
use Rattle.bool_laws.proofs.Tests.{or_l, or_r}
use Rattle.float_laws.proofs.Cross.{lt→cross, cross→lt, neg_finite, gain_neg, loss_neg, den_neg}
pub use Rattle.float_laws.proofs.Cross.{plus_zero, gain, loss, le→cross, cross→le, neg_neg}
pub use Rattle.float_laws.proofs.Range.{largest, finite_range, plus, plus_finite, plus_of_value, finite_not_nan, zero_le}

neg_anti_finite : (x y : Float) → T (finite x) → T (finite y) → T (le x y) → T (le (neg y) (neg x))
neg_anti_finite x y p q h = cross→le (neg y) (neg x) (neg_finite y q) (neg_finite x p) (simp (gain_neg, loss_neg, den_neg) (omega (arith, le→cross x y p q h)))

pub neg_anti : (x y : Float) → T (le x y) → T (le (neg y) (neg x))
neg_anti nan y h = absurd (unfold le in h)
neg_anti (inf s) nan h = absurd (unfold le in h)
neg_anti (inf true) (inf true) h = unfold le neg in tt
neg_anti (inf true) (inf false) h = unfold le neg in tt
neg_anti (inf false) (inf true) h = absurd (unfold le in h)
neg_anti (inf false) (inf false) h = unfold le neg in tt
neg_anti (inf true) (fin t n d) h = unfold le neg in tt
neg_anti (inf false) (fin t n d) h = absurd (unfold le in h)
neg_anti (fin s m e) nan h = absurd (unfold le in h)
neg_anti (fin s m e) (inf true) h = absurd (unfold le in h)
neg_anti (fin s m e) (inf false) h = unfold le neg in tt
neg_anti (fin s m e) (fin t n d) h = neg_anti_finite (fin s m e) (fin t n d) tt tt h

-- ---- an order of all values but `nan`
pub le_refl : (x : Float) → T (not (is_nan x)) → T (le x x)
le_refl nan h = absurd (unfold is_nan in h)
le_refl (inf true) h = unfold le in tt
le_refl (inf false) h = unfold le in tt
le_refl (fin s m e) h = cross→le (fin s m e) (fin s m e) tt tt (omega arith)

-- p - q over a, below r - s over b, below t - u over c
chain : (p q a r s b t u c : ℕ) → 0 < b → p * b + s * a ≤ r * a + q * b → r * c + u * b ≤ t * b + s * c → p * c + u * a ≤ t * a + q * c
chain p q a r s b t u c B h k =
    let n : (p * c + u * a) * b ≤ (t * a + q * c) * b = omega (arith, mul-le-mul_right c h, mul-le-mul_right a k) in
    le_of_mul-le-mul_right n B

le_trans_finite : (x y z : Float) → T (finite x) → T (finite y) → T (finite z) → T (le x y) → T (le y z) → T (le x z)
le_trans_finite x y z p q r h k =
    cross→le x z p r (chain (gain x) (loss x) (den x) (gain y) (loss y) (den y) (gain z) (loss z) (den z) (den_pos y) (le→cross x y p q h) (le→cross y z q r k))

le_top : (x y : Float) → T (le x y) → T (le x (inf false))
unfolding le
le_top nan y h = absurd h
le_top (inf true) y h = tt
le_top (inf false) y h = tt
le_top (fin s m e) y h = tt

bottom_le : (x y : Float) → T (le x y) → T (le (inf true) y)
unfolding le
bottom_le nan y h = absurd h
bottom_le (inf s) nan h = absurd h
bottom_le (inf s) (inf true) h = tt
bottom_le (inf s) (inf false) h = tt
bottom_le (inf s) (fin t n d) h = tt
bottom_le (fin s m e) nan h = absurd h
bottom_le (fin s m e) (inf true) h = tt
bottom_le (fin s m e) (inf false) h = tt
bottom_le (fin s m e) (fin t n d) h = tt

pub le_trans : (x y z : Float) → T (le x y) → T (le y z) → T (le x z)
le_trans nan y z h k = absurd (unfold le in h)
le_trans (inf true) y z h k = bottom_le y z k
le_trans (inf false) nan z h k = absurd (unfold le in h)
le_trans (inf false) (inf true) z h k = absurd (unfold le in h)
le_trans (inf false) (inf false) z h k = k
le_trans (inf false) (fin t n d) z h k = absurd (unfold le in h)
le_trans (fin s m e) nan z h k = absurd (unfold le in h)
le_trans (fin s m e) (inf true) z h k = absurd (unfold le in h)
le_trans (fin s m e) (inf false) nan h k = absurd (unfold le in k)
le_trans (fin s m e) (inf false) (inf true) h k = absurd (unfold le in k)
le_trans (fin s m e) (inf false) (inf false) h k = h
le_trans (fin s m e) (inf false) (fin t n d) h k = absurd (unfold le in k)
le_trans (fin s m e) (fin t n d) nan h k = absurd (unfold le in k)
le_trans (fin s m e) (fin t n d) (inf true) h k = absurd (unfold le in k)
le_trans (fin s m e) (fin t n d) (inf false) h k = le_top (fin s m e) (fin t n d) h
le_trans (fin s m e) (fin t n d) (fin r l c) h k = le_trans_finite (fin s m e) (fin t n d) (fin r l c) tt tt tt h k

-- ---- `lt` against `le`
pub lt→le : (x y : Float) → T (lt x y) → T (le x y)
unfolding le
lt→le x y h = or_l (lt x y) (eq x y) h

of_not_lt : (x y : Float) → T (finite x) → T (finite y) → T (not (lt x y)) → T (le y x)
of_not_lt x y p q h =
    let g : ¬ (gain x * den y + loss y * den x < gain y * den x + loss x * den y) = λ k. T_not (lt x y) h (cross→lt x y p q k) in
    cross→le y x q p (omega arith)

pub le_of_not_lt : (x y : Float) → T (not (is_nan x)) → T (not (is_nan y)) → T (not (lt x y)) → T (le y x)
le_of_not_lt nan y p q h = absurd (unfold is_nan in p)
le_of_not_lt (inf s) nan p q h = absurd (unfold is_nan in q)
le_of_not_lt (inf true) (inf true) p q h = unfold le in tt
le_of_not_lt (inf true) (inf false) p q h = absurd (unfold lt in h)
le_of_not_lt (inf false) (inf true) p q h = unfold le in tt
le_of_not_lt (inf false) (inf false) p q h = unfold le in tt
le_of_not_lt (inf true) (fin t n d) p q h = absurd (unfold lt in h)
le_of_not_lt (inf false) (fin t n d) p q h = unfold le in tt
le_of_not_lt (fin s m e) nan p q h = absurd (unfold is_nan in q)
le_of_not_lt (fin s m e) (inf true) p q h = unfold le in tt
le_of_not_lt (fin s m e) (inf false) p q h = absurd (unfold lt in h)
le_of_not_lt (fin s m e) (fin t n d) p q h = of_not_lt (fin s m e) (fin t n d) tt tt h

not_lt_finite : (x y : Float) → T (finite x) → T (finite y) → T (le x y) → T (not (lt y x))
not_lt_finite x y p q h = not_T (lt y x) (λ (g : T (lt y x)). omega (arith, le→cross x y p q h, lt→cross y x q p g))

pub not_lt_of_le : (x y : Float) → T (le x y) → T (not (lt y x))
not_lt_of_le nan y h = absurd (unfold le in h)
not_lt_of_le (inf s) nan h = absurd (unfold le in h)
not_lt_of_le (inf true) (inf true) h = unfold lt in tt
not_lt_of_le (inf true) (inf false) h = unfold lt in tt
not_lt_of_le (inf false) (inf true) h = absurd (unfold le in h)
not_lt_of_le (inf false) (inf false) h = unfold lt in tt
not_lt_of_le (inf true) (fin t n d) h = unfold lt in tt
not_lt_of_le (inf false) (fin t n d) h = absurd (unfold le in h)
not_lt_of_le (fin s m e) nan h = absurd (unfold le in h)
not_lt_of_le (fin s m e) (inf true) h = absurd (unfold le in h)
not_lt_of_le (fin s m e) (inf false) h = unfold lt in tt
not_lt_of_le (fin s m e) (fin t n d) h = not_lt_finite (fin s m e) (fin t n d) tt tt h

left_not_nan : (x y : Float) → T (le x y) → T (not (is_nan x))
left_not_nan nan y h = absurd (unfold le in h)
left_not_nan (inf s) y h = unfold is_nan in tt
left_not_nan (fin s m e) y h = unfold is_nan in tt

right_not_nan : (x y : Float) → T (le x y) → T (not (is_nan y))
right_not_nan nan y h = absurd (unfold le in h)
right_not_nan (inf s) nan h = absurd (unfold le in h)
right_not_nan (fin s m e) nan h = absurd (unfold le in h)
right_not_nan (inf s) (inf t) h = unfold is_nan in tt
right_not_nan (inf s) (fin t n d) h = unfold is_nan in tt
right_not_nan (fin s m e) (inf t) h = unfold is_nan in tt
right_not_nan (fin s m e) (fin t n d) h = unfold is_nan in tt

of_not_not : (b : Bool) → (T (not b) → ⊥) → T b
of_not_not true h = tt
of_not_not false h = h tt

pub lt_of_lt_of_le : (x y z : Float) → T (lt x y) → T (le y z) → T (lt x z)
lt_of_lt_of_le x y z h k =
    of_not_not (lt x z) (λ (g : T (not (lt x z))).
    T_not (lt x y) (not_lt_of_le y x (le_trans y z x k (le_of_not_lt x z (left_not_nan x y (lt→le x y h)) (right_not_nan y z k) g))) h)

pub lt_of_le_of_lt : (x y z : Float) → T (le x y) → T (lt y z) → T (lt x z)
lt_of_le_of_lt x y z h k =
    of_not_not (lt x z) (λ (g : T (not (lt x z))).
    T_not (lt y z) (not_lt_of_le z y (le_trans z x y (le_of_not_lt x z (left_not_nan x y h) (right_not_nan y z (lt→le y z k)) g) h)) k)

-- ---- what is finite
pub finite_between : (lo x hi : Float) → T (finite lo) → T (finite hi) → T (le lo x) → T (le x hi) → T (finite x)
finite_between lo nan hi p q h k = absurd (unfold le in k)
finite_between lo (inf true) nan p q h k = absurd q
finite_between lo (inf true) (inf t) p q h k = absurd q
finite_between nan (inf true) (fin t n d) p q h k = absurd p
finite_between (inf s) (inf true) (fin t n d) p q h k = absurd p
finite_between (fin s m e) (inf true) (fin t n d) p q h k = absurd (unfold le in h)
finite_between lo (inf false) nan p q h k = absurd q
finite_between lo (inf false) (inf t) p q h k = absurd q
finite_between lo (inf false) (fin t n d) p q h k = absurd (unfold le in k)
finite_between lo (fin s m e) hi p q h k = tt

pub lt_of_not_le : (x y : Float) → T (not (is_nan x)) → T (not (is_nan y)) → T (not (le x y)) → T (lt y x)
lt_of_not_le x y p q h = go (lt y x) (le_of_not_lt y x q p)
  where
    go : (b : Bool) → (T (not b) → T (le x y)) → T b
    go true k = tt
    go false k = absurd (T_not (le x y) h (k tt))

-- what is not below +0, and not equal to it, is above it
pub above_zero : (x : Float) → T (le plus_zero x) → T (not (eq x plus_zero)) → T (lt plus_zero x)
unfolding le lt eq
above_zero nan h e = absurd h
above_zero (inf true) h e = absurd h
above_zero (inf false) h e = tt
above_zero (fin s m d) h e = go (below false (0 * down d) s (m * up d * 1)) h
  where
    equal : T (level false (0 * down d) s (m * up d * 1)) → T (level s (m * up d * 1) false (0 * down d))
    equal t =
        let z = eqb→eq (0 * down d) (m * up d * 1) (and_l (eqb (0 * down d) (m * up d * 1)) (beq false s || eqb (0 * down d) 0) t) in
        and_i (eqb (m * up d * 1) (0 * down d)) (beq s false || eqb (m * up d * 1) 0) (eq→eqb (sym z)) (or_r (beq s false) (eqb (m * up d * 1) 0) (eq→eqb {a = m * up d * 1} {b = 0} (omega (arith, z))))

    go : (t : Bool) → T (t || level false (0 * down d) s (m * up d * 1)) → T t
    go true k = tt
    go false k = T_not (level s (m * up d * 1) false (0 * down d)) e (equal k)

-- 0 of either sign is not below +0
pub zero_not_below : (x : Float) → T (eq x plus_zero) → T (le plus_zero x)
unfolding eq
zero_not_below nan h = absurd h
zero_not_below (inf s) h = absurd h
zero_not_below (fin s m d) h = go s (eqb→eq (m * up d * 1) (0 * down d) (and_l (eqb (m * up d * 1) (0 * down d)) (beq s false || eqb (m * up d * 1) 0) h))
  where
    go : (t : Bool) → m * up d * 1 ≡ 0 * down d → T (le plus_zero (fin t m d))
    go true z = cross→le plus_zero (fin true m d) tt tt (omega (arith, z))
    go false z = cross→le plus_zero (fin false m d) tt tt (omega (arith, z))

-- nor is it above +0
pub zero_not_above : (x : Float) → T (eq x plus_zero) → T (le x plus_zero)
unfolding le
zero_not_above x h = or_r (lt x plus_zero) (eq x plus_zero) h
