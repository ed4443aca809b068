-- What the layers above may use of E and of the default scale: where E has a value, what that value is at the ends, and that it lies from 0 to 1. Assumes nothing.
use Rattle.std.specs.Prelude.{Option, Some, None}
use mathlib.Core.Path.{◌≡◌, refl, sym, ap, ◌∙◌, subst}
use mathlib.Core.Logic.{inl, inr}
use mathlib.Core.List.{List, [], ◌∷◌, map}
use Prim.Native.Nat.{ℕ, zero, suc, ◌<◌}
use native.Mathlib.Nat.{not-suc-le-zero, le_of_suc-le-suc}
use mathlib.Core.Bool.{Bool, true, false, not, ◌||◌, cond}
use lib.Dec.{T}
use lib.ListN.{length, get_or, length-map}
use lib.Ieee.{Float, nan, inf, fin, binary32, sub, mul, le, lt, is_nan, fits}
use lib.Ieee.Fits.{mul-fits, and_i}
use lib.Ieee.Bits.{is_true, is_false}
use lib.Ieee.Scale.{finite}
use mir.Facts.{or_no}
use Rattle.bool_laws.proofs.Tests.{not_either}
use Rattle.float_laws.specs.Zero.{minus_zero}
use Rattle.float_laws.proofs.Order.{plus, plus_finite, finite_not_nan, le_of_not_lt, lt_of_not_le}
use Rattle.float_laws.proofs.Product.{mul_mono, mul_not_nan}
use Rattle.exponential.specs.ExpNeg.{plus_zero, one, limit, log2e, in_range, below_limit_of, scaled_of, exp_neg_of, value_or_zero, exp_neg_row_of}
use Rattle.exponential.proofs.Whole.{in_range_lem}
use Rattle.exponential.proofs.Bounds.{below_limit_within}

-- a test that failed
pub fails : (b : Bool) → b ≡ false → T (not b)
fails b e = subst (λ (z : Bool). T (not z)) (sym e) tt

-- a number from 0 to 1, and never -0
pub record InUnit (x : Float) : Type 0 where
  pub sign : T (plus x)
  pub at_most : T (le x one)

zero_in_unit : InUnit plus_zero
unfolding le
zero_in_unit = record { sign = tt; at_most = tt }

-- ---- below the limit y is in range

zero_product : mul binary32 plus_zero plus_zero ≡ plus_zero
unfolding mul
zero_product = refl

in_range_finite : (d : Float) → T (finite d) → T (not (lt d plus_zero)) → T (not (le limit (mul binary32 d log2e))) → T (in_range (mul binary32 d log2e))
in_range_finite d f h k =
    let y = mul binary32 d log2e in
    let from : T (le (mul binary32 plus_zero plus_zero) y) = mul_mono binary32 plus_zero d plus_zero log2e tt f tt (unfold log2e in tt) (unfold le in tt) (le_of_not_lt d plus_zero (finite_not_nan d f) (unfold is_nan in tt) h) (unfold le in tt) (unfold le log2e in tt) in
    and_i (le plus_zero y) (lt y limit) (subst (λ (z : Float). T (le z y)) zero_product from)
    (lt_of_not_le limit y (unfold is_nan in tt) (mul_not_nan binary32 d log2e f (unfold log2e in tt)) k)

pub in_range_below : (d : Float) → T (not (is_nan d)) → T (not (lt d plus_zero)) → T (not (le limit (mul binary32 d log2e))) → T (in_range (mul binary32 d log2e))
in_range_below nan n h k = absurd (unfold is_nan in n)
in_range_below (inf true) n h k = absurd (unfold lt in h)
in_range_below (inf false) n h k = absurd (unfold le mul log2e in k)
in_range_below (fin s m e) n h k = in_range_finite (fin s m e) tt h k

-- ---- E by y

at_minus_zero : below_limit_of minus_zero ≡ one
unfolding below_limit_of
at_minus_zero = refl

below_limit_in_unit : (y : Float) → T (fits binary32 y) → T (in_range y) → InUnit (below_limit_of y)
below_limit_in_unit y t h =
    elim (in_range_lem y t h) [
      | inl e ↦ subst (λ (z : Float). InUnit (below_limit_of z)) (sym e) (subst InUnit (sym at_minus_zero) (record { sign = tt; at_most = unfold le in tt }))
      | inr r ↦ let b = below_limit_within y r in record { sign = b.sign; at_most = b.to }
    ]

pub scaled_at_limit : (y : Float) → T (le limit y) → scaled_of y ≡ plus_zero
unfolding scaled_of
scaled_at_limit y h = ap (λ (b : Bool). cond b plus_zero (below_limit_of y)) (is_true (le limit y) h)

pub scaled_below : (y : Float) → T (not (le limit y)) → scaled_of y ≡ below_limit_of y
unfolding scaled_of
scaled_below y h = ap (λ (b : Bool). cond b plus_zero (below_limit_of y)) (is_false (le limit y) h)

scaled_in_unit : (d : Float) → T (not (is_nan d)) → T (not (lt d plus_zero)) → InUnit (scaled_of (mul binary32 d log2e))
scaled_in_unit d n h = go (le limit y) (scaled_at_limit y) (scaled_below y) (in_range_below d n h)
  where
    y : Float
    y = mul binary32 d log2e

    go : (b : Bool) → (T b → scaled_of y ≡ plus_zero) → (T (not b) → scaled_of y ≡ below_limit_of y) → (T (not b) → T (in_range y)) → InUnit (scaled_of y)
    go true p q r = subst InUnit (sym (p tt)) zero_in_unit
    go false p q r = subst InUnit (sym (q tt)) (below_limit_in_unit y (mul-fits binary32 d log2e) (r tt))

-- ---- E

-- d has a value: it is not below 0, and a number
abbrev pub has_value : Float → Bool
has_value d = not (is_nan d || lt d plus_zero)

pub has_value_lem : (d : Float) → T (not (is_nan d)) → T (not (lt d plus_zero)) → T (has_value d)
has_value_lem d p q = not_either (is_nan d) (lt d plus_zero) p q

pub value_where : (d : Float) → T (has_value d) → exp_neg_of d ≡ Some (scaled_of (mul binary32 d log2e))
unfolding exp_neg_of
value_where d h = ap (λ (b : Bool). cond b None (Some (scaled_of (mul binary32 d log2e)))) (is_false (is_nan d || lt d plus_zero) h)

pub no_value_where : (d : Float) → T (is_nan d || lt d plus_zero) → exp_neg_of d ≡ None
unfolding exp_neg_of
no_value_where d h = ap (λ (b : Bool). cond b None (Some (scaled_of (mul binary32 d log2e)))) (is_true (is_nan d || lt d plus_zero) h)

-- where E has a value, it is a number from 0 to 1, and never -0
pub value_in_unit : (d : Float) → T (has_value d) → (x : Float) × (exp_neg_of d ≡ Some x) × InUnit x
value_in_unit d h = let p = or_no (is_nan d) (lt d plus_zero) h in (scaled_of (mul binary32 d log2e), value_where d h, scaled_in_unit d p.0 p.1)

-- E(+0) = E(-0) = 1
pub value_at_zero : exp_neg_of plus_zero ≡ Some one
unfolding exp_neg_of scaled_of below_limit_of
value_at_zero = refl

pub value_at_minus_zero : exp_neg_of minus_zero ≡ Some one
unfolding exp_neg_of scaled_of below_limit_of
value_at_minus_zero = refl

-- E(+inf) = +0
pub value_at_infinity : exp_neg_of (inf false) ≡ Some plus_zero
unfolding exp_neg_of scaled_of
value_at_infinity = refl

-- E is +0 from y = 120 on
pub value_at_limit : (d : Float) → T (has_value d) → T (le limit (mul binary32 d log2e)) → exp_neg_of d ≡ Some plus_zero
value_at_limit d h k = value_where d h ∙ ap Some (scaled_at_limit (mul binary32 d log2e) k)

-- ---- over a row

pub value_or_zero_in_unit : (d : Float) → InUnit (value_or_zero (exp_neg_of d))
value_or_zero_in_unit d = go (is_nan d || lt d plus_zero) (no_value_where d) (value_in_unit d)
  where
    go : (b : Bool) → (T b → exp_neg_of d ≡ None) → (T (not b) → (x : Float) × (exp_neg_of d ≡ Some x) × InUnit x) → InUnit (value_or_zero (exp_neg_of d))
    go true p q = subst (λ (e : Option Float). InUnit (value_or_zero e)) (sym (p tt)) zero_in_unit
    go false p q = let v = q tt in subst (λ (e : Option Float). InUnit (value_or_zero e)) (sym v.1) v.2

in_unit_not_nan : (x : Float) → InUnit x → T (not (is_nan x))
in_unit_not_nan x u = finite_not_nan x (plus_finite x u.sign)

pub value_not_nan : (d x : Float) → exp_neg_of d ≡ Some x → T (not (is_nan x))
value_not_nan d x e = in_unit_not_nan x (subst (λ (v : Option Float). InUnit (value_or_zero v)) e (value_or_zero_in_unit d))

pub length_row : (largest : Float) (row : List Float) → length (exp_neg_row_of largest row) ≡ length row
unfolding exp_neg_row_of
length_row largest row = length-map row (λ s. value_or_zero (exp_neg_of (sub binary32 largest s)))

mapped : (f : Float → Float) (l : List Float) (i : ℕ) (d : Float) → i < length l → get_or (map f l) i d ≡ f (get_or l i d)
mapped f [] i d h = absurd (not-suc-le-zero h)
mapped f (x ∷ l) zero d h = refl
mapped f (x ∷ l) (suc i) d h = mapped f l i d (le_of_suc-le-suc h)

pub get_or_row : (largest : Float) (row : List Float) (i : ℕ) (d : Float) → i < length row → get_or (exp_neg_row_of largest row) i d ≡ value_or_zero (exp_neg_of (sub binary32 largest (get_or row i d)))
unfolding exp_neg_row_of
get_or_row largest row i d h = mapped (λ s. value_or_zero (exp_neg_of (sub binary32 largest s))) row i d h

pub row_not_nan : (largest : Float) (row : List Float) (i : ℕ) (d : Float) → i < length row → T (not (is_nan (get_or (exp_neg_row_of largest row) i d)))
row_not_nan largest row i d h =
    subst (λ (x : Float). T (not (is_nan x))) (sym (get_or_row largest row i d h))
    (in_unit_not_nan (value_or_zero (exp_neg_of (sub binary32 largest (get_or row i d)))) (value_or_zero_in_unit (sub binary32 largest (get_or row i d))))
