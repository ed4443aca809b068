-- The steps of E over a block of a row, taken together, give E at each element. Assumes nothing.
use mathlib.Core.Path.{◌≡◌, refl, sym, ap, ◌∙◌, subst}
use mathlib.Core.Logic.{inl, inr}
use mathlib.Core.List.{List, [], ◌∷◌, map, zip_with}
use Prim.Native.Nat.{ℕ, zero, suc, ◌-◌, ◌*◌, ◌/◌, ◌%◌, ◌≤◌, ◌<◌}
use native.Mathlib.Nat.{not-suc-le-zero, le_of_suc-le-suc, div-lt_iff_lt-mul, mod-le}
use native.Mathlib.Omega.{arith}
use mathlib.Core.Bool.{Bool, true, false, not, ◌||◌, ◌&&◌, cond}
use lib.Dec.{T, T_not, not_T, lit<, lit≤}
use lib.ListN.{length, get_or, length-map}
use lib.Ieee.{Float, nan, inf, fin, binary32, sub, mul, le, lt, is_nan, nan_bits, of_bits}
use lib.Ieee.Bits.{is_true, nan_bits_above}
use denote.Floats.{passes}
use borrow.Author.Tests.{le-ltb}
use Rattle.float_laws.proofs.Order.{le_of_not_lt, lt_of_not_le, not_lt_of_le}
use Rattle.float_laws.proofs.Product.{mul_not_nan}
use Rattle.tensor_laws.specs.Layout.{tabulate}
use Rattle.tables.specs.Power.{power_of}
use Rattle.exponential.specs.ExpNeg.{plus_zero, limit, log2e, in_range, whole_part_of, rest_of, poly_of, below_limit_of, exp_neg_of, value_or_zero, exp_neg_row_of}
use Rattle.exponential.specs.Blocks.{beyond, exponent_of, exponents_of, Exponent, Exponents, polys_of, times_power}
use Rattle.exponential.proofs.Whole.{whole_in_range}
use Rattle.exponential.proofs.HalfPowers.{half_power_bits_lem}
use Rattle.exponential.proofs.Laws.{fails, has_value, has_value_lem, value_where, no_value_where, value_at_limit, scaled_below, in_range_below}

-- ---- the exponent, by the two tests

abbrev scaled : Float → Float
scaled d = mul binary32 d log2e

pub exponent_by : (d : Float) (a b : Bool) → le plus_zero d ≡ a → lt (scaled d) limit ≡ b → exponent_of d ≡ cond (a && b) (scaled d) beyond
unfolding exponent_of
exponent_by d a b p q = λ i. cond (p i && q i) (scaled d) beyond

-- what one element becomes by the steps after the first
abbrev pub steps_of : Float → Float
steps_of y = times_power (whole_part_of y) (poly_of (rest_of y))

steps_in_range : (y : Float) → T (in_range y) → steps_of y ≡ below_limit_of y
unfolding times_power below_limit_of
steps_in_range y h =
    ap (λ (x : Float). mul binary32 (mul binary32 (power_of (whole_part_of y % 256)) (poly_of (rest_of y))) x)
    (half_power_bits_lem (whole_part_of y / 256) ((div-lt_iff_lt-mul (lit< tt)).1 (whole_in_range y h)))

steps_beyond : steps_of beyond ≡ plus_zero
unfolding times_power poly_of rest_of
steps_beyond = refl

-- ---- where d has a value

not_nan : (d : Float) → T (le plus_zero d) → T (not (is_nan d))
unfolding is_nan le
not_nan nan h = h
not_nan (inf s) h = tt
not_nan (fin s m e) h = tt

scaled_not_nan : (d : Float) → T (le plus_zero d) → T (not (is_nan (scaled d)))
scaled_not_nan nan h = absurd (unfold le in h)
scaled_not_nan (inf true) h = absurd (unfold le in h)
scaled_not_nan (inf false) h = unfold mul log2e is_nan in tt
scaled_not_nan (fin s m e) h = mul_not_nan binary32 (fin s m e) log2e tt (unfold log2e in tt)

valued : (d : Float) → T (le plus_zero d) → T (has_value d)
valued d h = has_value_lem d (not_nan d h) (not_lt_of_le plus_zero d h)

not_le_of_lt : (x y : Float) → T (lt x y) → T (not (le y x))
not_le_of_lt x y h = not_T (le y x) (λ g. T_not (lt x y) (not_lt_of_le y x g) h)

no_value : (d : Float) → T (not (le plus_zero d)) → T (is_nan d || lt d plus_zero)
no_value d h = go (is_nan d) (λ n. lt_of_not_le plus_zero d (unfold is_nan in tt) n h)
  where
    go : (a : Bool) → (T (not a) → T (lt d plus_zero)) → T (a || lt d plus_zero)
    go true k = tt
    go false k = k tt

-- ---- one element

-- the exponent is in range or 127, and the steps from there on give E, and +0 where it has no value
pub record Stepped (d : Float) : Type 0 where
  pub kind : Exponent (exponent_of d)
  pub value : steps_of (exponent_of d) ≡ value_or_zero (exp_neg_of d)

inside : (d : Float) → T (le plus_zero d) → T (lt (scaled d) limit) → Stepped d
inside d a b =
    let e : exponent_of d ≡ scaled d = exponent_by d true true (is_true (le plus_zero d) a) (is_true (lt (scaled d) limit) b) in
    let u : T (not (le limit (scaled d))) = not_le_of_lt (scaled d) limit b in
    let r : T (in_range (scaled d)) = in_range_below d (not_nan d a) (not_lt_of_le plus_zero d a) u in
    record {
      kind = inr (subst (λ (y : Float). T (in_range y)) (sym e) r);
      value = ap steps_of e ∙ steps_in_range (scaled d) r ∙ sym (ap value_or_zero (value_where d (valued d a)) ∙ scaled_below (scaled d) u);
    }

outside : (d : Float) → exponent_of d ≡ beyond → value_or_zero (exp_neg_of d) ≡ plus_zero → Stepped d
outside d e v = record { kind = inl e; value = ap steps_of e ∙ steps_beyond ∙ sym v }

pub stepped : (d : Float) → Stepped d
stepped d = go (le plus_zero d) (lt (scaled d) limit) refl refl
  where
    go : (a b : Bool) → le plus_zero d ≡ a → lt (scaled d) limit ≡ b → Stepped d
    go true true p q = inside d (passes (le plus_zero d) p) (passes (lt (scaled d) limit) q)
    go true false p q =
        let a = passes (le plus_zero d) p in
        outside d (exponent_by d true false p q) (ap value_or_zero (value_at_limit d (valued d a) (le_of_not_lt (scaled d) limit (scaled_not_nan d a) (unfold is_nan in tt) (fails (lt (scaled d) limit) q))))
    go false b p q = outside d (exponent_by d false b p q) (ap value_or_zero (no_value_where d (no_value d (fails (le plus_zero d) p))))

-- the whole part of an exponent
pub whole_at_most : (y : Float) → Exponent y → whole_part_of y ≤ 32512
whole_at_most y (inl e) = subst (λ (z : Float). whole_part_of z ≤ 32512) (sym e) (lit≤ tt)
whole_at_most y (inr h) = let w = whole_in_range y h in omega arith

-- bits that are not above those of +inf are no NaN's
pub not_nan_bits : (b : ℕ) → b ≤ 0x7f800000 → T (not (nan_bits binary32 b))
not_nan_bits b h = subst (λ (t : Bool). T (not t)) (sym (nan_bits_above binary32 b ∙ le-ltb 0x7f800000 (b % 0x80000000) (omega (arith, mod-le b 0x80000000)))) tt

-- ---- over the elements

get_or_map : {A B : Type 0} (f : A → B) (l : List A) (i : ℕ) (d : A) (z : B) → i < length l → get_or (map f l) i z ≡ f (get_or l i d)
get_or_map f [] i d z h = absurd (not-suc-le-zero h)
get_or_map f (x ∷ l) zero d z h = refl
get_or_map f (x ∷ l) (suc i) d z h = get_or_map f l i d z (le_of_suc-le-suc h)

-- the whole parts
pub length_wholes : (ys : List Float) → length (map whole_part_of ys) ≡ length ys
length_wholes ys = length-map ys whole_part_of

pub get_or_wholes : (ys : List Float) (i : ℕ) → i < length ys → get_or (map whole_part_of ys) i 0 ≡ whole_part_of (get_or ys i nan)
get_or_wholes ys i h = get_or_map whole_part_of ys i nan 0 h

pub wholes_at_most : (ys : List Float) → Exponents ys → (i : ℕ) → i < length (map whole_part_of ys) → get_or (map whole_part_of ys) i 0 ≤ 32512
wholes_at_most ys h i l =
    let k : i < length ys = subst (λ (n : ℕ). i < n) (length_wholes ys) l in
    subst (λ (n : ℕ). n ≤ 32512) (sym (get_or_wholes ys i k)) (whole_at_most (get_or ys i nan) (h i k))

pub tabulate_wholes : (ys : List Float) → tabulate (length ys) (λ k. whole_part_of (get_or ys k nan)) ≡ map whole_part_of ys
unfolding tabulate
tabulate_wholes [] = refl
tabulate_wholes (y ∷ ys) = ap (λ (r : List ℕ). whole_part_of y ∷ r) (tabulate_wholes ys)

pub tabulate_zip : (g : ℕ → Float → Float) (ns : List ℕ) (ps : List Float) → length ns ≡ length ps → tabulate (length ps) (λ k. g (get_or ns k 0) (get_or ps k nan)) ≡ zip_with g ns ps
unfolding tabulate zip_with
tabulate_zip g [] [] e = refl
tabulate_zip g [] (p ∷ ps) e = absurd (omega arith)
tabulate_zip g (n ∷ ns) [] e = absurd (omega arith)
tabulate_zip g (n ∷ ns) (p ∷ ps) e = ap (λ (r : List Float). g n p ∷ r) (tabulate_zip g ns ps (omega arith))

-- the two products of times_power
abbrev pub times_entry : ℕ → Float → Float
times_entry n p = mul binary32 (power_of (n % 256)) p

abbrev pub halved_by : ℕ → Float → Float
halved_by n p = mul binary32 p (of_bits binary32 ((127 - n / 256) * 8388608))

-- all of the first and then all of the second
pub both_products : (ns : List ℕ) (ps : List Float) → zip_with halved_by ns (zip_with times_entry ns ps) ≡ zip_with times_power ns ps
unfolding zip_with times_power
both_products [] ps = refl
both_products (n ∷ ns) [] = refl
both_products (n ∷ ns) (p ∷ ps) = ap (λ (r : List Float). times_power n p ∷ r) (both_products ns ps)

-- the exponents of a row
pub length_exponents : (largest : Float) (row : List Float) → length (exponents_of largest row) ≡ length row
unfolding exponents_of
length_exponents largest row = length-map row (λ s. exponent_of (sub binary32 largest s))

pub exponents_are : (largest : Float) (row : List Float) → Exponents (exponents_of largest row)
unfolding exponents_of
exponents_are largest row k h =
    let l : k < length row = subst (λ (n : ℕ). k < n) (length-map row (λ s. exponent_of (sub binary32 largest s))) h in
    subst Exponent (sym (get_or_map (λ s. exponent_of (sub binary32 largest s)) row k nan nan l)) (stepped (sub binary32 largest (get_or row k nan))).kind

pub length_polys : (ys : List Float) → length (polys_of ys) ≡ length ys
unfolding polys_of
length_polys ys = length-map ys (λ y. poly_of (rest_of y))

-- the steps one after the other give E at each element
pub all_steps : (largest : Float) (row : List Float) → let ys = exponents_of largest row in zip_with times_power (map whole_part_of ys) (polys_of ys) ≡ exp_neg_row_of largest row
unfolding exponents_of polys_of exp_neg_row_of zip_with
all_steps largest [] = refl
all_steps largest (s ∷ row) = λ i. (stepped (sub binary32 largest s)).value i ∷ all_steps largest row i
