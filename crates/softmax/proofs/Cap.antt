-- The cap on a score: t lies from -1 to 1, a capped score never exceeds the cap in magnitude and is finite, E is asked only where it has a value, and a row is capped position by position. Assumes nothing.
use mathlib.Core.Path.{◌≡◌, refl, ap, ◌∙◌, subst}
use mathlib.Core.Bool.{Bool, true, false, not, cond}
use mathlib.Core.List.{List, map}
use Prim.Native.Nat.{ℕ, ◌<◌}
use lib.Dec.{T}
use lib.ListN.{length, length-map}
use lib.Ieee.{Float, nan, inf, fin, binary32, neg, add, sub, mul, div, le, lt, eq, fits, is_nan}
use lib.Ieee.Fits.{and_i}
use lib.Ieee.Scale.{finite}
use Rattle.float_laws.proofs.Cross.{neg_neg, neg_finite}
use Rattle.float_laws.proofs.Order.{plus, plus_finite, finite_not_nan, zero_le, neg_anti, le_trans, lt→le, le_of_not_lt, not_lt_of_le, lt_of_lt_of_le, finite_between}
use Rattle.float_laws.proofs.Order.{le_refl as le-refl-float}
use Rattle.float_laws.proofs.Sum.{add_mono, add_plus, add_not_nan, sub_mono, zero_le_sub}
use Rattle.float_laws.proofs.Product.{mul_mono, div_mono, div_self, div_not_nan}
use Rattle.float_laws.proofs.Zero.{zero_div, mul_one}
use Rattle.tensor_laws.specs.Layout.{tabulate}
use Rattle.tensor_laws.proofs.Tabulate.{tabulate_ext, map_tabulate}
use Rattle.exponential.specs.ExpNeg.{plus_zero, one, exp_neg_of, value_or_zero}
use Rattle.exponential.proofs.Laws.{InUnit, has_value, has_value_lem, value_or_zero_in_unit}
use Rattle.softmax.specs.Lists.{element_of, hidden, is_hidden, is_score_row}
use Rattle.softmax.specs.Cap.{signed_by, twice_of, ratio_of, tanh_of, capped_of, capped_where, capped_or_hidden, capped_row_of, capped_row_where}
use Rattle.softmax.proofs.Scores.{is_score, score_at_lem}
use Rattle.softmax.proofs.Bounds.{bounded, element_bound, bounded_below, bounded_above, bounded_widens, bounded_of_positive, bounded_finite, mul_bounded}

-- ---- (1 - g) / (1 + g), for a g from 0 to 1

one_less_zero : sub binary32 one plus_zero ≡ one
unfolding sub
one_less_zero = refl

zero_and_zero : add binary32 plus_zero plus_zero ≡ plus_zero
unfolding add
zero_and_zero = refl

one_and_zero : add binary32 one plus_zero ≡ one
unfolding add
one_and_zero = refl

module _ (g : Float) (u : InUnit g) where
  less : Float
  less = sub binary32 one g

  more : Float
  more = add binary32 one g

  g_finite : T (finite g)
  g_finite = plus_finite g u.sign

  zero_le_less : T (le plus_zero less)
  unfolding less
  zero_le_less = zero_le_sub binary32 one g tt g_finite u.at_most

  less_le_one : T (le less one)
  unfolding less
  less_le_one = subst (λ (z : Float). T (le (sub binary32 one g) z)) one_less_zero (sub_mono binary32 one one g plus_zero tt tt g_finite tt (unfold le in tt) (zero_le g u.sign))

  one_le_more : T (le one more)
  unfolding more
  one_le_more = subst (λ (z : Float). T (le z (add binary32 one g))) one_and_zero (add_mono binary32 one one plus_zero g tt tt tt g_finite (unfold le in tt) (zero_le g u.sign))

  more_finite : T (finite more)
  unfolding more
  more_finite =
      finite_between one (add binary32 one g) (add binary32 one one) tt (unfold add in tt) (unfold more in one_le_more)
      (add_mono binary32 one one g one tt tt g_finite tt (unfold le in tt) u.at_most)

  zero_lt_more : T (lt plus_zero more)
  zero_lt_more = lt_of_lt_of_le plus_zero one more (unfold lt in tt) one_le_more

  pub ratio_bounded : T (bounded one (ratio_of g))
  unfolding ratio_of less more
  ratio_bounded =
      let d = add binary32 one g in
      let n = sub binary32 one g in
      let f : T (finite n) = finite_between plus_zero n one tt tt zero_le_less less_le_one in
      bounded_of_positive one (div binary32 n d) (unfold le neg in tt)
      (subst (λ (z : Float). T (le z (div binary32 n d))) (zero_div binary32 d (add_plus binary32 one g tt u.sign more_finite) zero_lt_more) (div_mono binary32 plus_zero n d tt f more_finite (unfold le in tt) zero_le_less zero_lt_more))
      (subst (λ (z : Float). T (le (div binary32 n d) z)) (div_self binary32 d more_finite zero_lt_more) (div_mono binary32 n d d f more_finite more_finite zero_le_less (le_trans n one d less_le_one one_le_more) zero_lt_more))

-- ---- t and the capped score

neg_bounded : (b x : Float) → T (bounded b x) → T (bounded b (neg x))
neg_bounded b x h =
    and_i (le (neg b) (neg x)) (le (neg x) b) (neg_anti x b (bounded_above b x h))
    (subst (λ (z : Float). T (le (neg x) z)) (neg_neg b) (neg_anti (neg b) x (bounded_below b x h)))

signed_bounded : (b x z : Float) → T (bounded b z) → T (bounded b (signed_by x z))
signed_bounded b x z h = go (lt x plus_zero)
  where
    go : (t : Bool) → T (bounded b (cond t (neg z) z))
    go true = neg_bounded b z h
    go false = h

-- t lies from -1 to 1
pub tanh_bounded : (x : Float) → T (bounded one (tanh_of x))
unfolding tanh_of
tanh_bounded x =
    let g = value_or_zero (exp_neg_of (twice_of x)) in
    signed_bounded one x (ratio_of g) (ratio_bounded g (value_or_zero_in_unit (twice_of x)))

-- a number from 0 on is bounded by itself
self_bounded : (c : Float) → T (finite c) → T (le plus_zero c) → T (bounded c c)
self_bounded c f h =
    bounded_of_positive c c (le_trans (neg c) (neg plus_zero) plus_zero (neg_anti plus_zero c h) (unfold le neg in tt)) h (le-refl-float c (finite_not_nan c f))

capped_product : (c s : Float) → T (finite c) → T (le plus_zero c) → T (bounded (mul binary32 c one) (capped_of c s))
unfolding capped_of
capped_product c s f h = let x = div binary32 s c in mul_bounded c one c (tanh_of x) f tt (self_bounded c f h) (tanh_bounded x)

-- a capped score is a number, and never exceeds the cap in magnitude
pub capped_bounded : (c s : Float) → T (fits binary32 c) → T (plus c) → T (bounded c (capped_of c s))
capped_bounded c s k p = subst (λ (b : Float). T (bounded b (capped_of c s))) (mul_one binary32 c k p) (capped_product c s (plus_finite c p) (zero_le c p))

cap_product_bound : mul binary32 element_bound one ≡ element_bound
unfolding mul
cap_product_bound = refl

-- a score under a cap of at most 65,536 is finite
pub capped_finite : (c s : Float) → T (le plus_zero c) → T (le c element_bound) → T (finite (capped_of c s))
capped_finite c s h k =
    let f : T (finite c) = finite_between plus_zero c element_bound tt tt h k in
    let most : T (le (mul binary32 c one) element_bound) = subst (λ (z : Float). T (le (mul binary32 c one) z)) cap_product_bound (mul_mono binary32 c element_bound one one f tt tt tt h k (unfold le in tt) (unfold le in tt)) in
    bounded_finite element_bound (capped_of c s) tt (bounded_widens (mul binary32 c one) element_bound (capped_of c s) most (capped_product c s f h))

-- ---- where E is asked

-- of an x that is not NaN, a + a is not below 0, and a number or infinite
pub twice_valued : (x : Float) → T (not (is_nan x)) → T (has_value (twice_of x))
unfolding twice_of
twice_valued nan n = absurd (unfold is_nan in n)
twice_valued (inf true) n = unfold add neg lt is_nan in tt
twice_valued (inf false) n = unfold add neg lt is_nan in tt
twice_valued (fin s m e) n = go (lt (fin s m e) plus_zero) (lt→le (fin s m e) plus_zero) (le_of_not_lt (fin s m e) plus_zero (unfold is_nan in tt) (unfold is_nan in tt))
  where
    both : (a : Float) → T (finite a) → T (le plus_zero a) → T (has_value (add binary32 a a))
    both a f h =
        has_value_lem (add binary32 a a) (add_not_nan binary32 a a f f)
        (not_lt_of_le plus_zero (add binary32 a a) (subst (λ (z : Float). T (le z (add binary32 a a))) zero_and_zero (add_mono binary32 plus_zero a plus_zero a tt f tt f h h)))

    go : (t : Bool) → (T t → T (le (fin s m e) plus_zero)) → (T (not t) → T (le plus_zero (fin s m e))) → T (has_value (let a = cond t (neg (fin s m e)) (fin s m e) in add binary32 a a))
    go true p q = both (neg (fin s m e)) (neg_finite (fin s m e) tt) (le_trans plus_zero (neg plus_zero) (neg (fin s m e)) (unfold le neg in tt) (neg_anti (fin s m e) plus_zero (p tt)))
    go false p q = both (fin s m e) tt (q tt)

-- E is never asked below 0 or at NaN, where the score is finite and the cap is above 0; s / c may be infinite
pub cap_asked_where_valued : (c s : Float) → T (finite s) → T (finite c) → T (lt plus_zero c) → T (has_value (twice_of (div binary32 s c)))
cap_asked_where_valued c s f g h = twice_valued (div binary32 s c) (div_not_nan binary32 s c f g h)

hidden_quotient : (c : Float) → T (finite c) → T (not (is_nan (div binary32 hidden c)))
unfolding div is_nan
hidden_quotient nan f = elim f [ ]
hidden_quotient (inf _) f = elim f [ ]
hidden_quotient (fin t n d) f = tt

-- nor over a row of scores, at hidden positions too
pub cap_asked_in_row : (c : Float) (row : List Float) → T (finite c) → T (lt plus_zero c) → T (is_score_row row) → (j : ℕ) → j < length row → T (has_value (twice_of (div binary32 (element_of row j) c)))
cap_asked_in_row c row f h scores j l = go (element_of row j) (score_at_lem row scores j l)
  where
    go : (s : Float) → T (is_score s) → T (has_value (twice_of (div binary32 s c)))
    go nan t = absurd t
    go (inf true) t = twice_valued (div binary32 hidden c) (hidden_quotient c f)
    go (inf false) t = absurd t
    go (fin u m e) t = cap_asked_where_valued c (fin u m e) tt f h

-- ---- none, and a row position by position

-- 0 of either sign is no cap
pub no_cap : (c s : Float) → eq c plus_zero ≡ true → capped_where c s ≡ s
unfolding capped_where
no_cap c s e = ap (λ (t : Bool). cond t s (capped_of c s)) e

-- any other cap is one
pub with_cap_lem : (c s : Float) → eq c plus_zero ≡ false → capped_where c s ≡ capped_of c s
unfolding capped_where
with_cap_lem c s e = ap (λ (t : Bool). cond t s (capped_of c s)) e

-- a finite score is finite under a cap of at most 65,536, or none
pub under_cap_finite : (c s : Float) → T (le plus_zero c) → T (le c element_bound) → T (finite s) → T (finite (capped_where c s))
unfolding capped_where
under_cap_finite c s h k f = go (eq c plus_zero)
  where
    go : (t : Bool) → T (finite (cond t s (capped_of c s)))
    go true = f
    go false = capped_finite c s h k

-- a capped row keeps its length
pub length_capped : (c : Float) (row : List Float) → length (capped_row_of c row) ≡ length row
unfolding capped_row_of
length_capped c row = length-map row (capped_or_hidden c)

pub length_under_cap : (c : Float) (row : List Float) → length (capped_row_where c row) ≡ length row
unfolding capped_row_where
length_under_cap c row = go (eq c plus_zero)
  where
    go : (t : Bool) → length (cond t row (capped_row_of c row)) ≡ length row
    go true = refl
    go false = length_capped c row

not_hidden : (s : Float) → T (finite s) → is_hidden s ≡ false
not_hidden nan f = elim f [ ]
not_hidden (inf _) f = elim f [ ]
not_hidden (fin t m e) f = refl

module _ (c : Float) (n : ℕ) (sees : ℕ → Bool) (score : ℕ → Float) (ok : (j : ℕ) → j < n → sees j ≡ true → T (finite (score j))) where
  -- a row of marked scores, before the cap and after it
  abbrev marked : ℕ → Float
  marked j = cond (sees j) (score j) hidden

  marked_capped : (j : ℕ) → j < n → capped_or_hidden c (marked j) ≡ cond (sees j) (capped_of c (score j)) hidden
  unfolding capped_or_hidden
  marked_capped j l = go (sees j) (ok j l)
    where
      go : (t : Bool) → (t ≡ true → T (finite (score j))) → cond (is_hidden (cond t (score j) hidden)) hidden (capped_of c (cond t (score j) hidden)) ≡ cond t (capped_of c (score j)) hidden
      go true f = ap (λ (h : Bool). cond h hidden (capped_of c (score j))) (not_hidden (score j) (f refl))
      go false f = refl

  -- the cap takes each seen score to its own, and hidden positions stay
  pub capped_marked : capped_row_where c (tabulate n marked) ≡ tabulate n (λ j. cond (sees j) (capped_where c (score j)) hidden)
  unfolding capped_row_where capped_row_of capped_where
  capped_marked = go (eq c plus_zero)
    where
      go : (t : Bool) → cond t (tabulate n marked) (map (capped_or_hidden c) (tabulate n marked)) ≡ tabulate n (λ j. cond (sees j) (cond t (score j) (capped_of c (score j))) hidden)
      go true = refl
      go false = map_tabulate (capped_or_hidden c) n marked ∙ tabulate_ext n (λ j. capped_or_hidden c (marked j)) (λ j. cond (sees j) (capped_of c (score j)) hidden) marked_capped
