-- How large dot products and scores become: by the bounds of the elements and of the scale alone, since rounding keeps the order and the bounds are f32 values. Assumes nothing.
use mathlib.Core.Path.{◌≡◌, refl, sym, ap, ◌∙◌, subst}
use Prim.Native.Nat.{ℕ, zero, suc, ◌+◌, ◌-◌, ◌*◌, ◌^◌, ◌≤◌, ◌<◌, zero-le}
use native.Mathlib.Nat.{le_refl, zero-add, zero-mul, suc-mul, mul-one, one-mul, mul-le-mul_right}
use native.Mathlib.Omega.{arith}
use mathlib.Core.Bool.{Bool, true, false, ◌&&◌}
use lib.IntN.{pos}
use lib.Dec.{T, lit<, lit≤}
use lib.Ieee.{Float, fin, binary32, round, neg, add, mul, le, fits}
use lib.Ieee.Exact.{HasValue}
use lib.Ieee.Fits.{and_i, and_l, and_r}
use lib.Ieee.Order.{round_mono}
use lib.Ieee.Scale.{finite}
use Rattle.float_laws.proofs.Cross.{neg_finite}
use Rattle.float_laws.proofs.Order.{le_trans, neg_anti, plus, plus_of_value, finite_between, finite_range}
use Rattle.float_laws.proofs.Order.{largest as largest_finite}
use Rattle.float_laws.proofs.Sum.{add_bound}
use Rattle.float_laws.proofs.Product.{mul_bound}
use Rattle.float_laws.proofs.Exact.{scaled_exact}
use Rattle.float_laws.proofs.Fraction.{add_at}
use Rattle.float_laws.proofs.Rounded.{round_zero}
use Rattle.exponential.specs.ExpNeg.{plus_zero}
use Rattle.softmax.specs.Row.{in_lane, lane_of, dot_of, score_of, add_where, sum_of}

-- x is a number of magnitude at most b
abbrev pub bounded : Float → Float → Bool
bounded b x = le (neg b) x && le x b

-- 65,536, 1,024 and 2 ^ 50
abbrev pub element_bound : Float
element_bound = fin false 1 (pos 16)

abbrev pub scale_bound : Float
scale_bound = fin false 1 (pos 10)

abbrev pub score_bound : Float
score_bound = fin false 1 (pos 50)

-- ---- bounded numbers

pub bounded_below : (b x : Float) → T (bounded b x) → T (le (neg b) x)
bounded_below b x h = and_l (le (neg b) x) (le x b) h

pub bounded_above : (b x : Float) → T (bounded b x) → T (le x b)
bounded_above b x h = and_r (le (neg b) x) (le x b) h

-- a number bounded by a finite one is finite
pub bounded_finite : (b x : Float) → T (finite b) → T (bounded b x) → T (finite x)
bounded_finite b x p h = finite_between (neg b) x b (neg_finite b p) p (bounded_below b x h) (bounded_above b x h)

-- a number bounded by b is bounded by whatever is no less than b
pub bounded_widens : (b c x : Float) → T (le b c) → T (bounded b x) → T (bounded c x)
bounded_widens b c x l h =
    and_i (le (neg c) x) (le x c) (le_trans (neg c) (neg b) x (neg_anti b c l) (bounded_below b x h)) (le_trans x b c (bounded_above b x h) l)

-- a number from +0 to b is bounded by b
pub bounded_of_positive : (b x : Float) → T (le (neg b) plus_zero) → T (le plus_zero x) → T (le x b) → T (bounded b x)
bounded_of_positive b x l h k = and_i (le (neg b) x) (le x b) (le_trans (neg b) plus_zero x l h) k

-- a sum is bounded by the sum of its terms' bounds
add_bounded : (b c x y : Float) → T (plus b) → T (plus c) → T (bounded b x) → T (bounded c y) → T (bounded (add binary32 b c) (add binary32 x y))
add_bounded b c x y p q h k =
    let r = add_bound binary32 x y b c p q (bounded_below b x h) (bounded_above b x h) (bounded_below c y k) (bounded_above c y k) in
    and_i (le (neg (add binary32 b c)) (add binary32 x y)) (le (add binary32 x y) (add binary32 b c)) r.0 r.1

-- a product is bounded by the product of its factors' bounds
pub mul_bounded : (b c x y : Float) → T (finite b) → T (finite c) → T (bounded b x) → T (bounded c y) → T (bounded (mul binary32 b c) (mul binary32 x y))
mul_bounded b c x y p q h k =
    let r = mul_bound binary32 x y b c p q (bounded_below b x h) (bounded_above b x h) (bounded_below c y k) (bounded_above c y k) in
    and_i (le (neg (mul binary32 b c)) (mul binary32 x y)) (le (mul binary32 x y) (mul binary32 b c)) r.0 r.1

-- ---- multiples of 2 ^ i

whole_value : (n i : ℕ) → n < 2 ^ 24 → i ≤ 104 → HasValue (round binary32 false (n * 2 ^ i) 1) false (n * 2 ^ i) 1
whole_value n i h k = scaled_exact binary32 false n i 0 h zero-le (omega arith)

pub whole_plus : (n i : ℕ) → n < 2 ^ 24 → i ≤ 104 → T (plus (round binary32 false (n * 2 ^ i) 1))
whole_plus n i h k = plus_of_value (round binary32 false (n * 2 ^ i) 1) (n * 2 ^ i) 1 (whole_value n i h k)

-- n * 2 ^ i with 2 ^ i added, which is exact
pub whole_next : (n i : ℕ) → n < 2 ^ 24 → i ≤ 104 → add binary32 (round binary32 false (n * 2 ^ i) 1) (fin false 1 (pos i)) ≡ round binary32 false (suc n * 2 ^ i) 1
whole_next n i h k =
    add_at binary32 (round binary32 false (n * 2 ^ i) 1) (fin false 1 (pos i)) false (n * 2 ^ i) 1 (2 ^ i) 1 (lit< tt) (lit< tt) (whole_value n i h k) (refl, ap (λ (z : ℕ). z * 1) (one-mul (2 ^ i)))
    ∙ ap (λ (z : ℕ). round binary32 false z 1) (ap (λ (z : ℕ). z + 2 ^ i * 1) (mul-one (n * 2 ^ i)) ∙ ap (λ (z : ℕ). n * 2 ^ i + z) (mul-one (2 ^ i)) ∙ sym (suc-mul n (2 ^ i)))

-- fewer times 2 ^ i is no more
whole_mono : (n m i : ℕ) → n ≤ m → T (le (round binary32 false (n * 2 ^ i) 1) (round binary32 false (m * 2 ^ i) 1))
whole_mono n m i h = round_mono binary32 (n * 2 ^ i) 1 (m * 2 ^ i) 1 (lit< tt) (lit< tt) (mul-le-mul_right 1 (mul-le-mul_right (2 ^ i) h))

whole_none : (i : ℕ) → T (bounded (round binary32 false (0 * 2 ^ i) 1) plus_zero)
whole_none i =
    let e : plus_zero ≡ round binary32 false (0 * 2 ^ i) 1 = sym (ap (λ (z : ℕ). round binary32 false z 1) (zero-mul (2 ^ i)) ∙ round_zero binary32 false 1 (lit< tt)) in
    subst (λ (b : Float). T (bounded b plus_zero)) e (unfold le neg in tt)

one_more : (n i : ℕ) (x y : Float) → n < 2 ^ 24 → i ≤ 104 → T (bounded (round binary32 false (n * 2 ^ i) 1) x) → T (bounded (fin false 1 (pos i)) y)
    → T (bounded (round binary32 false (suc n * 2 ^ i) 1) (add binary32 x y))
one_more n i x y h k a b =
    subst (λ (z : Float). T (bounded z (add binary32 x y))) (whole_next n i h k) (add_bounded (round binary32 false (n * 2 ^ i) 1) (fin false 1 (pos i)) x y (whole_plus n i h k) tt a b)

-- ---- sums

-- how many of the first n positions are seen
abbrev one_more_where : Bool → ℕ → ℕ
one_more_where true n = suc n
one_more_where false n = n

unfoldable seen_of : ℕ → (ℕ → Bool) → ℕ
seen_of zero sees = 0
seen_of (suc n) sees = one_more_where (sees n) (seen_of n sees)

one_more_where_lem : (b : Bool) (n : ℕ) → (n ≤ one_more_where b n) × (one_more_where b n ≤ suc n)
one_more_where_lem true n = (omega arith, le_refl (suc n))
one_more_where_lem false n = (le_refl n, omega arith)

-- no more than n, and no fewer where there are more positions
seen_at_most : (n : ℕ) (sees : ℕ → Bool) → seen_of n sees ≤ n
unfolding seen_of
seen_at_most zero sees = le_refl 0
seen_at_most (suc n) sees = omega (arith, (one_more_where_lem (sees n) (seen_of n sees)).1, seen_at_most n sees)

seen_rises : (n more : ℕ) (sees : ℕ → Bool) → seen_of n sees ≤ seen_of (more + n) sees
unfolding seen_of
seen_rises n zero sees = omega (arith, ap (λ (m : ℕ). seen_of m sees) (zero-add n))
seen_rises n (suc more) sees =
    let e : suc more + n ≡ suc (more + n) = omega arith in
    omega (arith, seen_rises n more sees, (one_more_where_lem (sees (more + n)) (seen_of (more + n) sees)).0, ap (λ (m : ℕ). seen_of m sees) e)

-- the sum of the seen positions' terms, each within 2 ^ i, is within as many times 2 ^ i
sum_counted : (n i : ℕ) (sees : ℕ → Bool) (term : ℕ → Float) → n ≤ 2 ^ 24 → i ≤ 104 → ((j : ℕ) → j < n → sees j ≡ true → T (bounded (fin false 1 (pos i)) (term j))) → T (bounded (round binary32 false (seen_of n sees * 2 ^ i) 1) (sum_of n sees term))
unfolding sum_of seen_of
sum_counted zero i sees term l k h = whole_none i
sum_counted (suc n) i sees term l k h = go (sees n) refl (sum_counted n i sees term (omega arith) k (λ j a. h j (omega arith)))
  where
    go : (b : Bool) → sees n ≡ b → T (bounded (round binary32 false (seen_of n sees * 2 ^ i) 1) (sum_of n sees term)) → T (bounded (round binary32 false (one_more_where b (seen_of n sees) * 2 ^ i) 1) (add_where b (sum_of n sees term) (term n)))
    go true e r = one_more (seen_of n sees) i (sum_of n sees term) (term n) (omega (arith, seen_at_most n sees)) k r (h n (le_refl (suc n)) e)
    go false e r = r

-- the sum of n positions' terms, each within 2 ^ i, is within n * 2 ^ i
pub sum_bounded : (n i : ℕ) (sees : ℕ → Bool) (term : ℕ → Float) → n ≤ 2 ^ 24 → i ≤ 104 → ((j : ℕ) → j < n → sees j ≡ true → T (bounded (fin false 1 (pos i)) (term j))) → T (bounded (round binary32 false (n * 2 ^ i) 1) (sum_of n sees term))
sum_bounded n i sees term l k h =
    bounded_widens (round binary32 false (seen_of n sees * 2 ^ i) 1) (round binary32 false (n * 2 ^ i) 1) (sum_of n sees term) (whole_mono (seen_of n sees) n i (seen_at_most n sees)) (sum_counted n i sees term l k h)

-- ---- dot products and scores

element_square : mul binary32 element_bound element_bound ≡ fin false 1 (pos 32)
unfolding mul
element_square = refl

-- 64 * 2 ^ 32, the bound of a lane, twice as much, and four times
abbrev pub lane_bound : Float
lane_bound = fin false 1 (pos 38)

abbrev pair_bound : Float
pair_bound = fin false 1 (pos 39)

abbrev pub dot_bound : Float
dot_bound = fin false 1 (pos 40)

lane_bound_lem : round binary32 false (64 * 2 ^ 32) 1 ≡ lane_bound
unfolding round
lane_bound_lem = refl

pair_bound_lem : add binary32 lane_bound lane_bound ≡ pair_bound
unfolding add
pair_bound_lem = refl

dot_bound_lem : add binary32 pair_bound pair_bound ≡ dot_bound
unfolding add
dot_bound_lem = refl

-- a lane takes 64 of 256 elements
lane_takes : (l : ℕ) → l < 4 → seen_of 256 (in_lane l) ≡ 64
unfolding seen_of
lane_takes zero h = refl
lane_takes (suc zero) h = refl
lane_takes (suc (suc zero)) h = refl
lane_takes (suc (suc (suc zero))) h = refl
lane_takes (suc (suc (suc (suc l)))) h = absurd (omega arith)

-- a lane of at most 256 elements within 65,536 is within 64 * 2 ^ 32
pub lane_bounded : (l n : ℕ) (q k : ℕ → Float) → l < 4 → n ≤ 256 → ((c : ℕ) → c < n → T (bounded element_bound (q c))) → ((c : ℕ) → c < n → T (bounded element_bound (k c))) → T (bounded lane_bound (lane_of l n q k))
unfolding lane_of
lane_bounded l n q k few small h g =
    let term : ℕ → Float = λ c. mul binary32 (q c) (k c) in
    let some = seen_of n (in_lane l) in
    let e : 256 - n + n ≡ 256 = omega arith in
    let at_most : some ≤ 64 = omega (arith, seen_rises n (256 - n) (in_lane l), ap (λ (m : ℕ). seen_of m (in_lane l)) e, lane_takes l few) in
    subst (λ (b : Float). T (bounded b (lane_of l n q k))) lane_bound_lem
    (bounded_widens (round binary32 false (some * 2 ^ 32) 1) (round binary32 false (64 * 2 ^ 32) 1) (lane_of l n q k) (whole_mono some 64 32 at_most)
    (sum_counted n 32 (in_lane l) term (omega arith) (lit≤ tt) (λ c a t. subst (λ (b : Float). T (bounded b (term c))) element_square (mul_bounded element_bound element_bound (q c) (k c) tt tt (h c a) (g c a)))))

-- a dot product of at most 256 elements within 65,536 is within 2 ^ 40
pub dot_bounded : (n : ℕ) (q k : ℕ → Float) → n ≤ 256 → ((c : ℕ) → c < n → T (bounded element_bound (q c))) → ((c : ℕ) → c < n → T (bounded element_bound (k c))) → T (bounded dot_bound (dot_of n q k))
unfolding dot_of
dot_bounded n q k small h g =
    subst (λ (b : Float). T (bounded b (dot_of n q k))) dot_bound_lem (add_bounded pair_bound pair_bound (pair_of 0 1) (pair_of 2 3) tt tt (pair 0 1 (lit< tt) (lit< tt)) (pair 2 3 (lit< tt) (lit< tt)))
  where
    pair_of : ℕ → ℕ → Float
    pair_of l m = add binary32 (lane_of l n q k) (lane_of m n q k)

    pair : (l m : ℕ) → l < 4 → m < 4 → T (bounded pair_bound (pair_of l m))
    pair l m a b = subst (λ (z : Float). T (bounded z (pair_of l m))) pair_bound_lem (add_bounded lane_bound lane_bound (lane_of l n q k) (lane_of m n q k) tt tt (lane_bounded l n q k a small h g) (lane_bounded m n q k b small h g))

scaled_bound : mul binary32 dot_bound scale_bound ≡ score_bound
unfolding mul
scaled_bound = refl

-- a score of at most 256 elements within 65,536, with a scale from 0 to 1,024, is within 2 ^ 50
pub score_bounded : (n : ℕ) (q k : ℕ → Float) (scale : Float) → n ≤ 256 → ((c : ℕ) → c < n → T (bounded element_bound (q c))) → ((c : ℕ) → c < n → T (bounded element_bound (k c))) → T (le plus_zero scale) → T (le scale scale_bound) → T (bounded score_bound (score_of n q k scale))
unfolding score_of
score_bounded n q k scale l h g a b =
    let d = dot_of n q k in
    subst (λ (z : Float). T (bounded z (mul binary32 d scale))) scaled_bound (mul_bounded dot_bound scale_bound d scale tt tt (dot_bounded n q k l h g) (bounded_of_positive scale_bound scale (unfold le neg in tt) a b))

finite_at_most : T (finite (add binary32 score_bound (largest_finite binary32)))
unfolding add
finite_at_most = tt

-- a score within 2 ^ 50 with a finite f32 added is finite
pub masked_score_finite : (s cell : Float) → T (bounded score_bound s) → T (fits binary32 cell) → T (finite cell) → T (finite (add binary32 s cell))
masked_score_finite s cell h k p =
    let b = largest_finite binary32 in
    let r = finite_range binary32 cell k p in
    bounded_finite (add binary32 score_bound b) (add binary32 s cell) finite_at_most (add_bounded score_bound b s cell tt tt h (and_i (le (neg b) cell) (le cell b) r.0 r.1))
