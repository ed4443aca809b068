-- Where every seen score is finite: the largest score is one of them, E is asked only where it has a value, the terms and the weights lie from 0 to 1, their sum is at least 1, and the output is bounded. Assumes nothing.
use mathlib.Core.Path.{◌≡◌, refl, sym, ap, ◌∙◌, subst}
use Prim.Native.Nat.{ℕ, zero, suc, ◌*◌, ◌^◌, ◌≤◌, ◌<◌}
use native.Mathlib.Nat.{le_refl, mul-one, mul-le-mul_right}
use native.Mathlib.Omega.{arith}
use mathlib.Core.Bool.{Bool, true, false, not, true≢false}
use lib.Dec.{T, leb, leb→le, nleb→lt, lit<, lit≤}
use lib.Ieee.{Float, binary32, round, neg, add, sub, mul, div, le, lt, is_nan}
use lib.Ieee.Order.{round_mono}
use lib.Ieee.Scale.{finite}
use Rattle.bool_laws.proofs.Tests.{not_either}
use Rattle.float_laws.proofs.Order.{plus, plus_finite, finite_not_nan, lt→le, le_of_not_lt, not_lt_of_le, lt_of_lt_of_le, finite_between}
use Rattle.float_laws.proofs.Order.{le_trans as le-trans-float, le_refl as le-refl-float, zero_le as zero-le-float}
use Rattle.float_laws.proofs.Sum.{add_mono, add_plus, sub_self, sub_not_nan, zero_le_sub}
use Rattle.float_laws.proofs.Product.{div_mono, div_self, div_plus}
use Rattle.float_laws.proofs.Zero.{zero_div}
use Rattle.exponential.specs.ExpNeg.{plus_zero, one, exp_neg_of, value_or_zero}
use Rattle.exponential.proofs.Laws.{InUnit, has_value, value_at_zero, value_or_zero_in_unit}
use Rattle.softmax.specs.Row.{Largest, none_seen, largest, greater, largest_with, largest_of, is_none, fully_masked_of, term_of, add_where, sum_of, weight_where, weight_of, output_of, row_output_of}
use Rattle.softmax.proofs.Structure.{seen_not_masked}
use Rattle.softmax.proofs.Bounds.{bounded, element_bound, mul_bounded, bounded_of_positive, whole_plus, whole_next, sum_bounded}

-- ---- the largest score

-- m is a seen score of the first n positions, and no seen score of them is above it
record Top (n : ℕ) (sees : ℕ → Bool) (score : ℕ → Float) (m : Float) : Type 0 where
  reached : (j : ℕ) × (j < n) × (sees j ≡ true) × (score j ≡ m)
  above : (j : ℕ) → j < n → sees j ≡ true → T (le (score j) m)

-- what the largest score of n positions says of them
abbrev Tops : ℕ → (ℕ → Bool) → (ℕ → Float) → Largest → Type 0
Tops n sees score none_seen = (j : ℕ) → j < n → sees j ≡ false
Tops n sees score (largest m) = Top n sees score m

-- a position below n + 1 is below n or it is n
last_or_before : (P : ℕ → Type 0) (n : ℕ) → ((j : ℕ) → j < n → P j) → P n → (j : ℕ) → j < suc n → P j
last_or_before P n h last j l = go (leb (suc j) n) (leb→le (suc j) n) (nleb→lt (suc j) n)
  where
    go : (b : Bool) → (T b → j < n) → (T (not b) → n < suc j) → P j
    go true p q = h j (p tt)
    go false p q =
        let k : n < suc j = q tt in
        let e : n ≡ j = omega arith in
        subst P e last

module _ (n : ℕ) (sees : ℕ → Bool) (score : ℕ → Float) where
  hidden_step : sees n ≡ false → (l : Largest) → Tops n sees score l → Tops (suc n) sees score l
  hidden_step e none_seen t = last_or_before (λ j. sees j ≡ false) n t e
  hidden_step e (largest m) t =
      let (j, a, b, c) = t.reached in
      record { reached = (j, omega arith, b, c); above = last_or_before (λ j. sees j ≡ true → T (le (score j) m)) n t.above (λ s. absurd (true≢false (sym s ∙ e))) }

  first_step : sees n ≡ true → T (finite (score n)) → ((j : ℕ) → j < n → sees j ≡ false) → Top (suc n) sees score (score n)
  first_step e f t = record {
    reached = (n, le_refl (suc n), e, refl);
    above = last_or_before (λ j. sees j ≡ true → T (le (score j) (score n))) n (λ j l s. absurd (true≢false (sym s ∙ t j l))) (λ s. le-refl-float (score n) (finite_not_nan (score n) f));
  }

  greater_step : sees n ≡ true → T (finite (score n)) → (m : Float) → T (finite m) → Top n sees score m → Top (suc n) sees score (greater (lt m (score n)) m (score n))
  greater_step e f m g t = go (lt m (score n)) (lt→le m (score n)) (le_of_not_lt m (score n) (finite_not_nan m g) (finite_not_nan (score n) f))
    where
      go : (b : Bool) → (T b → T (le m (score n))) → (T (not b) → T (le (score n) m)) → Top (suc n) sees score (greater b m (score n))
      go true p q = record {
        reached = (n, le_refl (suc n), e, refl);
        above =
            last_or_before (λ j. sees j ≡ true → T (le (score j) (score n))) n (λ j l s. le-trans-float (score j) m (score n) (t.above j l s) (p tt))
            (λ s. le-refl-float (score n) (finite_not_nan (score n) f));
      }
      go false p q =
          let (j, a, b, c) = t.reached in
          record { reached = (j, omega arith, b, c); above = last_or_before (λ j. sees j ≡ true → T (le (score j) m)) n t.above (λ s. q tt) }

top_finite : (n : ℕ) (sees : ℕ → Bool) (score : ℕ → Float) → ((j : ℕ) → j < n → sees j ≡ true → T (finite (score j))) → (m : Float) → Top n sees score m → T (finite m)
top_finite n sees score ok m t = let (j, a, b, c) = t.reached in subst (λ (z : Float). T (finite z)) c (ok j a b)

tops : (n : ℕ) (sees : ℕ → Bool) (score : ℕ → Float) → ((j : ℕ) → j < n → sees j ≡ true → T (finite (score j))) → Tops n sees score (largest_of n sees score)
unfolding largest_of
tops zero sees score ok = λ j l. absurd (omega arith)
tops (suc n) sees score ok = go (sees n) refl (largest_of n sees score) (tops n sees score before)
  where
    before : (j : ℕ) → j < n → sees j ≡ true → T (finite (score j))
    before j l = ok j (omega arith)

    go : (b : Bool) → sees n ≡ b → (l : Largest) → Tops n sees score l → Tops (suc n) sees score (largest_with b l (score n))
    go false e l t = hidden_step n sees score e l t
    go true e none_seen t = first_step n sees score e (ok n (le_refl (suc n)) e) t
    go true e (largest m) t = greater_step n sees score e (ok n (le_refl (suc n)) e) m (top_finite n sees score before m t) t

module _ (n : ℕ) (sees : ℕ → Bool) (score : ℕ → Float) (ok : (j : ℕ) → j < n → sees j ≡ true → T (finite (score j))) where
  top : (m : Float) → largest_of n sees score ≡ largest m → Top n sees score m
  top m e = subst (Tops n sees score) e (tops n sees score ok)

  -- the largest score is finite
  pub largest_finite_lem : (m : Float) → largest_of n sees score ≡ largest m → T (finite m)
  largest_finite_lem m e = top_finite n sees score ok m (top m e)

  -- no seen score is above the largest
  pub largest_above : (m : Float) → largest_of n sees score ≡ largest m → (j : ℕ) → j < n → sees j ≡ true → T (le (score j) m)
  largest_above m e = (top m e).above

  -- the largest score is the score of a seen position
  pub largest_reached : (m : Float) → largest_of n sees score ≡ largest m → (j : ℕ) × (j < n) × (sees j ≡ true) × (score j ≡ m)
  largest_reached m e = (top m e).reached

  -- E is never asked below 0 or at NaN
  pub asked_where_valued : (m : Float) → largest_of n sees score ≡ largest m → (j : ℕ) → j < n → sees j ≡ true → T (has_value (sub binary32 m (score j)))
  asked_where_valued m e j l s =
      let d = sub binary32 m (score j) in
      let f = largest_finite_lem m e in
      not_either (is_nan d) (lt d plus_zero) (sub_not_nan binary32 m (score j) f (ok j l s)) (not_lt_of_le plus_zero d (zero_le_sub binary32 m (score j) f (ok j l s) (largest_above m e j l s)))

  -- the term of the largest score is 1
  pub largest_term_one : (m : Float) → largest_of n sees score ≡ largest m → term_of (largest m) m ≡ one
  unfolding term_of
  largest_term_one m e = ap (λ (d : Float). value_or_zero (exp_neg_of d)) (sub_self binary32 m (largest_finite_lem m e)) ∙ ap value_or_zero value_at_zero

-- ---- the terms and their sum

zero_in_unit : InUnit plus_zero
unfolding le
zero_in_unit = record { sign = tt; at_most = tt }

-- a term is a number from 0 to 1
pub term_in_unit : (m : Largest) (s : Float) → InUnit (term_of m s)
unfolding term_of
term_in_unit none_seen s = zero_in_unit
term_in_unit (largest m) s = value_or_zero_in_unit (sub binary32 m s)

-- a number from 0 to n, and never -0
pub record InSum (n : ℕ) (x : Float) : Type 0 where
  pub sign : T (plus x)
  pub at_most : T (le x (round binary32 false n 1))

-- n is n * 2 ^ 0
count_plus : (n : ℕ) → n < 2 ^ 24 → T (plus (round binary32 false n 1))
count_plus n h = subst (λ (z : ℕ). T (plus (round binary32 false z 1))) (mul-one n) (whole_plus n 0 h (lit≤ tt))

count_next : (n : ℕ) → n < 2 ^ 24 → add binary32 (round binary32 false n 1) one ≡ round binary32 false (suc n) 1
count_next n h =
    ap (λ (z : ℕ). add binary32 (round binary32 false z 1) one) (sym (mul-one n)) ∙ whole_next n 0 h (lit≤ tt) ∙ ap (λ (z : ℕ). round binary32 false z 1) (mul-one (suc n))

count_mono : (n m : ℕ) → n ≤ m → T (le (round binary32 false n 1) (round binary32 false m 1))
count_mono n m h = round_mono binary32 n 1 m 1 (lit< tt) (lit< tt) (mul-le-mul_right 1 h)

-- a sum of values with a clear sign bit that a finite one bounds has a clear sign bit
add_clear : (x y b : Float) → T (plus x) → T (plus y) → T (finite b) → T (le (add binary32 x y) b) → T (plus (add binary32 x y))
add_clear x y b p q f h =
    let from : T (le plus_zero (add binary32 x y)) =
    subst (λ (z : Float). T (le z (add binary32 x y))) zero_sum
    (add_mono binary32 plus_zero x plus_zero y tt (plus_finite x p) tt (plus_finite y q) (zero-le-float x p) (zero-le-float y q)) in
    add_plus binary32 x y p q (finite_between plus_zero (add binary32 x y) b tt f from h)
  where
    zero_sum : add binary32 plus_zero plus_zero ≡ plus_zero
    zero_sum = unfold add in refl

one_more : (n : ℕ) (x t : Float) → n < 2 ^ 24 → InSum n x → InUnit t → T (le (add binary32 x t) (round binary32 false (suc n) 1))
one_more n x t l a b =
    let c = round binary32 false n 1 in
    subst (λ (z : Float). T (le (add binary32 x t) z)) (count_next n l)
    (add_mono binary32 x c t one (plus_finite x a.sign) (plus_finite c (count_plus n l)) (plus_finite t b.sign) tt a.at_most b.at_most)

-- the sum of n positions' terms, each from 0 to 1, is from 0 to n
pub sum_at_most : (n : ℕ) (sees : ℕ → Bool) (term : ℕ → Float) → n ≤ 2048 → ((j : ℕ) → InUnit (term j)) → InSum n (sum_of n sees term)
unfolding sum_of
sum_at_most zero sees term l units = record { sign = tt; at_most = unfold round le in tt }
sum_at_most (suc n) sees term l units = go (sees n) (sum_at_most n sees term (omega arith) units)
  where
    x : Float
    x = sum_of n sees term

    go : (b : Bool) → InSum n x → InSum (suc n) (add_where b x (term n))
    go true a =
        let to = one_more n x (term n) (omega arith) a (units n) in
        record { sign = add_clear x (term n) (round binary32 false (suc n) 1) a.sign (units n).sign (plus_finite (round binary32 false (suc n) 1) (count_plus (suc n) (omega arith))) to; at_most = to }
    go false a = record { sign = a.sign; at_most = le-trans-float x (round binary32 false n 1) (round binary32 false (suc n) 1) a.at_most (count_mono n (suc n) (omega arith)) }

zero_and_one : add binary32 plus_zero one ≡ one
unfolding add
zero_and_one = refl

one_and_zero : add binary32 one plus_zero ≡ one
unfolding add
one_and_zero = refl

-- a sum with a term 1 at a seen position is at least 1
one_reached : (n : ℕ) (sees : ℕ → Bool) (term : ℕ → Float) → n ≤ 2048 → ((j : ℕ) → InUnit (term j)) → (j : ℕ) → j < n → sees j ≡ true → term j ≡ one → T (le one (sum_of n sees term))
unfolding sum_of
one_reached zero sees term l units j h s e = absurd (omega arith)
one_reached (suc n) sees term l units j h s e =
    last_or_before (λ i. sees i ≡ true → term i ≡ one → T (le one (add_where (sees n) x (term n)))) n
    (λ i k r u. later (sees n) (one_reached n sees term (omega arith) units i k r u)) (λ r u. now (sees n) r u) j h s e
  where
    x : Float
    x = sum_of n sees term

    p : T (plus x)
    p = (sum_at_most n sees term (omega arith) units).sign

    later : (b : Bool) → T (le one x) → T (le one (add_where b x (term n)))
    later false k = k
    later true k =
        subst (λ (z : Float). T (le z (add binary32 x (term n)))) one_and_zero
        (add_mono binary32 one x plus_zero (term n) tt (plus_finite x p) tt (plus_finite (term n) (units n).sign) k (zero-le-float (term n) (units n).sign))

    now : (b : Bool) → b ≡ true → term n ≡ one → T (le one (add_where b x (term n)))
    now false r u = absurd (true≢false (sym r))
    now true r u =
        subst (λ (z : Float). T (le z (add binary32 x (term n)))) zero_and_one
        (add_mono binary32 plus_zero x one (term n) tt (plus_finite x p) tt (plus_finite (term n) (units n).sign) (zero-le-float x p)
        (subst (λ (z : Float). T (le one z)) (sym u) (le-refl-float one (unfold is_nan in tt))))

-- ---- the weights and the output

-- a number from 0 to 1 over one from 1 on is from 0 to 1
quotient_in_unit : (t total : Float) → InUnit t → T (plus total) → T (le one total) → InUnit (div binary32 t total)
quotient_in_unit t total u p h =
    let w = div binary32 t total in
    let f = plus_finite total p in
    let g = plus_finite t u.sign in
    let above_zero : T (lt plus_zero total) = lt_of_lt_of_le plus_zero one total (unfold lt in tt) h in
    let from : T (le plus_zero w) = subst (λ (z : Float). T (le z w)) (zero_div binary32 total p above_zero) (div_mono binary32 plus_zero t total tt g f (unfold le in tt) (zero-le-float t u.sign) above_zero) in
    let to : T (le w one) =
    subst (λ (z : Float). T (le w z)) (div_self binary32 total f above_zero) (div_mono binary32 t total total g f f (zero-le-float t u.sign) (le-trans-float t one total u.at_most h) above_zero) in
    record { sign = div_plus binary32 t total u.sign p above_zero (finite_between plus_zero w one tt tt from to); at_most = to }

module _ (n : ℕ) (sees : ℕ → Bool) (score : ℕ → Float) (small : n ≤ 2048) (ok : (j : ℕ) → j < n → sees j ≡ true → T (finite (score j))) where
  -- a row that sees a position has a largest score
  has_largest : (j : ℕ) → j < n → sees j ≡ true → (m : Float) × (largest_of n sees score ≡ largest m)
  has_largest j l s = go (largest_of n sees score) refl (unfold fully_masked_of in seen_not_masked n sees score j l s)
    where
      go : (k : Largest) → largest_of n sees score ≡ k → is_none (largest_of n sees score) ≡ false → (m : Float) × (largest_of n sees score ≡ largest m)
      go none_seen e h = absurd (true≢false (ap is_none (sym e) ∙ h))
      go (largest m) e h = (m, e)

  -- where the row sees some position, one that it sees has the largest score, and E of that is 1
  pub largest_one : (j : ℕ) → j < n → sees j ≡ true
      → (i : ℕ) × (i < n) × (sees i ≡ true) × ((k : ℕ) → k < n → sees k ≡ true → T (le (score k) (score i))) × (term_of (largest_of n sees score) (score i) ≡ one)
  largest_one j l s =
      let (m, e) = has_largest j l s in
      let (i, a, b, c) = largest_reached n sees score ok m e in (
        i,
        a,
        b,
        λ k q r. subst (λ (z : Float). T (le (score k) z)) (sym c) (largest_above n sees score ok m e k q r),
        ap (λ (k : Largest). term_of k (score i)) e ∙ ap (term_of (largest m)) c ∙ largest_term_one n sees score ok m e,
      )

  -- where the row sees some position, the sum is at least 1
  pub sum_at_least_one : (j : ℕ) → j < n → sees j ≡ true → T (le one (sum_of n sees (λ i. term_of (largest_of n sees score) (score i))))
  sum_at_least_one j l s =
      let (i, a, b, above, t) = largest_one j l s in
      one_reached n sees (λ i. term_of (largest_of n sees score) (score i)) small (λ i. term_in_unit (largest_of n sees score) (score i)) i a b t

  -- a weight is a number from 0 to 1
  pub weight_in_unit : (j : ℕ) → j < n → InUnit (weight_of n sees score j)
  unfolding weight_of
  weight_in_unit j l = go (sees j) (sum_at_least_one j l)
    where
      t : Float
      t = term_of (largest_of n sees score) (score j)

      total : Float
      total = sum_of n sees (λ i. term_of (largest_of n sees score) (score i))

      go : (b : Bool) → (b ≡ true → T (le one total)) → InUnit (weight_where b t total)
      go false h = zero_in_unit
      go true h = quotient_in_unit t total (term_in_unit (largest_of n sees score) (score j)) (sum_at_most n sees (λ i. term_of (largest_of n sees score) (score i)) small (λ i. term_in_unit (largest_of n sees score) (score i))).sign (h refl)

unit_element : mul binary32 one element_bound ≡ element_bound
unfolding mul
unit_element = refl

-- the output over n values within 65,536 is within n * 2 ^ 16
pub output_bounded : (n : ℕ) (sees : ℕ → Bool) (score value : ℕ → Float) → n ≤ 2048 → ((j : ℕ) → j < n → sees j ≡ true → T (finite (score j))) → ((j : ℕ) → j < n → sees j ≡ true → T (bounded element_bound (value j))) → T (bounded (round binary32 false (n * 2 ^ 16) 1) (row_output_of n sees score value))
unfolding row_output_of output_of
output_bounded n sees score value small ok h = sum_bounded n 16 sees (λ j. mul binary32 (weight_of n sees score j) (value j)) (omega arith) (lit≤ tt) term
  where
    term : (j : ℕ) → j < n → sees j ≡ true → T (bounded element_bound (mul binary32 (weight_of n sees score j) (value j)))
    term j l s =
        let w = weight_of n sees score j in
        let u = weight_in_unit n sees score small ok j l in
        subst (λ (b : Float). T (bounded b (mul binary32 w (value j)))) unit_element
        (mul_bounded one element_bound w (value j) tt tt (bounded_of_positive one w (unfold le neg in tt) (zero-le-float w u.sign) u.at_most) (h j l s))
