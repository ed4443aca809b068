-- The steps of `softmax_row` on a row of scores give its weights: +0 throughout where it is fully masked, and otherwise E in place, the sum of all elements and the quotients, hidden positions being +0. E is asked only where it has a value. Assumes nothing.
use mathlib.Core.Path.{◌≡◌, refl, sym, ap, ◌∙◌, subst}
use mathlib.Core.Bool.{Bool, true, false, not, true≢false}
use mathlib.Core.List.{List, map}
use Prim.Native.Nat.{ℕ, zero, suc, ◌≤◌, ◌<◌}
use native.Mathlib.Nat.{le_refl, le_trans, le-suc}
use lib.IntN.{ℤ}
use lib.Dec.{T}
use lib.ListN.{length, length-map, get_or-map, replicate, length-replicate, get_or-replicate}
use lib.Seq.{ext_get_or}
use lib.Ieee.{Float, nan, inf, fin, binary32, add, sub, div, lt, eq, fits, is_nan}
use lib.Ieee.Fits.{add-fits}
use lib.Ieee.Scale.{finite}
use Rattle.float_laws.proofs.Order.{lt_of_lt_of_le as lt-of-lt-of-le-float}
use Rattle.float_laws.proofs.Zero.{add_zero_right, zero_div}
use Rattle.tensor_laws.proofs.Tabulate.{length_tabulate, get_or_tabulate}
use Rattle.exponential.specs.ExpNeg.{plus_zero, one, exp_neg_of, exp_neg_row_of, value_or_zero}
use Rattle.exponential.proofs.Laws.{InUnit, has_value, value_at_infinity, length_row, get_or_row}
use Rattle.softmax.specs.Row.{Largest, none_seen, largest, largest_of, term_of, add_where, sum_of, weight_where, weight_of, is_none, fully_masked_of}
use Rattle.softmax.specs.Lists.{element_of, hidden, is_hidden, is_score_row, sees_of, score_or_hidden, largest_row_of, total_row_of, softmax_row_of, fully_masked_row_of}
use Rattle.softmax.proofs.Structure.{masked_unseen, hidden_weight_zero, agree_sum}
use Rattle.softmax.proofs.Unit.{largest_finite_lem, largest_reached, asked_where_valued, term_in_unit, sum_at_most, sum_at_least_one}
use Rattle.softmax.proofs.Scores.{is_score, score_at_lem}

-- ---- positions that are seen, and those that are not

finite_where : (x : Float) → T (is_score x) → not (is_hidden x) ≡ true → T (finite x)
finite_where nan t h = absurd t
finite_where (inf true) t h = absurd (true≢false (sym h))
finite_where (inf false) t h = absurd t
finite_where (fin s m e) t h = tt

hidden_where : (x : Float) → not (is_hidden x) ≡ false → x ≡ hidden
hidden_where nan h = absurd (true≢false h)
hidden_where (inf true) h = refl
hidden_where (inf false) h = absurd (true≢false h)
hidden_where (fin s m e) h = absurd (true≢false h)

seen_finite : (row : List Float) → T (is_score_row row) → (j : ℕ) → j < length row → sees_of row j ≡ true → T (finite (element_of row j))
seen_finite row t j h s = finite_where (element_of row j) (score_at_lem row t j h) s

-- ---- E at a hidden position

above_hidden : (s : Bool) (m : ℕ) (e : ℤ) → sub binary32 (fin s m e) hidden ≡ inf false
unfolding sub
above_hidden s m e = refl

hidden_valued : (m : Float) → T (finite m) → T (has_value (sub binary32 m hidden))
hidden_valued nan p = elim p [ ]
hidden_valued (inf _) p = elim p [ ]
hidden_valued (fin s m e) p = subst (λ (x : Float). T (has_value x)) (sym (above_hidden s m e)) infinity_valued
  where
    infinity_valued : T (has_value (inf false))
    infinity_valued = unfold is_nan lt in tt

hidden_term : (m : Float) → T (finite m) → term_of (largest m) hidden ≡ plus_zero
unfolding term_of
hidden_term nan p = elim p [ ]
hidden_term (inf _) p = elim p [ ]
hidden_term (fin s m e) p = ap (λ (x : Float). value_or_zero (exp_neg_of x)) (above_hidden s m e) ∙ ap value_or_zero value_at_infinity

-- ---- the sum over all positions is that over the seen ones, where the others' terms are +0

zero_fits : T (fits binary32 plus_zero)
unfolding fits
zero_fits = tt

sum_fits : (n : ℕ) (sees : ℕ → Bool) (term : ℕ → Float) → T (fits binary32 (sum_of n sees term))
unfolding sum_of
sum_fits zero sees term = zero_fits
sum_fits (suc n) sees term = go (sees n) (sum_fits n sees term)
  where
    go : (b : Bool) → T (fits binary32 (sum_of n sees term)) → T (fits binary32 (add_where b (sum_of n sees term) (term n)))
    go true h = add-fits binary32 (sum_of n sees term) (term n)
    go false h = h

sum_all : (n : ℕ) (sees : ℕ → Bool) (term : ℕ → Float) → n ≤ 2048 → ((j : ℕ) → InUnit (term j)) → ((j : ℕ) → j < n → sees j ≡ false → term j ≡ plus_zero) → sum_of n (λ j. true) term ≡ sum_of n sees term
unfolding sum_of
sum_all zero sees term l u z = refl
sum_all (suc n) sees term l u z =
    ap (λ (x : Float). add binary32 x (term n)) (sum_all n sees term (le_trans (le-suc n) l) u (λ j h. z j (le_trans h (le-suc n)))) ∙ go (sees n) refl
  where
    go : (b : Bool) → sees n ≡ b → add binary32 (sum_of n sees term) (term n) ≡ add_where b (sum_of n sees term) (term n)
    go true e = refl
    go false e =
        ap (λ (x : Float). add binary32 (sum_of n sees term) x) (z n (le_refl (suc n)) e)
        ∙ add_zero_right binary32 (sum_of n sees term) (sum_fits n sees term) (sum_at_most n sees term (le_trans (le-suc n) l) u).sign

-- ---- the two ways of a row

module _ (row : List Float) (scores : T (is_score_row row)) (short : length row ≤ 2048) where
  abbrev pub row_largest : Largest
  row_largest = largest_of (length row) (sees_of row) (element_of row)

  -- a fully masked row has the weight +0 throughout
  pub masked_way : row_largest ≡ none_seen → (fully_masked_row_of row ≡ true) × (replicate (length row) plus_zero ≡ softmax_row_of row)
  unfolding fully_masked_row_of fully_masked_of softmax_row_of
  masked_way e =
      let masked : fully_masked_of (length row) (sees_of row) (element_of row) ≡ true = ap is_none e in
      let weights = weight_of (length row) (sees_of row) (element_of row) in (
        masked,
        ext_get_or nan (replicate (length row) plus_zero) (softmax_row_of row) (length-replicate (length row) plus_zero ∙ sym (length_tabulate (length row) weights))
            (λ j h.
            let l : j < length row = subst (λ (k : ℕ). j < k) (length-replicate (length row) plus_zero) h in
            get_or-replicate (length row) j plus_zero nan l
            ∙ sym (get_or_tabulate (length row) weights j nan l ∙ hidden_weight_zero (length row) (sees_of row) (element_of row) j (masked_unseen (length row) (sees_of row) (element_of row) masked j l))),
      )

  -- any other row: the sum of all elements is the sum of the terms, at least 1, and the quotients are the weights
  module _ (m : Float) (e : row_largest ≡ largest m) where
    term_at : ℕ → Float
    term_at j = term_of row_largest (element_of row j)

    unseen_zero : (j : ℕ) → sees_of row j ≡ false → term_at j ≡ plus_zero
    unfolding term_at
    unseen_zero j s =
        ap (λ (l : Largest). term_of l (element_of row j)) e
        ∙ ap (λ (x : Float). term_of (largest m) x) (hidden_where (element_of row j) s)
        ∙ hidden_term m (largest_finite_lem (length row) (sees_of row) (element_of row) (seen_finite row scores) m e)

    element_is_term : (j : ℕ) → j < length row → element_of (exp_neg_row_of (largest_row_of row) row) j ≡ term_at j
    unfolding term_at term_of largest_row_of
    element_is_term j h =
        get_or_row (largest_row_of row) row j nan h
        ∙ ap (λ (l : Largest). value_or_zero (exp_neg_of (sub binary32 (score_or_hidden l) (element_of row j)))) e
        ∙ sym (ap (λ (l : Largest). term_of l (element_of row j)) e)

    -- E is asked only where it has a value, at hidden positions too
    pub asked_valued : (j : ℕ) → j < length row → T (has_value (sub binary32 m (element_of row j)))
    asked_valued j h = go (sees_of row j) refl
      where
        go : (b : Bool) → sees_of row j ≡ b → T (has_value (sub binary32 m (element_of row j)))
        go true s = asked_where_valued (length row) (sees_of row) (element_of row) (seen_finite row scores) m e j h s
        go false s = subst (λ (x : Float). T (has_value (sub binary32 m x))) (sym (hidden_where (element_of row j) s)) (hidden_valued m (largest_finite_lem (length row) (sees_of row) (element_of row) (seen_finite row scores) m e))

    row_sum : Float
    row_sum = sum_of (length row) (sees_of row) term_at

    sum_is_total : total_row_of (exp_neg_row_of (largest_row_of row) row) ≡ row_sum
    unfolding total_row_of row_sum term_at
    sum_is_total =
        let r = exp_neg_row_of (largest_row_of row) row in
        ap (λ (n : ℕ). sum_of n (λ j. true) (element_of r)) (length_row (largest_row_of row) row)
        ∙ agree_sum (length row) (λ j. true) (λ j. true) (element_of r) term_at (λ j h. refl) (λ j h t. element_is_term j h)
        ∙ sum_all (length row) (sees_of row) term_at short (λ j. term_in_unit row_largest (element_of row j)) (λ j h s. unseen_zero j s)

    sum_above_zero : T (lt plus_zero row_sum)
    unfolding row_sum term_at
    sum_above_zero =
        let (j, h, s, v) = largest_reached (length row) (sees_of row) (element_of row) (seen_finite row scores) m e in
        lt-of-lt-of-le-float plus_zero one row_sum (unfold lt in tt) (sum_at_least_one (length row) (sees_of row) (element_of row) short (seen_finite row scores) j h s)

    quotient : (j : ℕ) → (b : Bool) → sees_of row j ≡ b → div binary32 (term_at j) row_sum ≡ weight_where b (term_at j) row_sum
    unfolding row_sum
    quotient j true s = refl
    quotient j false s =
        ap (λ (x : Float). div binary32 x row_sum) (unseen_zero j s)
        ∙ zero_div binary32 row_sum (sum_at_most (length row) (sees_of row) term_at short (λ i. unfold term_at in term_in_unit row_largest (element_of row i))).sign sum_above_zero

    quotients : List Float
    quotients = map (λ x. div binary32 x (total_row_of (exp_neg_row_of (largest_row_of row) row))) (exp_neg_row_of (largest_row_of row) row)

    length_quotients : length quotients ≡ length row
    unfolding quotients
    length_quotients = length-map (exp_neg_row_of (largest_row_of row) row) (λ x. div binary32 x (total_row_of (exp_neg_row_of (largest_row_of row) row))) ∙ length_row (largest_row_of row) row

    quotient_at : (j : ℕ) → j < length row → element_of quotients j ≡ weight_of (length row) (sees_of row) (element_of row) j
    unfolding quotients weight_of row_sum term_at
    quotient_at j h =
        let r = exp_neg_row_of (largest_row_of row) row in
        let total = total_row_of r in
        unfold div in (get_or-map (λ x. div binary32 x total) r j nan)
        ∙ ap (λ (x : Float). div binary32 x total) (element_is_term j h)
        ∙ ap (λ (x : Float). div binary32 (term_at j) x) sum_is_total
        ∙ quotient j (sees_of row j) refl

    pub seen_way : (fully_masked_row_of row ≡ false) × (map (λ x. div binary32 x (total_row_of (exp_neg_row_of (largest_row_of row) row))) (exp_neg_row_of (largest_row_of row) row) ≡ softmax_row_of row)
    unfolding fully_masked_row_of fully_masked_of softmax_row_of quotients
    seen_way =
        let weights = weight_of (length row) (sees_of row) (element_of row) in (
          ap is_none e,
          ext_get_or nan quotients (softmax_row_of row) (length_quotients ∙ sym (length_tabulate (length row) weights))
              (λ j h.
              let l : j < length row = subst (λ (k : ℕ). j < k) length_quotients h in
              quotient_at j l ∙ sym (get_or_tabulate (length row) weights j nan l)),
        )

-- ---- by the code's test of the largest element

-- no finite score is minus infinity
not_hidden : (m : Float) → T (finite m) → eq m hidden ≡ false
unfolding eq
not_hidden nan p = elim p [ ]
not_hidden (inf _) p = elim p [ ]
not_hidden (fin s m e) p = refl

hidden_is_hidden : eq hidden hidden ≡ true
unfolding eq
hidden_is_hidden = refl

module _ (row : List Float) (scores : T (is_score_row row)) (short : length row ≤ 2048) where
  pub tested_masked : eq (largest_row_of row) hidden ≡ true → (true ≡ fully_masked_row_of row) × (replicate (length row) plus_zero ≡ softmax_row_of row)
  unfolding largest_row_of
  tested_masked h = go (largest_of (length row) (sees_of row) (element_of row)) refl
    where
      go : (l : Largest) → largest_of (length row) (sees_of row) (element_of row) ≡ l → (true ≡ fully_masked_row_of row) × (replicate (length row) plus_zero ≡ softmax_row_of row)
      go none_seen e = let w = masked_way row scores short e in (sym w.0, w.1)
      go (largest m) e = absurd (true≢false (sym h ∙ ap (λ (l : Largest). eq (score_or_hidden l) hidden) e ∙ not_hidden m (largest_finite_lem (length row) (sees_of row) (element_of row) (seen_finite row scores) m e)))

  pub tested_seen : eq (largest_row_of row) hidden ≡ false → (false ≡ fully_masked_row_of row) × (map (λ x. div binary32 x (total_row_of (exp_neg_row_of (largest_row_of row) row))) (exp_neg_row_of (largest_row_of row) row) ≡ softmax_row_of row)
  unfolding largest_row_of
  tested_seen h = go (largest_of (length row) (sees_of row) (element_of row)) refl
    where
      go : (l : Largest) → largest_of (length row) (sees_of row) (element_of row) ≡ l → (false ≡ fully_masked_row_of row) × (map (λ x. div binary32 x (total_row_of (exp_neg_row_of (largest_row_of row) row))) (exp_neg_row_of (largest_row_of row) row) ≡ softmax_row_of row)
      go none_seen e = absurd (true≢false (sym hidden_is_hidden ∙ ap (λ (l : Largest). eq (score_or_hidden l) hidden) (sym e) ∙ h))
      go (largest m) e = let w = seen_way row scores short m e in (sym w.0, w.1)
