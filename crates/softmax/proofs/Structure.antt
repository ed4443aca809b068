-- How a row of attention is put together: positions past the last seen one change nothing, rows that agree where they see are equal, a run of seen positions is accumulated, and a row that sees nothing is zero. Assumes nothing.
use mathlib.Core.Path.{◌≡◌, refl, sym, ap, ◌∙◌}
use Prim.Native.Nat.{ℕ, zero, suc, ◌+◌, ◌≤◌, ◌<◌, zero-le}
use native.Mathlib.Nat.{le_refl, add-zero, add-suc}
use native.Mathlib.Omega.{arith}
use mathlib.Core.Bool.{Bool, true, false, not, true≢false}
use lib.Dec.{T, leb, leb→le, nleb→lt}
use lib.Ieee.{Float, binary32, add, mul}
use Rattle.exponential.specs.ExpNeg.{plus_zero}
use Rattle.softmax.specs.Row.{in_lane, lane_of, dot_of, score_of, Largest, none_seen, largest, largest_with, largest_of, is_none, fully_masked_of, term_of, add_where, sum_of, weight_where, weight_of, output_of, row_output_of}
use Rattle.softmax.specs.Lists.{accumulated_of}

-- ---- one position

largest_hidden : (n : ℕ) (sees : ℕ → Bool) (score : ℕ → Float) → sees n ≡ false → largest_of (suc n) sees score ≡ largest_of n sees score
unfolding largest_of
largest_hidden n sees score h = ap (λ (b : Bool). largest_with b (largest_of n sees score) (score n)) h

sum_hidden : (n : ℕ) (sees : ℕ → Bool) (term : ℕ → Float) → sees n ≡ false → sum_of (suc n) sees term ≡ sum_of n sees term
unfolding sum_of
sum_hidden n sees term h = ap (λ (b : Bool). add_where b (sum_of n sees term) (term n)) h

sum_seen : (n : ℕ) (sees : ℕ → Bool) (term : ℕ → Float) → sees n ≡ true → sum_of (suc n) sees term ≡ add binary32 (sum_of n sees term) (term n)
unfolding sum_of
sum_seen n sees term h = ap (λ (b : Bool). add_where b (sum_of n sees term) (term n)) h

-- ---- nothing at or past m is seen

-- what no step from m to n changes is the same at both
unchanged : {A : Type 0} (f : ℕ → A) (m n : ℕ) → m ≤ n → ((j : ℕ) → m ≤ j → j < n → f (suc j) ≡ f j) → f n ≡ f m
unchanged f m zero h step = ap f (omega arith)
unchanged {A} f m (suc n) h step = go (leb m n) (λ t. leb→le m n t) (λ t. nleb→lt m n t)
    (λ (l : m ≤ n). step n l (le_refl (suc n)) ∙ unchanged f m n l (λ j a b. step j a (omega arith)))
  where
    go : (b : Bool) → (T b → m ≤ n) → (T (not b) → n < m) → (m ≤ n → f (suc n) ≡ f m) → f (suc n) ≡ f m
    go true p q r = r (p tt)
    go false p q r = let l : n < m = q tt in ap f (omega arith)

-- if nothing at or past m is seen, the largest score of n positions is that of m
pub cut_largest : (m n : ℕ) (sees : ℕ → Bool) (score : ℕ → Float) → m ≤ n → ((j : ℕ) → m ≤ j → j < n → sees j ≡ false) → largest_of n sees score ≡ largest_of m sees score
cut_largest m n sees score h hides = unchanged (λ k. largest_of k sees score) m n h (λ j a b. largest_hidden j sees score (hides j a b))

-- if nothing at or past m is seen, the sum over n positions is that over m
pub cut_sum : (m n : ℕ) (sees : ℕ → Bool) (term : ℕ → Float) → m ≤ n → ((j : ℕ) → m ≤ j → j < n → sees j ≡ false) → sum_of n sees term ≡ sum_of m sees term
cut_sum m n sees term h hides = unchanged (λ k. sum_of k sees term) m n h (λ j a b. sum_hidden j sees term (hides j a b))

-- if nothing at or past m is seen, the row of n positions is fully masked where that of m is
pub cut_masked : (m n : ℕ) (sees : ℕ → Bool) (score : ℕ → Float) → m ≤ n → ((j : ℕ) → m ≤ j → j < n → sees j ≡ false) → fully_masked_of n sees score ≡ fully_masked_of m sees score
unfolding fully_masked_of
cut_masked m n sees score h hides = ap is_none (cut_largest m n sees score h hides)

-- if nothing at or past m is seen, a position's weight in the row of n positions is its weight in that of m
pub cut_weight : (m n : ℕ) (sees : ℕ → Bool) (score : ℕ → Float) (j : ℕ) → m ≤ n → ((i : ℕ) → m ≤ i → i < n → sees i ≡ false) → weight_of n sees score j ≡ weight_of m sees score j
unfolding weight_of
cut_weight m n sees score j h hides =
    ap (λ (l : Largest). weight_where (sees j) (term_of l (score j)) (sum_of n sees (λ i. term_of l (score i)))) (cut_largest m n sees score h hides)
    ∙ ap (weight_where (sees j) (term_of (largest_of m sees score) (score j))) (cut_sum m n sees (λ i. term_of (largest_of m sees score) (score i)) h hides)

-- ---- rows that agree where they see

largest_agrees : (b b' : Bool) (m m' : Largest) (s s' : Float) → b ≡ b' → m ≡ m' → (b ≡ true → s ≡ s') → largest_with b m s ≡ largest_with b' m' s'
largest_agrees b b' m m' s s' p q r = ap (λ (c : Bool). largest_with c m s) p ∙ ap (λ (l : Largest). largest_with b' l s) q ∙ go b' (λ e. r (p ∙ e))
  where
    go : (c : Bool) → (c ≡ true → s ≡ s') → largest_with c m' s ≡ largest_with c m' s'
    go true h = ap (largest_with true m') (h refl)
    go false h = refl

sum_agrees : (b b' : Bool) (x x' s s' : Float) → b ≡ b' → x ≡ x' → (b ≡ true → s ≡ s') → add_where b x s ≡ add_where b' x' s'
sum_agrees b b' x x' s s' p q r = ap (λ (c : Bool). add_where c x s) p ∙ ap (λ (l : Float). add_where b' l s) q ∙ go b' (λ e. r (p ∙ e))
  where
    go : (c : Bool) → (c ≡ true → s ≡ s') → add_where c x' s ≡ add_where c x' s'
    go true h = ap (add_where true x') (h refl)
    go false h = refl

weight_agrees : (b b' : Bool) (s s' x x' : Float) → b ≡ b' → (b ≡ true → s ≡ s') → x ≡ x' → weight_where b s x ≡ weight_where b' s' x'
weight_agrees b b' s s' x x' p r q = ap (λ (c : Bool). weight_where c s x) p ∙ ap (λ (l : Float). weight_where b' s l) q ∙ go b' (λ e. r (p ∙ e))
  where
    go : (c : Bool) → (c ≡ true → s ≡ s') → weight_where c s x' ≡ weight_where c s' x'
    go true h = ap (λ (z : Float). weight_where true z x') (h refl)
    go false h = refl

-- rows that see the same positions with equal scores there have the same largest score
pub agree_largest : (n : ℕ) (sees sees' : ℕ → Bool) (score score' : ℕ → Float) → ((j : ℕ) → j < n → sees j ≡ sees' j) → ((j : ℕ) → j < n → sees j ≡ true → score j ≡ score' j) → largest_of n sees score ≡ largest_of n sees' score'
unfolding largest_of
agree_largest zero sees sees' score score' p q = refl
agree_largest (suc n) sees sees' score score' p q =
    largest_agrees (sees n) (sees' n) (largest_of n sees score) (largest_of n sees' score') (score n) (score' n) (p n (le_refl (suc n)))
    (agree_largest n sees sees' score score' (λ j l. p j (omega arith)) (λ j l. q j (omega arith))) (q n (le_refl (suc n)))

-- rows that see the same positions with equal terms there have the same sum
pub agree_sum : (n : ℕ) (sees sees' : ℕ → Bool) (term term' : ℕ → Float) → ((j : ℕ) → j < n → sees j ≡ sees' j) → ((j : ℕ) → j < n → sees j ≡ true → term j ≡ term' j) → sum_of n sees term ≡ sum_of n sees' term'
unfolding sum_of
agree_sum zero sees sees' term term' p q = refl
agree_sum (suc n) sees sees' term term' p q =
    sum_agrees (sees n) (sees' n) (sum_of n sees term) (sum_of n sees' term') (term n) (term' n) (p n (le_refl (suc n)))
    (agree_sum n sees sees' term term' (λ j l. p j (omega arith)) (λ j l. q j (omega arith))) (q n (le_refl (suc n)))

-- rows that see the same positions with equal scores there are fully masked alike
pub agree_masked : (n : ℕ) (sees sees' : ℕ → Bool) (score score' : ℕ → Float) → ((j : ℕ) → j < n → sees j ≡ sees' j) → ((j : ℕ) → j < n → sees j ≡ true → score j ≡ score' j) → fully_masked_of n sees score ≡ fully_masked_of n sees' score'
unfolding fully_masked_of
agree_masked n sees sees' score score' p q = ap is_none (agree_largest n sees sees' score score' p q)

term_agrees : (m m' : Largest) (s s' : Float) → m ≡ m' → s ≡ s' → term_of m s ≡ term_of m' s'
term_agrees m m' s s' p q = cc

-- rows that see the same positions with equal scores there have the same weights
pub agree_weight : (n : ℕ) (sees sees' : ℕ → Bool) (score score' : ℕ → Float) (j : ℕ) → j < n → ((i : ℕ) → i < n → sees i ≡ sees' i) → ((i : ℕ) → i < n → sees i ≡ true → score i ≡ score' i) → weight_of n sees score j ≡ weight_of n sees' score' j
unfolding weight_of
agree_weight n sees sees' score score' j h p q =
    let m = largest_of n sees score in
    let m' = largest_of n sees' score' in
    let e : m ≡ m' = agree_largest n sees sees' score score' p q in
    weight_agrees (sees j) (sees' j) (term_of m (score j)) (term_of m' (score' j)) (sum_of n sees (λ i. term_of m (score i))) (sum_of n sees' (λ i. term_of m' (score' i))) (p j h)
    (λ s. term_agrees m m' (score j) (score' j) e (q j h s))
    (agree_sum n sees sees' (λ i. term_of m (score i)) (λ i. term_of m' (score' i)) p (λ i l s. term_agrees m m' (score i) (score' i) e (q i l s)))

product_agrees : (a a' b b' : Float) → a ≡ a' → b ≡ b' → mul binary32 a b ≡ mul binary32 a' b'
product_agrees a a' b b' p q = cc

-- rows that see the same positions with equal scores and values there have the same output
pub agree_output : (n : ℕ) (sees sees' : ℕ → Bool) (score score' value value' : ℕ → Float) → ((j : ℕ) → j < n → sees j ≡ sees' j) → ((j : ℕ) → j < n → sees j ≡ true → score j ≡ score' j) → ((j : ℕ) → j < n → sees j ≡ true → value j ≡ value' j) → row_output_of n sees score value ≡ row_output_of n sees' score' value'
unfolding row_output_of output_of
agree_output n sees sees' score score' value value' p q r =
    agree_sum n sees sees' (λ j. mul binary32 (weight_of n sees score j) (value j)) (λ j. mul binary32 (weight_of n sees' score' j) (value' j)) p
    (λ j l s. product_agrees (weight_of n sees score j) (weight_of n sees' score' j) (value j) (value' j) (agree_weight n sees sees' score score' j l p q) (r j l s))

-- if nothing at or past m is seen, the output of the row of n positions is that of the row of m
pub cut_output : (m n : ℕ) (sees : ℕ → Bool) (score value : ℕ → Float) → m ≤ n → ((j : ℕ) → m ≤ j → j < n → sees j ≡ false) → row_output_of n sees score value ≡ row_output_of m sees score value
unfolding row_output_of output_of
cut_output m n sees score value h hides =
    cut_sum m n sees (λ j. mul binary32 (weight_of n sees score j) (value j)) h hides
    ∙ agree_sum m sees sees (λ j. mul binary32 (weight_of n sees score j) (value j)) (λ j. mul binary32 (weight_of m sees score j) (value j)) (λ j l. refl)
    (λ j l s. product_agrees (weight_of n sees score j) (weight_of m sees score j) (value j) (value j) (cut_weight m n sees score j h hides) refl)

-- rows with equal elements have the same lanes
pub agree_lane : (l n : ℕ) (q q' k k' : ℕ → Float) → ((c : ℕ) → c < n → q c ≡ q' c) → ((c : ℕ) → c < n → k c ≡ k' c) → lane_of l n q k ≡ lane_of l n q' k'
unfolding lane_of
agree_lane l n q q' k k' a b =
    agree_sum n (in_lane l) (in_lane l) (λ c. mul binary32 (q c) (k c)) (λ c. mul binary32 (q' c) (k' c)) (λ c h. refl) (λ c h t. product_agrees (q c) (q' c) (k c) (k' c) (a c h) (b c h))

-- rows with equal elements have the same dot product
pub agree_dot : (n : ℕ) (q q' k k' : ℕ → Float) → ((c : ℕ) → c < n → q c ≡ q' c) → ((c : ℕ) → c < n → k c ≡ k' c) → dot_of n q k ≡ dot_of n q' k'
unfolding dot_of
agree_dot n q q' k k' a b =
    let same : (l : ℕ) → lane_of l n q k ≡ lane_of l n q' k' = λ l. agree_lane l n q q' k k' a b in
    λ i. add binary32 (add binary32 (same 0 i) (same 1 i)) (add binary32 (same 2 i) (same 3 i))

-- rows with equal elements have the same score
pub agree_score : (n : ℕ) (q q' k k' : ℕ → Float) (scale : Float) → ((c : ℕ) → c < n → q c ≡ q' c) → ((c : ℕ) → c < n → k c ≡ k' c) → score_of n q k scale ≡ score_of n q' k' scale
unfolding score_of
agree_score n q q' k k' scale a b = ap (λ (x : Float). mul binary32 x scale) (agree_dot n q q' k k' a b)

-- ---- runs of seen positions

-- the output of a row is that of its weights
pub row_output : (n : ℕ) (sees : ℕ → Bool) (score value : ℕ → Float) → row_output_of n sees score value ≡ output_of n sees (weight_of n sees score) value
unfolding row_output_of
row_output n sees score value = refl

-- the output of no positions is +0
pub output_none : (sees : ℕ → Bool) (weight value : ℕ → Float) → output_of 0 sees weight value ≡ plus_zero
unfolding output_of sum_of
output_none sees weight value = refl

-- the output through a hidden position is the output before it
pub output_skip : (a : ℕ) (sees : ℕ → Bool) (weight value : ℕ → Float) → sees a ≡ false → output_of (suc a) sees weight value ≡ output_of a sees weight value
unfolding output_of
output_skip a sees weight value h = sum_hidden a sees (λ j. mul binary32 (weight j) (value j)) h

-- the output through a seen position is the output before it with the position's weighted value added
pub output_one : (a : ℕ) (sees : ℕ → Bool) (weight value : ℕ → Float) → sees a ≡ true → output_of (suc a) sees weight value ≡ add binary32 (output_of a sees weight value) (mul binary32 (weight a) (value a))
unfolding output_of
output_one a sees weight value h = sum_seen a sees (λ j. mul binary32 (weight j) (value j)) h

-- a run of n seen positions from a on is accumulated onto the output of the first a positions
pub output_run : (a n : ℕ) (sees : ℕ → Bool) (weight value : ℕ → Float) → ((j : ℕ) → j < n → sees (a + j) ≡ true) → accumulated_of n (λ j. weight (a + j)) (λ j. value (a + j)) (output_of a sees weight value) ≡ output_of (a + n) sees weight value
unfolding accumulated_of
output_run a zero sees weight value h = ap (λ (k : ℕ). output_of k sees weight value) (sym (add-zero a))
output_run a (suc n) sees weight value h =
    ap (λ (x : Float). add binary32 x (mul binary32 (weight (a + n)) (value (a + n)))) (output_run a n sees weight value (λ j l. h j (omega arith)))
    ∙ sym (output_one (a + n) sees weight value (h n (le_refl (suc n))))
    ∙ ap (λ (k : ℕ). output_of k sees weight value) (sym (add-suc a n))

-- ---- rows that see nothing

none_first : (sees : ℕ → Bool) (score : ℕ → Float) → fully_masked_of 0 sees score ≡ true
unfolding fully_masked_of largest_of
none_first sees score = refl

-- a row that sees no position is fully masked
pub masked_none : (n : ℕ) (sees : ℕ → Bool) (score : ℕ → Float) → ((j : ℕ) → j < n → sees j ≡ false) → fully_masked_of n sees score ≡ true
masked_none n sees score h = cut_masked 0 n sees score zero-le (λ j a b. h j b) ∙ none_first sees score

one_seen : (m : Largest) (s : Float) → is_none (largest_with true m s) ≡ false
one_seen none_seen s = refl
one_seen (largest m) s = refl

still_seen : (b : Bool) (m : Largest) (s : Float) → is_none m ≡ false → is_none (largest_with b m s) ≡ false
still_seen true m s h = one_seen m s
still_seen false m s h = h

-- a row that sees a position is not fully masked
pub seen_not_masked : (n : ℕ) (sees : ℕ → Bool) (score : ℕ → Float) (j : ℕ) → j < n → sees j ≡ true → fully_masked_of n sees score ≡ false
unfolding fully_masked_of largest_of
seen_not_masked zero sees score j h e = absurd (omega arith)
seen_not_masked (suc n) sees score j h e = go (leb (suc j) n) (λ t. leb→le (suc j) n t) (λ t. nleb→lt (suc j) n t) (λ (l : j < n). seen_not_masked n sees score j l e)
  where
    go : (b : Bool) → (T b → j < n) → (T (not b) → n < suc j) → (j < n → is_none (largest_of n sees score) ≡ false) → is_none (largest_with (sees n) (largest_of n sees score) (score n)) ≡ false
    go true p q r = still_seen (sees n) (largest_of n sees score) (score n) (r (p tt))
    go false p q r =
        let l : n < suc j = q tt in
        let k : n ≡ j = omega arith in
        ap (λ (b : Bool). is_none (largest_with b (largest_of n sees score) (score n))) (ap sees k ∙ e) ∙ one_seen (largest_of n sees score) (score n)

-- a fully masked row sees no position
pub masked_unseen : (n : ℕ) (sees : ℕ → Bool) (score : ℕ → Float) → fully_masked_of n sees score ≡ true → (j : ℕ) → j < n → sees j ≡ false
masked_unseen n sees score h j l = go (sees j) refl
  where
    go : (b : Bool) → sees j ≡ b → sees j ≡ false
    go true e = absurd (true≢false (sym h ∙ seen_not_masked n sees score j l e))
    go false e = e

-- the output of a fully masked row is +0
pub masked_output_zero : (n : ℕ) (sees : ℕ → Bool) (score value : ℕ → Float) → fully_masked_of n sees score ≡ true → row_output_of n sees score value ≡ plus_zero
unfolding row_output_of output_of sum_of
masked_output_zero n sees score value h = cut_sum 0 n sees (λ j. mul binary32 (weight_of n sees score j) (value j)) zero-le (λ j a b. masked_unseen n sees score h j b)

-- the weight of a hidden position is +0
pub hidden_weight_zero : (n : ℕ) (sees : ℕ → Bool) (score : ℕ → Float) (j : ℕ) → sees j ≡ false → weight_of n sees score j ≡ plus_zero
unfolding weight_of
hidden_weight_zero n sees score j h =
    let m = largest_of n sees score in
    ap (λ (b : Bool). weight_where b (term_of m (score j)) (sum_of n sees (λ i. term_of m (score i)))) h
