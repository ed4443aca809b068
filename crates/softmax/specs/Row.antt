-- One row of attention over n positions, as functions of the position: which are seen (admitted), the score of each after the mask, and the value of each in one column.
-- Steps 1 and 3 to 5 of the rounding order; each operation is one f32 operation, and positions rise. Definitions only.
use Rattle.std.specs.Prelude.{ℕ, zero, suc, ◌%◌, Bool, true, false, eqb, Float}
use Rattle.std.specs.Float.{binary32}
use Rattle.std.specs.Float.Ieee.{add, sub, mul, div, lt}
use Rattle.exponential.specs.ExpNeg.{plus_zero, exp_neg_of, value_or_zero}

-- ---- sums

-- x with a seen position's term added, and x itself at a position that is not seen
abbrev pub add_where : Bool → Float → Float → Float
add_where true x term = add binary32 x term
add_where false x term = x

-- the sum of the seen positions' terms, from +0
unfoldable pub sum_of : ℕ → (ℕ → Bool) → (ℕ → Float) → Float
unfolding add
sum_of zero sees term = plus_zero
sum_of (suc n) sees term = add_where (sees n) (sum_of n sees term) (term n)

-- ---- step 1

-- lane l takes the indexes whose remainder by 4 is l
abbrev pub in_lane : ℕ → ℕ → Bool
in_lane l c = eqb (c % 4) l

-- lane l of two rows of n elements: from +0, the products of the elements that it takes, their index rising
unfoldable pub lane_of : ℕ → ℕ → (ℕ → Float) → (ℕ → Float) → Float
unfolding mul sum_of
lane_of l n q k = sum_of n (in_lane l) (λ c. mul binary32 (q c) (k c))

-- the dot product of two rows of n elements: (lane 0 + lane 1) + (lane 2 + lane 3)
unfoldable pub dot_of : ℕ → (ℕ → Float) → (ℕ → Float) → Float
unfolding add lane_of
dot_of n q k = add binary32 (add binary32 (lane_of 0 n q k) (lane_of 1 n q k)) (add binary32 (lane_of 2 n q k) (lane_of 3 n q k))

-- s: the finished dot product times the scale
unfoldable pub score_of : ℕ → (ℕ → Float) → (ℕ → Float) → Float → Float
unfolding mul dot_of
score_of n q k scale = mul binary32 (dot_of n q k) scale

-- ---- step 3: the largest score

-- none, or the largest score so far
pub data Largest : Type 0 where
  none_seen : Largest
  largest : Float → Largest

-- the greater of the two, the first where neither is strictly greater
abbrev pub greater : Bool → Float → Float → Float
greater true m s = s
greater false m s = m

-- the first seen score, replaced only by a strictly greater one
abbrev pub largest_with : Bool → Largest → Float → Largest
largest_with false m s = m
largest_with true none_seen s = largest s
largest_with true (largest m) s = largest (greater (lt m s) m s)

unfoldable pub largest_of : ℕ → (ℕ → Bool) → (ℕ → Float) → Largest
unfolding lt
largest_of zero sees score = none_seen
largest_of (suc n) sees score = largest_with (sees n) (largest_of n sees score) (score n)

-- a row that sees no position is fully masked (a blind row)
abbrev pub is_none : Largest → Bool
is_none none_seen = true
is_none (largest m) = false

unfoldable pub fully_masked_of : ℕ → (ℕ → Bool) → (ℕ → Float) → Bool
unfolding largest_of
fully_masked_of n sees score = is_none (largest_of n sees score)

-- ---- step 4: E(m - s), the sum and the weights

-- E(m - s); +0 where there is no largest score
unfoldable pub term_of : Largest → Float → Float
unfolding sub exp_neg_of
term_of none_seen s = plus_zero
term_of (largest m) s = value_or_zero (exp_neg_of (sub binary32 m s))

abbrev pub weight_where : Bool → Float → Float → Float
weight_where true term total = div binary32 term total
weight_where false term total = plus_zero

-- the weight of position j: its term over the sum where it is seen, +0 where not
unfoldable pub weight_of : ℕ → (ℕ → Bool) → (ℕ → Float) → ℕ → Float
unfolding div sum_of term_of largest_of
weight_of n sees score j =
    let m = largest_of n sees score in
    weight_where (sees j) (term_of m (score j)) (sum_of n sees (λ i. term_of m (score i)))

-- ---- step 5: the output

-- one column of the output: from +0, weight * value added over the seen positions
unfoldable pub output_of : ℕ → (ℕ → Bool) → (ℕ → Float) → (ℕ → Float) → Float
unfolding mul sum_of
output_of n sees weight value = sum_of n sees (λ j. mul binary32 (weight j) (value j))

-- the output of a row, by its scores
unfoldable pub row_output_of : ℕ → (ℕ → Bool) → (ℕ → Float) → (ℕ → Float) → Float
unfolding output_of weight_of
row_output_of n sees score value = output_of n sees (weight_of n sees score) value
