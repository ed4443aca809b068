-- The same steps on rows that are lists, as the functions of this crate have them. A hidden position (one that is not admitted) is marked by minus infinity in a row of scores. Definitions only.
use Rattle.std.specs.Prelude.{ℕ, ◌+◌, ◌*◌, Bool, true, false, not, ◌||◌, ◌&&◌, List, [], ◌∷◌, length, get_or, Float}
use Rattle.std.specs.Float.{nan, inf, fin, binary32}
use Rattle.std.specs.Float.Ieee.{add, mul}
use Rattle.std.specs.Float.Ieee.Scale.{finite}
use Rattle.tensor_laws.specs.Layout.{tabulate}
use Rattle.softmax.specs.Row.{dot_of, score_of, Largest, none_seen, largest, largest_of, sum_of, weight_of, fully_masked_of}

-- element i of a list
abbrev pub element_of : List Float → ℕ → Float
element_of row i = get_or row i nan

-- ---- scores

-- the mark of a hidden position
abbrev pub hidden : Float
hidden = inf true

abbrev pub is_hidden : Float → Bool
is_hidden nan = false
is_hidden (inf s) = s
is_hidden (fin s m e) = false

-- every element is a finite score or the mark of a hidden position
unfoldable pub is_score_row : List Float → Bool
is_score_row [] = true
is_score_row (x ∷ row) = (finite x || is_hidden x) && is_score_row row

-- which positions a row of scores sees
abbrev pub sees_of : List Float → ℕ → Bool
sees_of row j = not (is_hidden (element_of row j))

-- the dot product of two rows
unfoldable pub dot_row_of : List Float → List Float → Float
unfolding dot_of
dot_row_of q k = dot_of (length q) (element_of q) (element_of k)

-- the scores of n keys, the row of key j starting at j * stride
unfoldable pub score_rows_of : List Float → List Float → ℕ → Float → ℕ → List Float
unfolding tabulate score_of
score_rows_of q keys stride scale n = tabulate n (λ j. score_of (length q) (element_of q) (λ c. element_of keys (j * stride + c)) scale)

-- the largest element of a row of scores, and the mark of a hidden position where every position is hidden
abbrev pub score_or_hidden : Largest → Float
score_or_hidden none_seen = hidden
score_or_hidden (largest m) = m

unfoldable pub largest_row_of : List Float → Float
unfolding largest_of
largest_row_of row = score_or_hidden (largest_of (length row) (sees_of row) (element_of row))

-- the sum of all elements, from +0
unfoldable pub total_row_of : List Float → Float
unfolding sum_of
total_row_of row = sum_of (length row) (λ j. true) (element_of row)

-- the weights of a row of scores, and whether it is fully masked
unfoldable pub softmax_row_of : List Float → List Float
unfolding tabulate weight_of
softmax_row_of row = tabulate (length row) (weight_of (length row) (sees_of row) (element_of row))

unfoldable pub fully_masked_row_of : List Float → Bool
unfolding fully_masked_of
fully_masked_row_of row = fully_masked_of (length row) (sees_of row) (element_of row)

-- ---- the weighted sum

-- x with weight * value added for each of n positions, rising
unfoldable pub accumulated_of : ℕ → (ℕ → Float) → (ℕ → Float) → Float → Float
unfolding add mul
accumulated_of ℕ.zero weight value x = x
accumulated_of (ℕ.suc n) weight value x = add binary32 (accumulated_of n weight value x) (mul binary32 (weight n) (value n))

-- each column of the output row with weight * value added
unfoldable pub accumulated_row_of : Float → List Float → List Float → List Float
unfolding tabulate add mul
accumulated_row_of weight value out = tabulate (length out) (λ c. add binary32 (element_of out c) (mul binary32 weight (element_of value c)))

-- each column of the output row with the weighted values of all positions added, the row of position j starting at j * stride
unfoldable pub weighted_rows_of : List Float → List Float → ℕ → List Float → List Float
unfolding tabulate accumulated_of
weighted_rows_of weights values stride out = tabulate (length out) (λ c. accumulated_of (length weights) (element_of weights) (λ j. element_of values (j * stride + c)) (element_of out c))
