-- What the lanes of a key are joined to, and scores in blocks. Assumes nothing.
use Rattle.std.proofs.Common.{Bool, true, false, not, ◌≡◌, sym, ap, ◌∙◌, List, length, take, drop, ℕ, ◌+◌, ◌*◌, ◌%◌, ◌≤◌, ◌<◌, refl, add-zero, arith}
use lib.Dec.{T, ltb, ltb→lt, nltb→le}
use Rattle.std.proofs.Math.Nat.{add-mul}
use Rattle.std.proofs.Math.Seq.{drop-length}
use Rattle.std.proofs.lemmas.List.{append-nil}
use Rattle.std.specs.Float.{Float, nan, binary32}
use Rattle.std.specs.Float.Ieee.{add, mul}
use Rattle.tensor_laws.specs.Layout.{tabulate}
use Rattle.tensor_laws.proofs.Tabulate.{tabulate_ext, tabulate_get_d, get_or_tabulate}
use Rattle.tensor_laws.proofs.Parts.{with_part, length_part as length_block}
use Rattle.tensor_laws.proofs.Tails.{part_of, length_part, get_or_part}
use Rattle.tensor_laws.proofs.Blocks.{written_to}
use Rattle.softmax.specs.Row.{lane_of, dot_of, score_of}
use Rattle.softmax.specs.Lists.{element_of, dot_row_of, score_rows_of}
use Rattle.softmax.proofs.Rows.{dot_row}
use Rattle.lanes.specs.Sums.{lane_at}
use Rattle.lanes.proofs.Keys.{lane_of_key}
use Rattle.lanes_keys.proofs.Blocks.{block_written}
use Rattle.scores.specs.Sums.{joined_at, fours_or_sixteen, block_of}

-- a list whose elements are f 0, f 1, ..
pub tabulate_by : (n : ℕ) (f : ℕ → Float) (r : List Float) → length r ≡ n → ((k : ℕ) → k < n → element_of r k ≡ f k) → r ≡ tabulate n f
tabulate_by n f r e h = sym (tabulate_get_d r nan) ∙ ap (λ (m : ℕ). tabulate m (element_of r)) e ∙ tabulate_ext n (element_of r) f h

-- the score of key j
abbrev pub score_of_key : List Float → List Float → ℕ → Float → ℕ → Float
score_of_key q keys stride scale j = score_of (length q) (element_of q) (λ c. element_of keys (j * stride + c)) scale

-- it is the dot product with the row of key j, scaled
pub score_of_row : (q keys : List Float) (stride : ℕ) (scale : Float) (j n : ℕ) → length q ≤ n → mul binary32 (dot_row_of q (take n (drop (j * stride) keys))) scale ≡ score_of_key q keys stride scale j
unfolding score_of
score_of_row q keys stride scale j n h = ap (λ (x : Float). mul binary32 x scale) (dot_row q keys (j * stride) n h)

-- it is what the lanes of key j are joined to, among those of m keys
pub joined_score : (q keys lanes : List Float) (stride : ℕ) (scale : Float) (m j : ℕ) → lanes ≡ tabulate (m * 4) (lane_at q keys stride (length q)) → j < m → joined_at lanes scale j ≡ score_of_key q keys stride scale j
unfolding score_of dot_of
joined_score q keys lanes stride scale m j e h =
    let here : (l : ℕ) → l < 4 → element_of lanes (j * 4 + l) ≡ lane_of l (length q) (element_of q) (λ c. element_of keys (j * stride + c)) = λ l g. lane l g in
    let first : element_of lanes (j * 4) ≡ lane_of 0 (length q) (element_of q) (λ c. element_of keys (j * stride + c)) = ap (element_of lanes) (sym (add-zero (j * 4))) ∙ here 0 (omega arith) in
    λ i. mul binary32 (add binary32 (add binary32 (first i) (here 1 (omega arith) i)) (add binary32 (here 2 (omega arith) i) (here 3 (omega arith) i))) scale
  where
    lane : (l : ℕ) → l < 4 → element_of lanes (j * 4 + l) ≡ lane_of l (length q) (element_of q) (λ c. element_of keys (j * stride + c))
    lane l g = ap (λ (r : List Float). element_of r (j * 4 + l)) e ∙ get_or_tabulate (m * 4) (lane_at q keys stride (length q)) (j * 4 + l) nan (omega arith) ∙ lane_of_key q keys stride (length q) j l g

-- ---- the keys in blocks

-- the scores of the keys from key j on, as those of the part that starts with it
pub scores_from : (q keys : List Float) (stride : ℕ) (scale : Float) (j n : ℕ) → score_rows_of q (part_of (j * stride) keys) stride scale n ≡ tabulate n (λ i. score_of_key q keys stride scale (j + i))
unfolding score_rows_of
scores_from q keys stride scale j n =
    tabulate_ext n _ _ (λ i l k. score_of (length q) (element_of q) (λ c. element_from i c k) scale)
  where
    element_from : (i c : ℕ) → element_of (part_of (j * stride) keys) (i * stride + c) ≡ element_of keys ((j + i) * stride + c)
    element_from i c =
        let e : j * stride + (i * stride + c) ≡ (j + i) * stride + c = omega (arith, add-mul j i stride) in
        get_or_part (j * stride) keys (i * stride + c) nan ∙ ap (element_of keys) e

-- the scores of all keys
pub scores_all : (q keys : List Float) (stride : ℕ) (scale : Float) (n : ℕ) → tabulate n (score_of_key q keys stride scale) ≡ score_rows_of q keys stride scale n
unfolding score_rows_of
scores_all q keys stride scale n = refl

-- the scores of the keys of a block that starts with key j written in their place
pub block_scored : (q keys : List Float) (stride : ℕ) (scale : Float) (l o r : List Float) (j k m : ℕ) → o ≡ written_to (score_of_key q keys stride scale) j l → length o ≡ length l → j + k ≤ length l → m ≡ j + k
    → r ≡ score_rows_of q (part_of (j * stride) keys) stride scale (length (take k (drop j o))) → with_part j k o r ≡ written_to (score_of_key q keys stride scale) m l
block_scored q keys stride scale l o r j k m e long h em er =
    let size : length (take k (drop j o)) ≡ k = length_block j k o (omega arith) in
    block_written (score_of_key q keys stride scale) l o j k k e refl h m r em (rw size at er ∙ scores_from q keys stride scale j k)

-- all written
pub all_scored : (q keys : List Float) (stride : ℕ) (scale : Float) (l o : List Float) (j : ℕ) → o ≡ written_to (score_of_key q keys stride scale) j l → j ≡ length l → o ≡ score_rows_of q keys stride scale (length l)
unfolding score_rows_of
all_scored q keys stride scale l o j e all = rw (e, all, drop-length l, append-nil)

-- the rows of the keys of a block that starts with key j are inside the part of the keys that starts with it
pub block_inside : (keys : List Float) (stride size j n m : ℕ) → ((k : ℕ) → k < n → k * stride + size ≤ length keys) → j + m ≤ n → (i : ℕ) → i < m → i * stride + size ≤ length (part_of (j * stride) keys)
block_inside keys stride size j n m h e i l = rw length_part (omega (arith, h (j + i) (omega arith), add-mul j i stride))

-- a block of the keys that are left, where there are four: fours, no more than are left, sixteen at most
pub block_fits : (left m : ℕ) → 4 ≤ left → m ≡ block_of left → (m % 4 ≡ 0) × (m ≤ left) × (m ≤ 16) × (4 ≤ m)
block_fits left m h e = go (ltb left 16) (λ t. ltb→lt left 16 t) (λ t. nltb→le left 16 t) e
  where
    go : (b : Bool) → (T b → left < 16) → (T (not b) → 16 ≤ left) → m ≡ fours_or_sixteen b left → (m % 4 ≡ 0) × (m ≤ left) × (m ≤ 16) × (4 ≤ m)
    go true below above e = let l = below tt in (omega arith, omega arith, omega arith, omega arith)
    go false below above e = let l = above tt in (omega arith, omega arith, omega arith, omega arith)
