-- What the functions of this crate make of rows that are given position by position: the scores of keys, a row of scores with hidden positions marked, its weights, and whether it is fully masked. Assumes nothing.
use mathlib.Core.Path.{◌≡◌, refl, sym, ap, ◌∙◌}
use mathlib.Core.Bool.{Bool, true, not}
use mathlib.Core.List.{List}
use Prim.Native.Nat.{ℕ, zero, suc, ◌+◌, ◌*◌, ◌<◌, suc-le-suc}
use native.Mathlib.Nat.{zero-lt-suc}
use lib.Dec.{T}
use lib.ListN.{length}
use lib.Ieee.{Float, nan}
use lib.Ieee.Fits.{and_i}
use Rattle.tensor_laws.specs.Layout.{tabulate}
use Rattle.tensor_laws.proofs.Tabulate.{length_tabulate, get_or_tabulate, tabulate_ext}
use Rattle.softmax.specs.Row.{score_of, fully_masked_of, weight_of}
use Rattle.softmax.specs.Lists.{element_of, is_hidden, is_score_row, sees_of, score_rows_of, softmax_row_of, fully_masked_row_of}
use Rattle.softmax.proofs.Structure.{agree_score, agree_weight, agree_masked}
use Rattle.softmax.proofs.Scores.{is_score}

-- the scores of keys that are given by their elements
pub scores_by_keys : (q keys : List Float) (stride : ℕ) (scale : Float) (n size : ℕ) (key : ℕ → ℕ → Float) → length q ≡ size
    → ((j : ℕ) → j < n → (c : ℕ) → c < size → element_of keys (j * stride + c) ≡ key j c)
    → score_rows_of q keys stride scale n ≡ tabulate n (λ j. score_of size (element_of q) (key j) scale)
unfolding score_rows_of
scores_by_keys q keys stride scale n size key l e =
    ap (λ (m : ℕ). tabulate n (λ j. score_of m (element_of q) (λ c. element_of keys (j * stride + c)) scale)) l
    ∙ tabulate_ext n _ _ (λ j h. agree_score size (element_of q) (element_of q) (λ c. element_of keys (j * stride + c)) (key j) scale (λ c g. refl) (e j h))

-- a row is one of scores where each of its elements is finite or the mark of a hidden position
pub tabulated_scores : (n : ℕ) (f : ℕ → Float) → ((j : ℕ) → j < n → T (is_score (f j))) → T (is_score_row (tabulate n f))
unfolding is_score_row tabulate
tabulated_scores zero f h = tt
tabulated_scores (suc n) f h = and_i (is_score (f 0)) (is_score_row (tabulate n (λ k. f (suc k)))) (h 0 (zero-lt-suc n)) (tabulated_scores n (λ k. f (suc k)) (λ j l. h (suc j) (suc-le-suc l)))

-- a row of scores that is marked as hidden where a position is not seen, and has its score where it is
module _ (n : ℕ) (f : ℕ → Float) (sees : ℕ → Bool) (score : ℕ → Float) (marks : (j : ℕ) → j < n → not (is_hidden (f j)) ≡ sees j) (scores : (j : ℕ) → j < n → sees j ≡ true → f j ≡ score j) where
  element : (j : ℕ) → j < n → element_of (tabulate n f) j ≡ f j
  element j h = get_or_tabulate n f j nan h

  sees_same : (j : ℕ) → j < n → sees_of (tabulate n f) j ≡ sees j
  sees_same j h = ap (λ (x : Float). not (is_hidden x)) (element j h) ∙ marks j h

  score_same : (j : ℕ) → j < n → sees_of (tabulate n f) j ≡ true → element_of (tabulate n f) j ≡ score j
  score_same j h s = element j h ∙ scores j h (sym (sees_same j h) ∙ s)

  -- it is fully masked where the row of the positions seen is
  pub marked_masked : fully_masked_row_of (tabulate n f) ≡ fully_masked_of n sees score
  unfolding fully_masked_row_of
  marked_masked =
      ap (λ (m : ℕ). fully_masked_of m (sees_of (tabulate n f)) (element_of (tabulate n f))) (length_tabulate n f)
      ∙ agree_masked n (sees_of (tabulate n f)) sees (element_of (tabulate n f)) score sees_same score_same

  -- its weights are those of the positions seen
  pub marked_weights : softmax_row_of (tabulate n f) ≡ tabulate n (weight_of n sees score)
  unfolding softmax_row_of
  marked_weights =
      ap (λ (m : ℕ). tabulate m (weight_of m (sees_of (tabulate n f)) (element_of (tabulate n f)))) (length_tabulate n f)
      ∙ tabulate_ext n _ _ (λ j h. agree_weight n (sees_of (tabulate n f)) sees (element_of (tabulate n f)) score j h sees_same score_same)

-- there are as many weights as scores
pub length_softmax : (row : List Float) → length (softmax_row_of row) ≡ length row
unfolding softmax_row_of
length_softmax row = length_tabulate (length row) (weight_of (length row) (sees_of row) (element_of row))
