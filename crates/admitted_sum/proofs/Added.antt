-- The weighted sum over seen positions: in two runs one after the other, from rows that agree, and from +0 as the row formula has it.
use mathlib.Core.Path.{◌≡◌, refl, sym, ap, ◌∙◌}
use mathlib.Core.Bool.{Bool, true, false}
use mathlib.Core.List.{List}
use Prim.Native.Nat.{ℕ, zero, suc, ◌+◌, ◌<◌}
use native.Mathlib.Nat.{le_refl, add-zero, add-suc}
use native.Mathlib.Omega.{arith}
use lib.ListN.{length, replicate, length-replicate, get_or-replicate}
use lib.Ieee.{Float, nan, binary32, mul}
use Rattle.tensor_laws.specs.Layout.{tabulate}
use Rattle.tensor_laws.proofs.Tabulate.{length_tabulate, get_or_tabulate, tabulate_ext, tabulate_get_d}
use Rattle.exponential.specs.ExpNeg.{plus_zero}
use Rattle.softmax.specs.Row.{add_where, output_of}
use Rattle.softmax.specs.Lists.{element_of}
use Rattle.softmax.proofs.Structure.{output_none, output_skip, output_one}
use Rattle.admitted_sum.specs.Sums.{added_of, added_row_of}

-- ---- one column

-- the positions from a on are added to what the first a give
pub added_runs : (a n : ℕ) (sees : ℕ → Bool) (weight value : ℕ → Float) (x : Float)
    → added_of n (λ j. sees (a + j)) (λ j. weight (a + j)) (λ j. value (a + j)) (added_of a sees weight value x) ≡ added_of (a + n) sees weight value x
unfolding added_of
added_runs a zero sees weight value x = ap (λ (m : ℕ). added_of m sees weight value x) (sym (add-zero a))
added_runs a (suc n) sees weight value x =
    ap (λ (z : Float). add_where (sees (a + n)) z (mul binary32 (weight (a + n)) (value (a + n)))) (added_runs a n sees weight value x)
    ∙ ap (λ (m : ℕ). added_of m sees weight value x) (sym (add-suc a n))

agreed : (p p' : Bool) (z z' w w' v v' : Float) → p ≡ p' → z ≡ z' → w ≡ w' → v ≡ v' → add_where p z (mul binary32 w v) ≡ add_where p' z' (mul binary32 w' v')
agreed p p' z z' w w' v v' a b c d = cc

-- rows that see the same positions, with the same weights and values, give the same
pub added_agree : (n : ℕ) (sees sees' : ℕ → Bool) (weight weight' value value' : ℕ → Float) (x : Float)
    → ((j : ℕ) → j < n → sees j ≡ sees' j) → ((j : ℕ) → j < n → weight j ≡ weight' j) → ((j : ℕ) → j < n → value j ≡ value' j)
    → added_of n sees weight value x ≡ added_of n sees' weight' value' x
unfolding added_of
added_agree zero sees sees' weight weight' value value' x p q r = refl
added_agree (suc n) sees sees' weight weight' value value' x p q r =
    agreed (sees n) (sees' n) (added_of n sees weight value x) (added_of n sees' weight' value' x) (weight n) (weight' n) (value n) (value' n) (p n (le_refl (suc n)))
    (added_agree n sees sees' weight weight' value value' x (λ j l. p j (omega arith)) (λ j l. q j (omega arith)) (λ j l. r j (omega arith)))
    (q n (le_refl (suc n))) (r n (le_refl (suc n)))

-- from +0 it is the output of the row formula
pub added_output : (n : ℕ) (sees : ℕ → Bool) (weight value : ℕ → Float) → added_of n sees weight value plus_zero ≡ output_of n sees weight value
unfolding added_of
added_output zero sees weight value = sym (output_none sees weight value)
added_output (suc n) sees weight value =
    ap (λ (z : Float). add_where (sees n) z (mul binary32 (weight n) (value n))) (added_output n sees weight value) ∙ go (sees n) refl
  where
    go : (t : Bool) → sees n ≡ t → add_where t (output_of n sees weight value) (mul binary32 (weight n) (value n)) ≡ output_of (suc n) sees weight value
    go true e = sym (output_one n sees weight value e)
    go false e = sym (output_skip n sees weight value e)

-- ---- the columns of an output row

module _ (sees : ℕ → Bool) (weight : ℕ → Float) (value : ℕ → ℕ → Float) (out : List Float) where
  pub length_added : (n : ℕ) → length (added_row_of n sees weight value out) ≡ length out
  unfolding added_row_of
  length_added n = length_tabulate (length out) _

  -- no position changes the row
  pub added_row_none : added_row_of 0 sees weight value out ≡ out
  unfolding added_row_of added_of
  added_row_none = tabulate_get_d out nan

  -- the positions from a on are added to what the first a give
  pub added_row_runs : (a n : ℕ) → added_row_of n (λ j. sees (a + j)) (λ j. weight (a + j)) (λ j. value (a + j)) (added_row_of a sees weight value out) ≡ added_row_of (a + n) sees weight value out
  unfolding added_row_of
  added_row_runs a n =
      let column : ℕ → Float = λ k. added_of a sees weight (λ j. value j k) (element_of out k) in
      let more : ℕ → Float → Float = λ k z. added_of n (λ j. sees (a + j)) (λ j. weight (a + j)) (λ j. value (a + j) k) z in
      ap (λ (m : ℕ). tabulate m (λ k. more k (element_of (tabulate (length out) column) k))) (length_tabulate (length out) column)
      ∙ tabulate_ext (length out) _ _
      (λ k h. ap (more k) (get_or_tabulate (length out) column k nan h) ∙ added_runs a n sees weight (λ j. value j k) (element_of out k))

-- rows that see the same positions, with the same weights and values in the columns, give the same
pub added_row_agree : (n : ℕ) (sees sees' : ℕ → Bool) (weight weight' : ℕ → Float) (value value' : ℕ → ℕ → Float) (out : List Float)
    → ((j : ℕ) → j < n → sees j ≡ sees' j) → ((j : ℕ) → j < n → weight j ≡ weight' j) → ((j : ℕ) → j < n → (k : ℕ) → k < length out → value j k ≡ value' j k)
    → added_row_of n sees weight value out ≡ added_row_of n sees' weight' value' out
unfolding added_row_of
added_row_agree n sees sees' weight weight' value value' out p q r =
    tabulate_ext (length out) _ _ (λ k h. added_agree n sees sees' weight weight' (λ j. value j k) (λ j. value' j k) (element_of out k) p q (λ j l. r j l k h))

-- from a row of +0 the columns are the outputs of the row formula
pub added_row_output : (n m : ℕ) (sees : ℕ → Bool) (weight : ℕ → Float) (value : ℕ → ℕ → Float)
    → added_row_of n sees weight value (replicate m plus_zero) ≡ tabulate m (λ k. output_of n sees weight (λ j. value j k))
unfolding added_row_of
added_row_output n m sees weight value =
    ap (λ (l : ℕ). tabulate l (λ k. added_of n sees weight (λ j. value j k) (element_of (replicate m plus_zero) k))) (length-replicate m plus_zero)
    ∙ tabulate_ext m _ _ (λ k h. ap (added_of n sees weight (λ j. value j k)) (get_or-replicate m k plus_zero nan h) ∙ added_output n sees weight (λ j. value j k))
