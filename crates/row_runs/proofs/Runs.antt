-- A run of positions of one key head that stand in one of the two tensors: their rows are within the part that is lent, and the scores and the weighted sum over that part are those of the positions. Assumes nothing.
use mathlib.Core.Path.{◌≡◌, refl, ap, ◌∙◌}
use mathlib.Core.Bool.{Bool}
use mathlib.Core.List.{List}
use Prim.Native.Nat.{ℕ, ◌+◌, ◌-◌, ◌*◌, ◌≤◌, ◌<◌, min}
use native.Mathlib.Nat.{zero-add, add-sub_of_le}
use native.Mathlib.Omega.{arith}
use lib.ListN.{length, take}
use lib.Seq.{length-take-le, get_or-take}
use lib.Ieee.{Float, nan}
use Rattle.tensor_laws.specs.Layout.{tabulate}
use Rattle.softmax.specs.Row.{score_of}
use Rattle.softmax.specs.Lists.{element_of, score_rows_of}
use Rattle.softmax.proofs.Positions.{scores_by_keys}
use Rattle.call.specs.declared.Call.{Call}
use Rattle.call.specs.Limits.{total_of}
use Rattle.attention.specs.Elements.{position_cell}
use Rattle.caches.specs.Fits.{CacheFits}
use Rattle.caches.specs.Rows.{stride_from, position_run}
use Rattle.caches.proofs.Positions.{row_in_run, run_cell}
use Rattle.admitted_sum.specs.Sums.{added_row_of}
use Rattle.tensor_laws.proofs.Tails.{part_of, length_part, get_or_part}
use Rattle.admitted_sum.proofs.Added.{added_row_agree, added_row_runs}
use Rattle.row_runs.specs.Runs.{RunFits}

-- a run that is not empty starts with the row of a position
pub run_start : {c : Call} {past_length incoming_length size b g from n : ℕ} → RunFits c past_length incoming_length size b g from n → 0 < n → CacheFits c past_length incoming_length size b g from
run_start f h = record { limits = f.limits; size_some = f.size_some; size_most = f.size_most; past_length_is = f.past_length_is; incoming_length_is = f.incoming_length_is; batch = f.batch; head = f.head; position = omega (arith, f.inside) }

-- the same of another run that stands in one of the two tensors
run_within : {c : Call} {past_length incoming_length size b g from n : ℕ} → RunFits c past_length incoming_length size b g c.past 0 → (from < c.past → from + n ≤ c.past) → from + n ≤ total_of c → RunFits c past_length incoming_length size b g from n
run_within f p q = record { limits = f.limits; size_some = f.size_some; size_most = f.size_most; past_length_is = f.past_length_is; incoming_length_is = f.incoming_length_is; batch = f.batch; head = f.head; together = p; inside = q }

-- n positions from 0 on in two runs, of which the first ends at the smaller of P and n
module _ (c : Call) (past_length incoming_length size b g n cut : ℕ) (f : RunFits c past_length incoming_length size b g c.past 0) (l : n ≤ total_of c) (s : cut ≡ min c.past n) where
  pub first_run : (k : ℕ) → k ≡ cut → RunFits c past_length incoming_length size b g 0 k
  first_run k e = run_within f (λ h. omega (arith, s)) (omega (arith, s))

  pub second_run : (k : ℕ) → k ≡ n - cut → RunFits c past_length incoming_length size b g cut k
  second_run k e = run_within f (λ h. omega (arith, s)) (omega (arith, s))

module _ (c : Call) (past incoming : List Float) (size b g from n : ℕ) (f : RunFits c (length past) (length incoming) size b g from n) where
  -- each row ends inside the part
  pub run_inside : (j : ℕ) → j < n → j * stride_from c size from + size ≤ length (position_run c past incoming size b g from n)
  run_inside j l = let some : 0 < n = omega arith in row_in_run c past incoming size b g from n some f.together (run_start f some) f.inside j l

  -- and has the elements of its position
  cell : (j : ℕ) → j < n → (k : ℕ) → k < size → element_of (position_run c past incoming size b g from n) (j * stride_from c size from + k) ≡ position_cell c past incoming size b g (from + j) k
  cell j l k h = let some : 0 < n = omega arith in run_cell c past incoming size b g from n some f.together j l k h

  pub run_scores : (q : List Float) (scale : Float) → length q ≡ size
      → score_rows_of q (position_run c past incoming size b g from n) (stride_from c size from) scale n ≡ tabulate n (λ j. score_of size (element_of q) (position_cell c past incoming size b g (from + j)) scale)
  run_scores q scale l = scores_by_keys q (position_run c past incoming size b g from n) (stride_from c size from) scale n size (λ j. position_cell c past incoming size b g (from + j)) l cell

  pub run_weighed : (sees : ℕ → Bool) (weight : ℕ → Float) (out : List Float) → length out ≡ size
      → added_row_of n sees weight (λ j k. element_of (position_run c past incoming size b g from n) (j * stride_from c size from + k)) out
      ≡ added_row_of n sees weight (λ j k. position_cell c past incoming size b g (from + j) k) out
  run_weighed sees weight out e =
      added_row_agree n sees sees weight weight (λ j k. element_of (position_run c past incoming size b g from n) (j * stride_from c size from + k)) (λ j k. position_cell c past incoming size b g (from + j) k) out
      (λ j l. refl) (λ j l. refl) (λ j l k m. cell j l k (omega arith))

-- the weighted sum over the first positions, and then over the others, is that over all
pub two_runs : (weights : List Float) (cut : ℕ) (sees : ℕ → Bool) (value : ℕ → ℕ → Float) (out : List Float) → cut ≤ length weights
    → added_row_of (length (part_of cut weights)) (λ j. sees (cut + j)) (element_of (part_of cut weights)) (λ j k. value (cut + j) k)
    (added_row_of (length (take cut weights)) (λ j. sees (0 + j)) (element_of (take cut weights)) (λ j k. value (0 + j) k) out)
    ≡ added_row_of (length weights) sees (element_of weights) value out
two_runs weights cut sees value out h =
    let n = length weights - cut in
    let first = added_row_of cut sees (element_of weights) value out in
    ap (added_row_of (length (part_of cut weights)) (λ j. sees (cut + j)) (element_of (part_of cut weights)) (λ j k. value (cut + j) k))
    (ap (λ (m : ℕ). added_row_of m (λ j. sees (0 + j)) (element_of (take cut weights)) (λ j k. value (0 + j) k) out) (length-take-le cut weights h)
    ∙ added_row_agree cut (λ j. sees (0 + j)) sees (element_of (take cut weights)) (element_of weights) (λ j k. value (0 + j) k) value out
    (λ j l. ap sees (zero-add j)) (λ j l. get_or-take cut weights j nan l) (λ j l k m. ap (λ (i : ℕ). value i k) (zero-add j)))
    ∙ ap (λ (m : ℕ). added_row_of m (λ j. sees (cut + j)) (element_of (part_of cut weights)) (λ j k. value (cut + j) k) first) (length_part cut weights)
    ∙ added_row_agree n (λ j. sees (cut + j)) (λ j. sees (cut + j)) (element_of (part_of cut weights)) (λ j. element_of weights (cut + j)) (λ j k. value (cut + j) k) (λ j. value (cut + j)) first
    (λ j l. refl) (λ j l. get_or_part cut weights j nan) (λ j l k m. refl)
    ∙ added_row_runs sees (element_of weights) value out cut n
    ∙ ap (λ (m : ℕ). added_row_of m sees (element_of weights) value out) (add-sub_of_le h)
