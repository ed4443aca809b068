-- The weighted sum over the seen positions, one run at a time: a run of seen positions is accumulated, and the position that stops it adds nothing.
use mathlib.Core.Path.{◌≡◌, refl, sym, ap, ◌∙◌}
use mathlib.Core.Bool.{Bool, true, false}
use mathlib.Core.List.{List}
use Prim.Native.Nat.{ℕ, zero, suc, ◌+◌, ◌*◌, ◌-◌, ◌≤◌, ◌<◌, min}
use native.Mathlib.Nat.{le_refl, add-zero, add-suc, add-mul}
use native.Mathlib.Omega.{arith}
use native.Mathlib.Decide.{dec_lt}
use lib.ListN.{length, take, drop}
use lib.Seq.{get_or-take, get_or-drop}
use lib.Ieee.{Float, nan, binary32, add, mul}
use borrow.Rule.Slice.PartMut.{mid_len}
use Rattle.tensor_laws.specs.Layout.{tabulate}
use Rattle.tensor_laws.proofs.Tabulate.{length_tabulate, get_or_tabulate, tabulate_ext}
use Rattle.softmax.specs.Lists.{element_of, accumulated_of, weighted_rows_of}
use Rattle.admitted_sum.specs.Sums.{RunEnd, added_of, added_row_of}
use Rattle.tensor_laws.proofs.Tails.{part_of, get_or_part}

-- ---- the end of a run

-- the end of a run of positions that are counted from `from` on
pub run_from : (sees : ℕ → Bool) (from j n r : ℕ) → RunEnd sees (from + j) (from + n) r → RunEnd (λ k. sees (from + k)) j n (r - from)
run_from sees from j n r e =
    let a = e.start in
    let b = e.inside in
    record {
      start = omega arith;
      inside = omega arith;
      seen = λ k p l. e.seen (from + k) (omega arith) (omega arith);
      stop = λ l. ap sees (omega arith) ∙ e.stop (omega arith);
    }

-- ---- one column

module _ (sees : ℕ → Bool) (weight value : ℕ → Float) (x : Float) where
  added_seen : (j : ℕ) → sees j ≡ true → added_of (suc j) sees weight value x ≡ add binary32 (added_of j sees weight value x) (mul binary32 (weight j) (value j))
  unfolding added_of
  added_seen j h = rw h refl

  added_hidden : (j : ℕ) → sees j ≡ false → added_of (suc j) sees weight value x ≡ added_of j sees weight value x
  unfolding added_of
  added_hidden j h = rw h refl

  -- a run of n seen positions from j on is accumulated onto the first j positions
  added_run : (j n : ℕ) (w v : ℕ → Float) → ((k : ℕ) → k < n → sees (j + k) ≡ true) → ((k : ℕ) → k < n → w k ≡ weight (j + k)) → ((k : ℕ) → k < n → v k ≡ value (j + k)) → accumulated_of n w v (added_of j sees weight value x) ≡ added_of (j + n) sees weight value x
  unfolding accumulated_of
  added_run j zero w v s p q = ap (λ (m : ℕ). added_of m sees weight value x) (sym (add-zero j))
  added_run j (suc n) w v s p q =
      (λ i. add binary32 (added_run j n w v (λ k l. s k (omega arith)) (λ k l. p k (omega arith)) (λ k l. q k (omega arith)) i) (mul binary32 (p n (le_refl (suc n)) i) (q n (le_refl (suc n)) i)))
      ∙ sym (added_seen (j + n) (s n (le_refl (suc n))))
      ∙ ap (λ (m : ℕ). added_of m sees weight value x) (sym (add-suc j n))

-- ---- the row

module _ (sees : ℕ → Bool) (weights values : List Float) (stride : ℕ) (out : List Float) where
  -- the output row with the first n positions weighed
  abbrev pub weighed_to : ℕ → List Float
  weighed_to n = added_row_of n sees (element_of weights) (λ j k. element_of values (j * stride + k)) out

  -- its element of a column
  abbrev column_to : ℕ → ℕ → Float
  column_to n c = added_of n sees (element_of weights) (λ j. element_of values (j * stride + c)) (element_of out c)

  module _ (j e : ℕ) (h : j ≤ e) (g : e ≤ length weights) (seen : (k : ℕ) → j ≤ k → k < e → sees k ≡ true) where
    -- the weights of the run from j to e
    abbrev run_of : List Float
    run_of = take (e - j) (drop j weights)

    -- one column of the run's values is accumulated onto the column of the first j positions
    column_run : (c : ℕ) → accumulated_of (length run_of) (element_of run_of) (λ k. element_of (part_of (j * stride) values) (k * stride + c)) (column_to j c) ≡ column_to e c
    column_run c =
        let v : ℕ → Float = λ k. element_of (part_of (j * stride) values) (k * stride + c) in
        ap (λ (n : ℕ). accumulated_of n (element_of run_of) v (column_to j c)) (mid_len j e weights g)
        ∙ added_run sees (element_of weights) (λ p. element_of values (p * stride + c)) (element_of out c) j (e - j) (element_of run_of) v (λ k l. seen (j + k) (omega arith) (omega arith))
        (λ k l. get_or-take (e - j) (drop j weights) k nan l ∙ get_or-drop j weights k nan)
        (λ k l. get_or_part (j * stride) values (k * stride + c) nan ∙ ap (element_of values) (omega (arith, add-mul j k stride)))
        ∙ ap (λ (n : ℕ). column_to n c) (omega arith)

    -- the run's rows weighed onto the first j positions are the first e positions weighed
    pub weighed_run_lem : weighted_rows_of run_of (part_of (j * stride) values) stride (weighed_to j) ≡ weighed_to e
    unfolding weighted_rows_of added_row_of
    weighed_run_lem =
        let each : Float → ℕ → Float = λ x c. accumulated_of (length run_of) (element_of run_of) (λ k. element_of (part_of (j * stride) values) (k * stride + c)) x in
        let row = tabulate (length out) (column_to j) in
        ap (λ (n : ℕ). tabulate n (λ c. each (element_of row c) c)) (length_tabulate (length out) (column_to j))
        ∙ tabulate_ext (length out) (λ c. each (element_of row c) c) (column_to e) (λ c l. ap (λ (x : Float). each x c) (get_or_tabulate (length out) (column_to j) c nan l) ∙ column_run c)

  -- a hidden position adds nothing
  weighed_hidden : (e : ℕ) → sees e ≡ false → weighed_to (suc e) ≡ weighed_to e
  unfolding added_row_of
  weighed_hidden e h = ap (λ (f : ℕ → Float). tabulate (length out) f) (λ i c. added_hidden sees (element_of weights) (λ j. element_of values (j * stride + c)) (element_of out c) e h i)

  -- nor does the position that stops a run, where there is one
  pub weighed_stop : (e n : ℕ) → e ≤ n → (e < n → sees e ≡ false) → weighed_to e ≡ weighed_to (min (e + 1) n)
  weighed_stop e n h stop = go (dec_lt e n)
    where
      go : Dec (e < n) → weighed_to e ≡ weighed_to (min (e + 1) n)
      go (yes l) = sym (weighed_hidden e (stop l)) ∙ ap weighed_to (omega arith)
      go (no p) = ap weighed_to (omega arith)
