-- The lists of a row of an accepted call as its steps leave them: its scores under the mask and the cap are a row of scores, and its weights, whether it is fully masked, its output and what is shown of it are the formula's. Assumes nothing.
use Rattle.std.specs.Prelude.{Option, Some, None}
use mathlib.Core.Path.{◌≡◌, refl, sym, ap, ◌∙◌}
use mathlib.Core.List.{List, [], ◌∷◌, ◌++◌}
use Prim.Native.Nat.{ℕ, zero, suc, ◌+◌, ◌-◌, ◌≤◌, ◌<◌}
use native.Mathlib.Nat.{add-sub_of_le, le_refl}
use native.Mathlib.Decide.{dec_lt}
use native.Mathlib.Omega.{arith}
use mathlib.Core.Bool.{Bool, true, false, not, cond}
use lib.Dec.{T, leb→le}
use lib.ListN.{length, get_or, replicate, length-append, length-replicate, get_or-replicate, get_or-append}
use lib.Seq.{ext_get_or, get_or-append-add}
use lib.Ieee.{Float, nan, inf, fin}
use lib.Ieee.Scale.{finite}
use borrow.Author.Tests.{lt-ltb, le-ltb}
use Rattle.tensor_laws.specs.Layout.{tabulate}
use Rattle.tensor_laws.proofs.Tabulate.{length_tabulate, get_or_tabulate, tabulate_ext}
use Rattle.exponential.specs.ExpNeg.{plus_zero}
use Rattle.softmax.specs.Row.{weight_of}
use Rattle.softmax.specs.Lists.{element_of, hidden, is_hidden, softmax_row_of, fully_masked_row_of, is_score_row}
use Rattle.softmax.proofs.Structure.{cut_masked, cut_weight, cut_output, row_output, hidden_weight_zero}
use Rattle.softmax.proofs.Scores.{is_score}
use Rattle.softmax.proofs.Positions.{tabulated_scores, marked_masked, marked_weights}
use Rattle.call.specs.declared.Call.{Call}
use Rattle.call.specs.Tensors.{Inputs, Outputs}
use Rattle.call.specs.Limits.{total_of, mode_allowed}
use Rattle.call.specs.Lengths.{in_scores}
use Rattle.call.specs.Contents.{live_of}
use Rattle.call.proofs.Accepted.{Accepts}
use Rattle.attention.specs.Elements.{key_head_of, value_at}
use Rattle.attention.specs.Admission.{repeated, admits}
use Rattle.attention.specs.Formula.{dot_score, masked_score, capped_score, attention_weight, attention_output, row_masked, shown_score}
use Rattle.attention.proofs.Facts.{live_le_total}
use Rattle.attention.proofs.Bounded.{MaskFits, capped_score_finite}
use Rattle.row_steps.specs.Steps.{mask_start, shows_of, padded_to, shown_where}
use Rattle.admitted_sum.specs.Sums.{admitted_by, added_row_of}
use Rattle.admitted_sum.proofs.Added.{added_row_agree, added_row_output}
use Rattle.rows.specs.Unit.{shown_at}
use Rattle.rows.proofs.Seen.{visible, visible_total, admits_visible, admits_beyond, mask_admits_lem}

-- ---- a row that is continued with the same element

-- n elements of f, and then x up to the m-th: the first m elements of g, where g is f below n and x from there on
pub padded_tabulate : (n m : ℕ) (f g : ℕ → Float) (x : Float) → n ≤ m → ((j : ℕ) → j < n → f j ≡ g j) → ((j : ℕ) → n ≤ j → j < m → x ≡ g j)
    → padded_to m x (tabulate n f) ≡ tabulate m g
padded_tabulate n m f g x l p q =
    ap (λ (k : ℕ). tabulate n f ++ replicate (m - k) x) (length_tabulate n f)
    ∙ ext_get_or nan (tabulate n f ++ replicate (m - n) x) (tabulate m g) (long ∙ sym (length_tabulate m g)) each
  where
    long : length (tabulate n f ++ replicate (m - n) x) ≡ m
    long = length-append (tabulate n f) (replicate (m - n) x) ∙ omega (arith, length_tabulate n f, length-replicate (m - n) x)

    behind : (j : ℕ) → n ≤ j → j < m → get_or (tabulate n f ++ replicate (m - n) x) j nan ≡ x
    behind j h k =
        ap (λ (i : ℕ). get_or (tabulate n f ++ replicate (m - n) x) i nan) (sym (ap (λ (i : ℕ). i + (j - n)) (length_tabulate n f) ∙ add-sub_of_le h))
        ∙ get_or-append-add (tabulate n f) (replicate (m - n) x) (j - n) nan
        ∙ get_or-replicate (m - n) (j - n) x nan (omega arith)

    each : (j : ℕ) → j < length (tabulate n f ++ replicate (m - n) x) → get_or (tabulate n f ++ replicate (m - n) x) j nan ≡ get_or (tabulate m g) j nan
    each j h = let k : j < m = omega (arith, long) in go k (dec_lt j n) ∙ sym (get_or_tabulate m g j nan k)
      where
        go : j < m → Dec (j < n) → get_or (tabulate n f ++ replicate (m - n) x) j nan ≡ g j
        go k (yes h) = get_or-append (tabulate n f) (replicate (m - n) x) nan j (rw length_tabulate h) ∙ get_or_tabulate n f j nan h ∙ p j h
        go k (no h) = behind j (omega arith) k ∙ q j (omega arith) k

-- ---- what is seen of a row of scores

finite_score : (x : Float) → T (finite x) → T (is_score x)
finite_score nan f = absurd f
finite_score (inf s) f = absurd f
finite_score (fin s m e) f = tt

finite_seen : (x : Float) → T (finite x) → not (is_hidden x) ≡ true
finite_seen nan f = absurd f
finite_seen (inf s) f = absurd f
finite_seen (fin s m e) f = refl

module _ {c : Call} {x : Inputs} {y : Outputs} (a : Accepts c x y) (fit : MaskFits x) (b h i : ℕ) (hb : b < c.batches) (hh : h < c.qheads) (hi : i < c.qlen) where
  -- a score of a position, and the mark of a hidden position where it is not seen
  abbrev pub marked : (ℕ → Float) → ℕ → Float
  marked score j = cond (admits c x b h i j) (score j) hidden

  -- the same of the visible positions: the scores under the mask, and those under the cap
  abbrev pub masked_marks : List Float
  masked_marks = tabulate (visible a b h i hb hh hi) (marked (masked_score c x b h i))

  abbrev pub mark : ℕ → Float
  mark = marked (capped_score c x b h i)

  abbrev pub marks : List Float
  marks = tabulate (visible a b h i hb hh hi) mark

  by_seen : (P : Bool → Float → Type 0) (j : ℕ) → (admits c x b h i j ≡ true → T (finite (capped_score c x b h i j)) → P true (capped_score c x b h i j)) → P false hidden → P (admits c x b h i j) (mark j)
  by_seen P j p q = go (admits c x b h i j) refl
    where
      go : (t : Bool) → admits c x b h i j ≡ t → P t (cond t (capped_score c x b h i j) hidden)
      go true e = p e (capped_score_finite a b h i hb hh hi fit j e)
      go false e = q

  mark_score : (j : ℕ) → T (is_score (mark j))
  mark_score j = by_seen (λ t z. T (is_score z)) j (λ e f. finite_score (capped_score c x b h i j) f) tt

  mark_seen : (j : ℕ) → not (is_hidden (mark j)) ≡ admits c x b h i j
  mark_seen j = by_seen (λ t z. not (is_hidden z) ≡ t) j (λ e f. finite_seen (capped_score c x b h i j) f) refl

  mark_is : (j : ℕ) → admits c x b h i j ≡ true → mark j ≡ capped_score c x b h i j
  mark_is j e = ap (λ (t : Bool). cond t (capped_score c x b h i j) hidden) e

  n : ℕ
  n = visible a b h i hb hh hi

  hides : (j : ℕ) → n ≤ j → j < total_of c → admits c x b h i j ≡ false
  unfolding n
  hides j l m = admits_beyond a b h i hb hh hi j l

  below : n ≤ total_of c
  unfolding n
  below = visible_total a b h i hb hh hi

  -- the scores under the cap are a row of scores
  pub marks_scores : T (is_score_row marks)
  marks_scores = tabulated_scores (visible a b h i hb hh hi) mark (λ j l. mark_score j)

  -- the row is fully masked where that row of scores is
  pub marks_masked : fully_masked_row_of marks ≡ row_masked c x b h i
  unfolding row_masked n
  marks_masked =
      marked_masked n mark (admits c x b h i) (capped_score c x b h i) (λ j l. mark_seen j) (λ j l e. mark_is j e)
      ∙ sym (cut_masked n (total_of c) (admits c x b h i) (capped_score c x b h i) below hides)

  weight_cut : (j : ℕ) → weight_of n (admits c x b h i) (capped_score c x b h i) j ≡ attention_weight c x b h i j
  unfolding attention_weight
  weight_cut j = sym (cut_weight n (total_of c) (admits c x b h i) (capped_score c x b h i) j below hides)

  weight_hidden : (j : ℕ) → n ≤ j → j < total_of c → plus_zero ≡ attention_weight c x b h i j
  unfolding attention_weight
  weight_hidden j l m = sym (hidden_weight_zero (total_of c) (admits c x b h i) (capped_score c x b h i) j (hides j l m))

  -- its weights, and +0 behind them, are the weights of all positions
  pub marks_weights : padded_to (total_of c) plus_zero (softmax_row_of marks) ≡ tabulate (total_of c) (attention_weight c x b h i)
  unfolding n
  marks_weights =
      ap (padded_to (total_of c) plus_zero) (marked_weights n mark (admits c x b h i) (capped_score c x b h i) (λ j l. mark_seen j) (λ j l e. mark_is j e))
      ∙ padded_tabulate n (total_of c) (weight_of n (admits c x b h i) (capped_score c x b h i)) (attention_weight c x b h i) plus_zero below (λ j l. weight_cut j) weight_hidden

  -- ---- the output

  -- the weighted sum of the visible positions that the mask admits, from +0, is the output
  pub marks_output : (weights : List Float) → ((j : ℕ) → j < visible a b h i hb hh hi → element_of weights j ≡ attention_weight c x b h i j)
      → added_row_of (visible a b h i hb hh hi) (λ j. admitted_by c.mask x.bool_mask x.float_mask (mask_start c.mask c b h i + repeated c.maskk j)) (element_of weights) (value_at c x b (key_head_of c h)) (replicate c.vsize plus_zero)
      ≡ tabulate c.vsize (attention_output c x b h i)
  unfolding attention_output n
  marks_output weights e =
      added_row_agree n _ (admits c x b h i) (element_of weights) (weight_of n (admits c x b h i) (capped_score c x b h i)) (value_at c x b (key_head_of c h)) (value_at c x b (key_head_of c h)) (replicate c.vsize plus_zero)
      (λ j l. sym (admits_visible a b h i hb hh hi j l ∙ mask_admits_lem c b h i j x)) (λ j l. e j l ∙ sym (weight_cut j)) (λ j l k m. refl)
      ∙ added_row_output n c.vsize (admits c x b h i) (weight_of n (admits c x b h i) (capped_score c x b h i)) (value_at c x b (key_head_of c h))
      ∙ tabulate_ext c.vsize _ _
      (λ k l.
      let value : ℕ → Float = λ j. value_at c x b (key_head_of c h) j k in
      sym (row_output n (admits c x b h i) (capped_score c x b h i) value) ∙ sym (cut_output n (total_of c) (admits c x b h i) (capped_score c x b h i) value below hides))

  -- ---- what is shown

  abbrev live : ℕ
  live = live_of c x.live b

  shown_dots : padded_to (total_of c) plus_zero (tabulate live (dot_score c x b h i)) ≡ tabulate (total_of c) (shown_score 0 c x b h i)
  shown_dots =
      padded_tabulate live (total_of c) (dot_score c x b h i) (shown_score 0 c x b h i) plus_zero (live_le_total a b hb)
      (λ j l. ap (λ (t : Bool). cond t (dot_score c x b h i j) plus_zero) (sym (lt-ltb j live l)))
      (λ j l m. ap (λ (t : Bool). cond t (dot_score c x b h i j) plus_zero) (sym (le-ltb j live l)))

  shown_marks : (score : ℕ → Float) → padded_to (total_of c) hidden (tabulate (visible a b h i hb hh hi) (marked score)) ≡ tabulate (total_of c) (marked score)
  unfolding n
  shown_marks score = padded_tabulate n (total_of c) (marked score) (marked score) hidden below (λ j l. refl) (λ j l m. ap (λ (t : Bool). cond t (score j) hidden) (sym (hides j l m)))

  -- a row that is as long as what it is shown in
  shown_whole : (f : ℕ → Float) (z : Float) → padded_to (total_of c) z (tabulate (total_of c) f) ≡ tabulate (total_of c) f
  shown_whole f z = padded_tabulate (total_of c) (total_of c) f f z (le_refl (total_of c)) (λ j l. refl) (λ j l m. absurd (omega arith))

  -- the scores shown after the four steps that may show them: the scores of step 1, those under the mask, those under the cap, the weights
  pub shown_steps : (mode : Option ℕ) → T (mode_allowed mode) → (shown : List Float) → length shown ≡ in_scores mode (total_of c) → (z : Float)
      → shown_where (shows_of mode 3 3) z (tabulate (total_of c) (attention_weight c x b h i)) (shown_where (shows_of mode 2 2) hidden marks (shown_where (shows_of mode 1 1) hidden masked_marks (shown_where (shows_of mode 0 0) plus_zero (tabulate (cond (shows_of mode 0 0) live (visible a b h i hb hh hi)) (dot_score c x b h i)) shown)))
      ≡ tabulate (in_scores mode (total_of c)) (shown_at mode c x b h i)
  unfolding tabulate
  shown_steps None t [] e z = refl
  shown_steps None t (s ∷ shown) e z = absurd (omega arith)
  shown_steps (Some zero) t shown e z = ap (λ (m : ℕ). padded_to m plus_zero (tabulate live (dot_score c x b h i))) e ∙ shown_dots
  shown_steps (Some (suc zero)) t shown e z = ap (λ (m : ℕ). padded_to m hidden masked_marks) e ∙ shown_marks (masked_score c x b h i)
  shown_steps (Some (suc (suc zero))) t shown e z = ap (λ (m : ℕ). padded_to m hidden marks) e ∙ shown_marks (capped_score c x b h i)
  shown_steps (Some (suc (suc (suc zero)))) t shown e z = ap (λ (m : ℕ). padded_to m z (tabulate (total_of c) (attention_weight c x b h i))) e ∙ shown_whole (attention_weight c x b h i) z
  shown_steps (Some (suc (suc (suc (suc m))))) t shown e z = let l : suc (suc (suc (suc m))) ≤ 3 = leb→le (suc (suc (suc (suc m)))) 3 t in absurd (omega arith)
