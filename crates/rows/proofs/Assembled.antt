-- One row of an accepted call put together from its steps: what step 1 leaves are the scores of the formula, under the mask and under the cap they are its marked scores, and what the later steps leave is the row. Assumes nothing.
use mathlib.Core.Path.{◌≡◌, refl, sym, ap, ◌∙◌, subst}
use mathlib.Core.Bool.{Bool, true, false, cond}
use mathlib.Core.List.{List}
use Prim.Native.Nat.{ℕ, ◌+◌, ◌*◌, ◌≤◌, ◌<◌}
use native.Mathlib.Nat.{le_refl}
use native.Mathlib.Omega.{arith}
use lib.Dec.{T}
use lib.ListN.{length, take, drop, replicate}
use lib.Seq.{length-take-le, take-append-le, get_or-take, get_or-drop}
use lib.Ieee.{Float, nan}
use Rattle.tensor_laws.specs.Layout.{slot, tabulate}
use Rattle.tensor_laws.proofs.Tabulate.{length_tabulate, get_or_tabulate, tabulate_ext, take_tabulate}
use Rattle.exponential.specs.ExpNeg.{plus_zero}
use Rattle.softmax.specs.Row.{score_of}
use Rattle.softmax.specs.Lists.{element_of, hidden, is_score_row, softmax_row_of, fully_masked_row_of}
use Rattle.softmax.specs.Cap.{capped_row_where}
use Rattle.softmax.proofs.Structure.{agree_score}
use Rattle.softmax.proofs.Cap.{capped_marked}
use Rattle.call.specs.declared.Call.{Call}
use Rattle.call.specs.Limits.{total_of}
use Rattle.call.specs.Lengths.{in_scores}
use Rattle.call.specs.Contents.{live_of}
use Rattle.call.specs.Tensors.{Inputs}
use Rattle.call.proofs.Facts.{holds, settings→facts}
use Rattle.attention.specs.Elements.{query_at, position_cell, key_head_of}
use Rattle.attention.specs.Admission.{repeated, admits}
use Rattle.attention.specs.Formula.{effective_scale, dot_score, masked_score, capped_score, attention_weight}
use Rattle.attention.proofs.Facts.{live_le_total}
use Rattle.attention.proofs.Bounded.{MaskFits, admitted_finite}
use Rattle.row_steps.specs.Steps.{visible_of, mask_start, masked_by, masked_row_by, shows_of, padded_to, shown_where, SoftmaxDone}
use Rattle.admitted_sum.specs.Sums.{admitted_by, added_row_of}
use Rattle.row_steps.proofs.Masked.{masked_tabulated}
use Rattle.row_runs.specs.Runs.{ScoresDone}
use Rattle.rows.specs.Unit.{shown_at, Accepting, RowDone}
use Rattle.rows.proofs.Seen.{visible, visible_live, visible_total, marked}
use Rattle.rows.proofs.Row.{masked_marks, marks, marks_scores, marks_masked, marks_weights, marks_output, shown_steps}
use Rattle.rows.proofs.Ready.{accepts}

-- the part of the query tensor that is the row
pub query_row : (c : Call) (x : Inputs) (b h i a n : ℕ) → a ≡ slot c.rank c.qheads c.qlen b h i * c.size → n ≡ c.size
    → (k : ℕ) → k < c.size → element_of (take n (drop a x.query)) k ≡ query_at c x b h i k
query_row c x b h i a n ea en k l =
    get_or-take n (drop a x.query) k nan (omega arith) ∙ get_or-drop a x.query k nan ∙ ap (λ (m : ℕ). element_of x.query (m + k)) ea

-- how many scores are needed: no fewer than are visible, and no more than there are positions
needed : (dots : Bool) (live n : ℕ) → n ≤ live → n ≤ cond dots live n
needed true live n h = h
needed false live n h = le_refl n

needed_most : (dots : Bool) (live n total : ℕ) → n ≤ live → live ≤ total → cond dots live n ≤ total
needed_most true live n total h l = l
needed_most false live n total h l = omega arith

module _ {c : Call} {x : Inputs} {scale : Float} (r : Accepting c x scale) (fit : MaskFits x) (b h i : ℕ) (hb : b < c.batches) (hh : h < c.qheads) (hi : i < c.qlen)
    (n m at g : ℕ) (dots : Bool) (en : n ≡ visible_of c (live_of c x.live b) i) (ed : dots ≡ shows_of c.mode 0 0) (em : m ≡ cond dots (live_of c x.live b) n)
    (ea : at ≡ mask_start c.mask c b h i) (eg : g ≡ key_head_of c h) (q : List Float) (eq : (k : ℕ) → k < c.size → element_of q k ≡ query_at c x b h i k) where
  abbrev live : ℕ
  live = live_of c x.live b

  -- the score of position j as step 1 has it
  abbrev score_at : ℕ → Float
  score_at j = score_of c.size (element_of q) (position_cell c x.past_key x.key c.size b g j) scale

  score_is : (j : ℕ) → score_at j ≡ dot_score c x b h i j
  unfolding dot_score
  score_is j =
      (λ k. score_of c.size (element_of q) (position_cell c x.past_key x.key c.size b (eg k) j) (r.scale_is k))
      ∙ agree_score c.size (element_of q) (query_at c x b h i) (position_cell c x.past_key x.key c.size b (key_head_of c h) j) (position_cell c x.past_key x.key c.size b (key_head_of c h) j) (effective_scale c) eq (λ k l. refl)

  n_live : n ≤ live
  n_live = omega (arith, visible_live c live i)

  n_needed : n ≤ m
  n_needed = subst (λ (k : ℕ). n ≤ k) (sym em) (needed dots live n n_live)

  pub n_total : n ≤ total_of c
  n_total = omega (arith, n_live, live_le_total (accepts r) b hb)

  pub m_total : m ≤ total_of c
  m_total = subst (λ (k : ℕ). k ≤ total_of c) (sym em) (needed_most dots live n (total_of c) n_live (live_le_total (accepts r) b hb))

  -- ---- after step 1

  module _ (shown₀ work₀ shown₁ work₁ : List Float) (s : ScoresDone m score_at dots shown₀ work₀ shown₁ work₁) (long : length work₀ ≡ total_of c) where
    first_scores : take n work₁ ≡ tabulate n (dot_score c x b h i)
    first_scores =
        ap (take n) s.scores
        ∙ take-append-le n (tabulate m score_at) (drop m work₀) (omega (arith, length_tabulate m score_at, n_needed))
        ∙ take_tabulate n m score_at n_needed
        ∙ tabulate_ext n score_at (dot_score c x b h i) (λ j l. score_is j)

    -- the scores under the mask
    masked_is : masked_row_by c.mask x.bool_mask x.float_mask (λ j. at + repeated c.maskk j) (take n work₁) ≡ masked_marks (accepts r) fit b h i hb hh hi
    masked_is =
        ap (masked_row_by c.mask x.bool_mask x.float_mask (λ j. at + repeated c.maskk j)) first_scores
        ∙ masked_tabulated c.mask x.bool_mask x.float_mask (λ j. at + repeated c.maskk j) n (dot_score c x b h i)
        ∙ (λ k. tabulate (en k) (λ j. masked_by c.mask x.bool_mask x.float_mask (ea k + repeated c.maskk j) (dot_score c x b h i j)))
        ∙ tabulate_ext (visible (accepts r) b h i hb hh hi) _ _ (λ j l. marked (accepts r) b h i hb hh hi j l)

    -- the scores under the cap
    capped_is : capped_row_where c.softcap (masked_row_by c.mask x.bool_mask x.float_mask (λ j. at + repeated c.maskk j) (take n work₁)) ≡ marks (accepts r) fit b h i hb hh hi
    unfolding capped_score
    capped_is =
        ap (capped_row_where c.softcap) masked_is
        ∙ capped_marked c.softcap (visible (accepts r) b h i hb hh hi) (admits c x b h i) (masked_score c x b h i) (λ j l. admitted_finite (accepts r) b h i hb hh hi fit j)

    -- they are a row of scores
    pub capped_scores : T (is_score_row (capped_row_where c.softcap (masked_row_by c.mask x.bool_mask x.float_mask (λ j. at + repeated c.maskk j) (take n work₁))))
    capped_scores = subst (λ (row : List Float). T (is_score_row row)) (sym capped_is) (marks_scores (accepts r) fit b h i hb hh hi)

    -- what is shown after step 1
    shown_dots : shown₁ ≡ shown_where (shows_of c.mode 0 0) plus_zero (tabulate (cond (shows_of c.mode 0 0) live (visible (accepts r) b h i hb hh hi)) (dot_score c x b h i)) shown₀
    shown_dots =
        s.shows
        ∙ ap (λ (row : List Float). shown_where dots plus_zero row shown₀) (tabulate_ext m score_at (dot_score c x b h i) (λ j l. score_is j))
        ∙ (λ k. shown_where (ed k) plus_zero (tabulate ((em ∙ (λ l. cond (ed l) live (en l))) k) (dot_score c x b h i)) shown₀)

    -- ---- after steps 2 to 4

    module _ (fits : length shown₀ ≡ in_scores c.mode (total_of c)) (shown work : List Float) (masked : Bool)
        (t : SoftmaxDone c.mode c.softcap (masked_row_by c.mask x.bool_mask x.float_mask (λ j. at + repeated c.maskk j) (take n work₁)) shown₁ (length work₁) shown work masked) (kept : length work₁ ≡ total_of c) where
      weights_are : work ≡ tabulate (total_of c) (attention_weight c x b h i)
      weights_are =
          t.weights
          ∙ (λ k. padded_to (kept k) plus_zero (softmax_row_of (capped_is k)))
          ∙ marks_weights (accepts r) fit b h i hb hh hi

      shown_are : shown ≡ tabulate (in_scores c.mode (total_of c)) (shown_at c.mode c x b h i)
      shown_are =
          t.shows
          ∙ (λ k. shown_where (shows_of c.mode 3 3) plus_zero (weights_are k) (shown_where (shows_of c.mode 2 2) hidden (capped_is k) (shown_where (shows_of c.mode 1 1) hidden (masked_is k) (shown_dots k))))
          ∙ shown_steps (accepts r) fit b h i hb hh hi c.mode (holds (settings→facts c (accepts r).settings).mode) shown₀ fits plus_zero

      weight_at : (j : ℕ) → j < visible (accepts r) b h i hb hh hi → element_of (take n work) j ≡ attention_weight c x b h i j
      weight_at j l =
          get_or-take n work j nan (omega (arith, en))
          ∙ ap (λ (w : List Float). element_of w j) weights_are
          ∙ get_or_tabulate (total_of c) (attention_weight c x b h i) j nan (omega (arith, visible_total (accepts r) b h i hb hh hi))

      taken_long : length (take n work) ≡ visible (accepts r) b h i hb hh hi
      taken_long = length-take-le n work (omega (arith, ap length weights_are, length_tabulate (total_of c) (attention_weight c x b h i), n_total)) ∙ en

      -- the row
      pub row_done : (out : List Float)
          → out ≡ added_row_of (length (take n work)) (λ j. admitted_by c.mask x.bool_mask x.float_mask (at + repeated c.maskk j)) (element_of (take n work)) (λ j k. position_cell c x.past_value x.value c.vsize b g j k) (replicate c.vsize plus_zero)
          → RowDone c x b h i out shown work masked
      row_done out e = record {
        output =
            e
            ∙ (λ k. added_row_of (taken_long k) (λ j. admitted_by c.mask x.bool_mask x.float_mask (ea k + repeated c.maskk j)) (element_of (take n work)) (λ j l. position_cell c x.past_value x.value c.vsize b (eg k) j l) (replicate c.vsize plus_zero))
            ∙ marks_output (accepts r) fit b h i hb hh hi (take n work) weight_at;
        scores = shown_are;
        weights = weights_are;
        told = t.told ∙ ap fully_masked_row_of capped_is ∙ marks_masked (accepts r) fit b h i hb hh hi;
      }
