-- What a row of an accepted call sees: the run of visible positions less those that the mask takes out, and its scores under the mask. Assumes nothing.
use mathlib.Core.Path.{◌≡◌, refl, sym, ap, ◌∙◌}
use mathlib.Core.Logic.{◌⊎◌, inl, inr}
use Prim.Native.Nat.{ℕ, ◌+◌, ◌≤◌, ◌<◌}
use native.Mathlib.Nat.{lt_of_lt_of_le}
use native.Mathlib.Omega.{arith}
use mathlib.Core.Bool.{Bool, true, false, not, ◌&&◌, ◌||◌, cond, true≢false, and-true, and-false}
use lib.Dec.{T, ltb, leb, eqb, ltb→lt, leb→le, nleb→lt}
use lib.ListN.{get_or}
use lib.Ieee.{Float, nan, inf, fin, binary32, add}
use lib.Ieee.Scale.{finite}
use borrow.Author.Tests.{lt-ltb, le-ltb, le-leb}
use Rattle.softmax.specs.Lists.{hidden, is_hidden}
use Rattle.softmax.proofs.Bounds.{score_bound, bounded_finite}
use Rattle.call.specs.declared.Call.{Call}
use Rattle.call.specs.declared.MaskKind.{MaskKind}
use Rattle.call.specs.declared.MaskKind.TheVariants.{NoMask, Boolean, FloatMask}
use Rattle.call.specs.Tensors.{Inputs, Outputs}
use Rattle.call.specs.Limits.{total_of}
use Rattle.call.specs.Contents.{live_of}
use Rattle.call.proofs.Accepted.{Accepts}
use Rattle.attention.specs.Admission.{repeated, mask_index, mask_cell, mask_admits, reach, causal_admits, admits}
use Rattle.attention.specs.Formula.{dot_score, with_mask, masked_score}
use Rattle.attention.proofs.Reached.{causal_reach}
use Rattle.attention.proofs.Facts.{live_le_total}
use Rattle.attention.proofs.Bounded.{dot_score_bounded}
use Rattle.row_steps.proofs.MaskStart.{repeated_zero}
use Rattle.row_steps.specs.Steps.{visible_of, mask_start, masked_by}
use Rattle.admitted_sum.specs.Sums.{admitted_by}

-- ---- the run of visible positions

-- the length of a run that ends at the live count or, where p fails, before r + 1
module _ (live r : ℕ) where
  length_live : (p : Bool) → cond p live (cond (leb live (r + 1)) live (r + 1)) ≤ live
  length_live p = go p (leb live (r + 1)) (nleb→lt live (r + 1))
    where
      go : (p q : Bool) → (T (not q) → r + 1 < live) → cond p live (cond q live (r + 1)) ≤ live
      go true q f = omega arith
      go false true f = omega arith
      go false false f = omega (arith, f tt)

  length_admits : (j : ℕ) (p : Bool) → (ltb j live && (p || leb j r)) ≡ ltb j (cond p live (cond (leb live (r + 1)) live (r + 1)))
  length_admits j p = go p (leb live (r + 1)) (leb→le live (r + 1)) (nleb→lt live (r + 1))
    where
      diagonal : r + 1 ≤ live → (t : Bool) → (T t → j ≤ r) → (T (not t) → r < j) → (ltb j live && t) ≡ ltb j (r + 1)
      diagonal l true f g = let m : j ≤ r = f tt in ap (λ (p : Bool). p && true) (lt-ltb j live (omega arith)) ∙ sym (lt-ltb j (r + 1) (omega arith))
      diagonal l false f g = let m : r < j = g tt in and-false (ltb j live) ∙ sym (le-ltb j (r + 1) (omega arith))

      within : live ≤ r + 1 → (t : Bool) → (T t → j < live) → (t && leb j r) ≡ t
      within l true f = let m : j < live = f tt in le-leb j r (omega arith)
      within l false f = refl

      go : (p q : Bool) → (T q → live ≤ r + 1) → (T (not q) → r + 1 < live) → (ltb j live && (p || leb j r)) ≡ ltb j (cond p live (cond q live (r + 1)))
      go true q f g = and-true (ltb j live)
      go false true f g = within (f tt) (ltb j live) (ltb→lt j live)
      go false false f g = let l : r + 1 < live = g tt in diagonal (omega arith) (leb j r) (leb→le j r) (nleb→lt j r)

module _ (c : Call) (live i : ℕ) where
  -- it ends at the live count, at the latest
  pub visible_live : visible_of c live i ≤ live
  visible_live = length_live live (reach c.form c.past live i) (eqb c.causal 0)

  -- a position is in it exactly where it is below the live count and no later than the last causal one
  pub visible_admits : (j : ℕ) → (ltb j live && causal_admits c live i j) ≡ ltb j (visible_of c live i)
  visible_admits j = rw (causal_reach c live i j) (length_admits live (reach c.form c.past live i) j (eqb c.causal 0))

-- ---- the mask's cells of a row

module _ (c : Call) (b h i j : ℕ) where
  -- the cell of a position stands as far from that of position 0 as the position's own number, a last dimension of 1 being repeated
  index_from_first : mask_index c b h i j ≡ mask_index c b h i 0 + repeated c.maskk j
  index_from_first = omega (arith, repeated_zero c.maskk)

  -- where the mask has cells, that of position j stands so from where the row's cells start
  pub index_from_start : (c.mask ≡ Boolean) ⊎ (c.mask ≡ FloatMask) → mask_index c b h i j ≡ mask_start c.mask c b h i + repeated c.maskk j
  index_from_start (inl e) = index_from_first ∙ ap (λ (m : MaskKind). mask_start m c b h i + repeated c.maskk j) (sym e)
  index_from_start (inr e) = index_from_first ∙ ap (λ (m : MaskKind). mask_start m c b h i + repeated c.maskk j) (sym e)

  -- the mask admits a position where its cell, counted from where the row's cells start, does
  pub mask_admits_lem : (x : Inputs) → mask_admits c.mask c x b h i j ≡ admitted_by c.mask x.bool_mask x.float_mask (mask_start c.mask c b h i + repeated c.maskk j)
  mask_admits_lem x = go c.mask
    where
      go : (m : MaskKind) → mask_admits m c x b h i j ≡ admitted_by m x.bool_mask x.float_mask (mask_start m c b h i + repeated c.maskk j)
      go NoMask = refl
      go Boolean = ap (admitted_by Boolean x.bool_mask x.float_mask) index_from_first
      go FloatMask = ap (admitted_by FloatMask x.bool_mask x.float_mask) index_from_first

-- ---- a row of an accepted call

add_hidden : (s cell : Float) → T (finite s) → is_hidden cell ≡ true → add binary32 s cell ≡ hidden
unfolding add
add_hidden nan cell f e = absurd f
add_hidden (inf t) cell f e = absurd f
add_hidden (fin t m d) nan f e = absurd (true≢false (sym e))
add_hidden (fin t m d) (inf true) f e = refl
add_hidden (fin t m d) (inf false) f e = absurd (true≢false (sym e))
add_hidden (fin t m d) (fin u n k) f e = absurd (true≢false (sym e))

module _ {c : Call} {x : Inputs} {y : Outputs} (a : Accepts c x y) (b h i : ℕ) (hb : b < c.batches) (hh : h < c.qheads) (hi : i < c.qlen) where
  -- how many positions, from 0, the row may see
  abbrev pub visible : ℕ
  visible = visible_of c (live_of c x.live b) i

  pub visible_total : visible ≤ total_of c
  visible_total = omega (arith, visible_live c (live_of c x.live b) i, live_le_total a b hb)

  admits_by : (j : ℕ) → admits c x b h i j ≡ (ltb j visible && mask_admits c.mask c x b h i j)
  unfolding admits
  admits_by j = ap (λ (t : Bool). t && mask_admits c.mask c x b h i j) (visible_admits c (live_of c x.live b) i j)

  -- a visible position is seen where the mask admits it
  pub admits_visible : (j : ℕ) → j < visible → admits c x b h i j ≡ mask_admits c.mask c x b h i j
  admits_visible j l = admits_by j ∙ ap (λ (t : Bool). t && mask_admits c.mask c x b h i j) (lt-ltb j visible l)

  -- no other position is seen
  pub admits_beyond : (j : ℕ) → visible ≤ j → admits c x b h i j ≡ false
  admits_beyond j l = admits_by j ∙ ap (λ (t : Bool). t && mask_admits c.mask c x b h i j) (le-ltb j visible l)

  -- the score of a visible position under the mask: that of step 2 where it is seen, and the mark of a hidden position where not
  pub marked : (j : ℕ) → j < visible
      → masked_by c.mask x.bool_mask x.float_mask (mask_start c.mask c b h i + repeated c.maskk j) (dot_score c x b h i j)
      ≡ cond (admits c x b h i j) (masked_score c x b h i j) hidden
  unfolding masked_score
  marked j l = go c.mask refl ∙ ap (λ (t : Bool). cond t (with_mask c.mask (dot_score c x b h i j) (mask_cell c x b h i j)) hidden) (sym (admits_visible j l))
    where
      s : Float
      s = dot_score c x b h i j

      at : MaskKind → ℕ
      at m = mask_start m c b h i + repeated c.maskk j

      s_finite : T (finite s)
      s_finite = bounded_finite score_bound s tt (dot_score_bounded a b h i hb hh hi j (lt_of_lt_of_le l (visible_live c (live_of c x.live b) i)))

      byte : (t : Bool) → cond t hidden s ≡ cond (not t) s hidden
      byte true = refl
      byte false = refl

      cell : (t : Bool) → is_hidden (mask_cell c x b h i j) ≡ t → add binary32 s (mask_cell c x b h i j) ≡ cond (not t) (add binary32 s (mask_cell c x b h i j)) hidden
      cell true e = add_hidden s (mask_cell c x b h i j) s_finite e
      cell false e = refl

      go : (m : MaskKind) → c.mask ≡ m → masked_by m x.bool_mask x.float_mask (at m) s ≡ cond (mask_admits m c x b h i j) (with_mask m s (mask_cell c x b h i j)) hidden
      go NoMask e = refl
      go Boolean e = ap (λ (n : ℕ). masked_by Boolean x.bool_mask x.float_mask n s) (sym (index_from_first c b h i j)) ∙ byte (eqb (get_or x.bool_mask (mask_index c b h i j) 0) 0)
      go FloatMask e = ap (λ (n : ℕ). masked_by FloatMask x.bool_mask x.float_mask n s) (sym (index_from_first c b h i j)) ∙ cell (is_hidden (mask_cell c x b h i j)) refl
