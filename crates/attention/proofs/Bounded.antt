-- How large the scores of an accepted call are: a score is within 2 ^ 50, and after the mask an admitted one is finite, before the cap and under it. A mask's cell stands within the mask. Assumes nothing.
use mathlib.Core.Path.{◌≡◌, refl, sym, subst}
use mathlib.Core.Logic.{◌⊎◌, inl, inr}
use Prim.Native.Nat.{ℕ, ◌<◌}
use native.Mathlib.Nat.{lt_of_lt_of_le}
use native.Mathlib.Omega.{arith}
use mathlib.Core.Bool.{Bool, true, false, not, ◌&&◌, cond, true≢false}
use lib.Arith.{digits_lt}
use lib.Dec.{T, ltb, ltb→lt, eqb, eqb→eq, lit<}
use lib.ListN.{length, get_or}
use lib.Ieee.{Float, nan, inf, fin, binary32, fits}
use lib.Ieee.Fits.{and_l, and_r}
use lib.Ieee.Scale.{finite}
use Rattle.softmax.specs.Lists.{is_hidden}
use Rattle.softmax.proofs.Bounds.{bounded, score_bound, bounded_finite, score_bounded, masked_score_finite}
use Rattle.softmax.proofs.Cap.{under_cap_finite}
use Rattle.call.specs.declared.Call.{Call}
use Rattle.call.specs.declared.MaskKind.{MaskKind}
use Rattle.call.specs.declared.MaskKind.TheVariants.{NoMask, Boolean, FloatMask}
use Rattle.call.specs.Tensors.{Inputs, Outputs}
use Rattle.call.specs.Limits.{total_of, mask_shape_holds}
use Rattle.call.specs.Lengths.{in_float, mask_length}
use Rattle.call.specs.Contents.{live_of, cell_fault}
use Rattle.call.proofs.Clear.{cells→clear}
use Rattle.call.proofs.Accepted.{Accepts}
use Rattle.call.proofs.Facts.{holds, limits→facts, fit→lengths, shape→facts}
use Rattle.attention.specs.Elements.{key_head_of, query_at, key_at}
use Rattle.attention.specs.Admission.{repeated, mask_index, mask_cell, mask_admits, causal_admits, admits}
use Rattle.attention.specs.Formula.{effective_scale, dot_score, with_mask, masked_score, capped_score}
use Rattle.attention.proofs.Facts.{live_le_total, key_head_lt, query_bounded, key_bounded, scale_bounded, cap_within}

-- every cell of the float mask is an f32, as the elements of a lent slice are
abbrev pub MaskFits : Inputs → Type 0
MaskFits x = (i : ℕ) → T (fits binary32 (get_or x.float_mask i nan))

-- ---- the parts of admission

-- an admitted key is below the live count
pub admits→live : (c : Call) (x : Inputs) (b h i j : ℕ) → admits c x b h i j ≡ true → j < live_of c x.live b
unfolding admits
admits→live c x b h i j e =
    let l = ltb j (live_of c x.live b) in
    ltb→lt j (live_of c x.live b) (and_l l (causal_admits c (live_of c x.live b) i j) (and_l (l && causal_admits c (live_of c x.live b) i j) (mask_admits c.mask c x b h i j) (holds e)))

-- the mask admits an admitted key
pub admits→mask : (c : Call) (x : Inputs) (b h i j : ℕ) → admits c x b h i j ≡ true → T (mask_admits c.mask c x b h i j)
unfolding admits
admits→mask c x b h i j e = and_r (ltb j (live_of c x.live b) && causal_admits c (live_of c x.live b) i j) (mask_admits c.mask c x b h i j) (holds e)

-- ---- where a mask's cell stands

repeated_lt : (full d n : ℕ) → (d ≡ 1) ⊎ (d ≡ full) → n < full → repeated d n < d
repeated_lt full d n (inl e) h = subst (λ (m : ℕ). repeated m n < m) (sym e) (lit< tt)
repeated_lt full d n (inr e) h = go (eqb d 1) (eqb→eq d 1)
  where
    go : (t : Bool) → (T t → d ≡ 1) → cond t 0 n < d
    go true p = omega (arith, p tt)
    go false p = omega arith

-- the index of the mask's cell for a row and a key is below the mask's length
pub mask_index_lt : (c : Call) → mask_shape_holds c ≡ true → (c.mask ≡ Boolean) ⊎ (c.mask ≡ FloatMask) → (b h i j : ℕ) → b < c.batches → h < c.qheads → i < c.qlen → j < total_of c → mask_index c b h i j < mask_length c
mask_index_lt c e m b h i j hb hh hi hj =
    let s = shape→facts c e m in
    digits_lt
    (digits_lt (digits_lt (repeated_lt c.batches c.maskb b s.maskb hb) (repeated_lt c.qheads c.maskh h s.maskh hh)) (repeated_lt c.qlen c.maskq i s.maskq hi))
    (repeated_lt (total_of c) c.maskk j s.maskk hj)

-- ---- scores

-- a cell that is not at fault, and not minus infinity, is finite
cell_finite : (z : Float) → cell_fault z ≡ false → T (not (is_hidden z)) → T (finite z)
cell_finite nan e h = absurd (true≢false e)
cell_finite (inf true) e h = absurd h
cell_finite (inf false) e h = absurd (true≢false e)
cell_finite (fin s m e) f h = tt

module _ {c : Call} {x : Inputs} {y : Outputs} (a : Accepts c x y) (b h i : ℕ) (hb : b < c.batches) (hh : h < c.qheads) (hi : i < c.qlen) where
  -- the score of a position below the live count is within 2 ^ 50
  pub dot_score_bounded : (j : ℕ) → j < live_of c x.live b → T (bounded score_bound (dot_score c x b h i j))
  unfolding dot_score
  dot_score_bounded j l =
      let s = scale_bounded a in
      score_bounded c.size (query_at c x b h i) (key_at c x b (key_head_of c h) j) (effective_scale c) (limits→facts c a.limits).size_most
      (λ k hk. query_bounded a b h i k hb hh hi hk) (λ k hk. key_bounded a b (key_head_of c h) j k hb (key_head_lt a h hh) l hk) s.0 s.1

  -- the cell of a float mask that admits a key is finite
  mask_cell_finite : c.mask ≡ FloatMask → (j : ℕ) → j < total_of c → T (not (is_hidden (mask_cell c x b h i j))) → T (finite (mask_cell c x b h i j))
  mask_cell_finite m j l n =
      let e : length x.float_mask ≡ mask_length c = subst (λ (k : MaskKind). length x.float_mask ≡ in_float k (mask_length c)) m (fit→lengths c x a.inputs).float_mask in
      cell_finite (mask_cell c x b h i j)
      (cells→clear x.float_mask a.cells (mask_index c b h i j) (rw e (mask_index_lt c a.mask_shape (inr m) b h i j hb hh hi l))) n

  -- the score of an admitted key after the mask is finite
  pub admitted_finite : MaskFits x → (j : ℕ) → admits c x b h i j ≡ true → T (finite (masked_score c x b h i j))
  unfolding masked_score
  admitted_finite fit j e = go c.mask refl (admits→mask c x b h i j e)
    where
      l : j < live_of c x.live b
      l = admits→live c x b h i j e

      s : T (bounded score_bound (dot_score c x b h i j))
      s = dot_score_bounded j l

      go : (k : MaskKind) → c.mask ≡ k → T (mask_admits k c x b h i j) → T (finite (with_mask k (dot_score c x b h i j) (mask_cell c x b h i j)))
      go NoMask m t = bounded_finite score_bound (dot_score c x b h i j) tt s
      go Boolean m t = bounded_finite score_bound (dot_score c x b h i j) tt s
      go FloatMask m t = masked_score_finite (dot_score c x b h i j) (mask_cell c x b h i j) s (fit (mask_index c b h i j)) (mask_cell_finite m j (lt_of_lt_of_le l (live_le_total a b hb)) t)

  -- and so is its score under the cap
  pub capped_score_finite : MaskFits x → (j : ℕ) → admits c x b h i j ≡ true → T (finite (capped_score c x b h i j))
  unfolding capped_score
  capped_score_finite fit j e = let k = cap_within a in under_cap_finite c.softcap (masked_score c x b h i j) k.0 k.1 (admitted_finite fit j e)
