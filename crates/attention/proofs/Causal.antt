-- What a causal call without a mask computes, for any live counts: the output of a row that reaches the position at + i is that over the keys 0 to at + i, all of them seen, where that position is live; and no row is fully masked where each batch has a live position. And what the effective scale depends on. Assumes nothing.
use mathlib.Core.Path.{◌≡◌, refl, ap, ◌∙◌}
use mathlib.Core.Bool.{true, false, ◌&&◌, and-true, and-false}
use Prim.Native.Nat.{ℕ, suc, ◌+◌, ◌*◌, ◌≤◌, ◌<◌, zero-le}
use native.Mathlib.Omega.{arith}
use lib.Dec.{ltb, leb}
use lib.Ieee.{Float}
use borrow.Author.Tests.{lt-ltb, le-leb, lt-leb}
use Rattle.bool_laws.proofs.Counts.{count_none}
use Rattle.tensor_laws.specs.Layout.{batch_at, head_at, position_at}
use Rattle.tensor_laws.proofs.Slots.{batch_lt}
use Rattle.softmax.specs.Row.{score_of, row_output_of}
use Rattle.softmax.specs.Cap.{capped_where}
use Rattle.softmax.proofs.Structure.{cut_output, agree_output, seen_not_masked}
use Rattle.call.specs.declared.Call.{Call}
use Rattle.call.specs.declared.MaskKind.{MaskKind}
use Rattle.call.specs.declared.MaskKind.TheVariants.{NoMask}
use Rattle.call.specs.Limits.{total_of}
use Rattle.call.specs.Tensors.{Inputs}
use Rattle.call.specs.Contents.{live_of}
use Rattle.attention.specs.Elements.{key_head_of, query_at, key_at, value_at}
use Rattle.attention.specs.Admission.{mask_cell, mask_admits, causal_admits, admits}
use Rattle.attention.specs.Formula.{scale_where, effective_scale, dot_score, with_mask, masked_score, capped_score, attention_output, row_masked}
use Rattle.attention.specs.Outcomes.{masked_rows_of}

-- calls with equal scales and head sizes have the same effective scale
pub scale_same : (c c' : Call) → c.scale ≡ c'.scale → c.size ≡ c'.size → effective_scale c ≡ effective_scale c'
unfolding effective_scale
scale_same c c' p q = λ t. scale_where (p t) (q t)

-- Of batch b in a call without a mask whose row i reaches the position at + i.
module _ (c : Call) (x : Inputs) (unmasked : c.mask ≡ NoMask) (b at : ℕ) (reached : (i j : ℕ) → causal_admits c (live_of c x.live b) i j ≡ leb j (at + i)) where
  -- row i admits the keys to at + i that are not padded
  causal_admits_lem : (h i j : ℕ) → admits c x b h i j ≡ (ltb j (live_of c x.live b) && leb j (at + i))
  unfolding admits
  causal_admits_lem h i j =
      (λ t. ltb j (live_of c x.live b) && reached i j t && mask_admits (unmasked t) c x b h i j)
      ∙ and-true (ltb j (live_of c x.live b) && leb j (at + i))

  seen : (h i j : ℕ) → j < live_of c x.live b → j ≤ at + i → admits c x b h i j ≡ true
  seen h i j l m = causal_admits_lem h i j ∙ rw (lt-ltb j (live_of c x.live b) l, le-leb j (at + i) m)

  unseen : (h i j : ℕ) → at + i < j → admits c x b h i j ≡ false
  unseen h i j m = causal_admits_lem h i j ∙ rw (lt-leb j (at + i) m) (and-false (ltb j (live_of c x.live b)))

  -- no mask is added before the cap
  plain_score : (h i j : ℕ) → capped_score c x b h i j ≡ capped_where c.softcap (score_of c.size (query_at c x b h i) (key_at c x b (key_head_of c h) j) (effective_scale c))
  unfolding capped_score masked_score dot_score
  plain_score h i j = ap (λ (m : MaskKind). capped_where c.softcap (with_mask m (dot_score c x b h i j) (mask_cell c x b h i j))) unmasked

  -- the output of row i is that over the keys 0 to at + i, all of them seen, where at + i is not padded
  pub causal_output : (h i k : ℕ) → at + i < live_of c x.live b → live_of c x.live b ≤ total_of c
      → attention_output c x b h i k
      ≡ row_output_of (suc (at + i)) (λ j. true) (λ j. capped_where c.softcap (score_of c.size (query_at c x b h i) (key_at c x b (key_head_of c h) j) (effective_scale c))) (λ j. value_at c x b (key_head_of c h) j k)
  unfolding attention_output
  causal_output h i k l t =
      let value : ℕ → Float = λ j. value_at c x b (key_head_of c h) j k in
      cut_output (suc (at + i)) (total_of c) (admits c x b h i) (capped_score c x b h i) value (omega arith) (λ j m n. unseen h i j m)
      ∙ agree_output (suc (at + i)) (admits c x b h i) (λ j. true) (capped_score c x b h i)
      (λ j. capped_where c.softcap (score_of c.size (query_at c x b h i) (key_at c x b (key_head_of c h) j) (effective_scale c))) value value
      (λ j m. seen h i j (omega arith) (omega arith)) (λ j m e. plain_score h i j) (λ j m e. refl)

  -- every row admits key 0, where that is not padded
  row_seen : 0 < live_of c x.live b → live_of c x.live b ≤ total_of c → (h i : ℕ) → row_masked c x b h i ≡ false
  unfolding row_masked
  row_seen l t h i = seen_not_masked (total_of c) (admits c x b h i) (capped_score c x b h i) 0 (omega arith) (seen h i 0 l zero-le)

-- no row is fully masked, where every batch has a live position
pub causal_none_masked : (c : Call) (x : Inputs) → c.mask ≡ NoMask → (at : ℕ)
    → ((b i j : ℕ) → b < c.batches → causal_admits c (live_of c x.live b) i j ≡ leb j (at + i))
    → ((b : ℕ) → b < c.batches → (0 < live_of c x.live b) × (live_of c x.live b ≤ total_of c))
    → masked_rows_of c x ≡ 0
unfolding masked_rows_of
causal_none_masked c x unmasked at reached live =
    count_none (c.batches * c.qheads * c.qlen)
    (λ n. row_masked c x (batch_at c.qheads c.qlen n) (head_at 4 c.qheads c.qlen n) (position_at 4 c.qheads c.qlen n))
    (λ n l. let b = batch_at c.qheads c.qlen n in let hb = batch_lt c.batches c.qheads c.qlen n l in
    row_seen c x unmasked b at (λ i j. reached b i j hb) (live b hb).0 (live b hb).1 (head_at 4 c.qheads c.qlen n) (position_at 4 c.qheads c.qlen n))
