-- What an accepted call says of the elements that the formula reads: each is a number of magnitude at most 65,536, the scale is from 0 to 1,024, and a query head's key head exists. Assumes nothing.
use Rattle.std.specs.Prelude.{Option, None}
use mathlib.Core.Path.{◌≡◌, refl, sym, ap, ◌∙◌, subst}
use mathlib.Core.List.{List}
use Prim.Native.Nat.{ℕ, ◌+◌, ◌-◌, ◌*◌, ◌/◌, ◌%◌, ◌≤◌, ◌<◌}
use native.Mathlib.Nat.{le_refl, div-lt_iff_lt-mul, div-add-mod', mul_comm}
use native.Mathlib.Omega.{arith}
use mathlib.Core.Bool.{Bool, true, false, not, cond}
use lib.IntN.{ℤ, pos}
use lib.Arith.{digits_div}
use lib.Dec.{T, ltb, ltb→lt, nltb→le, lt→ltb, eqb→eq}
use lib.ListN.{length, get_or}
use lib.Ieee.{Float, le, lt}
use lib.Ieee.Fits.{and_l, and_r}
use lib.Ieee.Bits.{is_true}
use Rattle.float_laws.proofs.Order.{lt→le, le_trans}
use Rattle.tensor_laws.specs.Layout.{slot, batch_at, position_at}
use Rattle.tensor_laws.proofs.Slots.{batch_slot, position_slot, left_factor_pos}
use Rattle.tensor_laws.proofs.Cells.{index_lt}
use Rattle.tables.specs.Scale.{default_scale_of}
use Rattle.tables.proofs.Scale.{default_scale_bounds}
use Rattle.exponential.specs.ExpNeg.{plus_zero, one}
use Rattle.softmax.specs.Lists.{element_of}
use Rattle.softmax.proofs.Bounds.{bounded, element_bound, scale_bound}
use Rattle.call.specs.declared.Call.{Call}
use Rattle.call.specs.declared.Form.{Form}
use Rattle.call.specs.declared.Form.TheVariants.{Plain, Cached, Counted}
use Rattle.call.specs.declared.Scale.{Scale}
use Rattle.call.specs.declared.Scale.TheVariants.{Absent, Given}
use Rattle.call.specs.Tensors.{Inputs, Outputs}
use Rattle.call.specs.Limits.{groups_hold, total_of, past_allowed, scale_allowed}
use Rattle.call.specs.Lengths.{in_cached, in_counted}
use Rattle.call.specs.Contents.{count_fault, live_in, live_of, tensor_fault, looked_at, incoming_fault}
use Rattle.call.proofs.Clear.{live→clear, element→bounded, tensor→clear, incoming→looked, count_most}
use Rattle.call.proofs.Accepted.{Accepts}
use Rattle.call.proofs.Facts.{holds, limits→facts, past_allowed_lem, groups→multiple, settings→facts, fit→lengths}
use Rattle.attention.specs.Elements.{cell_at, key_head_of, query_at, position_cell, key_at, value_at}
use Rattle.attention.specs.Formula.{default_or, scale_where, effective_scale}

-- ---- what a search that finds nothing says of an element

tensor_bounded : (t : List Float) → tensor_fault t ≡ None → (i : ℕ) → i < length t → T (bounded element_bound (element_of t i))
tensor_bounded t e i h = element→bounded (element_of t i) (tensor→clear t e i h)

incoming_bounded : (c : Call) (live : List ℤ) (size : ℕ) (t : List Float) → incoming_fault c live size t ≡ None → (i : ℕ) → i < length t → looked_at c live size i ≡ true → T (bounded element_bound (element_of t i))
incoming_bounded c live size t e i h l = element→bounded (element_of t i) (incoming→looked c live size t e i h l)

-- ---- the live counts

live_in_le : (f : Form) (total batches : ℕ) (live : List ℤ) → length live ≡ in_counted f batches → ((i : ℕ) → i < length live → count_fault total (get_or live i (pos 0)) ≡ false) → (b : ℕ) → b < batches → live_in f total live b ≤ total
live_in_le Plain total batches live e h b l = le_refl total
live_in_le Cached total batches live e h b l = le_refl total
live_in_le Counted total batches live e h b l = count_most total (get_or live b (pos 0)) (h b (omega arith))

-- ---- one position's cell

-- a form with a past that is not 0 has past caches
cached_length : (f : Form) (p n : ℕ) → T (past_allowed f p) → 0 < p → in_cached f n ≡ n
cached_length Plain p n t h = absurd (omega (arith, eqb→eq p 0 t))
cached_length Cached p n t h = refl
cached_length Counted p n t h = absurd (omega (arith, eqb→eq p 0 t))

-- the index of a position below the live count is looked at
looked : (c : Call) (live : List ℤ) (size b g s k : ℕ) → g < c.kvheads → s < c.klen → k < size → c.past + s < live_of c live b → looked_at c live size (slot c.rank c.kvheads c.klen b g s * size + k) ≡ true
looked c live size b g s k hg hs hk l =
    ap (λ (n : ℕ). ltb (c.past + position_at c.rank c.kvheads c.klen n) (live_of c live (batch_at c.kvheads c.klen n))) (digits_div (slot c.rank c.kvheads c.klen b g s) hk)
    ∙ (λ i. ltb (c.past + position_slot c.rank c.kvheads c.klen b g s hg hs i) (live_of c live (batch_slot c.rank c.kvheads c.klen b g s hg hs i)))
    ∙ is_true (ltb (c.past + s) (live_of c live b)) (lt→ltb (c.past + s) (live_of c live b) l)

-- a query head's key head is one of the key heads, where the heads are grouped
pub grouped_head_lt : (c : Call) → groups_hold c ≡ true → (h : ℕ) → h < c.qheads → key_head_of c h < c.kvheads
grouped_head_lt c g h l =
    let r = c.qheads / c.kvheads in
    let e : r * c.kvheads + c.qheads % c.kvheads ≡ c.qheads = div-add-mod' c.qheads c.kvheads in
    let z : c.qheads % c.kvheads ≡ 0 = groups→multiple c g in
    let k : h < r * c.kvheads = omega arith in
    (div-lt_iff_lt-mul (left_factor_pos r c.kvheads h k)).1 (rw mul_comm at k)

module _ {c : Call} {x : Inputs} {y : Outputs} (a : Accepts c x y) where
  -- a batch's live count is at most T
  pub live_le_total : (b : ℕ) → b < c.batches → live_of c x.live b ≤ total_of c
  live_le_total b h =
      live_in_le c.form (total_of c) c.batches x.live (fit→lengths c x a.inputs).live
      (live→clear c x.live a.live) b h

  pub key_head_lt : (h : ℕ) → h < c.qheads → key_head_of c h < c.kvheads
  key_head_lt = grouped_head_lt c a.groups

  -- an element of a query row is within 65,536
  pub query_bounded : (b h i k : ℕ) → b < c.batches → h < c.qheads → i < c.qlen → k < c.size → T (bounded element_bound (query_at c x b h i k))
  query_bounded b h i k hb hh hi hk =
      tensor_bounded x.query a.query (slot c.rank c.qheads c.qlen b h i * c.size + k)
      (rw (fit→lengths c x a.inputs).query (index_lt c.rank c.batches c.qheads c.qlen c.size b h i k hb hh hi hk))

  -- an element of a position below the live count is within 65,536
  position_bounded : (past incoming : List Float) (size : ℕ) → length past ≡ in_cached c.form (c.batches * c.kvheads * c.past * size) → length incoming ≡ c.batches * c.kvheads * c.klen * size
      → tensor_fault past ≡ None → incoming_fault c x.live size incoming ≡ None
      → (b g j k : ℕ) → b < c.batches → g < c.kvheads → j < live_of c x.live b → k < size → T (bounded element_bound (position_cell c past incoming size b g j k))
  position_bounded past incoming size p q u v b g j k hb hg hj hk = go (ltb j c.past) (ltb→lt j c.past) (nltb→le j c.past)
    where
      before : j < c.past → T (bounded element_bound (cell_at past 4 c.kvheads c.past size b g j k))
      before l =
          let n = c.batches * c.kvheads * c.past * size in
          let e : length past ≡ n = p ∙ cached_length c.form c.past n (past_allowed_lem c a.limits) (omega arith) in
          tensor_bounded past u (slot 4 c.kvheads c.past b g j * size + k) (rw e (index_lt 4 c.batches c.kvheads c.past size b g j k hb hg l hk))

      from : c.past ≤ j → T (bounded element_bound (cell_at incoming c.rank c.kvheads c.klen size b g (j - c.past) k))
      from l =
          let s = j - c.past in
          let t = live_le_total b hb in
          let hs : s < c.klen = omega arith in
          incoming_bounded c x.live size incoming v (slot c.rank c.kvheads c.klen b g s * size + k)
          (rw q (index_lt c.rank c.batches c.kvheads c.klen size b g s k hb hg hs hk))
          (looked c x.live size b g s k hg hs hk (omega arith))

      go : (t : Bool) → (T t → j < c.past) → (T (not t) → c.past ≤ j) → T (bounded element_bound (cond t (cell_at past 4 c.kvheads c.past size b g j k) (cell_at incoming c.rank c.kvheads c.klen size b g (j - c.past) k)))
      go true f g = before (f tt)
      go false f g = from (g tt)

  -- an element of the key row of a position below the live count is within 65,536
  pub key_bounded : (b g j k : ℕ) → b < c.batches → g < c.kvheads → j < live_of c x.live b → k < c.size → T (bounded element_bound (key_at c x b g j k))
  key_bounded = let l = fit→lengths c x a.inputs in position_bounded x.past_key x.key c.size l.past_key l.key a.past_key a.key

  -- an element of the value row of a position below the live count is within 65,536
  pub value_bounded : (b g j k : ℕ) → b < c.batches → g < c.kvheads → j < live_of c x.live b → k < c.vsize → T (bounded element_bound (value_at c x b g j k))
  value_bounded = let l = fit→lengths c x a.inputs in position_bounded x.past_value x.value c.vsize l.past_value l.value a.past_value a.value

-- ---- the scale

scale_where_bounded : (s : Scale) (size : ℕ) → scale_allowed s ≡ true → 1 ≤ size → size ≤ 256 → T (le plus_zero (scale_where s size)) × T (le (scale_where s size) scale_bound)
scale_where_bounded Absent size e p q =
    let (s, d, u, v) = default_scale_bounds size p q in
    let r : default_or (default_scale_of size) plus_zero ≡ s = ap (λ (z : Option Float). default_or z plus_zero) d in
    (subst (λ (z : Float). T (le plus_zero z)) (sym r) (lt→le plus_zero s u), subst (λ (z : Float). T (le z scale_bound)) (sym r) (le_trans s one scale_bound v (unfold le in tt)))
scale_where_bounded (Given s) size e p q = (lt→le plus_zero s (and_l (lt plus_zero s) (le s scale_bound) (holds e)), and_r (lt plus_zero s) (le s scale_bound) (holds e))

-- the scale that is used is from 0 to 1,024
pub scale_bounded : {c : Call} {x : Inputs} {y : Outputs} → Accepts c x y → T (le plus_zero (effective_scale c)) × T (le (effective_scale c) scale_bound)
unfolding effective_scale
scale_bounded {c} a = let l = limits→facts c a.limits in scale_where_bounded c.scale c.size (settings→facts c a.settings).scale l.size_some l.size_most

-- the cap is from 0 to 65,536
pub cap_within : {c : Call} {x : Inputs} {y : Outputs} → Accepts c x y → T (le plus_zero c.softcap) × T (le c.softcap element_bound)
cap_within {c} a =
    let h = holds (settings→facts c a.settings).softcap in
    (and_l (le plus_zero c.softcap) (le c.softcap element_bound) h, and_r (le plus_zero c.softcap) (le c.softcap element_bound) h)
