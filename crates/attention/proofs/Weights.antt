-- What an accepted call computes: every weight lies from 0 to 1, E is asked only where it has a value, no element of any tensor is NaN, and the tensors lent for writing do not matter as they came in. Assumes nothing.
use Rattle.std.specs.Prelude.{Option, Some, None, Ok}
use mathlib.Core.Path.{◌≡◌, refl, sym, ap, ◌∙◌, subst}
use Prim.Native.Nat.{ℕ, zero, suc, ◌-◌, ◌*◌, ◌^◌, ◌≤◌, ◌<◌}
use native.Mathlib.Omega.{arith}
use mathlib.Core.Bool.{Bool, true, false, not, cond}
use lib.Dec.{T, ltb, ltb→lt, lit≤}
use lib.ListN.{get_or}
use lib.Ieee.{Float, binary32, round, sub, le, is_nan}
use lib.Ieee.Exact.{HasValue}
use lib.Ieee.Scale.{finite}
use Rattle.float_laws.proofs.Order.{plus_finite, finite_not_nan}
use Rattle.tensor_laws.specs.Layout.{tensor_of}
use Rattle.tensor_laws.proofs.Cells.{every_tabulate, every_cell}
use Rattle.tables.specs.Scale.{ScaleRule}
use Rattle.tables.proofs.Scale.{default_scale}
use Rattle.exponential.specs.ExpNeg.{plus_zero, one}
use Rattle.exponential.proofs.Laws.{InUnit, has_value}
use Rattle.softmax.specs.Row.{largest, largest_of, term_of}
use Rattle.softmax.specs.Lists.{hidden}
use Rattle.softmax.proofs.Bounds.{bounded, element_bound, score_bound, bounded_finite, whole_plus}
use Rattle.softmax.proofs.Unit.{asked_where_valued, largest_one, weight_in_unit, output_bounded}
use Rattle.call.specs.declared.Call.{Call}
use Rattle.call.specs.declared.Form.{Form}
use Rattle.call.specs.declared.Form.TheVariants.{Plain, Cached, Counted}
use Rattle.call.specs.declared.Scale.{Scale}
use Rattle.call.specs.declared.Scale.TheVariants.{Absent}
use Rattle.call.specs.Tensors.{Inputs, Outputs}
use Rattle.call.specs.Limits.{total_of}
use Rattle.call.specs.Contents.{live_in, live_of}
use Rattle.call.specs.Refusals.{verdict_of}
use Rattle.call.proofs.Accepted.{Accepts, verdict→accepts}
use Rattle.call.proofs.Facts.{limits→facts}
use Rattle.attention.specs.Elements.{key_head_of, key_at, value_at}
use Rattle.attention.specs.Admission.{admits}
use Rattle.attention.specs.Formula.{default_or, scale_where, effective_scale, dot_score, masked_score, capped_score, attention_weight, attention_output, shown_score}
use Rattle.attention.specs.Outcomes.{where_cached, present_key_tensor, present_value_tensor, where_shown, scores_tensor, output_tensor, work_row, Outcome, accepted_of, attention_of}
use Rattle.attention.proofs.Outcome.{accepted_outcome}
use Rattle.attention.proofs.Facts.{key_head_lt, key_bounded, value_bounded}
use Rattle.attention.proofs.Bounded.{MaskFits, admits→live, dot_score_bounded, admitted_finite, capped_score_finite}

-- two calls that differ only in the tensors lent for writing, both accepted, have the same outcome
pub outputs_independent : (c : Call) (x : Inputs) (y y' : Outputs) → verdict_of c x y ≡ Ok tt → verdict_of c x y' ≡ Ok tt → attention_of c x y ≡ attention_of c x y'
outputs_independent c x y y' e e' = accepted_outcome c x y e ∙ sym (accepted_outcome c x y' e')

-- The effective scale of an accepted call that gives none obeys the rule of the default scale for its head size.
pub absent_scale : (c : Call) (x : Inputs) (y : Outputs) → verdict_of c x y ≡ Ok tt → c.scale ≡ Absent
    → (m : ℕ) × (e : ℕ) × HasValue (effective_scale c) false m (2 ^ e) × ScaleRule c.size m e
unfolding effective_scale
absent_scale c x y accepted absent =
    let l = limits→facts c (verdict→accepts c x y accepted).limits in
    let (s, m, e, d, v, r) = default_scale c.size l.size_some l.size_most in
    (m, e, subst (λ (z : Float). HasValue z false m (2 ^ e)) (sym (ap (λ (k : Scale). scale_where k c.size) absent ∙ ap (λ (k : Option Float). default_or k plus_zero) d)) v, r)

zero_in_unit : InUnit plus_zero
zero_in_unit = record { sign = tt; at_most = unfold le in tt }

-- x is a number or an infinity
abbrev Known : Float → Type 0
Known z = T (not (is_nan z))

zero_known : Known plus_zero
zero_known = unfold is_nan in tt

unit_known : (z : Float) → InUnit z → Known z
unit_known z u = finite_not_nan z (plus_finite z u.sign)

bounded_known : (b z : Float) → T (finite b) → T (bounded b z) → Known z
bounded_known b z f h = finite_not_nan z (bounded_finite b z f h)

module _ (c : Call) (x : Inputs) (y : Outputs) (accepted : verdict_of c x y ≡ Ok tt) (fit : MaskFits x) where
  a : Accepts c x y
  a = verdict→accepts c x y accepted

  small : total_of c ≤ 2048
  small = (limits→facts c a.limits).total_most

  -- ---- the weights

  -- a weight is a number from 0 to 1
  pub weights_in_unit : (b h i j : ℕ) → b < c.batches → h < c.qheads → i < c.qlen → j < total_of c → InUnit (attention_weight c x b h i j)
  unfolding attention_weight
  weights_in_unit b h i j hb hh hi hj = weight_in_unit (total_of c) (admits c x b h i) (capped_score c x b h i) small (λ k l s. capped_score_finite a b h i hb hh hi fit k s) j hj

  -- E is never asked below 0 or at NaN
  pub exponential_asked_where_valued : (b h i : ℕ) → b < c.batches → h < c.qheads → i < c.qlen → (m : Float) → largest_of (total_of c) (admits c x b h i) (capped_score c x b h i) ≡ largest m → (j : ℕ) → j < total_of c → admits c x b h i j ≡ true → T (has_value (sub binary32 m (capped_score c x b h i j)))
  exponential_asked_where_valued b h i hb hh hi = asked_where_valued (total_of c) (admits c x b h i) (capped_score c x b h i) (λ k l s. capped_score_finite a b h i hb hh hi fit k s)

  -- where a row admits any key, one that it admits has the largest score, and E of that is 1
  pub largest_score_one : (b h i j : ℕ) → b < c.batches → h < c.qheads → i < c.qlen → j < total_of c → admits c x b h i j ≡ true
      → (k : ℕ) × (k < total_of c) × (admits c x b h i k ≡ true)
      × ((l : ℕ) → l < total_of c → admits c x b h i l ≡ true → T (le (capped_score c x b h i l) (capped_score c x b h i k)))
      × (term_of (largest_of (total_of c) (admits c x b h i) (capped_score c x b h i)) (capped_score c x b h i k) ≡ one)
  largest_score_one b h i j hb hh hi hj s = largest_one (total_of c) (admits c x b h i) (capped_score c x b h i) small (λ k l s. capped_score_finite a b h i hb hh hi fit k s) j hj s

  work_row_in_unit : (i : ℕ) → InUnit (get_or (work_row c x) i plus_zero)
  unfolding work_row
  work_row_in_unit =
      let l = limits→facts c a.limits in
      every_tabulate InUnit (total_of c) (attention_weight c x (c.batches - 1) (c.qheads - 1) (c.qlen - 1)) plus_zero zero_in_unit
      (λ j hj. weights_in_unit (c.batches - 1) (c.qheads - 1) (c.qlen - 1) j (last c.batches l.batches_some) (last c.qheads l.qheads_some) (last c.qlen l.qlen_some) hj)
    where
      last : (n : ℕ) → 1 ≤ n → n - 1 < n
      last n h = omega arith

  -- what holds of the outcome's tensors by the formula holds of the call's
  at_outcome : (P : Outcome → Type 0) → P (accepted_of c x) → P (attention_of c x y)
  at_outcome P p = subst P (sym (accepted_outcome c x y accepted)) p

  -- every element of the scratch row is a number from 0 to 1
  pub work_in_unit : (i : ℕ) → InUnit (get_or (attention_of c x y).tensors.work i plus_zero)
  work_in_unit i = at_outcome (λ o. InUnit (get_or o.tensors.work i plus_zero)) (unfold accepted_of in work_row_in_unit i)

  shown_in_unit : c.mode ≡ Some 3 → (i : ℕ) → InUnit (get_or (scores_tensor c x) i plus_zero)
  unfolding scores_tensor
  shown_in_unit e i =
      subst (λ (m : Option ℕ). InUnit (get_or (where_shown m (λ m. tensor_of 4 c.batches c.qheads c.qlen (total_of c) (shown_score m c x))) i plus_zero)) (sym e)
      (every_cell InUnit 4 c.batches c.qheads c.qlen (total_of c) (shown_score 3 c x) plus_zero zero_in_unit weights_in_unit i)

  -- in mode 3 every element of the scores is a number from 0 to 1
  pub scores_in_unit : c.mode ≡ Some 3 → (i : ℕ) → InUnit (get_or (attention_of c x y).tensors.scores i plus_zero)
  scores_in_unit e i = at_outcome (λ o. InUnit (get_or o.tensors.scores i plus_zero)) (unfold accepted_of in shown_in_unit e i)

  -- ---- no NaN

  output_known : (i : ℕ) → Known (get_or (output_tensor c x) i plus_zero)
  unfolding output_tensor attention_output
  output_known = every_cell Known c.rank c.batches c.qheads c.qlen c.vsize (attention_output c x) plus_zero zero_known cell
    where
      cell : (b h i k : ℕ) → b < c.batches → h < c.qheads → i < c.qlen → k < c.vsize → Known (attention_output c x b h i k)
      cell b h i k hb hh hi hk =
          let n = total_of c in
          let r = round binary32 false (n * 2 ^ 16) 1 in
          bounded_known r (attention_output c x b h i k) (plus_finite r (whole_plus n 16 (omega (arith, small)) (lit≤ tt)))
          (output_bounded n (admits c x b h i) (capped_score c x b h i) (λ j. value_at c x b (key_head_of c h) j k) small (λ j l s. capped_score_finite a b h i hb hh hi fit j s)
          (λ j l s. value_bounded a b (key_head_of c h) j k hb (key_head_lt a h hh) (admits→live c x b h i j s) hk))

  -- in the cached form every position is below the live count
  cached_known : (size : ℕ) (cell : ℕ → ℕ → ℕ → ℕ → Float) → ((b g j k : ℕ) → b < c.batches → g < c.kvheads → j < live_of c x.live b → k < size → T (bounded element_bound (cell b g j k)))
      → (i : ℕ) → Known (get_or (where_cached c.form (tensor_of 4 c.batches c.kvheads (total_of c) size cell)) i plus_zero)
  cached_known size cell f i = go c.form refl
    where
      go : (m : Form) → c.form ≡ m → Known (get_or (where_cached m (tensor_of 4 c.batches c.kvheads (total_of c) size cell)) i plus_zero)
      go Plain e = zero_known
      go Cached e =
          every_cell Known 4 c.batches c.kvheads (total_of c) size cell plus_zero zero_known
          (λ b g j k hb hg hj hk. bounded_known element_bound (cell b g j k) tt (f b g j k hb hg (subst (λ (m : Form). j < live_in m (total_of c) x.live b) (sym e) hj) hk)) i
      go Counted e = zero_known

  present_key_known : (i : ℕ) → Known (get_or (present_key_tensor c x) i plus_zero)
  unfolding present_key_tensor
  present_key_known = cached_known c.size (key_at c x) (key_bounded a)

  present_value_known : (i : ℕ) → Known (get_or (present_value_tensor c x) i plus_zero)
  unfolding present_value_tensor
  present_value_known = cached_known c.vsize (value_at c x) (value_bounded a)

  shown_known : (m : ℕ) (b h i j : ℕ) → b < c.batches → h < c.qheads → i < c.qlen → j < total_of c → Known (shown_score m c x b h i j)
  shown_known zero b h i j hb hh hi hj = go (ltb j (live_of c x.live b)) (ltb→lt j (live_of c x.live b))
    where
      go : (t : Bool) → (T t → j < live_of c x.live b) → Known (cond t (dot_score c x b h i j) plus_zero)
      go true l = bounded_known score_bound (dot_score c x b h i j) tt (dot_score_bounded a b h i hb hh hi j (l tt))
      go false l = zero_known
  shown_known (suc m) b h i j hb hh hi hj = later m
    where
      marked : (s : Float) → (admits c x b h i j ≡ true → T (finite s)) → (t : Bool) → admits c x b h i j ≡ t → Known (cond t s hidden)
      marked s f true e = finite_not_nan s (f e)
      marked s f false e = unfold is_nan in tt

      later : (m : ℕ) → Known (shown_score (suc m) c x b h i j)
      later zero = marked (masked_score c x b h i j) (admitted_finite a b h i hb hh hi fit j) (admits c x b h i j) refl
      later (suc zero) = marked (capped_score c x b h i j) (capped_score_finite a b h i hb hh hi fit j) (admits c x b h i j) refl
      later (suc (suc m)) = unit_known (attention_weight c x b h i j) (weights_in_unit b h i j hb hh hi hj)

  scores_known : (i : ℕ) → Known (get_or (scores_tensor c x) i plus_zero)
  unfolding scores_tensor
  scores_known i = go c.mode
    where
      go : (m : Option ℕ) → Known (get_or (where_shown m (λ m. tensor_of 4 c.batches c.qheads c.qlen (total_of c) (shown_score m c x))) i plus_zero)
      go None = zero_known
      go (Some m) = every_cell Known 4 c.batches c.qheads c.qlen (total_of c) (shown_score m c x) plus_zero zero_known (shown_known m) i

-- no element of any of the five tensors is NaN
pub record NoNan (t : Outputs) : Type 0 where
  pub output : (i : ℕ) → T (not (is_nan (get_or t.output i plus_zero)))
  pub present_key : (i : ℕ) → T (not (is_nan (get_or t.present_key i plus_zero)))
  pub present_value : (i : ℕ) → T (not (is_nan (get_or t.present_value i plus_zero)))
  pub scores : (i : ℕ) → T (not (is_nan (get_or t.scores i plus_zero)))
  pub work : (i : ℕ) → T (not (is_nan (get_or t.work i plus_zero)))

-- an accepted call computes no NaN
pub no_nan : (c : Call) (x : Inputs) (y : Outputs) → verdict_of c x y ≡ Ok tt → MaskFits x → NoNan (attention_of c x y).tensors
unfolding accepted_of
no_nan c x y e fit =
    at_outcome c x y e fit (λ o. NoNan o.tensors)
    (record {
      output = output_known c x y e fit;
      present_key = present_key_known c x y e fit;
      present_value = present_value_known c x y e fit;
      scores = scores_known c x y e fit;
      work = λ i. unit_known (get_or (work_row c x) i plus_zero) (work_row_in_unit c x y e fit i);
    })
