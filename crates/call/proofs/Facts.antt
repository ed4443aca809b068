-- What the first six refusals say where they do not apply: the dimensions' limits, a past of 0 outside the cached form, the head groups, the settings, the mask's dimensions, and the length of every lent tensor; the converses for the limits and the lengths; and what 2, 3 and 4 look at. Assumes nothing.
use mathlib.Core.Path.{◌≡◌, sym, ap, subst}
use mathlib.Core.Logic.{◌⊎◌, inl, inr}
use Prim.Native.Nat.{ℕ, ◌%◌, ◌≤◌}
use mathlib.Core.Bool.{Bool, true, ◌&&◌, ◌||◌}
use lib.Dec.{T, leb, eqb, leb→le, eqb→eq}
use lib.ListN.{length}
use lib.Ieee.Fits.{and_l, and_r}
use lib.Ieee.Bits.{is_true}
use borrow.Author.Tests.{le-leb, eq-eqb}
use mir.Facts.{or_yes}
use Rattle.bool_laws.proofs.Tests.{four, five, eight}
use Rattle.call.specs.declared.Call.{Call}
use Rattle.call.specs.declared.MaskKind.{MaskKind}
use Rattle.call.specs.declared.MaskKind.TheVariants.{NoMask, Boolean, FloatMask}
use Rattle.call.specs.Tensors.{Inputs, Outputs}
use Rattle.call.specs.Limits.{total_of, within, past_allowed, limits_hold, groups_hold, mode_allowed, scale_allowed, cap_allowed, settings_hold, one_or, dimensions_hold, where_masked, mask_shape_holds}
use Rattle.call.specs.Lengths.{in_boolean, in_float, query_length, key_length, value_length, mask_length, past_key_length, past_value_length, live_length, output_length, present_key_length, present_value_length, scores_length, inputs_fit, outputs_fit}

-- ---- tests

-- a test that is true passes
pub holds : {b : Bool} → b ≡ true → T b
holds e = subst T (sym e) tt

pub bounds : (lo hi x : ℕ) → T (within lo hi x) → (lo ≤ x) × (x ≤ hi)
bounds lo hi x t = (leb→le lo x (and_l (leb lo x) (leb x hi) t), leb→le x hi (and_r (leb lo x) (leb x hi) t))

-- ---- 1: dimensions

-- every dimension and T within its limits
pub record InLimits (c : Call) : Type 0 where
  pub batches_some : 1 ≤ c.batches
  pub batches_most : c.batches ≤ 8
  pub qheads_some : 1 ≤ c.qheads
  pub qheads_most : c.qheads ≤ 32
  pub kvheads_some : 1 ≤ c.kvheads
  pub kvheads_most : c.kvheads ≤ 32
  pub qlen_some : 1 ≤ c.qlen
  pub qlen_most : c.qlen ≤ 2048
  pub klen_some : 1 ≤ c.klen
  pub klen_most : c.klen ≤ 2048
  pub total_most : total_of c ≤ 2048
  pub size_some : 1 ≤ c.size
  pub size_most : c.size ≤ 256
  pub vsize_some : 1 ≤ c.vsize
  pub vsize_most : c.vsize ≤ 256

-- the first eight tests of the limits, and the last
limits_parts : (c : Call) → limits_hold c ≡ true
    → T (within 1 8 c.batches && within 1 32 c.qheads && within 1 32 c.kvheads && within 1 2048 c.qlen && within 1 2048 c.klen && leb (total_of c) 2048 && within 1 256 c.size && within 1 256 c.vsize) × T (past_allowed c.form c.past)
unfolding limits_hold
limits_parts c e =
    let first = within 1 8 c.batches && within 1 32 c.qheads && within 1 32 c.kvheads && within 1 2048 c.qlen && within 1 2048 c.klen && leb (total_of c) 2048 && within 1 256 c.size && within 1 256 c.vsize in
    let t : T (first && past_allowed c.form c.past) = holds e in
    (and_l first (past_allowed c.form c.past) t, and_r first (past_allowed c.form c.past) t)

-- where refusal 1 does not apply, every dimension is within its limits
pub limits→facts : (c : Call) → limits_hold c ≡ true → InLimits c
limits→facts c e =
    let q = eight (within 1 8 c.batches) (within 1 32 c.qheads) (within 1 32 c.kvheads) (within 1 2048 c.qlen) (within 1 2048 c.klen) (leb (total_of c) 2048) (within 1 256 c.size) (within 1 256 c.vsize) (limits_parts c e).0 in
    let b = bounds 1 8 c.batches q.0 in
    let h = bounds 1 32 c.qheads q.1 in
    let g = bounds 1 32 c.kvheads q.2 in
    let s = bounds 1 2048 c.qlen q.3 in
    let k = bounds 1 2048 c.klen q.4 in
    let d = bounds 1 256 c.size q.6 in
    let v = bounds 1 256 c.vsize q.7 in
    record {
      batches_some = b.0;
      batches_most = b.1;
      qheads_some = h.0;
      qheads_most = h.1;
      kvheads_some = g.0;
      kvheads_most = g.1;
      qlen_some = s.0;
      qlen_most = s.1;
      klen_some = k.0;
      klen_most = k.1;
      total_most = leb→le (total_of c) 2048 q.5;
      size_some = d.0;
      size_most = d.1;
      vsize_some = v.0;
      vsize_most = v.1;
    }

-- where every dimension is within its limits and the form allows the past, refusal 1 does not apply
pub facts→limits : (c : Call) → InLimits c → past_allowed c.form c.past ≡ true → limits_hold c ≡ true
unfolding limits_hold
facts→limits c f p =
    rw (
      le-leb 1 c.batches f.batches_some,
      le-leb c.batches 8 f.batches_most,
      le-leb 1 c.qheads f.qheads_some,
      le-leb c.qheads 32 f.qheads_most,
      le-leb 1 c.kvheads f.kvheads_some,
      le-leb c.kvheads 32 f.kvheads_most,
      le-leb 1 c.qlen f.qlen_some,
      le-leb c.qlen 2048 f.qlen_most,
      le-leb 1 c.klen f.klen_some,
      le-leb c.klen 2048 f.klen_most,
      le-leb (total_of c) 2048 f.total_most,
      le-leb 1 c.size f.size_some,
      le-leb c.size 256 f.size_most,
      le-leb 1 c.vsize f.vsize_some,
      le-leb c.vsize 256 f.vsize_most,
      p,
    )

-- the past is one that the form allows
pub past_allowed_lem : (c : Call) → limits_hold c ≡ true → T (past_allowed c.form c.past)
past_allowed_lem c e = (limits_parts c e).1

-- ---- 2: head groups

-- where refusal 2 does not apply, the query heads are a multiple of the key heads
pub groups→multiple : (c : Call) → groups_hold c ≡ true → c.qheads % c.kvheads ≡ 0
unfolding groups_hold
groups→multiple c e = eqb→eq (c.qheads % c.kvheads) 0 (holds e)

-- refusal 2 looks at the heads alone
pub groups_same : (c d : Call) → c.qheads ≡ d.qheads → c.kvheads ≡ d.kvheads → groups_hold c ≡ groups_hold d
unfolding groups_hold
groups_same c d q k = λ i. eqb (q i % k i) 0

-- ---- 3: settings

-- the rank, the causal flag, the score mode, the scale and the cap are allowed
pub record InSettings (c : Call) : Type 0 where
  pub rank : (c.rank ≡ 3) ⊎ (c.rank ≡ 4)
  pub causal : c.causal ≤ 1
  pub mode : mode_allowed c.mode ≡ true
  pub scale : scale_allowed c.scale ≡ true
  pub softcap : cap_allowed c.softcap ≡ true

rank_of_lem : (r : ℕ) → T (eqb r 3) ⊎ T (eqb r 4) → (r ≡ 3) ⊎ (r ≡ 4)
rank_of_lem r (inl t) = inl (eqb→eq r 3 t)
rank_of_lem r (inr t) = inr (eqb→eq r 4 t)

-- where refusal 3 does not apply, the settings are allowed
pub settings→facts : (c : Call) → settings_hold c ≡ true → InSettings c
unfolding settings_hold
settings→facts c e =
    let q = five (eqb c.rank 3 || eqb c.rank 4) (leb c.causal 1) (mode_allowed c.mode) (scale_allowed c.scale) (cap_allowed c.softcap) (holds e) in
    record {
      rank = rank_of_lem c.rank (or_yes (eqb c.rank 3) (eqb c.rank 4) q.0);
      causal = leb→le c.causal 1 q.1;
      mode = is_true (mode_allowed c.mode) q.2;
      scale = is_true (scale_allowed c.scale) q.3;
      softcap = is_true (cap_allowed c.softcap) q.4;
    }

-- refusal 3 looks at the settings alone
pub settings_same : (c d : Call) → c.rank ≡ d.rank → c.causal ≡ d.causal → c.mode ≡ d.mode → c.scale ≡ d.scale → c.softcap ≡ d.softcap → settings_hold c ≡ settings_hold d
unfolding settings_hold
settings_same c d r l m s p = λ i. (eqb (r i) 3 || eqb (r i) 4) && leb (l i) 1 && mode_allowed (m i) && scale_allowed (s i) && cap_allowed (p i)

-- ---- 4: the mask's dimensions

-- each dimension of the mask is 1 or its full size
pub record MaskShaped (c : Call) : Type 0 where
  pub maskb : (c.maskb ≡ 1) ⊎ (c.maskb ≡ c.batches)
  pub maskh : (c.maskh ≡ 1) ⊎ (c.maskh ≡ c.qheads)
  pub maskq : (c.maskq ≡ 1) ⊎ (c.maskq ≡ c.qlen)
  pub maskk : (c.maskk ≡ 1) ⊎ (c.maskk ≡ total_of c)

one_or_lem : (full d : ℕ) → T (one_or full d) → (d ≡ 1) ⊎ (d ≡ full)
one_or_lem full d t = elim (or_yes (eqb d 1) (eqb d full) t) [ inl u ↦ inl (eqb→eq d 1 u) | inr u ↦ inr (eqb→eq d full u) ]

dimensions→facts : (c : Call) → T (dimensions_hold c) → MaskShaped c
dimensions→facts c t =
    let q = four (one_or c.batches c.maskb) (one_or c.qheads c.maskh) (one_or c.qlen c.maskq) (one_or (total_of c) c.maskk) t in
    record {
      maskb = one_or_lem c.batches c.maskb q.0;
      maskh = one_or_lem c.qheads c.maskh q.1;
      maskq = one_or_lem c.qlen c.maskq q.2;
      maskk = one_or_lem (total_of c) c.maskk q.3;
    }

-- where there is a mask and refusal 4 does not apply, each dimension of the mask is 1 or its full size
pub shape→facts : (c : Call) → mask_shape_holds c ≡ true → (c.mask ≡ Boolean) ⊎ (c.mask ≡ FloatMask) → MaskShaped c
unfolding mask_shape_holds
shape→facts c e m = dimensions→facts c (shaped m)
  where
    shaped : (c.mask ≡ Boolean) ⊎ (c.mask ≡ FloatMask) → T (dimensions_hold c)
    shaped (inl k) = subst (λ (m : MaskKind). T (where_masked m (dimensions_hold c))) k (holds e)
    shaped (inr k) = subst (λ (m : MaskKind). T (where_masked m (dimensions_hold c))) k (holds e)

-- without a mask refusal 4 does not apply
pub shape_without_mask : (c : Call) → c.mask ≡ NoMask → mask_shape_holds c ≡ true
unfolding mask_shape_holds
shape_without_mask c e = ap (λ (m : MaskKind). where_masked m (dimensions_hold c)) e

-- ---- 5 and 6: lengths

-- every tensor that is read has its length
pub record InputLengths (c : Call) (x : Inputs) : Type 0 where
  pub query : length x.query ≡ query_length c
  pub key : length x.key ≡ key_length c
  pub value : length x.value ≡ value_length c
  pub bool_mask : length x.bool_mask ≡ in_boolean c.mask (mask_length c)
  pub float_mask : length x.float_mask ≡ in_float c.mask (mask_length c)
  pub past_key : length x.past_key ≡ past_key_length c
  pub past_value : length x.past_value ≡ past_value_length c
  pub live : length x.live ≡ live_length c

-- where refusal 5 does not apply, every tensor that is read has its length
pub fit→lengths : (c : Call) (x : Inputs) → inputs_fit c x ≡ true → InputLengths c x
unfolding inputs_fit
fit→lengths c x e =
    let q = eight (eqb (length x.query) (query_length c)) (eqb (length x.key) (key_length c)) (eqb (length x.value) (value_length c)) (eqb (length x.bool_mask) (in_boolean c.mask (mask_length c))) (eqb (length x.float_mask) (in_float c.mask (mask_length c))) (eqb (length x.past_key) (past_key_length c)) (eqb (length x.past_value) (past_value_length c)) (eqb (length x.live) (live_length c)) (holds e) in
    record {
      query = eqb→eq (length x.query) (query_length c) q.0;
      key = eqb→eq (length x.key) (key_length c) q.1;
      value = eqb→eq (length x.value) (value_length c) q.2;
      bool_mask = eqb→eq (length x.bool_mask) (in_boolean c.mask (mask_length c)) q.3;
      float_mask = eqb→eq (length x.float_mask) (in_float c.mask (mask_length c)) q.4;
      past_key = eqb→eq (length x.past_key) (past_key_length c) q.5;
      past_value = eqb→eq (length x.past_value) (past_value_length c) q.6;
      live = eqb→eq (length x.live) (live_length c) q.7;
    }

-- where every tensor that is read has its length, refusal 5 does not apply
pub lengths→fit : (c : Call) (x : Inputs) → InputLengths c x → inputs_fit c x ≡ true
unfolding inputs_fit
lengths→fit c x l =
    rw (
      eq-eqb (length x.query) (query_length c) l.query,
      eq-eqb (length x.key) (key_length c) l.key,
      eq-eqb (length x.value) (value_length c) l.value,
      eq-eqb (length x.bool_mask) (in_boolean c.mask (mask_length c)) l.bool_mask,
      eq-eqb (length x.float_mask) (in_float c.mask (mask_length c)) l.float_mask,
      eq-eqb (length x.past_key) (past_key_length c) l.past_key,
      eq-eqb (length x.past_value) (past_value_length c) l.past_value,
      eq-eqb (length x.live) (live_length c) l.live,
    )

-- every tensor that is written has its length
pub record OutputLengths (c : Call) (y : Outputs) : Type 0 where
  pub output : length y.output ≡ output_length c
  pub present_key : length y.present_key ≡ present_key_length c
  pub present_value : length y.present_value ≡ present_value_length c
  pub scores : length y.scores ≡ scores_length c
  pub work : length y.work ≡ total_of c

-- where refusal 6 does not apply, every tensor that is written has its length
pub outputs→lengths : (c : Call) (y : Outputs) → outputs_fit c y ≡ true → OutputLengths c y
unfolding outputs_fit
outputs→lengths c y e =
    let q = five (eqb (length y.output) (output_length c)) (eqb (length y.present_key) (present_key_length c)) (eqb (length y.present_value) (present_value_length c)) (eqb (length y.scores) (scores_length c)) (eqb (length y.work) (total_of c)) (holds e) in
    record {
      output = eqb→eq (length y.output) (output_length c) q.0;
      present_key = eqb→eq (length y.present_key) (present_key_length c) q.1;
      present_value = eqb→eq (length y.present_value) (present_value_length c) q.2;
      scores = eqb→eq (length y.scores) (scores_length c) q.3;
      work = eqb→eq (length y.work) (total_of c) q.4;
    }

-- where every tensor that is written has its length, refusal 6 does not apply
pub lengths→outputs : (c : Call) (y : Outputs) → OutputLengths c y → outputs_fit c y ≡ true
unfolding outputs_fit
lengths→outputs c y l =
    rw (
      eq-eqb (length y.output) (output_length c) l.output,
      eq-eqb (length y.present_key) (present_key_length c) l.present_key,
      eq-eqb (length y.present_value) (present_value_length c) l.present_value,
      eq-eqb (length y.scores) (scores_length c) l.scores,
      eq-eqb (length y.work) (total_of c) l.work,
    )
