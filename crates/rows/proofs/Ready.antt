-- What an accepted call gives to the steps of its rows: the rows of queries, keys and values are inside their tensors, the mask has the cells of a row, and a group of query heads is not empty. Assumes nothing.
use mathlib.Core.Path.{◌≡◌, refl, sym, ap, ◌∙◌, subst}
use mathlib.Core.Logic.{◌⊎◌, inl, inr}
use Prim.Native.Nat.{ℕ, zero, suc, ◌+◌, ◌-◌, ◌*◌, ◌/◌, ◌%◌, ◌≤◌, ◌<◌}
use native.Mathlib.Nat.{div-add-mod', zero-mul, mul-le-mul}
use native.Mathlib.Decide.{dec_lt}
use native.Mathlib.Omega.{arith}
use lib.ListN.{length}
use lib.Ieee.{Float}
use Rattle.tensor_laws.specs.Layout.{slot}
use Rattle.tensor_laws.proofs.Written.{row_inside}
use Rattle.call.specs.declared.Call.{Call}
use Rattle.call.specs.declared.MaskKind.{MaskKind}
use Rattle.call.specs.declared.MaskKind.TheVariants.{NoMask, Boolean, FloatMask}
use Rattle.call.specs.Limits.{total_of}
use Rattle.call.specs.Lengths.{in_boolean, in_float, mask_length}
use Rattle.call.specs.Tensors.{Inputs}
use Rattle.call.proofs.Accepted.{Accepts, verdict→accepts}
use Rattle.call.proofs.Facts.{InLimits, InputLengths, limits→facts, groups→multiple, fit→lengths}
use Rattle.call.proofs.MaskBounds.{mask_bounds}
use Rattle.attention.specs.Elements.{key_head_of}
use Rattle.attention.specs.Admission.{repeated}
use Rattle.attention.proofs.Facts.{key_head_lt}
use Rattle.attention.proofs.Bounded.{mask_index_lt}
use Rattle.caches.specs.Fits.{RowFits}
use Rattle.caches.proofs.Lengths.{past_length_is}
use Rattle.row_steps.specs.Steps.{mask_start, MaskRowFits}
use Rattle.admitted_sum.specs.Sums.{MaskHas}
use Rattle.row_steps.proofs.Masked.{repeated_full}
use Rattle.row_runs.specs.Runs.{RunFits}
use Rattle.rows.specs.Unit.{Accepting}
use Rattle.rows.proofs.Seen.{index_from_start}

module _ {c : Call} {x : Inputs} {scale : Float} (r : Accepting c x scale) where
  -- none of the nine refusals applies
  pub accepts : Accepts c x r.lent
  accepts = verdict→accepts c x r.lent r.accepted

  pub limits : InLimits c
  limits = limits→facts c accepts.limits

  pub lengths : InputLengths c x
  lengths = fit→lengths c x accepts.inputs

  -- a group of query heads has a head
  pub group_some : 1 ≤ c.qheads / c.kvheads
  group_some = go (c.qheads / c.kvheads) (div-add-mod' c.qheads c.kvheads)
    where
      go : (n : ℕ) → n * c.kvheads + c.qheads % c.kvheads ≡ c.qheads → 1 ≤ n
      go zero e = absurd (omega (arith, zero-mul c.kvheads, groups→multiple c accepts.groups, limits.qheads_some))
      go (suc n) e = omega arith

  -- ---- rows

  module _ (b h i : ℕ) (hb : b < c.batches) (hh : h < c.qheads) (hi : i < c.qlen) where
    -- a row of a tensor with the query's heads and length
    pub query_row_fits : (size : ℕ) → size ≤ 2048 → RowFits c.qheads c.qlen size b h i
    query_row_fits size s = record { heads_most = limits.qheads_most; len_most = limits.qlen_most; size_most = s; batch = omega (arith, limits.batches_most); head = hh; position = hi }

    pub query_row_end : slot c.rank c.qheads c.qlen b h i * c.size + c.size ≤ length x.query
    query_row_end = rw lengths.query (row_inside c.rank c.batches c.qheads c.qlen c.size b h i hb hh hi)

  pub key_run : (b h : ℕ) → b < c.batches → h < c.qheads → RunFits c (length x.past_key) (length x.key) c.size b (key_head_of c h) c.past 0
  key_run b h hb hh = record {
    limits = accepts.limits;
    size_some = limits.size_some;
    size_most = limits.size_most;
    past_length_is = lengths.past_key ∙ past_length_is c c.size accepts.limits;
    incoming_length_is = lengths.key;
    batch = hb;
    head = key_head_lt accepts h hh;
    together = λ l. omega arith;
    inside = omega arith;
  }

  pub value_run : (b h : ℕ) → b < c.batches → h < c.qheads → RunFits c (length x.past_value) (length x.value) c.vsize b (key_head_of c h) c.past 0
  value_run b h hb hh = record {
    limits = accepts.limits;
    size_some = limits.vsize_some;
    size_most = limits.vsize_most;
    past_length_is = lengths.past_value ∙ past_length_is c c.vsize accepts.limits;
    incoming_length_is = lengths.value;
    batch = hb;
    head = key_head_lt accepts h hh;
    together = λ l. omega arith;
    inside = omega arith;
  }

  -- ---- the mask's cells of a row

  mask_small : (c.mask ≡ Boolean) ⊎ (c.mask ≡ FloatMask) → mask_length c ≤ 1073741824
  mask_small m =
      let d = mask_bounds c accepts.limits accepts.mask_shape m in
      let p : c.maskb * c.maskh ≤ 8 * 32 = mul-le-mul d.0 d.1.0 in
      let q : c.maskb * c.maskh * c.maskq ≤ 8 * 32 * 2048 = mul-le-mul p d.1.1.0 in
      let w : mask_length c ≤ 8 * 32 * 2048 * 2048 = mul-le-mul q d.1.1.1 in
      omega arith

  module _ (b h i : ℕ) (hb : b < c.batches) (hh : h < c.qheads) (hi : i < c.qlen) where
    -- the cell of a position stands below the mask's length
    cell_inside : (m : (c.mask ≡ Boolean) ⊎ (c.mask ≡ FloatMask)) (j : ℕ) → j < total_of c → mask_start c.mask c b h i + repeated c.maskk j < mask_length c
    cell_inside m j l = subst (λ (n : ℕ). n < mask_length c) (index_from_start c b h i j m) (mask_index_lt c accepts.mask_shape m b h i j hb hh hi l)

    -- the mask of that kind has as many cells as its dimensions say
    boolean_long : c.mask ≡ Boolean → length x.bool_mask ≡ mask_length c
    boolean_long e = lengths.bool_mask ∙ ap (λ (k : MaskKind). in_boolean k (mask_length c)) e

    float_long : c.mask ≡ FloatMask → length x.float_mask ≡ mask_length c
    float_long e = lengths.float_mask ∙ ap (λ (k : MaskKind). in_float k (mask_length c)) e

    -- the mask has a cell for every position
    pub mask_has : (j : ℕ) → j < total_of c → MaskHas c.mask (length x.bool_mask) (length x.float_mask) (mask_start c.mask c b h i + repeated c.maskk j)
    mask_has j l = go c.mask refl
      where
        go : (k : MaskKind) → c.mask ≡ k → MaskHas k (length x.bool_mask) (length x.float_mask) (mask_start c.mask c b h i + repeated c.maskk j)
        go NoMask e = tt
        go Boolean e = omega (arith, boolean_long e, cell_inside (inl e) j l)
        go FloatMask e = omega (arith, float_long e, cell_inside (inr e) j l)

    -- the cells of n positions are within a mask of that length
    row_inside_mask : (m : (c.mask ≡ Boolean) ⊎ (c.mask ≡ FloatMask)) (n : ℕ) → n ≤ total_of c → (mask_start c.mask c b h i < mask_length c) × ((c.maskk ≡ 1 → ⊥) → mask_start c.mask c b h i + n ≤ mask_length c)
    row_inside_mask m n l =
        let first = cell_inside m 0 (omega (arith, limits.klen_some)) in
        (omega arith, λ w. go w (dec_lt 0 n))
      where
        go : (c.maskk ≡ 1 → ⊥) → Dec (0 < n) → mask_start c.mask c b h i + n ≤ mask_length c
        go w (yes h) = omega (arith, cell_inside m (n - 1) (omega arith), repeated_full c.maskk (n - 1) w)
        go w (no h) = omega (arith, cell_inside m 0 (omega (arith, limits.klen_some)))

    -- the mask has the cells of n positions
    pub mask_row_fits : (n : ℕ) → n ≤ total_of c → MaskRowFits c.mask (length x.bool_mask) (length x.float_mask) (mask_start c.mask c b h i) c.maskk n
    mask_row_fits n l = go c.mask refl
      where
        go : (k : MaskKind) → c.mask ≡ k → MaskRowFits k (length x.bool_mask) (length x.float_mask) (mask_start c.mask c b h i) c.maskk n
        go NoMask e = tt
        go Boolean e = rw (boolean_long e) (row_inside_mask (inl e) n l)
        go FloatMask e = rw (float_long e) (row_inside_mask (inr e) n l)

    -- where they start and end is a small number
    pub mask_start_small : (n : ℕ) → n ≤ total_of c → mask_start c.mask c b h i + n < 0x100000000
    mask_start_small n l = go c.mask refl
      where
        small : (m : (c.mask ≡ Boolean) ⊎ (c.mask ≡ FloatMask)) → mask_start c.mask c b h i + n < 0x100000000
        small m = omega (arith, cell_inside m 0 (omega (arith, limits.klen_some)), mask_small m, limits.total_most)

        go : (k : MaskKind) → c.mask ≡ k → mask_start c.mask c b h i + n < 0x100000000
        go NoMask e = subst (λ (k : MaskKind). mask_start k c b h i + n < 0x100000000) (sym e) (omega (arith, limits.total_most))
        go Boolean e = small (inl e)
        go FloatMask e = small (inr e)
