-- Refusals 1 to 4, which look at the call record alone: dimensions, head groups, settings, and the mask's dimensions. Definitions only.
use Rattle.std.specs.Prelude.{ℕ, ◌+◌, ◌%◌, Bool, true, false, ◌&&◌, ◌||◌, pos, leb, eqb, Float, Option, Some, None}
use Rattle.std.specs.Float.{fin}
use Rattle.std.specs.Float.Ieee.{lt, le}
use Rattle.call.specs.declared.Call.{Call}
use Rattle.call.specs.declared.Form.{Form}
use Rattle.call.specs.declared.Form.TheVariants.{Plain, Cached, Counted}
use Rattle.call.specs.declared.MaskKind.{MaskKind}
use Rattle.call.specs.declared.MaskKind.TheVariants.{NoMask, Boolean, FloatMask}
use Rattle.call.specs.declared.Scale.{Scale}
use Rattle.call.specs.declared.Scale.TheVariants.{Absent, Given}

-- T = P + Sk, a sum of whole numbers
abbrev pub total_of : Call → ℕ
total_of c = c.past + c.klen

-- ---- the limits

abbrev pub most_batches : ℕ
most_batches = 8

abbrev pub most_heads : ℕ
most_heads = 32

-- of Sq, Sk and T
abbrev pub most_length : ℕ
most_length = 2048

-- of D and Dv
abbrev pub most_size : ℕ
most_size = 256

-- lo ≤ x ≤ hi
abbrev pub within : ℕ → ℕ → ℕ → Bool
within lo hi x = leb lo x && leb x hi

-- ---- 1: every dimension and T within its limits, and P 0 outside the cached form

abbrev pub heads_allowed : ℕ → Bool
heads_allowed h = within 1 most_heads h

abbrev pub past_allowed : Form → ℕ → Bool
past_allowed Plain p = eqb p 0
past_allowed Cached p = true
past_allowed Counted p = eqb p 0

unfoldable pub limits_hold : Call → Bool
limits_hold c =
    within 1 most_batches c.batches
    && heads_allowed c.qheads
    && heads_allowed c.kvheads
    && within 1 most_length c.qlen
    && within 1 most_length c.klen
    && leb (total_of c) most_length
    && within 1 most_size c.size
    && within 1 most_size c.vsize
    && past_allowed c.form c.past

-- ---- 2: Hq is a multiple of Hkv

abbrev pub groups_allowed : (qheads kvheads : ℕ) → Bool
groups_allowed qheads kvheads = eqb (qheads % kvheads) 0

unfoldable pub groups_hold : Call → Bool
groups_hold c = groups_allowed c.qheads c.kvheads

-- ---- 3: rank, causal flag, score mode, scale and cap, each by itself

abbrev pub rank_allowed : ℕ → Bool
rank_allowed rank = eqb rank 3 || eqb rank 4

abbrev pub causal_allowed : ℕ → Bool
causal_allowed causal = leb causal 1

abbrev pub mode_allowed : Option ℕ → Bool
mode_allowed None = true
mode_allowed (Some m) = leb m 3

-- a given scale is above 0 and at most 1,024, so it is a number
abbrev pub scale_allowed : Scale → Bool
scale_allowed Absent = true
scale_allowed (Given x) = lt (fin false 0 (pos 0)) x && le x (fin false 1 (pos 10))

-- a cap is 0 of either sign or above 0, and at most 65,536, so it is a number
abbrev pub cap_allowed : Float → Bool
cap_allowed x = le (fin false 0 (pos 0)) x && le x (fin false 1 (pos 16))

unfoldable pub settings_hold : Call → Bool
unfolding lt le
settings_hold c = rank_allowed c.rank && causal_allowed c.causal && mode_allowed c.mode && scale_allowed c.scale && cap_allowed c.softcap

-- ---- 4: each mask dimension is 1 or its full size; not looked at without a mask

abbrev pub one_or : ℕ → ℕ → Bool
one_or full d = eqb d 1 || eqb d full

abbrev pub dimensions_hold : Call → Bool
dimensions_hold c = one_or c.batches c.maskb && one_or c.qheads c.maskh && one_or c.qlen c.maskq && one_or (total_of c) c.maskk

abbrev pub where_masked : MaskKind → Bool → Bool
where_masked NoMask b = true
where_masked Boolean b = b
where_masked FloatMask b = b

unfoldable pub mask_shape_holds : Call → Bool
mask_shape_holds c = where_masked c.mask (dimensions_hold c)
