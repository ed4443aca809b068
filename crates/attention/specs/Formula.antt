-- The scores, weights and outputs of every row, by the row formula of the layer below. Definitions only.
use Rattle.std.specs.Prelude.{ℕ, zero, suc, Bool, cond, ltb, Float, Option, Some, None}
use Rattle.std.specs.Float.{binary32}
use Rattle.std.specs.Float.Ieee.{add}
use Rattle.tables.specs.Scale.{default_scale_of}
use Rattle.exponential.specs.ExpNeg.{plus_zero}
use Rattle.softmax.specs.Row.{score_of, fully_masked_of, weight_of, row_output_of}
use Rattle.softmax.specs.Lists.{hidden}
use Rattle.softmax.specs.Cap.{capped_where}
use Rattle.call.specs.declared.Call.{Call}
use Rattle.call.specs.declared.MaskKind.{MaskKind}
use Rattle.call.specs.declared.MaskKind.TheVariants.{NoMask, Boolean, FloatMask}
use Rattle.call.specs.declared.Scale.{Scale}
use Rattle.call.specs.declared.Scale.TheVariants.{Absent, Given}
use Rattle.call.specs.Limits.{total_of}
use Rattle.call.specs.Tensors.{Inputs}
use Rattle.call.specs.Contents.{live_of}
use Rattle.attention.specs.Elements.{key_head_of, query_at, key_at, value_at}
use Rattle.attention.specs.Admission.{mask_cell, admits}

-- ---- the scale: as given, or the default for the head size

abbrev pub default_or : Option Float → Float → Float
default_or (Some x) y = x
default_or None y = y

abbrev pub scale_where : Scale → ℕ → Float
scale_where Absent size = default_or (default_scale_of size) plus_zero
scale_where (Given x) size = x

unfoldable pub effective_scale : Call → Float
unfolding default_scale_of
effective_scale c = scale_where c.scale c.size

-- ---- one row (b, h, i)

-- s of step 1: the dot product of the query row and position j's key row, times the scale
unfoldable pub dot_score : Call → Inputs → (b h i j : ℕ) → Float
unfolding score_of effective_scale
dot_score c x b h i j = score_of c.size (query_at c x b h i) (key_at c x b (key_head_of c h) j) (effective_scale c)

-- step 2: a float mask is added; a boolean 1 adds nothing
abbrev pub with_mask : MaskKind → Float → Float → Float
with_mask NoMask s cell = s
with_mask Boolean s cell = s
with_mask FloatMask s cell = add binary32 s cell

unfoldable pub masked_score : Call → Inputs → (b h i j : ℕ) → Float
unfolding dot_score add
masked_score c x b h i j = with_mask c.mask (dot_score c x b h i j) (mask_cell c x b h i j)

-- the score under the cap, where there is one
unfoldable pub capped_score : Call → Inputs → (b h i j : ℕ) → Float
unfolding capped_where masked_score
capped_score c x b h i j = capped_where c.softcap (masked_score c x b h i j)

-- steps 3 and 4
unfoldable pub attention_weight : Call → Inputs → (b h i j : ℕ) → Float
unfolding weight_of admits capped_score
attention_weight c x b h i j = weight_of (total_of c) (admits c x b h i) (capped_score c x b h i) j

-- step 5: column k of the output row
unfoldable pub attention_output : Call → Inputs → (b h i k : ℕ) → Float
unfolding row_output_of admits capped_score
attention_output c x b h i k = row_output_of (total_of c) (admits c x b h i) (capped_score c x b h i) (λ j. value_at c x b (key_head_of c h) j k)

-- the row admits no key (a blind row)
unfoldable pub row_masked : Call → Inputs → (b h i : ℕ) → Bool
unfolding fully_masked_of admits capped_score
row_masked c x b h i = fully_masked_of (total_of c) (admits c x b h i) (capped_score c x b h i)

-- ---- the scores shown, by mode

-- mode 0 shows s of step 1, and +0 at padded positions; mode 1 the scores after step 2 and mode 2 those under the cap, and minus infinity where not admitted; mode 3 the weights, +0 where not admitted
abbrev pub shown_score : ℕ → Call → Inputs → (b h i j : ℕ) → Float
shown_score zero c x b h i j = cond (ltb j (live_of c x.live b)) (dot_score c x b h i j) plus_zero
shown_score (suc zero) c x b h i j = cond (admits c x b h i j) (masked_score c x b h i j) hidden
shown_score (suc (suc zero)) c x b h i j = cond (admits c x b h i j) (capped_score c x b h i j) hidden
shown_score (suc (suc (suc m))) c x b h i j = attention_weight c x b h i j
