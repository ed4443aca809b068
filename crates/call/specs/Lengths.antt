-- Refusals 5 and 6: every lent tensor has exactly the product of its dimensions, and a tensor that the form, the mask kind or the score mode does not use is empty. Definitions only.
use Rattle.std.specs.Prelude.{ℕ, ◌*◌, Bool, ◌&&◌, eqb, length, Option, Some, None}
use Rattle.call.specs.declared.Call.{Call}
use Rattle.call.specs.declared.Form.{Form}
use Rattle.call.specs.declared.Form.TheVariants.{Plain, Cached, Counted}
use Rattle.call.specs.declared.MaskKind.{MaskKind}
use Rattle.call.specs.declared.MaskKind.TheVariants.{NoMask, Boolean, FloatMask}
use Rattle.call.specs.Limits.{total_of}
use Rattle.call.specs.Tensors.{Inputs, Outputs}

-- n in the form, kind or mode that uses the tensor, and 0 in any other
abbrev pub in_cached : Form → ℕ → ℕ
in_cached Plain n = 0
in_cached Cached n = n
in_cached Counted n = 0

abbrev pub in_counted : Form → ℕ → ℕ
in_counted Plain n = 0
in_counted Cached n = 0
in_counted Counted n = n

abbrev pub in_boolean : MaskKind → ℕ → ℕ
in_boolean NoMask n = 0
in_boolean Boolean n = n
in_boolean FloatMask n = 0

abbrev pub in_float : MaskKind → ℕ → ℕ
in_float NoMask n = 0
in_float Boolean n = 0
in_float FloatMask n = n

abbrev pub in_scores : Option ℕ → ℕ → ℕ
in_scores None n = 0
in_scores (Some m) n = n

-- ---- the lengths

abbrev pub query_length : Call → ℕ
query_length c = c.batches * c.qheads * c.qlen * c.size

abbrev pub key_length : Call → ℕ
key_length c = c.batches * c.kvheads * c.klen * c.size

abbrev pub value_length : Call → ℕ
value_length c = c.batches * c.kvheads * c.klen * c.vsize

abbrev pub mask_length : Call → ℕ
mask_length c = c.maskb * c.maskh * c.maskq * c.maskk

abbrev pub past_key_length : Call → ℕ
past_key_length c = in_cached c.form (c.batches * c.kvheads * c.past * c.size)

abbrev pub past_value_length : Call → ℕ
past_value_length c = in_cached c.form (c.batches * c.kvheads * c.past * c.vsize)

abbrev pub live_length : Call → ℕ
live_length c = in_counted c.form c.batches

abbrev pub output_length : Call → ℕ
output_length c = c.batches * c.qheads * c.qlen * c.vsize

abbrev pub present_key_length : Call → ℕ
present_key_length c = in_cached c.form (c.batches * c.kvheads * total_of c * c.size)

abbrev pub present_value_length : Call → ℕ
present_value_length c = in_cached c.form (c.batches * c.kvheads * total_of c * c.vsize)

abbrev pub scores_length : Call → ℕ
scores_length c = in_scores c.mode (c.batches * c.qheads * c.qlen * total_of c)

-- ---- 5 and 6

unfoldable pub inputs_fit : Call → Inputs → Bool
inputs_fit c x =
    eqb (length x.query) (query_length c)
    && eqb (length x.key) (key_length c)
    && eqb (length x.value) (value_length c)
    && eqb (length x.bool_mask) (in_boolean c.mask (mask_length c))
    && eqb (length x.float_mask) (in_float c.mask (mask_length c))
    && eqb (length x.past_key) (past_key_length c)
    && eqb (length x.past_value) (past_value_length c)
    && eqb (length x.live) (live_length c)

unfoldable pub outputs_fit : Call → Outputs → Bool
outputs_fit c y =
    eqb (length y.output) (output_length c)
    && eqb (length y.present_key) (present_key_length c)
    && eqb (length y.present_value) (present_value_length c)
    && eqb (length y.scores) (scores_length c)
    && eqb (length y.work) (total_of c)
