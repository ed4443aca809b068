-- Positions, and the one plain call over a list of them. Settings are those of a call record; its form, mask kind, causal flag, P, Sq and Sk are replaced here. Definitions only.
use Rattle.std.specs.Prelude.{List, [], ℕ, Float, length, get_or, replicate}
use Rattle.std.specs.Float.{nan}
use Rattle.tensor_laws.specs.Layout.{tensor_of}
use Rattle.exponential.specs.ExpNeg.{plus_zero}
use Rattle.call.specs.declared.Call.{Call}
use Rattle.call.specs.declared.Form.{Form}
use Rattle.call.specs.declared.Form.TheVariants.{Plain}
use Rattle.call.specs.declared.MaskKind.TheVariants.{NoMask}
use Rattle.call.specs.Limits.{total_of}
use Rattle.call.specs.Tensors.{Inputs, Outputs}
use Rattle.call.specs.Lengths.{output_length, present_key_length, present_value_length, scores_length}

-- A position has, for every batch, one query row per query head and one key row and one value row per key head: batch, head and column to an element.
pub record Position : Type 0 where
  pub query : ℕ → ℕ → ℕ → Float
  pub key : ℕ → ℕ → ℕ → Float
  pub value : ℕ → ℕ → ℕ → Float

-- where no position stands
abbrev pub nowhere : Position
nowhere = record { query = λ b h k. nan; key = λ b h k. nan; value = λ b h k. nan }

abbrev pub position_of : List Position → ℕ → Position
position_of ps i = get_or ps i nowhere

-- the settings as a causal call without a mask, of that form and with those P, Sq and Sk
abbrev pub causal_call : Call → Form → (past qlen klen : ℕ) → Call
causal_call s form past qlen klen = record {
  form = form;
  mask = NoMask;
  scale = s.scale;
  softcap = s.softcap;
  mode = s.mode;
  rank = s.rank;
  causal = 1;
  batches = s.batches;
  qheads = s.qheads;
  kvheads = s.kvheads;
  qlen = qlen;
  klen = klen;
  past = past;
  size = s.size;
  vsize = s.vsize;
  maskb = s.maskb;
  maskh = s.maskh;
  maskq = s.maskq;
  maskk = s.maskk;
}

-- the one plain call over the positions
abbrev pub plain_call : Call → List Position → Call
plain_call s ps = causal_call s Plain 0 (length ps) (length ps)

-- its Q, K and V hold the positions in rising order
unfoldable pub plain_inputs : Call → List Position → Inputs
unfolding tensor_of
plain_inputs s ps = record {
  query = tensor_of s.rank s.batches s.qheads (length ps) s.size (λ b h i k. (position_of ps i).query b h k);
  key = tensor_of s.rank s.batches s.kvheads (length ps) s.size (λ b h i k. (position_of ps i).key b h k);
  value = tensor_of s.rank s.batches s.kvheads (length ps) s.vsize (λ b h i k. (position_of ps i).value b h k);
  bool_mask = [];
  float_mask = [];
  past_key = [];
  past_value = [];
  live = [];
}

-- tensors of the right lengths for a call to write
unfoldable pub right_outputs : Call → Outputs
right_outputs c = record {
  output = replicate (output_length c) plus_zero;
  present_key = replicate (present_key_length c) plus_zero;
  present_value = replicate (present_value_length c) plus_zero;
  scores = replicate (scores_length c) plus_zero;
  work = replicate (total_of c) plus_zero;
}

-- the positions' keys and values in cache order: per batch and key head, the rows in rising order
unfoldable pub key_cache : Call → List Position → List Float
unfolding tensor_of
key_cache s ps = tensor_of 4 s.batches s.kvheads (length ps) s.size (λ b g j k. (position_of ps j).key b g k)

unfoldable pub value_cache : Call → List Position → List Float
unfolding tensor_of
value_cache s ps = tensor_of 4 s.batches s.kvheads (length ps) s.vsize (λ b g j k. (position_of ps j).value b g k)
