-- What the caller lends: the tensors that are read, and those that are written. Definitions only.
use Rattle.std.specs.Prelude.{List, ℕ, ℤ, Float}

-- Q, K, V, the two masks, the past caches, and the live counts (ONNX: nonpad_kv_seqlen)
pub record Inputs : Type 0 where
  pub query : List Float
  pub key : List Float
  pub value : List Float
  pub bool_mask : List ℕ
  pub float_mask : List Float
  pub past_key : List Float
  pub past_value : List Float
  pub live : List ℤ

-- Y, the present caches, the scores, and the scratch row (the work row)
pub record Outputs : Type 0 where
  pub output : List Float
  pub present_key : List Float
  pub present_value : List Float
  pub scores : List Float
  pub work : List Float

abbrev pub inputs_of : (query key value : List Float) → (bool_mask : List ℕ) → (float_mask past_key past_value : List Float) → (live : List ℤ) → Inputs
inputs_of query key value bool_mask float_mask past_key past_value live = record {
  query = query;
  key = key;
  value = value;
  bool_mask = bool_mask;
  float_mask = float_mask;
  past_key = past_key;
  past_value = past_value;
  live = live;
}

abbrev pub outputs_of : (output present_key present_value scores work : List Float) → Outputs
outputs_of output present_key present_value scores work = record {
  output = output;
  present_key = present_key;
  present_value = present_value;
  scores = scores;
  work = work;
}
