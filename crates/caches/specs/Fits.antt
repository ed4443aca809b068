-- What the functions of this crate ask of their callers: the limits, the lengths of the lent tensors, and a row within them. Definitions only.
use Rattle.std.specs.Prelude.{◌≡◌, true, ℕ, ◌*◌, ◌≤◌, ◌<◌}
use Rattle.call.specs.declared.Call.{Call}
use Rattle.call.specs.Limits.{total_of, limits_hold}

-- the row of batch b, head h, position s of a tensor within the limits
pub record RowFits (heads len size b h s : ℕ) : Type 0 where
  pub heads_most : heads ≤ 32
  pub len_most : len ≤ 2048
  pub size_most : size ≤ 2048
  pub batch : b < 8
  pub head : h < heads
  pub position : s < len

-- the row of batch b, key head g, position j; the two tensors' lengths are given
pub record CacheFits (c : Call) (past_length incoming_length size b g j : ℕ) : Type 0 where
  pub limits : limits_hold c ≡ true
  pub size_some : 1 ≤ size
  pub size_most : size ≤ 256
  pub past_length_is : past_length ≡ c.batches * c.kvheads * c.past * size
  pub incoming_length_is : incoming_length ≡ c.batches * c.kvheads * c.klen * size
  pub batch : b < c.batches
  pub head : g < c.kvheads
  pub position : j < total_of c

-- the two tensors and the present cache; the three lengths are given
pub record PresentFits (c : Call) (past_length incoming_length out_length size : ℕ) : Type 0 where
  pub limits : limits_hold c ≡ true
  pub size_some : 1 ≤ size
  pub size_most : size ≤ 256
  pub past_length_is : past_length ≡ c.batches * c.kvheads * c.past * size
  pub incoming_length_is : incoming_length ≡ c.batches * c.kvheads * c.klen * size
  pub out_length_is : out_length ≡ c.batches * c.kvheads * total_of c * size
