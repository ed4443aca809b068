-- Example D's two positions as two chunks of one position each, and as one chunk of both. Definitions only.
use Rattle.std.specs.Prelude.{List, [], ◌∷◌, ℕ, Float}
use Rattle.exponential.specs.ExpNeg.{one}
use Rattle.call.specs.Profile.{Entry}
use Rattle.call.specs.Tensors.{Outputs}
use Rattle.attention.specs.Calls.{number, tensors, zeros}
use Rattle.attention.specs.Table.{lent_e}
use Rattle.sequence.specs.Chunks.{Chunk}

-- a chunk of one position and `more`, without masks
abbrev pub chunk_of : Entry → (more : ℕ) → (query key value : List Float) → Outputs → Chunk
chunk_of entry more query key value lent = record {
  entry = entry;
  more = more;
  query = query;
  key = key;
  value = value;
  bool_mask = [];
  float_mask = [];
  live = [];
  lent = lent;
}

-- one position with query 1 and key 1 each, through either entry; their values are 6 and 12
abbrev pub first_chunk : Entry → Chunk
first_chunk e = chunk_of e 0 (one ∷ []) (one ∷ []) (number 3 1 ∷ []) (tensors (zeros 1) (zeros 1) (zeros 1) [] (zeros 1))

abbrev pub second_chunk : Entry → Chunk
second_chunk e = chunk_of e 0 (one ∷ []) (one ∷ []) (number 3 2 ∷ []) lent_e

-- both positions in one chunk
abbrev pub both_at_once : Entry → Chunk
both_at_once e = chunk_of e 1 (one ∷ one ∷ []) (one ∷ one ∷ []) (number 3 1 ∷ number 3 2 ∷ []) (tensors (zeros 2) (zeros 2) (zeros 2) [] (zeros 2))
