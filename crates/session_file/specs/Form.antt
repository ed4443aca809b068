-- The bytes of a saved session: a record of kind 1 with its sizes, then one of kind 2 for each position. Definitions only.
use Rattle.std.specs.Prelude.{List, ◌++◌, ℕ, ◌+◌, ◌*◌, Float, get_or, take, drop}
use Rattle.std.specs.Float.{nan}
use Rattle.tensor_laws.specs.Layout.{tensor_of}
use Rattle.records.specs.Numbers.{u16_bytes, row_bytes}
use Rattle.records.specs.Records.{record_bytes}
use Rattle.session_file.specs.declared.Sizes.{Sizes}
use Rattle.session_file.specs.Below.{joined}
use Rattle.session_file.specs.Sizes.{rows_of}

-- a session: its sizes, how many positions it has, and their keys and values in cache order, (B, Hkv, n, D) and (B, Hkv, n, Dv)
pub record Session : Type 0 where
  pub sizes : Sizes
  pub positions : ℕ
  pub keys : List Float
  pub values : List Float

abbrev pub session_of : Sizes → ℕ → (keys values : List Float) → Session
session_of z n keys values = record { sizes = z; positions = n; keys = keys; values = values }

-- element k of row r of position p in a cache of n positions, whose rows have that size, and the row
abbrev pub cache_cell : (n size : ℕ) → List Float → (p r k : ℕ) → Float
cache_cell n size cache p r k = get_or cache ((r * n + p) * size + k) nan

abbrev pub cache_row : (n size : ℕ) → List Float → (p r : ℕ) → List Float
cache_row n size cache p r = take size (drop ((r * n + p) * size) cache)

-- the cache of n positions with those elements: the tensor of one batch whose heads are the rows of a position
unfoldable pub cache_of : (rows n size : ℕ) → (ℕ → ℕ → ℕ → Float) → List Float
unfolding tensor_of
cache_of rows n size cell = tensor_of 4 1 rows n size (λ b r p k. cell p r k)

-- the key row and then the value row of batch and key head r at position p
unfoldable pub pair_bytes : Session → (p r : ℕ) → List ℕ
unfolding row_bytes
pair_bytes s p r = row_bytes (cache_row s.positions s.sizes.size s.keys p r) ++ row_bytes (cache_row s.positions s.sizes.vsize s.values p r)

-- the record of position p: its rows for each batch and key head
unfoldable pub position_bytes : Session → ℕ → List ℕ
unfolding joined pair_bytes
position_bytes s p = record_bytes 2 (joined (pair_bytes s p) (rows_of s.sizes))

-- the first record
abbrev pub sizes_bytes : Sizes → List ℕ
sizes_bytes z = record_bytes 1 (u16_bytes z.batches ++ (u16_bytes z.kvheads ++ (u16_bytes z.size ++ u16_bytes z.vsize)))

unfoldable pub file_of : Session → List ℕ
unfolding joined position_bytes
file_of s = sizes_bytes s.sizes ++ joined (position_bytes s) s.positions
