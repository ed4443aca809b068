-- The sizes of a session, their limits, and how long its records are. Definitions only.
use Rattle.std.specs.Prelude.{Bool, ◌&&◌, ℕ, ◌+◌, ◌*◌}
use Rattle.call.specs.Limits.{most_batches, most_length, most_size, within, heads_allowed}
use Rattle.session_file.specs.declared.Sizes.{Sizes}

-- B, Hkv, D and Dv within the limits of a call
unfoldable pub sizes_hold : Sizes → Bool
sizes_hold z = within 1 most_batches z.batches && heads_allowed z.kvheads && within 1 most_size z.size && within 1 most_size z.vsize

-- how many positions a session may have
abbrev pub most_positions : ℕ
most_positions = most_length

-- the rows of a position, of keys and of values: one for each batch and key head. Row r is that of batch r / Hkv and key head r % Hkv.
abbrev pub rows_of : Sizes → ℕ
rows_of z = z.batches * z.kvheads

-- a key row and the value row behind it, in bytes
abbrev pub pair_length : Sizes → ℕ
pair_length z = (z.size + z.vsize) * 4

-- 4 · B · Hkv · (D + Dv)
abbrev pub payload_length : Sizes → ℕ
payload_length z = rows_of z * pair_length z

abbrev pub record_length : Sizes → ℕ
record_length z = 6 + payload_length z

-- the byte at which the record of position p begins, behind the first record, which has 14 bytes
abbrev pub record_start : Sizes → ℕ → ℕ
record_start z p = 14 + p * record_length z
