-- What a reader makes of any bytes, in one walk from left to right, and what it gives back. Definitions only.
use Rattle.std.specs.Prelude.{Bool, true, false, ◌&&◌, cond, List, ℕ, zero, suc, ◌+◌, ◌*◌, leb, ltb, eqb, Float, length, Result, Ok, Err}
use Rattle.bool_laws.specs.Counts.{count_where}
use Rattle.call.specs.Contents.{element_fault}
use Rattle.records.specs.Numbers.{u16_at, f32_at}
use Rattle.records.specs.Records.{head_is}
use Rattle.session_file.specs.declared.Sizes.{Sizes}
use Rattle.call.specs.declared.Refusal.{Refusal}
use Rattle.call.specs.declared.Refusal.TheVariants.{Limits, OutputLength, Position, Record}
use Rattle.session_file.specs.declared.Next.{Next}
use Rattle.session_file.specs.declared.Next.TheVariants.{Ended, Wrong, Cut, Whole}
use Rattle.session_file.specs.Below.{any_below}
use Rattle.session_file.specs.Sizes.{sizes_hold, most_positions, rows_of, pair_length, payload_length, record_length, record_start}
use Rattle.session_file.specs.Form.{Session, session_of, cache_of}
use Rattle.session_file.specs.declared.SessionRead.{SessionRead}

-- what reading a file gives: its sizes and how many positions are whole in it, or a refusal
abbrev pub Reading : Type 0
Reading = Result SessionRead Refusal

abbrev pub session_read : Sizes → ℕ → Reading
session_read z n = Ok (record { sizes = z; positions = n })

-- ---- the walk

-- what stands where the record of position p would begin
unfoldable pub next_of : Sizes → List ℕ → ℕ → Next
next_of z file p =
    cond (ltb (length file) (record_start z p + 6)) Ended
    (cond (head_is file (record_start z p) (payload_length z) 2) (cond (ltb (length file) (record_start z p + record_length z)) Cut Whole) Wrong)

-- element i of the payload that begins at a byte is not a number of magnitude at most 65,536
abbrev pub payload_fault : List ℕ → ℕ → ℕ → Bool
payload_fault file from i = element_fault (f32_at file (from + i * 4))

-- one of the elements of the whole record of position p is such
unfoldable pub position_fault : Sizes → List ℕ → ℕ → Bool
unfolding count_where element_fault f32_at
position_fault z file p = any_below (payload_fault file (record_start z p + 6)) (rows_of z * (z.size + z.vsize))

-- 2,048 positions are whole: a right head is one too many, its payload not looked at
abbrev pub at_most : Sizes → ℕ → Next → Reading
at_most z p Ended = session_read z p
at_most z p Wrong = Err (Record (record_start z p))
at_most z p Cut = Err Limits
at_most z p Whole = Err Limits

-- The walk after p whole positions, with room for some more. It goes on behind a whole record without fault.
abbrev pub onward : Sizes → ℕ → Next → Bool → Reading → Reading
onward z p Ended fault rest = session_read z p
onward z p Wrong fault rest = Err (Record (record_start z p))
onward z p Cut fault rest = session_read z p
onward z p Whole true rest = Err (Position p)
onward z p Whole false rest = rest

unfoldable pub walk_from : Sizes → List ℕ → (more p : ℕ) → Reading
unfolding next_of position_fault
walk_from z file zero p = at_most z p (next_of z file p)
walk_from z file (suc more) p = let rest = walk_from z file more (suc p) in onward z p (next_of z file p) (position_fault z file p) rest

-- ---- the file

-- the sizes that the first record holds
abbrev pub sizes_at : List ℕ → Sizes
sizes_at file = record { batches = u16_at file 6; kvheads = u16_at file 8; size = u16_at file 10; vsize = u16_at file 12 }

-- the first record is whole, with the right head
abbrev pub first_whole : List ℕ → Bool
first_whole file = leb 14 (length file) && head_is file 0 8 1

unfoldable pub read_of : List ℕ → Reading
unfolding sizes_hold walk_from
read_of file = let walk = walk_from (sizes_at file) file most_positions 0 in cond (first_whole file) (cond (sizes_hold (sizes_at file)) walk (Err Limits)) (Err (Record 0))

-- ---- the positions, in cache order

-- element k of row r of position p, where the rows begin `behind` bytes into each pair of rows
abbrev pub file_cell : Sizes → List ℕ → (behind p r k : ℕ) → Float
file_cell z file behind p r k = f32_at file (record_start z p + 6 + r * pair_length z + behind + k * 4)

-- n positions' rows of that size in cache order
unfoldable pub cache_at : Sizes → List ℕ → (n behind size : ℕ) → List Float
unfolding cache_of f32_at
cache_at z file n behind size = cache_of (rows_of z) n size (file_cell z file behind)

-- the session of n positions that stands in a file
unfoldable pub session_at : Sizes → List ℕ → ℕ → Session
unfolding cache_at
session_at z file n = session_of z n (cache_at z file n 0 z.size) (cache_at z file n (z.size * 4) z.vsize)

-- ---- reading into lent caches

pub record Loaded : Type 0 where
  pub reading : Reading
  pub keys : List Float
  pub values : List Float

abbrev pub loaded : Reading → (keys values : List Float) → Loaded
loaded reading keys values = record { reading = reading; keys = keys; values = values }

-- the lent caches have exactly the lengths of n positions
abbrev pub caches_fit : Sizes → ℕ → (keys values : ℕ) → Bool
caches_fit z n keys values = eqb keys (rows_of z * n * z.size) && eqb values (rows_of z * n * z.vsize)

unfoldable pub loaded_of : Reading → (file : List ℕ) → (keys values : List Float) → Loaded
unfolding session_at
loaded_of (Err r) file keys values = loaded (Err r) keys values
loaded_of (Ok s) file keys values =
    let found = session_at s.sizes file s.positions in
    cond (caches_fit s.sizes s.positions (length keys) (length values)) (loaded (Ok s) found.keys found.values) (loaded (Err OutputLength) keys values)

-- the file's own refusal first, then 6
unfoldable pub load_of : (file : List ℕ) → (keys values : List Float) → Loaded
unfolding read_of loaded_of
load_of file keys values = loaded_of (read_of file) file keys values
