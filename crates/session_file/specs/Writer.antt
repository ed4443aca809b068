-- What a writer answers and leaves in its buffer: it begins a file from its sizes, or adds positions behind the last whole record of a file. Definitions only.
use Rattle.std.specs.Prelude.{Bool, ◌||◌, cond, List, ℕ, ◌+◌, leb, Float, length, get_or, take, Option, Some, None, Result, Ok, Err}
use Rattle.std.specs.Float.{nan}
use Rattle.bool_laws.specs.Counts.{count_where}
use Rattle.call.specs.Contents.{element_fault}
use Rattle.records.specs.Records.{written_at}
use Rattle.session_file.specs.declared.Sizes.{Sizes}
use Rattle.call.specs.declared.Refusal.{Refusal}
use Rattle.call.specs.declared.Refusal.TheVariants.{Limits, InputLength, Position, Room}
use Rattle.session_file.specs.Reader.{Reading}
use Rattle.session_file.specs.Below.{any_below, least_from, joined}
use Rattle.session_file.specs.Sizes.{sizes_hold, most_positions, rows_of, record_start}
use Rattle.session_file.specs.Form.{Session, session_of, cache_row, position_bytes, sizes_bytes}
use Rattle.session_file.specs.Reader.{read_of, caches_fit}
use Rattle.session_file.specs.declared.Saved.{Saved}

-- what writing answers: how many positions stand whole and how many bytes the file has, or a refusal
abbrev pub Saving : Type 0
Saving = Result Saved Refusal

abbrev pub saved : (positions used : ℕ) → Saving
saved positions used = Ok (record { positions = positions; used = used })

-- the answer, and the buffer at exit
pub record Written : Type 0 where
  pub answer : Saving
  pub buffer : List ℕ

abbrev pub written : Saving → List ℕ → Written
written answer buffer = record { answer = answer; buffer = buffer }

abbrev pub refused_with : Refusal → List ℕ → Written
refused_with r buffer = written (Err r) buffer

-- ---- a file is begun: sizes, then room

unfoldable pub begin_of : List ℕ → Sizes → Written
unfolding sizes_hold
begin_of buffer z =
    cond (sizes_hold z)
    (cond (leb 14 (length buffer)) (written (saved 0 14) (written_at buffer 0 (sizes_bytes z))) (refused_with Room buffer))
    (refused_with Limits buffer)

-- ---- positions are added

-- an element of a row is not a number of magnitude at most 65,536
unfoldable pub row_fault : List Float → Bool
unfolding count_where element_fault
row_fault row = any_below (λ k. element_fault (get_or row k nan)) (length row)

-- one of the rows of position p of a session is such
unfoldable pub rows_fault : Session → ℕ → Bool
unfolding count_where row_fault
rows_fault s p =
    any_below (λ r. row_fault (cache_row s.positions s.sizes.size s.keys p r) || row_fault (cache_row s.positions s.sizes.vsize s.values p r))
    (rows_of s.sizes)

-- the positions of a session behind n positions of a file: elements, then room for all of them
unfoldable pub written_behind : Option ℕ → List ℕ → (n : ℕ) → Session → Written
unfolding joined position_bytes
written_behind (Some p) buffer n new = refused_with (Position (n + p)) buffer
written_behind None buffer n new =
    let z = new.sizes in
    let m = n + new.positions in
    cond (leb (record_start z m) (length buffer))
    (written (saved m (record_start z m)) (written_at buffer (record_start z n) (joined (position_bytes new) new.positions)))
    (refused_with Room buffer)

-- a position above the 2,048th, then the rows' lengths, then the rest
unfoldable pub appended_to : Reading → List ℕ → (count : ℕ) → (keys values : List Float) → Written
unfolding least_from rows_fault written_behind
appended_to (Err r) buffer count keys values = refused_with r buffer
appended_to (Ok s) buffer count keys values =
    let new = session_of s.sizes count keys values in
    let rest = written_behind (least_from (rows_fault new) count 0) buffer s.positions new in
    cond (leb (s.positions + count) most_positions) (cond (caches_fit s.sizes count (length keys) (length values)) rest (refused_with InputLength buffer)) (refused_with Limits buffer)

-- the first `used` bytes of the buffer are the file; its own refusal comes first, but that of a file that ends behind the buffer
unfoldable pub append_of : List ℕ → (used count : ℕ) → (keys values : List Float) → Written
unfolding read_of appended_to
append_of buffer used count keys values =
    let rest = appended_to (read_of (take used buffer)) buffer count keys values in
    cond (leb used (length buffer)) rest (refused_with Room buffer)
