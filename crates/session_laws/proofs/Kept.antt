-- A refusal leaves every lent byte and element as it was. Assumes nothing.
use Rattle.std.specs.Prelude.{Option, Some, None, Ok, Err}
use mathlib.Core.Path.{◌≡◌, refl}
use mathlib.Core.Bool.{Bool, true, false, cond, true≢false}
use mathlib.Core.List.{List}
use Prim.Native.Nat.{ℕ, ◌+◌}
use lib.Dec.{leb}
use lib.Ieee.{Float}
use lib.ListN.{length, take}
use Rattle.session_file.specs.declared.Sizes.{Sizes}
use Rattle.call.specs.declared.Refusal.{Refusal}
use Rattle.call.specs.declared.Refusal.TheVariants.{Limits, InputLength, OutputLength, Room}
use Rattle.session_file.specs.Reader.{Reading, session_read}
use Rattle.session_file.specs.Below.{least_from, joined}
use Rattle.session_file.specs.Sizes.{sizes_hold, most_positions, record_start}
use Rattle.session_file.specs.Form.{Session, session_of, position_bytes, sizes_bytes}
use Rattle.session_file.specs.Reader.{Loaded, loaded, caches_fit, read_of, session_at, loaded_of, load_of}
use Rattle.session_file.specs.Writer.{Written, written, refused_with, rows_fault, begin_of, written_behind, appended_to, append_of, saved}
use Rattle.records.specs.Records.{written_at}
use Rattle.session_laws.proofs.Passed.{is_saved}

abbrev Keeps : List ℕ → Written → Type 0
Keeps buffer w = is_saved w.answer ≡ false → w.buffer ≡ buffer

-- where the tests pass the answer is saved, and where one fails the buffer is as it was
keeps_cond : (buffer : List ℕ) (b : Bool) (w : Written) (r : Refusal) → Keeps buffer w → Keeps buffer (cond b w (refused_with r buffer))
keeps_cond buffer true w r k = k
keeps_cond buffer false w r k = λ e. refl

keeps_saved : (buffer left : List ℕ) (m u : ℕ) → Keeps buffer (written (saved m u) left)
keeps_saved buffer left m u e = absurd (true≢false e)

keeps_found : (found : Option ℕ) (buffer : List ℕ) (n : ℕ) (new : Session) → Keeps buffer (written_behind found buffer n new)
unfolding written_behind
keeps_found (Some p) buffer n new = λ e. refl
keeps_found None buffer n new =
    let m = n + new.positions in
    keeps_cond buffer (leb (record_start new.sizes m) (length buffer)) (written (saved m (record_start new.sizes m)) (written_at buffer (record_start new.sizes n) (joined (position_bytes new) new.positions))) Room (keeps_saved buffer _ m (record_start new.sizes m))

keeps_read : (r : Reading) (buffer : List ℕ) (count : ℕ) (keys values : List Float) → Keeps buffer (appended_to r buffer count keys values)
unfolding appended_to
keeps_read (Err r) buffer count keys values = λ e. refl
keeps_read (Ok s) buffer count keys values =
    let new = session_of s.sizes count keys values in
    let found = least_from (rows_fault new) count 0 in
    let rest = written_behind found buffer s.positions new in
    let fit = caches_fit s.sizes count (length keys) (length values) in
    keeps_cond buffer (leb (s.positions + count) most_positions) (cond fit rest (refused_with InputLength buffer)) Limits (keeps_cond buffer fit rest InputLength (keeps_found found buffer s.positions new))

-- ---- the three functions that are lent something to write

pub append_keeps : (buffer : List ℕ) (used count : ℕ) (keys values : List Float) → Keeps buffer (append_of buffer used count keys values)
unfolding append_of
append_keeps buffer used count keys values =
    keeps_cond buffer (leb used (length buffer)) (appended_to (read_of (take used buffer)) buffer count keys values) Room (keeps_read (read_of (take used buffer)) buffer count keys values)

pub begin_keeps : (buffer : List ℕ) (z : Sizes) → Keeps buffer (begin_of buffer z)
unfolding begin_of
begin_keeps buffer z =
    let rest = cond (leb 14 (length buffer)) (written (saved 0 14) (written_at buffer 0 (sizes_bytes z))) (refused_with Room buffer) in
    keeps_cond buffer (sizes_hold z) rest Limits (keeps_cond buffer (leb 14 (length buffer)) (written (saved 0 14) (written_at buffer 0 (sizes_bytes z))) Room (keeps_saved buffer _ 0 14))

abbrev is_read : Reading → Bool
is_read (Ok s) = true
is_read (Err r) = false

keeps_loaded : (r : Reading) (file : List ℕ) (keys values : List Float) → is_read (loaded_of r file keys values).reading ≡ false → loaded_of r file keys values ≡ loaded (loaded_of r file keys values).reading keys values
unfolding loaded_of
keeps_loaded (Err r) file keys values e = refl
keeps_loaded (Ok s) file keys values e = go (caches_fit s.sizes s.positions (length keys) (length values)) e
  where
    l : Bool → Loaded
    l b = cond b (loaded (session_read s.sizes s.positions) (session_at s.sizes file s.positions).keys (session_at s.sizes file s.positions).values) (loaded (Err OutputLength) keys values)

    go : (b : Bool) → is_read (l b).reading ≡ false → l b ≡ loaded (l b).reading keys values
    go true e = absurd (true≢false e)
    go false e = refl

pub load_keeps : (file : List ℕ) (keys values : List Float) → is_read (load_of file keys values).reading ≡ false → load_of file keys values ≡ loaded (load_of file keys values).reading keys values
unfolding load_of
load_keeps file keys values e = keeps_loaded (read_of file) file keys values e
