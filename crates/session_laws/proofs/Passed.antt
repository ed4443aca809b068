-- What a writer that says saved has found: the chain of its tests, passed to the end. Assumes nothing.
use Rattle.std.specs.Prelude.{Option, Some, None, Ok, Err}
use mathlib.Core.Path.{◌≡◌, refl, sym, ap}
use mathlib.Core.Bool.{Bool, true, false, cond, true≢false}
use mathlib.Core.List.{List}
use Prim.Native.Nat.{ℕ, ◌+◌, ◌≤◌}
use lib.Dec.{leb}
use lib.Ieee.{Float}
use lib.ListN.{length, take}
use borrow.Author.Tests.{leb-true}
use Rattle.records.specs.Records.{written_at}
use Rattle.session_file.specs.declared.Sizes.{Sizes}
use Rattle.call.specs.declared.Refusal.{Refusal}
use Rattle.call.specs.declared.Refusal.TheVariants.{Limits, InputLength, Position, Room}
use Rattle.session_file.specs.Reader.{Reading, session_read}
use Rattle.session_file.specs.Writer.{Saving, saved}
use Rattle.session_file.specs.Below.{least_from, joined}
use Rattle.session_file.specs.Sizes.{most_positions, record_start}
use Rattle.session_file.specs.Form.{Session, session_of, position_bytes}
use Rattle.session_file.specs.Reader.{read_of, caches_fit}
use Rattle.session_file.specs.Writer.{Written, written, refused_with, rows_fault, written_behind, appended_to, append_of}

-- the chain of tests, passed to its end
pub record Passed (buffer : List ℕ) (used count : ℕ) (keys values : List Float) (m u : ℕ) (left : List ℕ) : Type 0 where
  pub z : Sizes
  pub n : ℕ
  pub file_inside : used ≤ length buffer
  pub file : read_of (take used buffer) ≡ session_read z n
  pub most : n + count ≤ most_positions
  pub fit : caches_fit z count (length keys) (length values) ≡ true
  pub sound : least_from (rows_fault (session_of z count keys values)) count 0 ≡ None
  pub room : record_start z (n + count) ≤ length buffer
  pub total : n + count ≡ m
  pub end : record_start z (n + count) ≡ u
  pub buffer_left : written_at buffer (record_start z n) (joined (position_bytes (session_of z count keys values)) count) ≡ left

abbrev pub is_saved : Saving → Bool
is_saved (Ok s) = true
is_saved (Err r) = false

abbrev pub positions_in : Saving → ℕ
positions_in (Ok s) = s.positions
positions_in (Err r) = 0

abbrev pub bytes_in : Saving → ℕ
bytes_in (Ok s) = s.used
bytes_in (Err r) = 0

pub not_saved : {X : Type 0} (r : Refusal) (b : List ℕ) (m u : ℕ) (left : List ℕ) → refused_with r b ≡ written (saved m u) left → X
not_saved r b m u left e = absurd (true≢false (sym (ap (λ (w : Written). is_saved w.answer) e)))

module _ (buffer : List ℕ) (used count : ℕ) (keys values : List Float) (m u : ℕ) (left : List ℕ) where
  module _ (z : Sizes) (n : ℕ) (h : used ≤ length buffer) (r : read_of (take used buffer) ≡ session_read z n) (l : n + count ≤ most_positions) (f : caches_fit z count (length keys) (length values) ≡ true) where
    abbrev new : Session
    new = session_of z count keys values

    room_by : least_from (rows_fault new) count 0 ≡ None → (b : Bool) → leb (record_start z (n + count)) (length buffer) ≡ b
        → cond b (written (saved (n + count) (record_start z (n + count))) (written_at buffer (record_start z n) (joined (position_bytes new) count))) (refused_with Room buffer) ≡ written (saved m u) left
        → Passed buffer used count keys values m u left
    room_by s true p e = record {
      z = z;
      n = n;
      file_inside = h;
      file = r;
      most = l;
      fit = f;
      sound = s;
      room = leb-true (record_start z (n + count)) (length buffer) p;
      total = ap (λ (w : Written). positions_in w.answer) e;
      end = ap (λ (w : Written). bytes_in w.answer) e;
      buffer_left = ap (λ (w : Written). w.buffer) e;
    }
    room_by s false p e = not_saved Room buffer m u left e

    fault_by : (found : Option ℕ) → least_from (rows_fault new) count 0 ≡ found → written_behind found buffer n new ≡ written (saved m u) left → Passed buffer used count keys values m u left
    unfolding written_behind
    fault_by (Some p) s e = not_saved (Position (n + p)) buffer m u left e
    fault_by None s e = room_by s (leb (record_start z (n + count)) (length buffer)) refl e

  module _ (z : Sizes) (n : ℕ) (h : used ≤ length buffer) (r : read_of (take used buffer) ≡ session_read z n) where
    fit_by : n + count ≤ most_positions → (b : Bool) → caches_fit z count (length keys) (length values) ≡ b
        → cond b (written_behind (least_from (rows_fault (session_of z count keys values)) count 0) buffer n (session_of z count keys values)) (refused_with InputLength buffer) ≡ written (saved m u) left
        → Passed buffer used count keys values m u left
    fit_by l true f e = fault_by z n h r l f (least_from (rows_fault (session_of z count keys values)) count 0) refl e
    fit_by l false f e = not_saved InputLength buffer m u left e

    most_by : (b : Bool) → leb (n + count) most_positions ≡ b
        → cond b (cond (caches_fit z count (length keys) (length values)) (written_behind (least_from (rows_fault (session_of z count keys values)) count 0) buffer n (session_of z count keys values)) (refused_with InputLength buffer)) (refused_with Limits buffer) ≡ written (saved m u) left
        → Passed buffer used count keys values m u left
    most_by true l e = fit_by (leb-true (n + count) most_positions l) (caches_fit z count (length keys) (length values)) refl e
    most_by false l e = not_saved Limits buffer m u left e

  read_by : used ≤ length buffer → (r : Reading) → read_of (take used buffer) ≡ r → appended_to r buffer count keys values ≡ written (saved m u) left → Passed buffer used count keys values m u left
  unfolding appended_to
  read_by h (Ok s) r e = most_by s.sizes s.positions h r (leb (s.positions + count) most_positions) refl e
  read_by h (Err x) r e = not_saved x buffer m u left e

  inside_by : (b : Bool) → leb used (length buffer) ≡ b → cond b (appended_to (read_of (take used buffer)) buffer count keys values) (refused_with Room buffer) ≡ written (saved m u) left
      → Passed buffer used count keys values m u left
  inside_by true h e = read_by (leb-true used (length buffer) h) (read_of (take used buffer)) refl e
  inside_by false h e = not_saved Room buffer m u left e

  pub saved→passed : append_of buffer used count keys values ≡ written (saved m u) left → Passed buffer used count keys values m u left
  unfolding append_of
  saved→passed e = inside_by (leb used (length buffer)) refl e
