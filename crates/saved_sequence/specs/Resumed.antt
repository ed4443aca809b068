-- A recording in chunks that is saved, read back and continued, against one that is never stopped. Definitions only.
use Rattle.std.specs.Prelude.{◌≡◌, List, [], ◌∷◌, ◌++◌, ℕ, ◌≤◌, true, Float, length, take, Err}
use Rattle.call.specs.declared.Refusal.{Refusal}
use Rattle.call.specs.declared.Call.{Call}
use Rattle.session_file.specs.declared.Sizes.{Sizes}
use Rattle.session_file.specs.Sizes.{record_start}
use Rattle.session_file.specs.Form.{Session, session_of}
use Rattle.session_file.specs.Reader.{read_of, session_at, caches_fit, loaded, load_of, session_read}
use Rattle.session_file.specs.Writer.{written, begin_of, append_of, saved}
use Rattle.session_laws.specs.Statements.{whole_in, AllFit}
use Rattle.sequence.specs.Positions.{Position, key_cache, value_cache}
use Rattle.sequence.specs.Chunks.{entry_run, Chunk, State, start, chunk_outcome, state_after, history_after}

-- ---- a history as a session, and a session as a state

abbrev pub sizes_for : Call → Sizes
sizes_for s = record { batches = s.batches; kvheads = s.kvheads; size = s.size; vsize = s.vsize }

abbrev pub state_in : Session → State
state_in s = record { past = s.positions; key = s.keys; value = s.values }

-- the positions of a history as a session
unfoldable pub history_session : Call → List Position → Session
unfolding key_cache value_cache
history_session s history = session_of (sizes_for s) (length history) (key_cache s history) (value_cache s history)

-- A file holds a history: the reader gives as many positions of those sizes, and what stands in them is the history's.
pub record FileHolds (s : Call) (file : List ℕ) (history : List Position) : Type 0 where
  pub reads : read_of file ≡ session_read (sizes_for s) (length history)
  pub session : session_at (sizes_for s) file (length history) ≡ history_session s history

-- ---- read back and continued

-- the state of n positions that is read back from a file
unfoldable pub resumed : Call → List ℕ → ℕ → State
unfolding session_at
resumed s file n = state_in (session_at (sizes_for s) file n)

-- What holds of a file that holds the history of a sequence of chunks with settings s, and then of every later sequence.
pub record Resumes (s : Call) (chunks : List Chunk) (file : List ℕ) : Type 0 where
  -- the state that is read back is the state after the chunks
  pub state : resumed s file (length (history_after entry_run s start [] chunks)) ≡ state_after entry_run s start chunks
  -- and so is what a load leaves in caches of the right lengths
  pub loads : (keys values : List Float) → caches_fit (sizes_for s) (length (history_after entry_run s start [] chunks)) (length keys) (length values) ≡ true
      → load_of file keys values ≡ loaded (session_read (sizes_for s) (length (history_after entry_run s start [] chunks))) (state_after entry_run s start chunks).key (state_after entry_run s start chunks).value
  -- so every later state, every later outcome and every later history is that of a recording that is never stopped
  pub states : (later : List Chunk) → state_after entry_run s (resumed s file (length (history_after entry_run s start [] chunks))) later ≡ state_after entry_run s start (chunks ++ later)
  pub outcomes : (later : List Chunk) (r : Chunk)
      → chunk_outcome entry_run s (state_after entry_run s (resumed s file (length (history_after entry_run s start [] chunks))) later) r ≡ chunk_outcome entry_run s (state_after entry_run s start (chunks ++ later)) r
  pub histories : (later : List Chunk)
      → history_after entry_run s (resumed s file (length (history_after entry_run s start [] chunks))) (history_after entry_run s start [] chunks) later ≡ history_after entry_run s start [] (chunks ++ later)

-- keys and values of every chunk are f32
abbrev pub ChunksFit : List Chunk → Type 0
ChunksFit [] = Unit {0}
ChunksFit (r ∷ rs) = AllFit r.key × AllFit r.value × ChunksFit rs

-- ---- saved by the functions that save

-- A file that was begun and added to, as often as may be, with the history that was said to be saved. It is what the writer left in the bytes of its answer. A refused append leaves it as it was; a cut, by a full disk or a killed process, leaves what is whole.
pub data SavedBy (s : Call) : List ℕ → List Position → Type 0 where
  begun : (buffer left : List ℕ) (m u : ℕ) → begin_of buffer (sizes_for s) ≡ written (saved m u) left → SavedBy s (take u left) []
  added : (buffer left : List ℕ) (used m u : ℕ) (history ps : List Position) → SavedBy s (take used buffer) history → AllFit (key_cache s ps) → AllFit (value_cache s ps)
      → append_of buffer used (length ps) (key_cache s ps) (value_cache s ps) ≡ written (saved m u) left
      → SavedBy s (take u left) (history ++ ps)
  refused : (buffer left : List ℕ) (used count : ℕ) (keys values : List Float) (r : Refusal) (history : List Position) → SavedBy s (take used buffer) history
      → append_of buffer used count keys values ≡ written (Err r) left
      → SavedBy s (take used left) history
  cut : (file : List ℕ) (c : ℕ) (history : List Position) → SavedBy s file history → 14 ≤ c → c ≤ length file → SavedBy s (take c file) (take (whole_in (sizes_for s) c) history)

-- What holds of such a file.
pub record SavedResumes (s : Call) (file : List ℕ) (history : List Position) : Type 0 where
  pub holds : FileHolds s file history
  -- a cut behind the last byte of the first n positions loses none of them
  pub kept : (c n : ℕ) → record_start (sizes_for s) n ≤ c → take n (take (whole_in (sizes_for s) c) history) ≡ take n history
  -- where the history is that of some chunks, a load and every later chunk go on from there
  pub resumes : (chunks : List Chunk) → history_after entry_run s start [] chunks ≡ history → Resumes s chunks file

-- A file that holds a history, to which a writer adds positions of f32 and says saved, holds the history and then those positions.
abbrev pub AppendExtends : Call → (history ps : List Position) → Type 0
AppendExtends s history ps =
    (buffer : List ℕ) (used m u : ℕ) (left : List ℕ)
    → AllFit (key_cache s ps)
    → AllFit (value_cache s ps)
    → FileHolds s (take used buffer) history
    → append_of buffer used (length ps) (key_cache s ps) (value_cache s ps) ≡ written (saved m u) left
    → FileHolds s (take u left) (history ++ ps)
