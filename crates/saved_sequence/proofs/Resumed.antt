-- A recording in chunks that is saved, read back and continued has the states, outcomes and histories of one that is never stopped; positions that a writer adds extend the history that a file holds. Assumes nothing.
use Rattle.std.specs.Prelude.{Err}
use mathlib.Core.Path.{◌≡◌, refl, sym, ap, ◌∙◌}
use mathlib.Core.Bool.{true, cond}
use mathlib.Core.List.{List, [], ◌∷◌, ◌++◌}
use Prim.Native.Nat.{ℕ}
use lib.Ieee.{Float}
use lib.ListN.{length}
use Rattle.call.specs.declared.Refusal.TheVariants.{OutputLength}
use Rattle.call.specs.declared.Call.{Call}
use Rattle.session_file.specs.Reader.{Reading, session_read}
use Rattle.session_file.specs.Sizes.{sizes_hold}
use Rattle.session_file.specs.Form.{file_of}
use Rattle.session_file.specs.Reader.{session_at, caches_fit, loaded, loaded_of, load_of}
use Rattle.session_laws.proofs.Saved.{saved_holds}
use Rattle.sequence.specs.Positions.{Position}
use Rattle.sequence.specs.Chunks.{entry_run, Chunk, State, start, chunk_outcome, state_after, history_after}
use Rattle.sequence.proofs.Kept.{kept_start, kept_after, next, history_append}
use Rattle.saved_sequence.specs.Resumed.{sizes_for, state_in, history_session, FileHolds, resumed, ChunksFit, Resumes}
use Rattle.saved_sequence.proofs.Saved.{after_savable}

-- the state after two sequences is that after the second, from where the first leads
state_append : (s : Call) (st : State) (before after : List Chunk) → state_after entry_run s st (before ++ after) ≡ state_after entry_run s (state_after entry_run s st before) after
unfolding state_after
state_append s st [] after = refl
state_append s st (r ∷ before) after = state_append s (next s st r) before after

module _ (s : Call) (chunks : List Chunk) where
  abbrev history : List Position
  history = history_after entry_run s start [] chunks

  abbrev st : State
  st = state_after entry_run s start chunks

  -- the history as a session, as a state
  state_is : state_in (history_session s history) ≡ st
  unfolding history_session
  state_is = sym (kept_after s start [] chunks (kept_start s)).state

  module _ (file : List ℕ) (h : FileHolds s file history) where
    state_back : resumed s file (length history) ≡ st
    unfolding resumed
    state_back = ap state_in h.session ∙ state_is

    load_back : (keys values : List Float) → caches_fit (sizes_for s) (length history) (length keys) (length values) ≡ true → load_of file keys values ≡ loaded (session_read (sizes_for s) (length history)) st.key st.value
    unfolding load_of loaded_of resumed
    load_back keys values f =
        ap (λ (x : Reading). loaded_of x file keys values) h.reads
        ∙ (λ i. cond (f i) (loaded (session_read (sizes_for s) (length history)) (session_at (sizes_for s) file (length history)).keys (session_at (sizes_for s) file (length history)).values) (loaded (Err OutputLength) keys values))
        ∙ ap (λ (x : State). loaded (session_read (sizes_for s) (length history)) x.key x.value) state_back

    -- every file that holds the history of a sequence of chunks is taken up as that sequence
    pub resumes : Resumes s chunks file
    resumes = record {
      state = state_back;
      loads = load_back;
      states = λ later. ap (λ (x : State). state_after entry_run s x later) state_back ∙ sym (state_append s start chunks later);
      outcomes = λ later r. ap (λ (x : State). chunk_outcome entry_run s x r) (ap (λ (x : State). state_after entry_run s x later) state_back ∙ sym (state_append s start chunks later));
      histories = λ later. ap (λ (x : State). history_after entry_run s x history later) state_back ∙ sym (history_append s start [] chunks later);
    }

  -- the file of the history is one
  pub file_holds : sizes_hold (sizes_for s) ≡ true → ChunksFit chunks → FileHolds s (file_of (history_session s history)) history
  unfolding history_session
  file_holds limits c = let h = saved_holds (history_session s history) (after_savable s chunks limits c) in record { reads = h.reads; session = h.same }
