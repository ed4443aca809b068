-- Demand 3, as one statement over every sequence of chunks. Definitions only.
use Rattle.std.specs.Prelude.{◌≡◌, List, [], ◌∷◌, ◌++◌, ℕ, ◌+◌, ◌≤◌, ◌<◌, true, false, length}
use Rattle.call.specs.declared.Call.{Call}
use Rattle.attention.specs.Elements.{cell_at}
use Rattle.attention.specs.Formula.{attention_output}
use Rattle.sequence.specs.Positions.{Position, plain_call, plain_inputs, key_cache, value_cache}
use Rattle.sequence.specs.Chunks.{Run, Chunk, State, start, length_of, lent_of, chunk_outcome, is_done, state_after, plain_accepted, entered, history_next, history_after}
use Rattle.call.specs.Answers.{done_of}

-- What holds of one chunk of a sequence, with the state and the history before it, and the whole history after the sequence.
pub record ChunkHolds (run : Run) (s : Call) (st : State) (history : List Position) (r : Chunk) (whole : List Position) : Type 0 where
  -- it was accepted exactly when it was entered
  pub accepted : is_done (chunk_outcome run s st r).answer ≡ entered s st history r
  -- it then answered done, the history's length after it as T, and 0 fully masked rows
  pub answer : entered s st history r ≡ true → (chunk_outcome run s st r).answer ≡ done_of (length (history_next s st history r)) 0
  -- any other chunk left every lent tensor as before
  pub refused : entered s st history r ≡ false → (chunk_outcome run s st r).tensors ≡ lent_of r
  -- output row (b, h, i) of an accepted chunk has the bits of row (b, h, P + i) of the plain call over the whole history, by step 5
  pub output : entered s st history r ≡ true → (b h i k : ℕ) → b < s.batches → h < s.qheads → i < length_of r → k < s.vsize
      → cell_at (chunk_outcome run s st r).tensors.output s.rank s.qheads (length_of r) s.vsize b h i k
      ≡ attention_output (plain_call s whole) (plain_inputs s whole) b h (length history + i) k

-- What holds of a sequence of chunks with settings s.
pub record Demand3 (run : Run) (s : Call) (chunks : List Chunk) : Type 0 where
  -- each chunk, with what stands before it and after it
  pub each : (before : List Chunk) (r : Chunk) (after : List Chunk) → chunks ≡ before ++ (r ∷ after)
      → ChunkHolds run s (state_after run s start before) (history_after run s start [] before) r (history_after run s start [] chunks)
  -- no refusal applies to the plain call over the whole history, where that has a position
  pub plain : 1 ≤ length (history_after run s start [] chunks) → plain_accepted s (history_after run s start [] chunks) ≡ true
  -- the last T is the history's length
  pub total : (state_after run s start chunks).past ≡ length (history_after run s start [] chunks)
  -- the presents of the last accepted chunk hold the history's key rows and value rows in cache order
  pub keys : (state_after run s start chunks).key ≡ key_cache s (history_after run s start [] chunks)
  pub values : (state_after run s start chunks).value ≡ value_cache s (history_after run s start [] chunks)
