-- The corollary on cuts: however positions are cut into chunks with tensors of the right lengths, each through an entry that takes its record, all are accepted exactly when the one plain call over all of them is. Definitions only.
use Rattle.std.specs.Prelude.{◌≡◌, List, [], ◌∷◌, ◌++◌, ℕ, ◌+◌, ◌*◌, Bool, true, ◌&&◌, replicate}
use Rattle.exponential.specs.ExpNeg.{plus_zero}
use Rattle.call.specs.declared.Call.{Call}
use Rattle.call.specs.Profile.{takes}
use Rattle.call.specs.Lengths.{inputs_fit, outputs_fit}
use Rattle.sequence.specs.Positions.{Position}
use Rattle.sequence.specs.Chunks.{Run, Chunk, State, start, length_of, lent_of, chunk_call, chunk_inputs, chunk_outcome, next_state, positions_of, plain_accepted, is_done}

-- caches of the right lengths after `past` positions
abbrev pub caches_for : Call → ℕ → State
caches_for s past = record {
  past = past;
  key = replicate (s.batches * s.kvheads * past * s.size) plus_zero;
  value = replicate (s.batches * s.kvheads * past * s.vsize) plus_zero;
}

-- the chunk's entry takes its record, and its own tensors have the right lengths, where it comes after `past` positions
unfoldable pub fits_after : Call → ℕ → Chunk → Bool
unfolding inputs_fit outputs_fit
fits_after s past r = takes r.entry (chunk_call s past r) && inputs_fit (chunk_call s past r) (chunk_inputs (caches_for s past) r) && outputs_fit (chunk_call s past r) (lent_of r)

unfoldable pub all_fit : Call → ℕ → List Chunk → Bool
unfolding fits_after
all_fit s past [] = true
all_fit s past (r ∷ rs) = fits_after s past r && all_fit s (past + length_of r) rs

unfoldable pub all_positions : Call → List Chunk → List Position
unfolding positions_of
all_positions s [] = []
all_positions s (r ∷ rs) = positions_of s r ++ all_positions s rs

-- every chunk of the sequence is accepted
unfoldable pub all_accepted : Run → Call → State → List Chunk → Bool
unfolding chunk_outcome
all_accepted run s st [] = true
all_accepted run s st (r ∷ rs) =
    is_done (chunk_outcome run s st r).answer && all_accepted run s (next_state (chunk_outcome run s st r).answer st (chunk_outcome run s st r).tensors) rs

-- the chunks are r and rs, so there is one position at least
abbrev pub CutHolds : Run → Call → Chunk → List Chunk → Type 0
CutHolds run s r rs = all_fit s 0 (r ∷ rs) ≡ true → all_accepted run s start (r ∷ rs) ≡ plain_accepted s (all_positions s (r ∷ rs))
