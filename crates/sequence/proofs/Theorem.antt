-- Demand 3: a recording in chunks gives what the one plain call over the positions that were entered gives, for every sequence of chunks. Assumes nothing.
use mathlib.Core.Path.{◌≡◌, refl, sym, ap, ◌∙◌, subst}
use mathlib.Core.List.{List, [], ◌∷◌, ◌++◌}
use mathlib.Core.Bool.{Bool, true, false}
use Prim.Native.Nat.{ℕ, ◌+◌, ◌≤◌, ◌<◌}
use native.Mathlib.Omega.{arith}
use lib.ListN.{length, length-append}
use Rattle.call.specs.declared.Call.{Call}
use Rattle.attention.specs.Elements.{cell_at}
use Rattle.attention.specs.Formula.{attention_output}
use Rattle.attention.proofs.Outcome.{accepted_output}
use Rattle.sequence.specs.Positions.{Position, position_of, plain_call, plain_inputs}
use Rattle.sequence.specs.Chunks.{entry_run, Chunk, State, start, length_of, chunk_call, chunk_inputs, chunk_outcome, state_after, positions_of, entered, history_next, history_after, is_done}
use Rattle.sequence.specs.Demand.{ChunkHolds, Demand3}
use Rattle.sequence.proofs.Plain.{good→plain}
use Rattle.sequence.proofs.Places.{state_of, AllGood, length_with_chunk, position_old}
use Rattle.sequence.proofs.Step.{entered→plain, entered_outcome, other_outcome}
use Rattle.sequence.proofs.Outputs.{chunk_answer, chunk_row}
use Rattle.sequence.proofs.Kept.{Kept, next, history_entered, kept_start, kept_after, history_extends, history_append}
use Rattle.call.specs.Answers.{done_of}

module _ (s : Call) (history : List Position) (r : Chunk) where
  -- a chunk is accepted exactly when it is entered
  pub done_entered : AllGood s history → is_done (chunk_outcome entry_run s (state_of s history) r).answer ≡ entered s (state_of s history) history r
  done_entered good = go (entered s (state_of s history) history r) refl
    where
      go : (t : Bool) → entered s (state_of s history) history r ≡ t → is_done (chunk_outcome entry_run s (state_of s history) r).answer ≡ entered s (state_of s history) history r
      go true e = ap (λ o. is_done o.answer) (entered_outcome s history r e) ∙ ap is_done (chunk_answer s history r) ∙ sym e
      go false e = (other_outcome s history r good e).0 ∙ sym e

  answer_entered : entered s (state_of s history) history r ≡ true → (chunk_outcome entry_run s (state_of s history) r).answer ≡ done_of (length (history_next s (state_of s history) history r)) 0
  answer_entered e =
      ap (λ o. o.answer) (entered_outcome s history r e)
      ∙ chunk_answer s history r
      ∙ ap (λ n. done_of n 0) (sym (ap length (history_entered s (state_of s history) history r e) ∙ length_with_chunk s r history))

  row_entered : (whole later : List Position) → whole ≡ history_next s (state_of s history) history r ++ later → entered s (state_of s history) history r ≡ true
      → (b h i k : ℕ) → b < s.batches → h < s.qheads → i < length_of r → k < s.vsize
      → cell_at (chunk_outcome entry_run s (state_of s history) r).tensors.output s.rank s.qheads (length_of r) s.vsize b h i k
      ≡ attention_output (plain_call s whole) (plain_inputs s whole) b h (length history + i) k
  row_entered whole later w e b h i k hb hh hi hk =
      let c = chunk_call s (length history) r in
      let x = chunk_inputs (state_of s history) r in
      let ps = history ++ positions_of s r in
      let begins : whole ≡ ps ++ later = w ∙ ap (λ l. l ++ later) (history_entered s (state_of s history) history r e) in
      let n = length_with_chunk s r history in
      let long : length history + length_of r ≤ length whole = let m = ap length begins ∙ length-append ps later in omega arith in
      ap (λ o. cell_at o.tensors.output s.rank s.qheads (length_of r) s.vsize b h i k) (entered_outcome s history r e)
      ∙ accepted_output c x b h i k hb hh hi hk
      ∙ chunk_row s history r (entered→plain s history r e) whole long
      (λ j l. ap (λ q. position_of q j) begins ∙ position_old ps later j (omega arith))
      b h i k hb hh hi hk

  chunk_holds : AllGood s history → (whole later : List Position) → whole ≡ history_next s (state_of s history) history r ++ later → ChunkHolds entry_run s (state_of s history) history r whole
  chunk_holds good whole later w = record {
    accepted = done_entered good;
    answer = answer_entered;
    refused = λ e. (other_outcome s history r good e).1;
    output = row_entered whole later w;
  }

-- what holds of one chunk, on a state that is the caches of the history
kept_holds : (s : Call) (st : State) (history : List Position) (r : Chunk) (whole later : List Position) → Kept s st history → whole ≡ history_next s st history r ++ later → ChunkHolds entry_run s st history r whole
kept_holds s st history r whole later k =
    subst (λ st. whole ≡ history_next s st history r ++ later → ChunkHolds entry_run s st history r whole) (sym k.state) (chunk_holds s history r k.good whole later)

-- of every sequence of chunks demand 3 holds
pub demand3 : (s : Call) (chunks : List Chunk) → Demand3 entry_run s chunks
unfolding history_after
demand3 s chunks =
    let k = kept_after s start [] chunks (kept_start s) in
    record {
      each = λ before r after e.
          let st = state_after entry_run s start before in
          let history = history_after entry_run s start [] before in
          let later = history_extends s (next s st r) (history_next s st history r) after in
          kept_holds s st history r (history_after entry_run s start [] chunks) later.0 (kept_after s start [] before (kept_start s))
          (ap (history_after entry_run s start []) e ∙ history_append s start [] before (r ∷ after) ∙ later.1);
      plain = λ some. good→plain s (history_after entry_run s start [] chunks) (k.plain some);
      total = ap (λ st. st.past) k.state;
      keys = ap (λ st. st.key) k.state;
      values = ap (λ st. st.value) k.state;
    }
