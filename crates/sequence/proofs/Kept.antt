-- What every chunk keeps: the state is the caches of the history, no position of the history is at fault, and the plain call over a history of one position at least is accepted. A history is only ever added to. Assumes nothing.
use mathlib.Core.Path.{◌≡◌, refl, sym, ap, ◌∙◌, subst}
use mathlib.Core.List.{List, [], ◌∷◌, ◌++◌, append_assoc, append-nil}
use mathlib.Core.Bool.{Bool, true, false}
use Prim.Native.Nat.{ℕ, ◌*◌, ◌≤◌}
use lib.ListN.{length}
use native.Mathlib.Nat.{mul-zero, zero-mul, not-suc-le-zero}
use Rattle.tensor_laws.proofs.Tabulate.{none_long}
use Rattle.call.specs.declared.Call.{Call}
use Rattle.attention.specs.Outcomes.{accepted_of}
use Rattle.sequence.specs.Positions.{Position, key_cache, value_cache}
use Rattle.sequence.specs.Chunks.{entry_run, Chunk, State, start, chunk_call, chunk_inputs, chunk_outcome, next_state, state_after, positions_of, entered, history_where, history_next, history_after}
use Rattle.sequence.proofs.Places.{state_of, AllGood, length_with_chunk}
use Rattle.sequence.proofs.Plain.{PlainGood}
use Rattle.sequence.proofs.Refusing.{state_stays}
use Rattle.sequence.proofs.Step.{key_cache_length, value_cache_length, entered→plain, entered_outcome, other_outcome}
use Rattle.sequence.proofs.Outputs.{chunk_answer, chunk_present_keys, chunk_present_values}

pub record Kept (s : Call) (st : State) (history : List Position) : Type 0 where
  pub state : st ≡ state_of s history
  pub good : AllGood s history
  pub plain : 1 ≤ length history → PlainGood s history

-- ---- one chunk

-- the state after a chunk
abbrev pub next : Call → State → Chunk → State
unfolding chunk_outcome
next s st r = next_state (chunk_outcome entry_run s st r).answer st (chunk_outcome entry_run s st r).tensors

module _ (s : Call) (st : State) (history : List Position) (r : Chunk) where
  -- an entered chunk's positions are added to the history
  pub history_entered : entered s st history r ≡ true → history_next s st history r ≡ history ++ positions_of s r
  unfolding history_next
  history_entered e = ap (λ t. history_where t history (positions_of s r)) e

  history_other : entered s st history r ≡ false → history_next s st history r ≡ history
  unfolding history_next
  history_other e = ap (λ t. history_where t history (positions_of s r)) e

  history_next_extends : (more : List Position) × (history_next s st history r ≡ history ++ more)
  history_next_extends = go (entered s st history r) refl
    where
      go : (t : Bool) → entered s st history r ≡ t → (more : List Position) × (history_next s st history r ≡ history ++ more)
      go true e = (positions_of s r, history_entered e)
      go false e = ([], history_other e ∙ sym (append-nil history))

module _ (s : Call) (history : List Position) (r : Chunk) where
  -- after an entered chunk the state is the caches of the longer history
  pub state_entered : entered s (state_of s history) history r ≡ true → next s (state_of s history) r ≡ state_of s (history ++ positions_of s r)
  unfolding chunk_outcome
  state_entered e =
      let o = accepted_of (chunk_call s (length history) r) (chunk_inputs (state_of s history) r) in
      ap (λ o. next_state o.answer (state_of s history) o.tensors) (entered_outcome s history r e)
      ∙ ap (λ a. next_state a (state_of s history) o.tensors) (chunk_answer s history r)
      ∙ (λ i. record { past = sym (length_with_chunk s r history) i; key = chunk_present_keys s history r i; value = chunk_present_values s history r i })

  state_other : AllGood s history → entered s (state_of s history) history r ≡ false → next s (state_of s history) r ≡ state_of s history
  unfolding chunk_outcome
  state_other good e = state_stays (chunk_outcome entry_run s (state_of s history) r).answer (state_of s history) (chunk_outcome entry_run s (state_of s history) r).tensors (other_outcome s history r good e).0

  kept_by_chunk : AllGood s history → (1 ≤ length history → PlainGood s history) → Kept s (next s (state_of s history) r) (history_next s (state_of s history) history r)
  kept_by_chunk good plain = go (entered s (state_of s history) history r) refl
    where
      go : (t : Bool) → entered s (state_of s history) history r ≡ t → Kept s (next s (state_of s history) r) (history_next s (state_of s history) history r)
      go true e =
          subst (λ h. Kept s (next s (state_of s history) r) h) (sym (history_entered s (state_of s history) history r e))
          (record { state = state_entered e; good = (entered→plain s history r e).good; plain = λ some. entered→plain s history r e })
      go false e =
          subst (λ h. Kept s (next s (state_of s history) r) h) (sym (history_other s (state_of s history) history r e))
          (record { state = state_other good e; good = good; plain = plain })

kept_next : (s : Call) (st : State) (history : List Position) (r : Chunk) → Kept s st history → Kept s (next s st r) (history_next s st history r)
kept_next s st history r k = subst (λ st. Kept s (next s st r) (history_next s st history r)) (sym k.state) (kept_by_chunk s history r k.good k.plain)

-- ---- a sequence of chunks

-- at the start
pub kept_start : (s : Call) → Kept s start []
kept_start s = record {
  state = λ i. record {
    past = 0;
    key = sym (none_long (key_cache s []) (key_cache_length s [] ∙ none s.size)) i;
    value = sym (none_long (value_cache s []) (value_cache_length s [] ∙ none s.vsize)) i;
  };
  good = λ i h. absurd (not-suc-le-zero h);
  plain = λ some. absurd (not-suc-le-zero some);
}
  where
    none : (size : ℕ) → s.batches * s.kvheads * 0 * size ≡ 0
    none size = rw (mul-zero, zero-mul)

-- after a sequence
pub kept_after : (s : Call) (st : State) (history : List Position) (rs : List Chunk) → Kept s st history → Kept s (state_after entry_run s st rs) (history_after entry_run s st history rs)
unfolding state_after history_after
kept_after s st history [] k = k
kept_after s st history (r ∷ rs) k = kept_after s (next s st r) (history_next s st history r) rs (kept_next s st history r k)

-- the history after a sequence begins with that before it
pub history_extends : (s : Call) (st : State) (history : List Position) (rs : List Chunk) → (later : List Position) × (history_after entry_run s st history rs ≡ history ++ later)
unfolding history_after
history_extends s st history [] = ([], sym (append-nil history))
history_extends s st history (r ∷ rs) =
    let rest = history_extends s (next s st r) (history_next s st history r) rs in
    let one = history_next_extends s st history r in
    (one.0 ++ rest.0, rest.1 ∙ ap (λ h. h ++ rest.0) one.1 ∙ append_assoc history one.0 rest.0)

-- the history after two sequences is that after the second, from where the first leads
pub history_append : (s : Call) (st : State) (history : List Position) (before after : List Chunk)
    → history_after entry_run s st history (before ++ after) ≡ history_after entry_run s (state_after entry_run s st before) (history_after entry_run s st history before) after
unfolding state_after history_after
history_append s st history [] after = refl
history_append s st history (r ∷ before) after = history_append s (next s st r) (history_next s st history r) before after
