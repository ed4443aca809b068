-- Chunks (runs) of a recording: causal cached calls without a mask, each through one of the two entries and on the caches that the last accepted one left; and the history (the book) of the positions that were entered. Definitions only.
use Rattle.std.specs.Prelude.{List, [], ◌∷◌, ◌++◌, ℕ, suc, Bool, true, false, ◌&&◌, cond, ℤ, Float, length, Ok, Err}
use Rattle.tensor_laws.specs.Layout.{tabulate}
use Rattle.call.specs.declared.Call.{Call}
use Rattle.call.specs.declared.Form.TheVariants.{Cached}
use Rattle.call.specs.Answers.{Answer}
use Rattle.call.specs.Answers.{report_of}
use Rattle.call.specs.Refusals.{Verdict}
use Rattle.call.specs.Profile.{Entry, general, step, takes}
use Rattle.call.specs.Tensors.{Inputs, Outputs, outputs_of}
use Rattle.call.specs.Lengths.{inputs_fit, outputs_fit}
use Rattle.call.specs.Refusals.{verdict_of}
use Rattle.attention.specs.Elements.{cell_at}
use Rattle.attention.specs.Outcomes.{Outcome, attention_of}
use Rattle.attention.specs.Entries.{step_inputs, step_outputs, step_of}
use Rattle.sequence.specs.Positions.{Position, causal_call, plain_call, plain_inputs, right_outputs}

-- A chunk of one position and `more`, and the entry that it comes through. Its tensors may have any lengths and bits; its past tensors are not its own.
pub record Chunk : Type 0 where
  pub entry : Entry
  pub more : ℕ
  pub query : List Float
  pub key : List Float
  pub value : List Float
  pub bool_mask : List ℕ
  pub float_mask : List Float
  pub live : List ℤ
  pub lent : Outputs

-- Sq and Sk
abbrev pub length_of : Chunk → ℕ
length_of r = suc r.more

-- what the last accepted chunk left: the T that it answered, and its two presents
pub record State : Type 0 where
  pub past : ℕ
  pub key : List Float
  pub value : List Float

abbrev pub start : State
start = record { past = 0; key = []; value = [] }

-- ---- the call of a chunk, and what it leaves

abbrev pub chunk_call : Call → ℕ → Chunk → Call
chunk_call s past r = causal_call s Cached past (length_of r) (length_of r)

-- a tensor that the general entry alone is lent: masks, live counts and scores
abbrev pub lent_to : {A : Type 0} → Entry → List A → List A
lent_to general t = t
lent_to step t = []

-- what an entry is lent of a chunk's tensors
abbrev pub inputs_at : Entry → State → Chunk → Inputs
inputs_at e st r = record {
  query = r.query;
  key = r.key;
  value = r.value;
  bool_mask = lent_to e r.bool_mask;
  float_mask = lent_to e r.float_mask;
  past_key = st.key;
  past_value = st.value;
  live = lent_to e r.live;
}

abbrev pub outputs_at : Entry → Chunk → Outputs
outputs_at e r = outputs_of r.lent.output r.lent.present_key r.lent.present_value (lent_to e r.lent.scores) r.lent.work

-- what a chunk lends: the tensors that are read, and those for writing
abbrev pub chunk_inputs : State → Chunk → Inputs
chunk_inputs st r = inputs_at r.entry st r

abbrev pub lent_of : Chunk → Outputs
lent_of r = outputs_at r.entry r

-- what an entry answers and leaves, of every call
abbrev pub Run : Type 0
Run = Entry → Call → Inputs → Outputs → Outcome

-- the two entries; the step entry looks at what it is lent alone
abbrev pub entry_run : Run
entry_run general c x y = attention_of c x y
entry_run step c x y = step_of c (step_inputs x.query x.key x.value x.past_key x.past_value) (step_outputs y.output y.present_key y.present_value y.work)

unfoldable pub chunk_outcome : Run → Call → State → Chunk → Outcome
chunk_outcome run s st r = run r.entry (chunk_call s st.past r) (chunk_inputs st r) (lent_of r)

-- the call was accepted
abbrev pub is_done : Answer → Bool
is_done (Ok d) = true
is_done (Err r) = false

-- the state after an answer: T and the presents where it is done, and the state before otherwise
abbrev pub next_state : Answer → State → Outputs → State
next_state a st y = cond (is_done a) (record { past = (report_of a).total; key = y.present_key; value = y.present_value }) st

unfoldable pub state_after : Run → Call → State → List Chunk → State
unfolding chunk_outcome
state_after run s st [] = st
state_after run s st (r ∷ rs) = state_after run s (next_state (chunk_outcome run s st r).answer st (chunk_outcome run s st r).tensors) rs

-- ---- the history

-- the positions that a chunk's Q, K and V hold, in rising order
unfoldable pub positions_of : Call → Chunk → List Position
unfolding tabulate
positions_of s r =
    tabulate (length_of r)
    (λ i. record {
      query = λ b h k. cell_at r.query s.rank s.qheads (length_of r) s.size b h i k;
      key = λ b h k. cell_at r.key s.rank s.kvheads (length_of r) s.size b h i k;
      value = λ b h k. cell_at r.value s.rank s.kvheads (length_of r) s.vsize b h i k;
    })

abbrev pub is_accepted : Verdict → Bool
is_accepted (Ok u) = true
is_accepted (Err a) = false

-- no refusal applies to the one plain call over the positions, with tensors of the right lengths
unfoldable pub plain_accepted : Call → List Position → Bool
unfolding verdict_of plain_inputs right_outputs
plain_accepted s ps = is_accepted (verdict_of (plain_call s ps) (plain_inputs s ps) (right_outputs (plain_call s ps)))

-- A chunk is entered exactly when its entry takes its record, its tensors have the right lengths and the plain call over the history's positions and then its own is one to which no refusal applies.
unfoldable pub entered : Call → State → List Position → Chunk → Bool
unfolding inputs_fit outputs_fit plain_accepted positions_of
entered s st history r =
    takes r.entry (chunk_call s (length history) r)
    && inputs_fit (chunk_call s (length history) r) (chunk_inputs st r)
    && outputs_fit (chunk_call s (length history) r) (lent_of r)
    && plain_accepted s (history ++ positions_of s r)

abbrev pub history_where : Bool → List Position → List Position → List Position
history_where true history ps = history ++ ps
history_where false history ps = history

-- the history after a chunk, and after a sequence of chunks from a state and a history
unfoldable pub history_next : Call → State → List Position → Chunk → List Position
unfolding entered positions_of
history_next s st history r = history_where (entered s st history r) history (positions_of s r)

unfoldable pub history_after : Run → Call → State → List Position → List Chunk → List Position
unfolding history_next chunk_outcome
history_after run s st history [] = history
history_after run s st history (r ∷ rs) =
    history_after run s (next_state (chunk_outcome run s st r).answer st (chunk_outcome run s st r).tensors) (history_next s st history r) rs
