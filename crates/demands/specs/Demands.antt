-- The three demands as statements about what a call answers and leaves at either entry: `answer` and `left` stand for the answer of a call c with the tensors x and y at the entry e, and for its tensors at exit. The step entry is lent no masks, live counts and scores; they are empty there. Definitions only.
use Rattle.std.specs.Prelude.{◌≡◌, true, List, Float, Err}
use Rattle.call.specs.declared.Call.{Call}
use Rattle.call.specs.declared.Refusal.{Refusal}
use Rattle.call.specs.Answers.{Answer, done_of}
use Rattle.call.specs.Limits.{total_of}
use Rattle.call.specs.Profile.{Entry, general, step}
use Rattle.call.specs.Tensors.{Inputs, Outputs}
use Rattle.call.specs.Refusals.{Clear, GivenFirst, links_of}
use Rattle.call.specs.Places.{AtFirst}
use Rattle.attention.specs.Outcomes.{Outcome, output_tensor, present_key_tensor, present_value_tensor, scores_tensor, work_row, masked_rows_of, attention_of}
use Rattle.attention.specs.Entries.{step_inputs, step_outputs, step_of}
use Rattle.sequence.specs.Chunks.{Run, is_done}

-- Demand 1: there is an answer. A refusal is the first that applies, names the first place at fault, and leaves every tensor as it came in; where none is given none applies.
pub record Demand1 (e : Entry) (c : Call) (x : Inputs) (y : Outputs) (answer : Answer) (left : Outputs) : Type 0 where
  pub first : (r : Refusal) → answer ≡ Err r → GivenFirst (links_of e c x y) r
  pub place : (r : Refusal) → answer ≡ Err r → AtFirst c x r
  pub untouched : (r : Refusal) → answer ≡ Err r → left ≡ y
  pub none : is_done answer ≡ true → Clear (links_of e c x y)

-- Demand 2: an accepted call answers done, T and the number of fully masked rows, and leaves in each tensor what the formula gives.
pub record Demand2 (e : Entry) (c : Call) (x : Inputs) (y : Outputs) (answer : Answer) (left : Outputs) : Type 0 where
  pub done : Clear (links_of e c x y) → answer ≡ done_of (total_of c) (masked_rows_of c x)
  pub output : Clear (links_of e c x y) → left.output ≡ output_tensor c x
  pub present_key : Clear (links_of e c x y) → left.present_key ≡ present_key_tensor c x
  pub present_value : Clear (links_of e c x y) → left.present_value ≡ present_value_tensor c x
  pub scores : Clear (links_of e c x y) → left.scores ≡ scores_tensor c x
  pub work : Clear (links_of e c x y) → left.work ≡ work_row c x

-- ---- demand 3: the two entries by what they answer and leave on every call

pub record Programs : Type 0 where
  pub attention : Call → Inputs → Outputs → Outcome
  pub step : Call → (query key value past_key past_value output present_key present_value work : List Float) → Outcome

-- They meet the entries' contracts: on every record, whatever its numbers, and on tensors of every length and of every value that a float of the logic may have.
pub record Meets (run : Programs) : Type 0 where
  pub attention : (c : Call) (x : Inputs) (y : Outputs) → run.attention c x y ≡ attention_of c x y
  pub step : (c : Call) (query key value past_key past_value output present_key present_value work : List Float)
      → run.step c query key value past_key past_value output present_key present_value work ≡ step_of c (step_inputs query key value past_key past_value) (step_outputs output present_key present_value work)

-- the two programs as one run; the step program is lent no masks, live counts and scores
abbrev pub run_of : Programs → Run
run_of p general c x y = p.attention c x y
run_of p step c x y = p.step c x.query x.key x.value x.past_key x.past_value y.output y.present_key y.present_value y.work
