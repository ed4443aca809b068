-- With example D's two positions as two chunks, each through either entry, the second is example E; both positions in one chunk are refused by the step entry. Assumes nothing.
use Rattle.std.specs.Prelude.{Err}
use mathlib.Core.Path.{◌≡◌, refl}
use mathlib.Core.List.{[], ◌∷◌}
use mathlib.Core.Bool.{false, true}
use Rattle.call.specs.Profile.{Entry, general, step}
use Rattle.call.specs.declared.Refusal.TheVariants.{Profile}
use Rattle.attention.specs.Outcomes.{outcome_of, attention_of}
use Rattle.attention.specs.Entries.{step_of}
use Rattle.attention.specs.Table.{call_e, inputs_e, outcome_e}
use Rattle.sequence.specs.Chunks.{entry_run, start, lent_of, chunk_call, chunk_inputs, chunk_outcome, state_after, plain_accepted, positions_of, entered}
use Rattle.sequence.specs.Cuts.{all_fit, all_accepted, all_positions}
use Rattle.examples.specs.TwoChunks.{first_chunk, second_chunk, both_at_once}
use Rattle.call.specs.Answers.{done_of}

-- after the first chunk, the second's call, inputs and outcome are those of E
pub record SecondIsE (e f : Entry) : Type 0 where
  pub call : chunk_call call_e (state_after entry_run call_e start (first_chunk e ∷ [])).past (second_chunk f) ≡ call_e
  pub inputs : chunk_inputs (state_after entry_run call_e start (first_chunk e ∷ [])) (second_chunk f) ≡ inputs_e
  pub outcome : chunk_outcome entry_run call_e (state_after entry_run call_e start (first_chunk e ∷ [])) (second_chunk f) ≡ outcome_e

pub second_is_E : (e f : Entry) → SecondIsE e f
unfolding state_after chunk_outcome attention_of step_of
second_is_E general general = record { call = refl; inputs = refl; outcome = refl }
second_is_E general step = record { call = refl; inputs = refl; outcome = refl }
second_is_E step general = record { call = refl; inputs = refl; outcome = refl }
second_is_E step step = record { call = refl; inputs = refl; outcome = refl }

-- both at once are entered through the general entry; through the step entry they get refusal 10 and are not entered, though the plain call over them is accepted
pub record BothAtOnce : Type 0 where
  pub plain : plain_accepted call_e (positions_of call_e (both_at_once step)) ≡ true
  pub refused : chunk_outcome entry_run call_e start (both_at_once step) ≡ outcome_of (Err Profile) (lent_of (both_at_once step))
  pub not_entered : entered call_e start [] (both_at_once step) ≡ false
  pub accepted : (chunk_outcome entry_run call_e start (both_at_once general)).answer ≡ done_of 2 0
  pub entered_by_general : entered call_e start [] (both_at_once general) ≡ true

pub both_at_once_lem : BothAtOnce
unfolding chunk_outcome entered plain_accepted positions_of attention_of step_of
both_at_once_lem = record { plain = refl; refused = refl; not_entered = refl; accepted = refl; entered_by_general = refl }

-- the two positions of D as two chunks: all that the corollary on cuts asks of them holds, and so do both of its sides
pub record CutOfD (e f : Entry) : Type 0 where
  pub fit : all_fit call_e 0 (first_chunk e ∷ second_chunk f ∷ []) ≡ true
  pub chunks : all_accepted entry_run call_e start (first_chunk e ∷ second_chunk f ∷ []) ≡ true
  pub plain : plain_accepted call_e (all_positions call_e (first_chunk e ∷ second_chunk f ∷ [])) ≡ true

pub cut_of_D : (e f : Entry) → CutOfD e f
unfolding all_fit all_accepted all_positions chunk_outcome plain_accepted positions_of attention_of step_of
cut_of_D general general = record { fit = refl; chunks = refl; plain = refl }
cut_of_D general step = record { fit = refl; chunks = refl; plain = refl }
cut_of_D step general = record { fit = refl; chunks = refl; plain = refl }
cut_of_D step step = record { fit = refl; chunks = refl; plain = refl }
