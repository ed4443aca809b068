-- The step entry as a function on values, and the outcome at either entry. Definitions only.
use Rattle.std.specs.Prelude.{List, [], cond, Float, Err}
use Rattle.call.specs.declared.Call.{Call}
use Rattle.call.specs.declared.Refusal.TheVariants.{Profile}
use Rattle.call.specs.Tensors.{Inputs, Outputs, inputs_of, outputs_of}
use Rattle.call.specs.Profile.{Entry, general, step, profile_holds}
use Rattle.attention.specs.Outcomes.{Outcome, outcome_of, attention_of}

-- what the step entry is lent: no masks, no live counts and no scores
abbrev pub step_inputs : (query key value past_key past_value : List Float) → Inputs
step_inputs query key value past_key past_value = inputs_of query key value [] [] past_key past_value []

abbrev pub step_outputs : (output present_key present_value work : List Float) → Outputs
step_outputs output present_key present_value work = outputs_of output present_key present_value [] work

-- a record of the profile has the general entry's outcome; any other is refusal 10, and every tensor is as it came in
unfoldable pub step_of : Call → Inputs → Outputs → Outcome
unfolding profile_holds attention_of
step_of c x y = cond (profile_holds c) (attention_of c x y) (outcome_of (Err Profile) y)

abbrev pub outcome_at : Entry → Call → Inputs → Outputs → Outcome
outcome_at general c x y = attention_of c x y
outcome_at step c x y = step_of c x y
