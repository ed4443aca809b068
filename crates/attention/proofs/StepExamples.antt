-- The step entry on worked examples, by computation: E through it, refusals of the table behind 10, and 10 before 1; and the tensors that its contract names. Assumes nothing.
use Rattle.std.specs.Prelude.{None, Err}
use mathlib.Core.Path.{◌≡◌, refl}
use mathlib.Core.List.{[], ◌∷◌}
use lib.Ieee.{nan}
use Rattle.attention.specs.StepLent.{step_given, step_before, step_after}
use Rattle.call.proofs.LentExamples.{lent, lent_mut, number}
use Rattle.exponential.specs.ExpNeg.{one}
use Rattle.call.specs.declared.Form.TheVariants.{Plain, Cached}
use Rattle.call.specs.declared.MaskKind.TheVariants.{NoMask}
use Rattle.call.specs.declared.Refusal.TheVariants.{Limits, InputLength, OutputLength, Element, Profile}
use Rattle.attention.specs.Outcomes.{outcome_of}
use Rattle.attention.specs.Entries.{step_inputs, step_outputs, step_of}
use Rattle.attention.specs.Calls.{small, zeros}
use Rattle.attention.specs.Table.{call_e, inputs_e, lent_e, outcome_e}

pub record StepExamplesHold : Type 0 where
  -- E: output 9, and presents 1 1 and 6 12
  pub E : step_of call_e inputs_e lent_e ≡ outcome_e
  -- a record of the profile gets the refusals of the table: 1, 5, 6 and 9 with its place
  pub past_too_long : step_of (small Cached NoMask None 1 2048 1 1) inputs_e lent_e ≡ outcome_of (Err Limits) lent_e
  pub no_query : step_of call_e (step_inputs [] (one ∷ []) (one ∷ []) (one ∷ []) (one ∷ [])) lent_e ≡ outcome_of (Err InputLength) lent_e
  pub short_present : step_of call_e inputs_e (step_outputs (zeros 1) (zeros 1) (zeros 2) (zeros 2)) ≡ outcome_of (Err OutputLength) (step_outputs (zeros 1) (zeros 1) (zeros 2) (zeros 2))
  pub past_value_nan : step_of call_e (step_inputs (one ∷ []) (one ∷ []) (one ∷ []) (one ∷ []) (nan ∷ [])) lent_e ≡ outcome_of (Err (Element 3 0)) lent_e
  -- any other record is refusal 10, and every tensor is as it was lent: a call that the general entry does, and one to which 1 applies too
  pub plain : step_of (small Plain NoMask None 1 0 1 1) (step_inputs (one ∷ []) (one ∷ []) (one ∷ []) [] []) (step_outputs (zeros 1) [] [] (zeros 1)) ≡ outcome_of (Err Profile) (step_outputs (zeros 1) [] [] (zeros 1))
  pub two_positions : step_of (small Cached NoMask None 1 0 2 2) inputs_e lent_e ≡ outcome_of (Err Profile) lent_e
  pub ten_before_one : step_of (small Cached NoMask None 1 1 0 1) inputs_e lent_e ≡ outcome_of (Err Profile) lent_e
  -- each lent tensor in its place, before the call as it came in and after it as it goes out
  pub given : step_given (lent (number 1) (number 11)) (lent (number 2) (number 12)) (lent (number 3) (number 13)) (lent (number 4) (number 14)) (lent (number 5) (number 15))
      ≡ step_inputs (number 1 ∷ []) (number 2 ∷ []) (number 3 ∷ []) (number 4 ∷ []) (number 5 ∷ [])
  pub before : step_before (lent_mut (number 1) (number 11)) (lent_mut (number 2) (number 12)) (lent_mut (number 3) (number 13)) (lent_mut (number 4) (number 14))
      ≡ step_outputs (number 1 ∷ []) (number 2 ∷ []) (number 3 ∷ []) (number 4 ∷ [])
  pub after : step_after (lent_mut (number 1) (number 11)) (lent_mut (number 2) (number 12)) (lent_mut (number 3) (number 13)) (lent_mut (number 4) (number 14))
      ≡ step_outputs (number 11 ∷ []) (number 12 ∷ []) (number 13 ∷ []) (number 14 ∷ [])

pub step_examples_hold : StepExamplesHold
unfolding step_of
step_examples_hold = record {
  E = refl;
  past_too_long = refl;
  no_query = refl;
  short_present = refl;
  past_value_nan = refl;
  plain = refl;
  two_positions = refl;
  ten_before_one = refl;
  given = refl;
  before = refl;
  after = refl;
}
