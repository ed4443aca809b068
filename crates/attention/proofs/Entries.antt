-- A record that an entry takes has the general entry's outcome there, and any other is refusal 10 with every tensor as it was lent. A call that is lent no scores leaves none. Assumes nothing.
use Rattle.std.specs.Prelude.{Err}
use mathlib.Core.Path.{◌≡◌, refl, sym, ap, ◌∙◌}
use mathlib.Core.List.{List, []}
use mathlib.Core.Bool.{true, false, true≢false}
use lib.Ieee.{Float}
use lib.ListN.{length}
use Rattle.tensor_laws.proofs.Tabulate.{none_long}
use Rattle.call.specs.declared.Call.{Call}
use Rattle.call.specs.Answers.{Answer}
use Rattle.call.specs.declared.Refusal.TheVariants.{Profile}
use Rattle.call.specs.Tensors.{Inputs, Outputs, outputs_of}
use Rattle.call.specs.Profile.{Entry, general, step, profile_holds, takes}
use Rattle.attention.specs.Outcomes.{Outcome, outcome_of, attention_of}
use Rattle.attention.specs.Entries.{step_outputs, step_of, outcome_at}
use Rattle.attention.proofs.Lengths.{lengths_kept}

module _ (c : Call) (x : Inputs) (y : Outputs) where
  -- the step entry
  pub step_profile : profile_holds c ≡ true → step_of c x y ≡ attention_of c x y
  unfolding step_of
  step_profile h = rw h

  pub step_other : profile_holds c ≡ false → step_of c x y ≡ outcome_of (Err Profile) y
  unfolding step_of
  step_other h = rw h

  -- either entry
  pub taken_outcome : (e : Entry) → takes e c ≡ true → outcome_at e c x y ≡ attention_of c x y
  taken_outcome general h = refl
  taken_outcome step h = step_profile h

  pub not_taken_outcome : (e : Entry) → takes e c ≡ false → outcome_at e c x y ≡ outcome_of (Err Profile) y
  not_taken_outcome general h = absurd (true≢false h)
  not_taken_outcome step h = step_other h

-- the scores that are left of none are none
pub without_scores : (c : Call) (x : Inputs) (y : Outputs) (a : Answer) (output present_key present_value scores work : List Float) → y.scores ≡ []
    → outcome_of a (outputs_of output present_key present_value scores work) ≡ attention_of c x y → outcome_of a (step_outputs output present_key present_value work) ≡ attention_of c x y
without_scores c x y a output present_key present_value scores work none h =
    let long = ap (λ (o : Outcome). length o.tensors.scores) h ∙ (lengths_kept c x y).scores ∙ ap length none in
    sym (ap (λ (t : List Float). outcome_of a (outputs_of output present_key present_value t work)) (none_long scores long)) ∙ h
