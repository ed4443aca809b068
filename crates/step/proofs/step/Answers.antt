-- `step::step` meets its contract: a record that is not of the profile is refusal 10, and one that is has the general entry's outcome without masks, live counts and scores. Assumes nothing.
use mathlib.Core.Path.{refl, sym, ◌∙◌}
use Rattle.attention.proofs.Entries.{step_profile, step_other, without_scores}
use Rattle.step.proofs.step.Goals as goal

pub returns-then-not-profile_holds : goal.returns-then-not-profile_holds
returns-then-not-profile_holds c = sym (step_other _ _ _ (sym c.profile_holds.ensures ∙ c.if-not-profile_holds.true))

pub returns : goal.returns
returns c =
    without_scores _ _ _ c.attention.result _ _ _ _ _ refl c.attention.ensures ∙ sym (step_profile _ _ _ (sym c.profile_holds.ensures ∙ c.if-not-profile_holds.false))
