-- `entry::attention` meets its contract: the verdict is that of the definition, and each of the two ways is its outcome. Assumes nothing.
use mathlib.Core.Path.{◌≡◌, refl, sym, ◌∙◌}
use Rattle.call.specs.Refusals.{verdict_of}
use Rattle.call.specs.Tensors.{Outputs, outputs_of}
use Rattle.call.specs.Lent.{lent_now}
use Rattle.attention.proofs.Outcome.{accepted_outcome, refused_outcome}
use Rattle.entry.proofs.attention.Goals as goal
use Rattle.entry.proofs.attention.Goals.{After-verdict-verdict, Start}

abbrev outputs : Start → Outputs
outputs c = let s = c.args in outputs_of s.output.now s.presentkey.now s.presentvalue.now s.scores.now s.work.now

-- what the check gave is the definition's verdict
verdict_is : (c : After-verdict-verdict) → let s = c.args in c.verdict-verdict.result ≡ verdict_of s.call (lent_now s.inputs) (outputs_of s.output.now s.presentkey.now s.presentvalue.now s.scores.now s.work.now)
verdict_is c = let s = c.args in c.verdict-verdict.ensures (outputs_of s.output.now s.presentkey.now s.presentvalue.now s.scores.now s.work.now) (record { output_length_is = refl; present_key_length = refl; present_value_length = refl; scores_length_is = refl; work_length = refl })

pub attend-requires : goal.attend-requires
attend-requires c = sym (verdict_is (goal.at.attend-requires c).After-verdict-verdict) ∙ c.in-Ok.is

pub returns-in-Ok : goal.returns-in-Ok
returns-in-Ok c =
    let at = goal.at.returns-in-Ok c in
    c.attend.ensures ∙ sym (accepted_outcome c.args.call (lent_now c.args.inputs) (outputs at.Start) (sym (verdict_is at.After-verdict-verdict) ∙ c.in-Ok.is))

pub returns-in-Err : goal.returns-in-Err
returns-in-Err c =
    let at = goal.at.returns-in-Err c in
    sym (refused_outcome c.args.call (lent_now c.args.inputs) (outputs at.Start) _ (sym (verdict_is at.After-verdict-verdict) ∙ c.in-Err.is))
