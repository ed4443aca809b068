-- `entry::attend` meets its contract: the scale, and then every head. Assumes nothing.
use native.Mathlib.Omega.{arith}
use Rattle.call.specs.Limits.{total_of}
use Rattle.call.specs.Tensors.{Outputs, outputs_of}
use Rattle.call.specs.Lent.{lent_now}
use Rattle.call.proofs.Accepted.{Accepts, verdict→accepts}
use Rattle.call.proofs.Facts.{InLimits, InputLengths, OutputLengths, limits→facts, fit→lengths, outputs→lengths}
use Rattle.attention.specs.Outcomes.{outcome_of, accepted_of}
use Rattle.entry.proofs.attend.Goals as goal
use Rattle.entry.proofs.attend.Goals.{Start}
use Rattle.call.specs.Answers.{done_of}

abbrev outputs : Start → Outputs
outputs c = let s = c.args in outputs_of s.output.now s.presentkey.now s.presentvalue.now s.scores.now s.work.now

accepts : (c : Start) → Accepts c.args.call (lent_now c.args.inputs) (outputs c)
accepts c = verdict→accepts c.args.call (lent_now c.args.inputs) (outputs c) c.requires

limits : (c : Start) → InLimits c.args.call
limits c = limits→facts c.args.call (accepts c).limits

read_long : (c : Start) → InputLengths c.args.call (lent_now c.args.inputs)
read_long c = fit→lengths c.args.call (lent_now c.args.inputs) (accepts c).inputs

written_long : (c : Start) → OutputLengths c.args.call (outputs c)
written_long c = outputs→lengths c.args.call (outputs c) (accepts c).outputs

pub all_heads-masked-requires : goal.all_heads-masked-requires
all_heads-masked-requires c =
    let start = (goal.at.all_heads-masked-requires c).Start in
    let w = written_long start in
    record {
      accepting = record { lent = outputs start; accepted = c.requires; scale_is = c.effective_scale-scale.ensures };
      output_len = (w.output, w.scores, w.work);
      presentkey_len = (w.present_key, w.present_value);
    }

pub overflow_add-result : goal.overflow_add-result
overflow_add-result c = omega (arith, (limits (goal.at.overflow_add-result c).Start).total_most)

pub returns : goal.returns
unfolding accepted_of
returns c =
    let s = c.args in
    let d = c.all_heads-masked.ensures in
    λ i. outcome_of (done_of (total_of s.call) (d.told i)) (outputs_of (d.outputs i) (d.keys i) (d.values i) (d.shown i) (d.weights i))
