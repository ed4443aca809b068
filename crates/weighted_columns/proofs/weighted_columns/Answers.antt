use Rattle.std.proofs.Common.{◌≡◌, refl, ap, ◌∙◌, ◌+◌, ◌*◌, ◌-◌, length, arith}
use Rattle.std.proofs.lemmas.Grind.{common_steps}
use Rattle.tensor_laws.specs.Layout.{tabulate}
use Rattle.weighted_columns.proofs.Columns.{columns_to, columns_put, all_columns, no_positions}
use Rattle.weighted_columns.proofs.weighted_columns.Goals as goal
use Rattle.weighted_columns.proofs.weighted_columns.Goals.{At-loop-block}

pub returns-then-is_empty : goal.returns-then-is_empty
returns-then-is_empty c = let s = c.args in no_positions s.weights.now s.values.now s.stride s.out.now (grind (arith, common_steps))

pub loop-block-init : goal.loop-block-init
unfolding tabulate
loop-block-init c = refl

pub loop-block-preserved : goal.loop-block-preserved
loop-block-preserved c =
    let s = c.args in
    let at = c.loop-block.block * 16 in
    columns_put s.weights.now s.values.now s.stride s.out.now at (at + 16 - at) c.loop-block.out c.sixteen_columns.new.out c.loop-block.invariant c.loop-block.auto.out (omega arith) c.sixteen_columns.ensures
    ∙ ap (columns_to s.weights.now s.values.now s.stride s.out.now) (omega arith)

pub loop-block-2-init : goal.loop-block-2-init
loop-block-2-init c = let s = c.args in c.loop-block.invariant ∙ ap (columns_to s.weights.now s.values.now s.stride s.out.now) (omega arith)

pub loop-block-2-preserved : goal.loop-block-2-preserved
loop-block-2-preserved c =
    let s = c.args in
    let a = c.loop-block-2 in
    let at = a.block * 16 in
    let to = columns_to s.weights.now s.values.now s.stride s.out.now in
    let before : a.out ≡ to at = a.invariant ∙ ap to (omega (arith, c.loop-block-2-test.true, c.div_ceil-block-end.ensures)) in
    let long = a.auto.out ∙ c.loop-block.auto.out in
    columns_put s.weights.now s.values.now s.stride s.out.now at (length a.out - at) a.out c.weighted_rows.new.out before long (omega (arith, long)) c.weighted_rows.ensures
    ∙ ap to (omega (arith, long, a.auto.block))

pub returns : goal.returns
returns c =
    let s = c.args in
    let to = columns_to s.weights.now s.values.now s.stride s.out.now in
    c.loop-block-2.invariant ∙ ap to (omega (arith, c.loop-block-2-test.false, c.div_ceil-block-end.ensures)) ∙ all_columns s.weights.now s.values.now s.stride s.out.now
