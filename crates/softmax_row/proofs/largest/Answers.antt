use Rattle.std.proofs.Common.{◌≡◌, refl, ap, ◌∙◌, length, add-one, arith}
use lib.Ieee.{Float, lt, neg, of_bits, nan_bits}
use Rattle.softmax.specs.Row.{greater, largest_of}
use Rattle.softmax.specs.Lists.{element_of, largest_row_of}
use Rattle.softmax.proofs.Scores.{score_at_lem, next_largest, next_finite}
use Rattle.softmax_row.proofs.largest.Invariants.{firsts_of}
use Rattle.softmax_row.proofs.largest.Goals as goal
use Rattle.softmax_row.proofs.largest.Goals.{then-m-x, else-m-x}

pub float_from_bits-m : goal.float_from_bits-m
unfolding nan_bits
float_from_bits-m c = tt

pub loop-x-init : goal.loop-x-init
unfolding neg of_bits largest_of
loop-x-init c = (refl, tt)

pub loop-x-preserved : goal.loop-x-preserved
unfolding largest_of
loop-x-preserved c =
    let row = c.args.row.now in
    let i = c.loop-x.x-index in
    let x = element_of row i in
    let score = score_at_lem row c.requires i (omega arith) in
    let chosen : c.if-m-x.m ≡ greater (lt c.loop-x.m x) c.loop-x.m x = elim c.if-m-x.branch [
      | then-m-x w ↦ rw w.if-m-x.true w.m-is
      | else-m-x w ↦ rw w.if-m-x.false w.m-is
    ] in
    rw add-one (
      chosen ∙ ap (λ (m : Float). greater (lt m x) m x) c.loop-x.invariant.0 ∙ next_largest (firsts_of row i) x c.loop-x.invariant.1 score,
      next_finite (firsts_of row i) x c.loop-x.invariant.1 score,
    )

pub returns : goal.returns
unfolding largest_row_of
returns c = let e : c.loop-x.x-index ≡ length c.args.row.now = omega arith in cc
