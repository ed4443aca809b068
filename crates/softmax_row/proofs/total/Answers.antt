use Rattle.std.proofs.Common.{◌≡◌, refl, ap, length, add-one, arith}
use lib.Ieee.{Float, binary32, add, of_bits}
use Rattle.softmax.specs.Row.{sum_of}
use Rattle.softmax.specs.Lists.{element_of, total_row_of}
use Rattle.softmax_row.proofs.total.Goals as goal

pub loop-x-init : goal.loop-x-init
unfolding sum_of of_bits
loop-x-init c = refl

pub loop-x-preserved : goal.loop-x-preserved
unfolding sum_of
loop-x-preserved c = rw add-one (ap (λ (s : Float). add binary32 s (element_of c.args.row.now c.loop-x.x-index)) c.loop-x.invariant)

pub returns : goal.returns
unfolding total_row_of
returns c = let e : c.loop-x.x-index ≡ length c.args.row.now = omega arith in cc
