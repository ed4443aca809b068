use Rattle.std.proofs.lemmas.Nat.{div-add-mod'}
use Rattle.std.specs.Float.Ieee.{of_bits}
use Rattle.lanes.proofs.Lanes.{lanes_start, lanes_joined}
use Rattle.lanes_dot.proofs.dot.Goals as goal

pub loop-m-init : goal.loop-m-init
unfolding of_bits
loop-m-init c = lanes_start _ _

pub returns : goal.returns
returns c = rw (c.add_lanes-2.ensures, div-add-mod') (lanes_joined _ _)
