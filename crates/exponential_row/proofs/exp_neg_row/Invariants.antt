-- `exponential_row::exp_neg_row` meets its contract. The loop's invariant: the elements before the block are mapped, the others are as they were. Assumes nothing.
use mathlib.Core.Path.{◌≡◌}
use Prim.Native.Nat.{◌*◌}
use lib.Ieee.{Float, binary32, sub}
use Rattle.tensor_laws.proofs.InPlace.{mapped_to}
use Rattle.tables.specs.Power.{power_bits}
use Rattle.exponential.specs.ExpNeg.{exp_neg_of, value_or_zero}
use Rattle.exponential_row.proofs.exp_neg_row.Given as goal

-- what an element becomes
abbrev pub each_of : Float → Float → Float
each_of largest s = value_or_zero (exp_neg_of (sub binary32 largest s))

abbrev pub invariant-loop-block : goal.invariant-loop-block
invariant-loop-block l = (l.powers ≡ power_bits) × (l.row ≡ mapped_to (each_of l.largest) (64 * l.block) l.initial.row)
