-- `exponential_number::exp_neg` meets its contract: the array that it binds is the table of the definition. Assumes nothing.
use mathlib.Core.Path.{refl}
use Rattle.tables.specs.Power.{power_bits}
use Rattle.exponential_number.proofs.exp_neg.Goals as goal

pub exp_neg_by-requires : goal.exp_neg_by-requires
unfolding power_bits
exp_neg_by-requires c = refl
