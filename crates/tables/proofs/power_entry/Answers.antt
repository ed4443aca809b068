use Rattle.tables.specs.Power.{power_bits}
use Rattle.tables.proofs.Power.{power_not_nan}
use Rattle.tables.proofs.power_entry.Goals as goal

-- no entry is a NaN's bits
pub float_from_bits-result : goal.float_from_bits-result
unfolding power_bits
float_from_bits-result c = power_not_nan c.args.index c.if-index-lt256.true
