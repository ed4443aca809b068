use Rattle.std.proofs.Common.{◌-◌, arith}
use Rattle.std.proofs.lemmas.Grind.{common_steps}
use Rattle.tables.specs.Scale.{scale_bits}
use Rattle.tables.proofs.Scale.{scale_not_nan}
use Rattle.tables.proofs.default_scale.Goals as goal

-- no entry is a NaN's bits
pub float_from_bits-result : goal.float_from_bits-result
unfolding scale_bits
float_from_bits-result c = scale_not_nan (c.args.head_size - 1) (grind (arith, common_steps))
