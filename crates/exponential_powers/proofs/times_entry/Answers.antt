-- `exponential_powers::times_entry` meets its contract: the table is that of the definition. Assumes nothing.
use Prim.Native.Nat.{◌%◌}
use native.Mathlib.Omega.{arith}
use Rattle.tables.proofs.Power.{power_not_nan}
use Rattle.exponential_powers.proofs.times_entry.Goals as goal

pub float_from_bits-result : goal.float_from_bits-result
float_from_bits-result c = rw c.requires (power_not_nan (c.args.n % 256) (omega arith))
