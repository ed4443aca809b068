use Rattle.std.proofs.Common.{arith}
use Rattle.exponential.proofs.Blocks.{length_wholes, wholes_at_most}
use Rattle.exponential_steps.proofs.polys.Goals as goal

pub poly_at-requires-clause-n_bound : goal.poly_at-requires-clause-n_bound
poly_at-requires-clause-n_bound c = rw c.requires.wholes_value (wholes_at_most c.args.row.now c.requires.exponents c.loop-i.i (omega (arith, length_wholes)))
