-- `exponential_row::exp_block` meets its contract: the four steps over all elements are E at each of them. Assumes nothing.
use Rattle.exponential.proofs.Blocks.{exponents_are, wholes_at_most}
use Rattle.exponential_row.proofs.exp_block.Goals as goal

pub times_powers-requires-clause-by_index : goal.times_powers-requires-clause-by_index
times_powers-requires-clause-by_index c = rw (c.whole_parts.ensures, c.exponents.ensures) (wholes_at_most _ (exponents_are c.args.largest c.args.row.now))
