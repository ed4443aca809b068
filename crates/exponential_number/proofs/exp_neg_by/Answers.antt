-- `exponential_number::exp_neg_by` meets its contract: the three tests are those of the definition, and below the limit y is in range. Assumes nothing.
use borrow.Author.Rules.{rules}
use mathlib.Core.Path.{sym, ◌∙◌}
use lib.Ieee.{binary32, le, lt, is_nan, mul, of_bits, nan_bits}
use Rattle.exponential.specs.ExpNeg.{plus_zero, limit, log2e, scaled_of, exp_neg_of}
use Rattle.exponential.proofs.Laws.{fails, in_range_below}
use Rattle.exponential_number.proofs.exp_neg_by.Goals as goal

pub returns-then-is_nan : goal.returns-then-is_nan
unfolding of_bits exp_neg_of
returns-then-is_nan c = search rules

pub float_from_bits-y : goal.float_from_bits-y
unfolding nan_bits
float_from_bits-y c = tt

pub returns-then-y : goal.returns-then-y
unfolding of_bits log2e scaled_of exp_neg_of
returns-then-y c = search rules

pub below_limit-requires-clause-t : goal.below_limit-requires-clause-t
unfolding of_bits log2e
below_limit-requires-clause-t c =
    let d = c.args.d in
    in_range_below d (fails (is_nan d) (sym c.is_nan.ensures.value ∙ c.if-is_nan.false)) (fails (lt d plus_zero) c.if-d.false) (fails (le limit (mul binary32 d log2e)) c.if-y.false)

pub returns : goal.returns
unfolding of_bits log2e scaled_of exp_neg_of
returns c = search rules
