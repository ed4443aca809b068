-- `softmax_row::softmax_row` meets its contract: the row's largest element tells whether it is fully masked, and either way the steps give its weights. Assumes nothing.
use mathlib.Core.Path.{◌∙◌}
use lib.Ieee.{neg, of_bits, nan_bits}
use Rattle.softmax.proofs.Softmax.{tested_masked, tested_seen}
use Rattle.softmax_row.proofs.softmax_row.Goals as goal

pub float_from_bits-t-6 : goal.float_from_bits-t-6
unfolding nan_bits
float_from_bits-t-6 c = tt

pub returns-then-m : goal.returns-then-m
unfolding of_bits neg
returns-then-m c =
    let w = tested_masked c.args.row.now c.requires.t c.requires.row_len_bound (rw (← c.largest-m.ensures) c.if-m.true) in
    (w.0, c.fill_row.ensures ∙ w.1)

pub returns : goal.returns
unfolding of_bits neg
returns c =
    let w = tested_seen c.args.row.now c.requires.t c.requires.row_len_bound (rw (← c.largest-m.ensures) c.if-m.false) in
    (w.0, rw (c.divide_row.ensures, c.total-sum.ensures, c.exp_neg_row.ensures, c.largest-m.ensures) w.1)
