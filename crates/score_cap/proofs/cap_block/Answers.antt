-- `score_cap::cap_block` meets its contract: the four steps over all scores are the cap at each of them. Assumes nothing.
use mathlib.Core.Path.{ap, ◌∙◌}
use lib.Ieee.{neg, of_bits}
use Rattle.float_laws.specs.Zero.{minus_zero}
use Rattle.exponential.specs.ExpNeg.{exp_neg_row_of}
use Rattle.score_cap.proofs.Blocks.{terms_of, all_steps}
use Rattle.score_cap.proofs.cap_block.Goals as goal

pub returns : goal.returns
unfolding of_bits neg
returns c =
    all_steps c.args.c c.args.row.now _ _ _ c.quotients.ensures
    (c.exp_neg_row.ensures ∙ ap (exp_neg_row_of minus_zero) (c.minus_twices.ensures ∙ ap terms_of c.quotients.ensures)) c.cap_elements.ensures
