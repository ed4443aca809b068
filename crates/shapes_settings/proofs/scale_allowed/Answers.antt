-- `shapes_settings::scale_allowed` meets its contract: the bounds are the definition's. Assumes nothing.
use lib.Ieee.{of_bits}
use borrow.Author.Rules.{rules}
use Rattle.shapes_settings.proofs.scale_allowed.Goals as goal

pub returns-then-x : goal.returns-then-x
unfolding of_bits
returns-then-x c = search rules
