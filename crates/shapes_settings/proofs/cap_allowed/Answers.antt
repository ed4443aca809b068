-- `shapes_settings::cap_allowed` meets its contract: the bounds are the definition's. Assumes nothing.
use lib.Ieee.{of_bits, le}
use borrow.Author.Rules.{rules}
use Rattle.shapes_settings.proofs.cap_allowed.Goals as goal

pub returns : goal.returns
unfolding of_bits le
returns c = search rules
