-- `session_inspect::inspect` meets its contract: the tests of the first record are the definition's, and the walk is. Assumes nothing.
use mathlib.Core.Path.{◌≡◌, sym, ap, ◌∙◌}
use Rattle.session_file.specs.declared.Sizes.{Sizes}
use Rattle.session_file.specs.Sizes.{sizes_hold}
use Rattle.session_file.specs.Reader.{walk_from, sizes_at}
use Rattle.session_reader.proofs.Readings.{read_walk, read_limits, read_wrong, read_short}
use Rattle.session_inspect.proofs.inspect.Goals as goal
use Rattle.session_inspect.proofs.inspect.Goals.{After-sizes_hold}

pub walk-requires : goal.walk-requires
walk-requires c = sym c.sizes_hold.ensures ∙ c.if-sizes_hold.true

-- the test of the sizes is that of the sizes in the file
sizes-by : (c : After-sizes_hold) → sizes_hold (sizes_at c.args.file.now) ≡ c.sizes_hold.result
sizes-by c = sym (c.sizes_hold.ensures ∙ ap sizes_hold c.sizes_at-sizes.ensures)

pub returns-then-sizes_hold : goal.returns-then-sizes_hold
returns-then-sizes_hold c =
    let file = c.args.file.now in
    c.walk.ensures
    ∙ ap (λ (z : Sizes). walk_from z file 2048 0) c.sizes_at-sizes.ensures
    ∙ sym (read_walk file c.if-file-ge14.true (sym c.head_is.ensures ∙ c.if-head_is.true) (sizes-by (goal.at.returns-then-sizes_hold c).After-sizes_hold ∙ c.if-sizes_hold.true))

pub returns-then-head_is : goal.returns-then-head_is
returns-then-head_is c =
    let file = c.args.file.now in
    sym (read_limits file c.if-file-ge14.true (sym c.head_is.ensures ∙ c.if-head_is.true) (sizes-by (goal.at.returns-then-head_is c).After-sizes_hold ∙ c.if-sizes_hold.false))

pub returns-else-head_is : goal.returns-else-head_is
returns-else-head_is c =
    let file = c.args.file.now in
    sym (read_wrong file c.if-file-ge14.true (sym c.head_is.ensures ∙ c.if-head_is.false))

pub returns-else-file-ge14 : goal.returns-else-file-ge14
returns-else-file-ge14 c = sym (read_short c.args.file.now c.if-file-ge14.false)
