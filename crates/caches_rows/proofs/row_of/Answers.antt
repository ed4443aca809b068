-- `caches_rows::row_of` meets its contract. Assumes nothing.
use mathlib.Core.Path.{sym, ap, subst}
use mathlib.Core.List.{List}
use Prim.Native.Nat.{◌≤◌}
use lib.ListN.{length, take}
use lib.Seq.{length-take-le}
use lib.Ieee.{Float}
use Rattle.caches.specs.Rows.{position_row}
use Rattle.caches.proofs.Positions.{row_inside}
use Rattle.caches_rows.proofs.row_of.Goals as goal
use Rattle.caches_rows.proofs.row_of.Goals.{After-rows_from-rows}

pub rows_from-rows-requires : goal.rows_from-rows-requires
rows_from-rows-requires c = c.requires

-- the row is inside the part that starts with it
inside : (c : After-rows_from-rows) → c.args.cache.size ≤ length c.rows_from-rows.result.now
inside c =
    let a = c.args in
    subst (λ (r : List Float). a.cache.size ≤ length r) (sym c.rows_from-rows.ensures) (row_inside a.call a.cache.past.now a.cache.incoming.now a.cache.size a.cache.b a.cache.g a.j c.requires)

pub slice_bounds-result-end : goal.slice_bounds-result-end
slice_bounds-result-end c = sym (length-take-le c.args.cache.size c.rows_from-rows.result.now (inside (goal.at.slice_bounds-result-end c).After-rows_from-rows))

pub returns : goal.returns
unfolding position_row
returns c = ap (take c.args.cache.size) c.rows_from-rows.ensures
