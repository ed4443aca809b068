-- `caches_rows::rows_from` meets its contract. Assumes nothing.
use mathlib.Core.Path.{◌≡◌, ap, ◌∙◌}
use mathlib.Core.List.{List}
use Prim.Native.Nat.{ℕ, ◌+◌, ◌-◌, ◌≤◌}
use native.Mathlib.Omega.{arith}
use borrow.Author.Tests.{lt-ltb, le-ltb}
use lib.ListN.{length, take, drop, length-drop}
use lib.Seq.{take_all}
use lib.Ieee.{Float}
use Rattle.caches.specs.Rows.{rows_from}
use Rattle.caches.proofs.Starts.{past_row, past_row_end, incoming_row, incoming_row_end}
use Rattle.caches_rows.proofs.rows_from.Goals as goal
use Rattle.caches_rows.proofs.rows_from.Goals.{After-row_start-at, After-row_start-at-2}

-- a list from its element at on, as a part without an end is lent
part-is : (at n : ℕ) (l : List Float) → at ≡ n → take (length l - at) (drop at l) ≡ drop n l
part-is at n l e = take_all (length l - at) (drop at l) (omega (arith, length-drop at l)) ∙ ap (λ (i : ℕ). drop i l) e

pub row_start-at-requires : goal.row_start-at-requires
row_start-at-requires c =
    past_row c.args.call (length c.args.cache.past.now) (length c.args.cache.incoming.now) c.args.cache.size c.args.cache.b c.args.cache.g c.args.j c.requires c.if-j-before.true

-- the row starts inside the past cache
in-past : (c : After-row_start-at) → c.row_start-at.result + c.args.cache.size ≤ length c.args.cache.past.now
in-past c =
    let e = past_row_end c.args.call (length c.args.cache.past.now) (length c.args.cache.incoming.now) c.args.cache.size c.args.cache.b c.args.cache.g c.args.j c.requires c.if-j-before.true in
    omega (arith, c.row_start-at.ensures)

pub offset_bounds-past-at : goal.offset_bounds-past-at
offset_bounds-past-at c = omega (arith, in-past (goal.at.offset_bounds-past-at c).After-row_start-at)

pub slice_bounds-result-count : goal.slice_bounds-result-count
slice_bounds-result-count c = omega (arith, in-past (goal.at.slice_bounds-result-count c).After-row_start-at)

pub slice_bounds-result-start : goal.slice_bounds-result-start
slice_bounds-result-start c = omega (arith, in-past (goal.at.slice_bounds-result-start c).After-row_start-at)

pub returns-then-j-before : goal.returns-then-j-before
unfolding rows_from
returns-then-j-before c =
    let s = c.args in
    rw (lt-ltb s.j s.call.past c.if-j-before.true) (part-is c.row_start-at.result _ s.cache.past.now c.row_start-at.ensures)

pub row_start-at-requires-2 : goal.row_start-at-requires-2
row_start-at-requires-2 c =
    incoming_row c.args.call (length c.args.cache.past.now) (length c.args.cache.incoming.now) c.args.cache.size c.args.cache.b c.args.cache.g c.args.j c.requires c.if-j-before.false

-- the row starts inside the incoming tensor
in-incoming : (c : After-row_start-at-2) → c.row_start-at-2.result + c.args.cache.size ≤ length c.args.cache.incoming.now
in-incoming c =
    let e = incoming_row_end c.args.call (length c.args.cache.past.now) (length c.args.cache.incoming.now) c.args.cache.size c.args.cache.b c.args.cache.g c.args.j c.requires c.if-j-before.false in
    rw c.row_start-at-2.ensures e

pub offset_bounds-incoming-at : goal.offset_bounds-incoming-at
offset_bounds-incoming-at c = omega (arith, in-incoming (goal.at.offset_bounds-incoming-at c).After-row_start-at-2)

pub slice_bounds-result-count-2 : goal.slice_bounds-result-count-2
slice_bounds-result-count-2 c = omega (arith, in-incoming (goal.at.slice_bounds-result-count-2 c).After-row_start-at-2)

pub slice_bounds-result-start-2 : goal.slice_bounds-result-start-2
slice_bounds-result-start-2 c = omega (arith, in-incoming (goal.at.slice_bounds-result-start-2 c).After-row_start-at-2)

pub returns : goal.returns
unfolding rows_from
returns c =
    let s = c.args in
    rw (le-ltb s.j s.call.past c.if-j-before.false) (part-is c.row_start-at-2.result _ s.cache.incoming.now c.row_start-at-2.ensures)
