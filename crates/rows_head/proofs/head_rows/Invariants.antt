-- `rows_head::head_rows` meets its contract. The loop's invariant: the rows of the unit before row i are done. Assumes nothing.
use Prim.Native.Nat.{◌+◌, ◌≤◌, ◌<◌}
use Rattle.call.specs.Lent.{lent_now}
use Rattle.rows.proofs.UnitRows.{Done}
use Rattle.rows_head.proofs.head_rows.Given as goal

-- the rows of the unit before row i are done; the unit is within the call
abbrev pub invariant-loop-i : goal.invariant-loop-i
invariant-loop-i l =
    (hb : l.b < l.call.batches) × (hh : l.h < l.call.qheads) × (inside : l.first + l.count ≤ l.call.qlen)
    × Done l.call (lent_now l.inputs) l.b l.h l.first l.count hb hh inside l.initial.output l.initial.scores l.i l.output l.scores l.work l.masked
