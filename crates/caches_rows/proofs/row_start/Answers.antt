-- `caches_rows::row_start` meets its contract. Assumes nothing.
use Prim.Native.Nat.{◌+◌, ◌*◌, ◌≤◌}
use native.Mathlib.Omega.{arith}
use borrow.Author.Tests.{eq-eqb, ne_eqb}
use Rattle.caches.proofs.Starts.{small}
use Rattle.caches_rows.proofs.row_start.Goals as goal
use Rattle.caches_rows.proofs.row_start.Goals.{Start}

-- the products on the way at either rank
heads-first : (c : Start) → let a = c.args in
    (a.b * a.heads ≤ 16384) × ((a.b * a.heads + a.h) * a.len ≤ 37748736) × (((a.b * a.heads + a.h) * a.len + a.s) * a.size ≤ 77313605632)
heads-first c =
    let a = c.args in
    let p = c.requires in
    small a.b a.heads a.h a.len a.s a.size p.batch (omega arith) p.head p.len_most p.position p.size_most

positions-first : (c : Start) → let a = c.args in
    (a.b * a.len ≤ 16384) × ((a.b * a.len + a.s) * a.heads ≤ 37748736) × (((a.b * a.len + a.s) * a.heads + a.h) * a.size ≤ 77313605632)
positions-first c =
    let a = c.args in
    let p = c.requires in
    small a.b a.len a.s a.heads a.h a.size p.batch p.len_most p.position (omega arith) p.head p.size_most

pub overflow_mul-result : goal.overflow_mul-result
overflow_mul-result c = omega (arith, heads-first (goal.at.overflow_mul-result c).Start)

pub overflow_add-result : goal.overflow_add-result
overflow_add-result c = omega (arith, heads-first (goal.at.overflow_add-result c).Start)

pub overflow_mul-result-then-rank-eq4 : goal.overflow_mul-result-then-rank-eq4
overflow_mul-result-then-rank-eq4 c = omega (arith, heads-first (goal.at.overflow_mul-result-then-rank-eq4 c).Start)

pub overflow_add-result-then-rank-eq4 : goal.overflow_add-result-then-rank-eq4
overflow_add-result-then-rank-eq4 c = omega (arith, heads-first (goal.at.overflow_add-result-then-rank-eq4 c).Start)

pub overflow_mul-result-then-rank-eq4-2 : goal.overflow_mul-result-then-rank-eq4-2
overflow_mul-result-then-rank-eq4-2 c = omega (arith, heads-first (goal.at.overflow_mul-result-then-rank-eq4-2 c).Start)

pub returns-then-rank-eq4 : goal.returns-then-rank-eq4
returns-then-rank-eq4 c = rw (eq-eqb c.args.rank 4 c.if-rank-eq4.true)

pub overflow_mul-result-2 : goal.overflow_mul-result-2
overflow_mul-result-2 c = omega (arith, positions-first (goal.at.overflow_mul-result-2 c).Start)

pub overflow_add-result-2 : goal.overflow_add-result-2
overflow_add-result-2 c = omega (arith, positions-first (goal.at.overflow_add-result-2 c).Start)

pub overflow_mul-result-3 : goal.overflow_mul-result-3
overflow_mul-result-3 c = omega (arith, positions-first (goal.at.overflow_mul-result-3 c).Start)

pub overflow_add-result-3 : goal.overflow_add-result-3
overflow_add-result-3 c = omega (arith, positions-first (goal.at.overflow_add-result-3 c).Start)

pub overflow_mul-result-4 : goal.overflow_mul-result-4
overflow_mul-result-4 c = omega (arith, positions-first (goal.at.overflow_mul-result-4 c).Start)

pub returns : goal.returns
returns c = rw (ne_eqb c.args.rank 4 c.if-rank-eq4.false)
