-- `caches_rows::row_stride` meets its contract. Assumes nothing.
use Prim.Native.Nat.{◌*◌, ◌≤◌}
use native.Mathlib.Nat.{mul-le-mul}
use native.Mathlib.Omega.{arith}
use borrow.Author.Tests.{lt-ltb, le-ltb, eq-eqb, ne_eqb}
use Rattle.call.proofs.Facts.{limits→facts}
use Rattle.caches.specs.Rows.{stride_from}
use Rattle.caches_rows.proofs.row_stride.Goals as goal

pub returns-then-j-call : goal.returns-then-j-call
unfolding stride_from
returns-then-j-call c = rw (lt-ltb _ _ c.if-j-call.true)

pub returns-then-call-eq4 : goal.returns-then-call-eq4
unfolding stride_from
returns-then-call-eq4 c = rw (le-ltb _ _ c.if-j-call.false, eq-eqb c.args.call.rank 4 c.if-call-eq4.true)

pub overflow_mul-result : goal.overflow_mul-result
overflow_mul-result c =
    let l = limits→facts c.args.call c.requires.call_value in
    let p : c.args.call.kvheads * c.args.size ≤ 32 * 256 = mul-le-mul {n₂ = 32} {m₂ = 256} l.kvheads_most c.requires.size_bound in
    omega arith

pub returns : goal.returns
unfolding stride_from
returns c = rw (le-ltb _ _ c.if-j-call.false, ne_eqb c.args.call.rank 4 c.if-call-eq4.false)
