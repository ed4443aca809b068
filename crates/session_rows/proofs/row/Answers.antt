-- `session_rows::row` meets its contract. Assumes nothing.
use mathlib.Core.Path.{◌≡◌, ap}
use Prim.Native.Nat.{ℕ, ◌+◌, ◌-◌, ◌*◌, ◌≤◌}
use native.Mathlib.Nat.{mul-le-mul}
use native.Mathlib.Omega.{arith}
use lib.ListN.{take, drop}
use Rattle.session_rows.proofs.row.Goals as goal
use Rattle.session_rows.proofs.row.Goals.{Start}

-- the rows before it can be counted
rows_before : (c : Start) → c.args.r * c.args.n ≤ 256 * 2048
rows_before c = let r : c.args.r ≤ 256 = omega (arith, c.requires.row) in mul-le-mul r c.requires.positions

pub overflow_mul-from : goal.overflow_mul-from
overflow_mul-from c = omega (arith, rows_before (goal.at.overflow_mul-from c).Start)

pub overflow_add-from : goal.overflow_add-from
overflow_add-from c = omega (arith, rows_before (goal.at.overflow_add-from c).Start, c.requires.position, c.requires.positions)

pub returns : goal.returns
returns c =
    let s = c.args in
    let from = (s.r * s.n + s.p) * s.size in
    let e : from + s.size - from ≡ s.size = omega arith in
    ap (λ (k : ℕ). take k (drop from s.cache.now)) e
