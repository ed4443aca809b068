use mathlib.Core.Path.{◌≡◌, sym}
use mathlib.Core.Bool.{Bool, true}
use Prim.Native.Nat.{ℕ}
use native.Mathlib.Omega.{arith}
use Rattle.session_file.specs.Form.{session_of}
use Rattle.session_file.specs.Writer.{rows_fault}
use Rattle.session_writer.proofs.Counts.{least_none, least_at}
use Rattle.session_rows.proofs.first_fault.Goals as goal
use Rattle.session_rows.proofs.first_fault.Goals.{Start}

-- whether position k of those that are added is at fault
abbrev fault_at : Start → ℕ → Bool
fault_at c = let s = c.args in rows_fault (session_of s.sizes s.n s.keys.now s.values.now)

pub returns-then-rows_fault : goal.returns-then-rows_fault
returns-then-rows_fault c =
    let f : fault_at (goal.at.returns-then-rows_fault c).Start c.loop-p.p ≡ true = cc (c.rows_fault.ensures, c.if-rows_fault.true) in
    let e = least_at (fault_at (goal.at.returns-then-rows_fault c).Start) c.args.n 0 c.loop-p.p (omega arith) (omega (arith, c.loop-p-test.true)) f (λ k l h. c.loop-p.invariant k h) in
    sym e

pub returns : goal.returns
returns c =
    let e = least_none (fault_at (goal.at.returns c).Start) c.args.n 0 (λ k l h. c.loop-p.invariant k (omega (arith, c.loop-p-test.false))) in
    sym e
