-- `session_rows::first_fault` meets its contract. The loop's invariant: no position before p is at fault. Assumes nothing.
use mathlib.Core.Path.{◌≡◌}
use mathlib.Core.Bool.{false}
use Prim.Native.Nat.{ℕ, ◌<◌}
use Rattle.session_file.specs.Form.{session_of}
use Rattle.session_file.specs.Writer.{rows_fault}
use Rattle.session_rows.proofs.first_fault.Given as goal

abbrev pub invariant-loop-p : goal.invariant-loop-p
invariant-loop-p l = (k : ℕ) → k < l.p → rows_fault (session_of l.sizes l.n l.keys l.values) k ≡ false
