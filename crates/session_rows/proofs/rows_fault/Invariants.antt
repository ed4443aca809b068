-- `session_rows::rows_fault` meets its contract. The loop's invariant: no row before row r is at fault. Assumes nothing.
use mathlib.Core.Path.{◌≡◌}
use mathlib.Core.Bool.{false}
use Prim.Native.Nat.{ℕ, ◌<◌}
use Rattle.session_writer.proofs.Rows.{pair_fault}
use Rattle.session_rows.proofs.rows_fault.Given as goal

abbrev pub invariant-loop-r : goal.invariant-loop-r
invariant-loop-r l = (k : ℕ) → k < l.r → pair_fault l.sizes l.n l.keys l.values l.p k ≡ false
