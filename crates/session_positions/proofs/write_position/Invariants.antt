-- `session_positions::write_position` meets its contract. Where the loop begins the head is written. The loop's invariant: the head and the rows before row r are written, and what stood behind them is as it was. Assumes nothing.
use mathlib.Core.Path.{◌≡◌}
use Rattle.session_writer.proofs.Positions.{position_to}
use Rattle.session_positions.proofs.write_position.Given as goal

abbrev pub invariant-loop-r : goal.invariant-loop-r
invariant-loop-r l = l.bytes ≡ position_to l.sizes l.n l.keys l.values l.p l.r l.initial.bytes
