-- `session_positions::write_positions` meets its contract. The loop's invariant: the records of the positions before p are written, and what stood behind them is as it was. Assumes nothing.
use mathlib.Core.Path.{◌≡◌}
use Rattle.session_writer.proofs.Positions.{positions_to}
use Rattle.session_positions.proofs.write_positions.Given as goal

abbrev pub invariant-loop-p : goal.invariant-loop-p
invariant-loop-p l = l.bytes ≡ positions_to l.sizes l.n l.keys l.values l.p l.initial.bytes
