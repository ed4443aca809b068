-- `session_walk::walk` meets its contract. The loop's invariant: the walk from the first position is the walk from position p on. Assumes nothing.
use mathlib.Core.Path.{◌≡◌}
use Prim.Native.Nat.{◌-◌}
use Rattle.session_file.specs.Reader.{walk_from}
use Rattle.session_walk.proofs.walk.Given as goal

abbrev pub invariant-loop-p : goal.invariant-loop-p
invariant-loop-p l = walk_from l.sizes l.file 2048 0 ≡ walk_from l.sizes l.file (2048 - l.p) l.p
