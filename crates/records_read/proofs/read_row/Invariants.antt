-- `records_read::read_row` meets its contract. The loop's invariant: the elements before i are read, the others are as they were. Assumes nothing.
use mathlib.Core.Path.{◌≡◌}
use mathlib.Core.List.{List}
use Prim.Native.Nat.{ℕ, ◌+◌, ◌*◌}
use lib.Ieee.{Float}
use Rattle.tensor_laws.proofs.InPlace.{indexed_to}
use Rattle.records.specs.Numbers.{f32_at}
use Rattle.records_read.proofs.read_row.Given as goal

-- what an element becomes
abbrev pub each_of : List ℕ → ℕ → Float → Float
each_of bytes k x = f32_at bytes (0 + k * 4)

abbrev pub invariant-loop-i : goal.invariant-loop-i
invariant-loop-i l = l.row ≡ indexed_to (each_of l.bytes) l.i l.initial.row
