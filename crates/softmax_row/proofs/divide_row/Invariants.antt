use Rattle.std.proofs.Common.{◌≡◌, ◌++◌, take, drop, map}
use lib.Ieee.{binary32, div}
use Rattle.softmax_row.proofs.divide_row.Given as goal

abbrev pub invariant-loop-e : goal.invariant-loop-e
invariant-loop-e l = l.row ≡ map (λ e. div binary32 e l.x) (take l.e-index l.initial.row) ++ drop l.e-index l.initial.row
