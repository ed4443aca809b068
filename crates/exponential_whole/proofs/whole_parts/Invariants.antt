-- `exponential_whole::whole_parts` meets its contract. The loop's invariant: the elements before i are the whole parts. Assumes nothing.
use Rattle.std.proofs.Common.{◌≡◌, map, take}
use Rattle.exponential.specs.ExpNeg.{whole_part_of}
use Rattle.exponential_whole.proofs.whole_parts.Given as goal

abbrev pub invariant-loop-i : goal.invariant-loop-i
invariant-loop-i l = take l.i l.wholes ≡ map whole_part_of (take l.i l.row)
