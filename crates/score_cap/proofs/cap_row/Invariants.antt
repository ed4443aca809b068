-- `score_cap::cap_row` meets its contract: the test is that of the definition. The loop's invariant: the scores before the block are capped, the others are as they were. Assumes nothing.
use mathlib.Core.Path.{◌≡◌}
use Prim.Native.Nat.{◌*◌}
use Rattle.tensor_laws.proofs.InPlace.{mapped_to}
use Rattle.softmax.specs.Cap.{capped_or_hidden}
use Rattle.score_cap.proofs.cap_row.Given as goal

abbrev pub invariant-loop-block : goal.invariant-loop-block
invariant-loop-block l = l.row ≡ mapped_to (capped_or_hidden l.c) (64 * l.block) l.initial.row
