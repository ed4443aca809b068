-- `contents_elements::first_fault_by_blocks` meets its contract. The loop's invariant: no element before `at` is at fault, and the blocks that are left begin there. Assumes nothing.
use mathlib.Core.Path.{◌≡◌}
use mathlib.Core.Bool.{false}
use Prim.Native.Nat.{ℕ, ◌≤◌, ◌<◌}
use lib.ListN.{length, get_or, drop}
use lib.Ieee.{nan}
use Rattle.std.specs.Slice.Iter.{chunks_exact_rest, chunks_exact_size}
use Rattle.call.specs.Contents.{element_fault}
use Rattle.contents_elements.proofs.first_fault_by_blocks.Given as goal

abbrev pub invariant-loop-block : goal.invariant-loop-block
invariant-loop-block l =
    (chunks_exact_rest l.block-iterator ≡ drop l.at l.tensor) × (chunks_exact_size l.block-iterator ≡ 64) × (l.at ≤ length l.tensor) × ((k : ℕ) → k < l.at → element_fault (get_or l.tensor k nan) ≡ false)
