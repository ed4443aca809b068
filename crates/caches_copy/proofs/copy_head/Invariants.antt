-- `caches_copy::copy_head` meets its contract. The loop's invariant: the rows of the head before position j are written. Assumes nothing.
use mathlib.Core.Path.{◌≡◌}
use lib.Ieee.{nan}
use Rattle.tensor_laws.specs.Layout.{written_of}
use Rattle.call.specs.Limits.{total_of}
use Rattle.attention.specs.Elements.{position_cell}
use Rattle.caches.proofs.Heads.{head_before}
use Rattle.caches_copy.proofs.copy_head.Given as goal

abbrev pub invariant-loop-j : goal.invariant-loop-j
invariant-loop-j l =
    l.out ≡ written_of 4 l.call.batches l.call.kvheads (total_of l.call) l.cache.size (head_before l.cache.b l.cache.g l.j) (position_cell l.call l.cache.past.now l.cache.incoming.now l.cache.size) nan l.initial.out
