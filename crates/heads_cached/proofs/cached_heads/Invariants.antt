-- `heads_cached::cached_heads` meets its contract. The loop's invariant: the present caches' rows of the key heads before number n are written, and the query heads that use them are done. Assumes nothing.
use mathlib.Core.Path.{◌≡◌}
use Prim.Native.Nat.{◌*◌, ◌/◌}
use Rattle.call.specs.Lent.{lent_now}
use Rattle.heads.specs.Heads.{HeadsTo}
use Rattle.heads.proofs.Presents.{present_to}
use Rattle.heads_cached.proofs.cached_heads.Given as goal

abbrev pub invariant-loop-n : goal.invariant-loop-n
invariant-loop-n l = record {
  keys : l.presentkey ≡ present_to l.call l.inputs.pastkey.now l.inputs.key.now l.call.size l.n l.initial.presentkey;
  values : l.presentvalue ≡ present_to l.call l.inputs.pastvalue.now l.inputs.value.now l.call.vsize l.n l.initial.presentvalue;
  heads : HeadsTo l.call (lent_now l.inputs) l.initial.output l.initial.scores (l.n * (l.call.qheads / l.call.kvheads)) l.output l.scores l.work l.masked;
}
