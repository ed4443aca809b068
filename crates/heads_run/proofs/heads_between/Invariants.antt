-- `heads_run::heads_between` meets its contract. The loop's invariant: the heads before `from` are carried on to those before n. Assumes nothing.
use Prim.Native.Nat.{◌*◌, ◌≤◌}
use Rattle.call.specs.Lent.{lent_now}
use Rattle.heads.specs.Heads.{HeadsCarried}
use Rattle.heads_run.proofs.heads_between.Given as goal

abbrev pub invariant-loop-n : goal.invariant-loop-n
invariant-loop-n l = record {
  few : l.masked ≤ l.n * 2048;
  carried : HeadsCarried l.call (lent_now l.inputs) l.from l.n l.initial.output l.initial.scores l.initial.work l.output l.scores l.work l.masked;
}
