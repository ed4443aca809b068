use mathlib.Core.Path.{◌≡◌, subst}
use Prim.Native.Nat.{ℕ, ◌+◌, ◌*◌, ◌/◌, ◌%◌, ◌≤◌, ◌<◌}
use native.Mathlib.Nat.{mod-lt, div-lt_iff_lt-mul, mul-le-mul, add_assoc}
use native.Mathlib.Omega.{arith}
use Rattle.bool_laws.proofs.Counts.{count_le}
use Rattle.call.specs.Lent.{lent_now}
use Rattle.call.proofs.Facts.{InLimits}
use Rattle.attention.specs.Formula.{row_masked}
use Rattle.rows.proofs.Ready.{limits}
use Rattle.heads.specs.Heads.{HeadsTo}
use Rattle.heads.proofs.Heads.{head_more}
use Rattle.heads_run.proofs.heads_between.Goals as goal
use Rattle.heads_run.proofs.heads_between.Goals.{After-head_rows-masked, In-loop-n, Start}

within : (c : Start) → InLimits c.args.call
within c = limits c.requires.accepting

-- head n is one of the call's
inside : (c : In-loop-n) → let s = c.args in c.loop-n.n < s.call.batches * s.call.qheads
inside c = omega (arith, c.requires.from_le_to.1)

pub head_rows-masked-requires-clause-b_lt_batches : goal.head_rows-masked-requires-clause-b_lt_batches
head_rows-masked-requires-clause-b_lt_batches c =
    let at = goal.at.head_rows-masked-requires-clause-b_lt_batches c in
    let l = within at.Start in
    ((div-lt_iff_lt-mul l.qheads_some).1 (inside at.In-loop-n), mod-lt c.loop-n.n l.qheads_some, l.qlen_some, omega arith)

-- no more rows of a head are fully masked than it has
masked_few : (c : After-head_rows-masked) → InLimits c.args.call → c.head_rows-masked.result ≤ 2048
masked_few c l =
    let s = c.args in
    omega (arith, c.head_rows-masked.ensures.told, count_le s.call.qlen (λ n. row_masked s.call (lent_now s.inputs) (c.loop-n.n / s.call.qheads) (c.loop-n.n % s.call.qheads) (0 + n)))

pub overflow_add-masked : goal.overflow_add-masked
overflow_add-masked c =
    let at = goal.at.overflow_add-masked c in
    let l = within at.Start in
    omega (arith, mul-le-mul {n₂ = 8} {m₂ = 32} l.batches_most l.qheads_most, inside at.In-loop-n, masked_few at.After-head_rows-masked l)

pub loop-n-preserved : goal.loop-n-preserved
loop-n-preserved c =
    let at = goal.at.loop-n-preserved c in
    let x = lent_now c.args.inputs in
    let l = within at.Start in
    let k = c.args.call in
    let h = c.head_rows-masked in
    let n = c.loop-n.n in
    record {
      few = omega (arith, masked_few at.After-head_rows-masked l);
      carried = λ y₀ s₀ masked before.
          subst (HeadsTo k x y₀ s₀ (n + 1) h.new.output h.new.scores h.new.work) (add_assoc masked c.loop-n.masked h.result)
          (head_more k x l y₀ s₀ n c.loop-n.output c.loop-n.scores c.loop-n.work h.new.output h.new.scores h.new.work (masked + c.loop-n.masked) h.result (c.loop-n.invariant.carried y₀ s₀ masked before) (inside at.In-loop-n) h.ensures);
    }

pub returns : goal.returns
returns c y₀ s₀ m d =
    let s = c.args in
    let e : c.loop-n.n ≡ s.to = omega (arith, c.requires.from_le_to.0) in
    subst (λ (n : ℕ). HeadsTo s.call (lent_now c.args.inputs) y₀ s₀ n c.loop-n.output c.loop-n.scores c.loop-n.work (m + c.loop-n.masked)) e (c.loop-n.invariant.carried y₀ s₀ m d)
