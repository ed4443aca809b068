use Rattle.std.specs.Prelude.{Err}
use mathlib.Core.Path.{◌≡◌, refl, sym, ap, ◌∙◌}
use mathlib.Core.Bool.{Bool}
use Prim.Native.Nat.{ℕ, ◌+◌, ◌-◌}
use native.Mathlib.Omega.{arith}
use Rattle.session_file.specs.declared.Next.{Next}
use Rattle.session_file.specs.declared.Next.TheVariants.{Ended, Wrong, Cut, Whole}
use Rattle.call.specs.declared.Refusal.TheVariants.{Record}
use Rattle.session_file.specs.Reader.{position_fault, onward, walk_from}
use Rattle.session_file.proofs.Walks.{whole→record}
use Rattle.session_file.proofs.Nexts.{walk_on}
use Rattle.session_walk.proofs.walk.Goals as goal
use Rattle.session_walk.proofs.walk.Goals.{After-next}

-- the walk by what stands at position p
by_next : (c : After-next) (k : Next) (b : Bool)
    → let s = c.args in
    c.next.result ≡ k → position_fault s.sizes s.file.now c.loop-p.p ≡ b
    → onward s.sizes c.loop-p.p k b (walk_from s.sizes s.file.now (2048 - (c.loop-p.p + 1)) (c.loop-p.p + 1)) ≡ walk_from s.sizes s.file.now 2048 0
by_next c k b e f =
    let s = c.args in
    let p = c.loop-p.p in
    let rest = walk_from s.sizes s.file.now (2048 - (p + 1)) (p + 1) in
    sym (
    c.loop-p.invariant
    ∙ walk_on s.sizes s.file.now p c.loop-p-test.true
    ∙ (λ j. onward s.sizes p ((sym c.next.ensures ∙ e) j) (f j) rest)
    )

pub position_fault-requires : goal.position_fault-requires
position_fault-requires c =
    let w = whole→record c.args.sizes c.args.file.now c.loop-p.p (sym c.next.ensures ∙ c.in-Whole.is) in
    record { sizes_value = c.requires; p_bound = omega arith; sizes_in_bounds = w.1 }

pub returns-then-position_fault : goal.returns-then-position_fault
returns-then-position_fault c =
    by_next (goal.at.returns-then-position_fault c).After-next Whole _ c.in-Whole.is (sym c.position_fault.ensures ∙ c.if-position_fault.true)

pub loop-p-preserved : goal.loop-p-preserved
loop-p-preserved c =
    sym (by_next (goal.at.loop-p-preserved c).After-next Whole _ c.in-Whole.is (sym c.position_fault.ensures ∙ c.if-position_fault.false))

pub returns-in-Wrong : goal.returns-in-Wrong
returns-in-Wrong c =
    (λ j. Err (Record (c.record_start-byte.ensures j)))
    ∙ by_next (goal.at.returns-in-Wrong c).After-next Wrong _ c.in-Wrong.is refl

pub returns-in-Ended : goal.returns-in-Ended
returns-in-Ended c = by_next (goal.at.returns-in-Ended c).After-next Ended _ c.in-Ended.is refl

pub returns-in-Cut : goal.returns-in-Cut
returns-in-Cut c = by_next (goal.at.returns-in-Cut c).After-next Cut _ c.in-Cut.is refl

pub returns : goal.returns
returns c =
    let s = c.args in
    let p : c.loop-p.p ≡ 2048 = omega arith in
    c.at_most.ensures ∙ sym (c.loop-p.invariant ∙ ap (λ (n : ℕ). walk_from s.sizes s.file.now (2048 - n) n) p)
