-- `row_output::weigh_run` meets its contract: the part that is lent has the rows of all positions, a stride apart. Assumes nothing.
use mathlib.Core.Path.{sym, ap, ◌∙◌, subst}
use mathlib.Core.Bool.{Bool}
use mathlib.Core.List.{List}
use Prim.Native.Nat.{ℕ, ◌+◌, ◌*◌, ◌≤◌, ◌<◌}
use native.Mathlib.Omega.{arith}
use lib.ListN.{length}
use lib.Ieee.{Float}
use Rattle.softmax.specs.Lists.{element_of}
use Rattle.caches.specs.Lent.{head_cell, head_run}
use Rattle.admitted_sum.specs.Sums.{added_row_of}
use Rattle.admitted_sum.specs.Masks.{admits}
use Rattle.admitted_sum.proofs.Added.{added_row_none}
use Rattle.row_runs.proofs.Runs.{run_start, run_inside, run_weighed}
use Rattle.row_output.proofs.weigh_run.Goals as goal
use Rattle.row_output.proofs.weigh_run.Goals.{After-row_stride-stride, Else-weights-eq0, Start}

-- the mask admits position j of those given
abbrev sees_at : Start → ℕ → Bool
sees_at c j = let s = c.args in admits s.mask (s.from + j)

-- the output row with n positions weighed
abbrev weighed_at : Start → ℕ → List Float
weighed_at c n = let s = c.args in added_row_of n (sees_at c) (element_of s.weights.now) (λ j k. head_cell s.call s.cache (s.from + j) k) s.out.now

pub returns-then-weights-eq0 : goal.returns-then-weights-eq0
returns-then-weights-eq0 c =
    let s = c.args in
    sym (added_row_none (sees_at (goal.at.returns-then-weights-eq0 c).Start) (element_of s.weights.now) (λ j k. head_cell s.call s.cache (s.from + j) k) s.out.now)
    ∙ ap (weighed_at (goal.at.returns-then-weights-eq0 c).Start) (sym c.if-weights-eq0.true)

-- there is a position
some : (c : Else-weights-eq0) → 0 < length c.args.weights.now
some c = omega (arith, c.if-weights-eq0.false)

pub run_of-values-requires : goal.run_of-values-requires
run_of-values-requires c = let f = c.requires.run_fits in let n = some (goal.at.run_of-values-requires c).Else-weights-eq0 in record { cache_fits = run_start f n; count_nonzero = (n, f.together, f.inside) }

pub row_stride-stride-requires : goal.row_stride-stride-requires
row_stride-stride-requires c = let f = c.requires.run_fits in record { call_value = f.limits; size_bound = f.size_most }

-- each row ends inside the part
inside : (c : After-row_stride-stride) → (j : ℕ) → let s = c.args in
    j < length s.weights.now → j * c.row_stride-stride.result + length s.out.now ≤ length c.run_of-values.result.now
inside c j l =
    let s = c.args in
    subst (λ (n : ℕ). j * c.row_stride-stride.result + n ≤ length c.run_of-values.result.now) (sym c.requires.out_len)
    (subst (λ (r : List Float). j * c.row_stride-stride.result + s.cache.size ≤ length r) (sym c.run_of-values.ensures)
    (subst (λ (n : ℕ). j * n + s.cache.size ≤ length (head_run s.call s.cache s.from (length s.weights.now))) (sym c.row_stride-stride.ensures)
    (run_inside s.call s.cache.past.now s.cache.incoming.now s.cache.size s.cache.b s.cache.g s.from (length s.weights.now) c.requires.run_fits j l)))

pub weigh_admitted-requires : goal.weigh_admitted-requires
weigh_admitted-requires c = record { weights_bound = c.requires.weights_bound; by_index = λ j l. inside (goal.at.weigh_admitted-requires c).After-row_stride-stride j l }

pub returns : goal.returns
returns c =
    let s = c.args in
    let n = length s.weights.now in
    let rows = head_run s.call s.cache s.from (length s.weights.now) in
    let weighed : List Float → ℕ → List Float = λ r d. added_row_of n (sees_at (goal.at.returns c).Start) (element_of s.weights.now) (λ j k. element_of r (j * d + k)) s.out.now in
    c.weigh_admitted.ensures
    ∙ ap (λ (r : List Float). weighed r c.row_stride-stride.result) c.run_of-values.ensures
    ∙ ap (weighed rows) c.row_stride-stride.ensures
    ∙ run_weighed s.call s.cache.past.now s.cache.incoming.now s.cache.size s.cache.b s.cache.g s.from n c.requires.run_fits (sees_at (goal.at.returns c).Start) (element_of s.weights.now) s.out.now c.requires.out_len
