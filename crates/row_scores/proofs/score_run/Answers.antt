-- `row_scores::score_run` meets its contract: the part that is lent has the rows of all positions, a stride apart. Assumes nothing.
use mathlib.Core.Path.{sym, ap, ◌∙◌, subst}
use mathlib.Core.List.{List}
use Prim.Native.Nat.{ℕ, ◌+◌, ◌*◌, ◌≤◌, ◌<◌}
use native.Mathlib.Omega.{arith}
use lib.ListN.{length}
use lib.Ieee.{Float}
use Rattle.tensor_laws.proofs.Tabulate.{none_long, length_tabulate}
use Rattle.softmax.specs.Lists.{score_rows_of}
use Rattle.caches.specs.Lent.{head_run}
use Rattle.row_runs.proofs.Runs.{run_start, run_inside, run_scores}
use Rattle.row_scores.proofs.score_run.Goals as goal
use Rattle.row_scores.proofs.score_run.Goals.{Else-row-eq0}

pub returns-then-row-eq0 : goal.returns-then-row-eq0
returns-then-row-eq0 c = none_long _ c.if-row-eq0.true ∙ sym (none_long _ (length_tabulate (length c.args.row.now) _ ∙ c.if-row-eq0.true))

-- there is a position
some : (c : Else-row-eq0) → 0 < length c.args.row.now
some c = omega (arith, c.if-row-eq0.false)

pub run_of-keys-requires : goal.run_of-keys-requires
run_of-keys-requires c = let f = c.requires.run_fits in let n = some (goal.at.run_of-keys-requires c).Else-row-eq0 in record { cache_fits = run_start f n; count_nonzero = (n, f.together, f.inside) }

pub row_stride-stride-requires : goal.row_stride-stride-requires
row_stride-stride-requires c = let f = c.requires.run_fits in record { call_value = f.limits; size_bound = f.size_most }

pub score_rows-requires : goal.score_rows-requires
score_rows-requires c j l =
    let s = c.args in
    subst (λ (n : ℕ). j * c.row_stride-stride.result + n ≤ length c.run_of-keys.result.now) (sym c.requires.q_len)
    (subst (λ (r : List Float). j * c.row_stride-stride.result + s.cache.size ≤ length r) (sym c.run_of-keys.ensures)
    (subst (λ (n : ℕ). j * n + s.cache.size ≤ length (head_run s.call s.cache s.from (length s.row.now))) (sym c.row_stride-stride.ensures)
    (run_inside s.call s.cache.past.now s.cache.incoming.now s.cache.size s.cache.b s.cache.g s.from (length s.row.now) c.requires.run_fits j l)))

pub returns : goal.returns
returns c =
    let s = c.args in
    let n = length s.row.now in
    c.score_rows.ensures
    ∙ ap (λ (r : List Float). score_rows_of s.q.now r c.row_stride-stride.result s.scale n) c.run_of-keys.ensures
    ∙ ap (λ (d : ℕ). score_rows_of s.q.now (head_run s.call s.cache s.from (length s.row.now)) d s.scale n) c.row_stride-stride.ensures
    ∙ run_scores s.call s.cache.past.now s.cache.incoming.now s.cache.size s.cache.b s.cache.g s.from n c.requires.run_fits s.q.now s.scale c.requires.q_len
