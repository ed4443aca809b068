-- `row_scores::score_positions` meets its contract: the positions below P, and then those from P on. Assumes nothing.
use mathlib.Core.Path.{◌≡◌, sym, ap, ◌∙◌}
use mathlib.Core.List.{◌++◌}
use Prim.Native.Nat.{ℕ, ◌+◌, ◌-◌}
use native.Mathlib.Nat.{zero-add}
use native.Mathlib.Omega.{arith}
use lib.ListN.{length, take}
use lib.Seq.{length-take-le}
use Rattle.tensor_laws.specs.Layout.{tabulate}
use Rattle.tensor_laws.proofs.Tabulate.{length_tabulate, tabulate_append}
use Rattle.tensor_laws.proofs.Tails.{length_second, put_second}
use Rattle.row_runs.specs.Runs.{head_score}
use Rattle.row_runs.proofs.Runs.{first_run, second_run}
use Rattle.row_scores.proofs.score_positions.Goals as goal
use Rattle.row_scores.proofs.score_positions.Goals.{After-score_run, After-min-cut}

-- the first part is as long as the positions below P
first-long : (c : After-min-cut) → length (take c.min-cut.result c.args.row.now) ≡ c.min-cut.result
first-long c = length-take-le c.min-cut.result c.args.row.now (omega (arith, c.min-cut.ensures))

pub slice_bounds-score_run-end-2 : goal.slice_bounds-score_run-end-2
slice_bounds-score_run-end-2 c = sym (first-long (goal.at.slice_bounds-score_run-end-2 c).After-min-cut)

pub score_run-requires : goal.score_run-requires
score_run-requires c =
    let s = c.args in
    record { q_len = c.requires.q_len; run_fits = first_run s.call _ _ s.cache.size s.cache.b s.cache.g (length s.row.now) c.min-cut.result c.requires.run_fits c.requires.row_len_bound c.min-cut.ensures _ (first-long (goal.at.score_run-requires c).After-min-cut) }

-- the scores of the positions below P
first-scores : (c : After-score_run) → c.score_run.new.row ≡ tabulate c.min-cut.result (head_score c.args.call c.args.scale c.args.q.now c.args.cache)
first-scores c =
    c.score_run.ensures ∙ (λ i. tabulate (length-take-le c.min-cut.result c.args.row.now (omega (arith, c.min-cut.ensures)) i) (λ j. head_score c.args.call c.args.scale c.args.q.now c.args.cache (zero-add j i)))

-- they are as many
first-is-cut : (c : After-score_run) → length c.score_run.new.row ≡ c.min-cut.result
first-is-cut c = ap length (first-scores c) ∙ length_tabulate c.min-cut.result (head_score c.args.call c.args.scale c.args.q.now c.args.cache)

pub score_run-requires-2 : goal.score_run-requires-2
score_run-requires-2 c =
    let s = c.args in
    let l = length_second c.min-cut.result s.row.now c.score_run.new.row (first-is-cut (goal.at.score_run-requires-2 c).After-score_run) (omega (arith, c.min-cut.ensures)) in
    record { q_len = c.requires.q_len; run_fits = second_run s.call _ _ s.cache.size s.cache.b s.cache.g (length s.row.now) c.min-cut.result c.requires.run_fits c.requires.row_len_bound c.min-cut.ensures _ l }

pub returns : goal.returns
returns c =
    let s = c.args in
    let n = c.min-cut.result in
    let row = c.args.row.now in
    let first = c.score_run.new.row in
    let l = length_second n row first (first-is-cut (goal.at.returns c).After-score_run) (omega (arith, c.min-cut.ensures)) in
    put_second n row first (first-is-cut (goal.at.returns c).After-score_run) (omega (arith, c.min-cut.ensures)) c.score_run-2.new.row
    ∙ (λ i. first-scores (goal.at.returns c).After-score_run i ++ (c.score_run-2.ensures ∙ ap (λ (k : ℕ). tabulate k (λ j. head_score s.call s.scale s.q.now s.cache (n + j))) l) i)
    ∙ tabulate_append n (length row - n) (head_score s.call s.scale s.q.now s.cache)
    ∙ ap (λ (k : ℕ). tabulate k (head_score s.call s.scale s.q.now s.cache)) (omega (arith, c.min-cut.ensures))
