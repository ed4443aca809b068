-- `row_scores::score_row` meets its contract. Assumes nothing.
use mathlib.Core.Path.{◌≡◌, sym, ap, ◌∙◌}
use mathlib.Core.List.{List, ◌++◌}
use Prim.Native.Nat.{ℕ}
use native.Mathlib.Omega.{arith}
use lib.ListN.{length, take, drop}
use lib.Seq.{length-take-le, take_at}
use lib.Ieee.{Float, of_bits}
use Rattle.tensor_laws.specs.Layout.{tabulate}
use Rattle.tensor_laws.proofs.Tabulate.{length_tabulate}
use Rattle.exponential.specs.ExpNeg.{plus_zero}
use Rattle.row_steps.specs.Steps.{shown_where}
use Rattle.row_runs.specs.Runs.{head_score}
use Rattle.tensor_laws.proofs.Tails.{length_first}
use Rattle.row_scores.proofs.score_row.Goals as goal
use Rattle.row_scores.proofs.score_row.Goals.{After-score_positions, Start}

-- as many elements as there are positions
first-long : (c : Start) → length (take c.args.m c.args.work.now) ≡ c.args.m
first-long c = length-take-le c.args.m c.args.work.now c.requires.m_bound.1

pub slice_bounds-score_positions-end-2 : goal.slice_bounds-score_positions-end-2
slice_bounds-score_positions-end-2 c = sym (first-long (goal.at.slice_bounds-score_positions-end-2 c).Start)

pub score_positions-requires : goal.score_positions-requires
score_positions-requires c = record { q_len = c.requires.q_len; run_fits = c.requires.run_fits; row_len_bound = omega (arith, first-long (goal.at.score_positions-requires c).Start, c.requires.m_bound.0) }

abbrev scored : After-score_positions → List Float
scored c = c.score_positions.new.row

scored-is : (c : After-score_positions) → scored c ≡ tabulate c.args.m (head_score c.args.call c.args.scale c.args.q.now c.args.cache)
scored-is c = c.score_positions.ensures ∙ ap (λ (n : ℕ). tabulate n (head_score c.args.call c.args.scale c.args.q.now c.args.cache)) (length-take-le c.args.m c.args.work.now c.requires.m_bound.1)

scored-long : (c : After-score_positions) → length (scored c) ≡ c.args.m
scored-long c = ap length (scored-is c) ∙ length_tabulate c.args.m (head_score c.args.call c.args.scale c.args.q.now c.args.cache)

taken_is : (c : After-score_positions) → let s = c.args in take s.m (scored c ++ drop s.m s.work.now) ≡ scored c
taken_is c = let s = c.args in take_at (scored c) (drop s.m s.work.now) s.m (scored-long c)

pub slice_bounds-show-end : goal.slice_bounds-show-end
slice_bounds-show-end c =
    let s = c.args in
    omega (arith, length_first s.m s.work.now (scored (goal.at.slice_bounds-show-end c).After-score_positions) (scored-long (goal.at.slice_bounds-show-end c).After-score_positions) c.requires.m_bound.1, c.requires.m_bound.1)

pub slice_bounds-show-end-2 : goal.slice_bounds-show-end-2
slice_bounds-show-end-2 c = sym (ap length (taken_is (goal.at.slice_bounds-show-end-2 c).After-score_positions) ∙ scored-long (goal.at.slice_bounds-show-end-2 c).After-score_positions)

pub show-requires : goal.show-requires
show-requires c =
    λ e.
    omega (arith, ap length (taken_is (goal.at.show-requires c).After-score_positions), scored-long (goal.at.show-requires c).After-score_positions, c.requires.m_bound.2 e)

pub shape_of-work : goal.shape_of-work
shape_of-work c =
    let s = c.args in
    length_first s.m s.work.now (scored (goal.at.shape_of-work c).After-score_positions) (scored-long (goal.at.shape_of-work c).After-score_positions) c.requires.m_bound.1

pub returns : goal.returns
unfolding of_bits
returns c =
    let s = c.args in
    record {
      scores = ap (λ (r : List Float). r ++ drop s.m s.work.now) (scored-is (goal.at.returns c).After-score_positions);
      shows = c.show.ensures ∙ ap (λ (r : List Float). shown_where s.dots plus_zero r s.shown.now) (taken_is (goal.at.returns c).After-score_positions ∙ scored-is (goal.at.returns c).After-score_positions);
    }
