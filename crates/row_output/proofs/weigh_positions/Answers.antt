-- `row_output::weigh_positions` meets its contract: the positions below P, and then those from P on. Assumes nothing.
use mathlib.Core.Path.{◌≡◌, sym, ap, ◌∙◌}
use mathlib.Core.List.{List}
use Prim.Native.Nat.{◌+◌}
use native.Mathlib.Omega.{arith}
use lib.ListN.{length, take}
use lib.Seq.{length-take-le}
use lib.Ieee.{Float}
use Rattle.softmax.specs.Lists.{element_of}
use Rattle.caches.specs.Lent.{head_cell}
use Rattle.admitted_sum.specs.Sums.{added_row_of}
use Rattle.admitted_sum.specs.Masks.{admits}
use Rattle.tensor_laws.proofs.Tails.{part_of, length_part}
use Rattle.admitted_sum.proofs.Added.{length_added}
use Rattle.row_runs.proofs.Runs.{first_run, second_run, two_runs}
use Rattle.row_output.proofs.weigh_positions.Goals as goal
use Rattle.row_output.proofs.weigh_positions.Goals.{After-min-cut, After-weigh_run}

-- the first part is as long as the positions below P
first-long : (c : After-min-cut) → length (take c.min-cut.result c.args.weights.now) ≡ c.min-cut.result
first-long c = length-take-le c.min-cut.result c.args.weights.now (omega (arith, c.min-cut.ensures))

pub slice_bounds-weigh_run-end : goal.slice_bounds-weigh_run-end
slice_bounds-weigh_run-end c = sym (first-long (goal.at.slice_bounds-weigh_run-end c).After-min-cut)

pub weigh_run-requires : goal.weigh_run-requires
weigh_run-requires c =
    let s = c.args in
    let r = c.requires in
    let e = first-long (goal.at.weigh_run-requires c).After-min-cut in record {
      out_len = r.out_len;
      run_fits = first_run s.call _ _ s.cache.size s.cache.b s.cache.g (length s.weights.now) c.min-cut.result r.run_fits r.weights_len_bound c.min-cut.ensures _ e;
      weights_bound = (omega (arith, e, r.weights_bound.0, c.min-cut.ensures), λ k l. r.weights_bound.1 k (omega (arith, e, c.min-cut.ensures)));
    }

-- the output row keeps its length
kept-long : (c : After-weigh_run) → length c.weigh_run.new.out ≡ c.args.cache.size
kept-long c =
    let s = c.args in
    ap length c.weigh_run.ensures
    ∙ length_added (λ j. admits s.mask (0 + j)) (element_of (take c.min-cut.result s.weights.now)) (λ j k. head_cell s.call s.cache (0 + j) k) s.out.now (length (take c.min-cut.result s.weights.now))
    ∙ c.requires.out_len

pub weigh_run-requires-2 : goal.weigh_run-requires-2
weigh_run-requires-2 c =
    let s = c.args in
    let r = c.requires in
    let e = length_part c.min-cut.result s.weights.now in record {
      out_len = kept-long (goal.at.weigh_run-requires-2 c).After-weigh_run;
      run_fits = second_run s.call _ _ s.cache.size s.cache.b s.cache.g (length s.weights.now) c.min-cut.result r.run_fits r.weights_len_bound c.min-cut.ensures _ e;
      weights_bound = (omega (arith, e, r.weights_bound.0, c.min-cut.ensures), λ k l. r.weights_bound.1 k (omega (arith, e, c.min-cut.ensures)));
    }

pub returns : goal.returns
returns c =
    let s = c.args in
    let n = c.min-cut.result in
    let rest = part_of n s.weights.now in
    c.weigh_run-2.ensures
    ∙ ap (λ (l : List Float). added_row_of (length rest) (λ j. admits s.mask (n + j)) (element_of rest) (λ j k. head_cell s.call s.cache (n + j) k) l) c.weigh_run.ensures
    ∙ two_runs s.weights.now n (admits s.mask) (head_cell s.call s.cache) s.out.now (omega (arith, c.min-cut.ensures))
