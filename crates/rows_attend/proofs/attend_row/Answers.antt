-- `rows_attend::attend_row` meets its contract: the steps of the row, one after the other. Assumes nothing.
use mathlib.Core.Path.{◌≡◌, refl, sym, ap, ◌∙◌, subst}
use mathlib.Core.Bool.{cond}
use mathlib.Core.List.{List}
use Prim.Native.Nat.{ℕ, ◌+◌, ◌-◌, ◌≤◌, ◌<◌}
use native.Mathlib.Omega.{arith}
use lib.ListN.{length, take, drop}
use lib.Seq.{length-take-le}
use lib.Ieee.{Float}
use Rattle.tensor_laws.proofs.Parts.{length_part}
use Rattle.call.specs.Limits.{total_of}
use Rattle.call.specs.Lengths.{in_scores}
use Rattle.call.specs.Contents.{live_of}
use Rattle.call.specs.Lent.{lent_now}
use Rattle.attention.proofs.Bounded.{MaskFits}
use Rattle.attention.specs.Elements.{query_at}
use Rattle.attention.specs.Admission.{repeated}
use Rattle.softmax.specs.Lists.{element_of}
use Rattle.row_steps.specs.Steps.{visible_of, mask_start, MaskRowFits}
use Rattle.admitted_sum.specs.Sums.{MaskHas}
use Rattle.row_steps.proofs.Shown.{shows_room}
use Rattle.row_runs.specs.Runs.{RunFits}
use Rattle.rows.proofs.Ready.{accepts, limits, lengths, group_some, query_row_fits, query_row_end, key_run, value_run, mask_has, mask_row_fits, mask_start_small}
use Rattle.rows.proofs.Assembled.{query_row, n_total, m_total, capped_scores, row_done}
use Rattle.rows_attend.proofs.attend_row.Goals as goal
use Rattle.rows_attend.proofs.attend_row.Goals.{After-row_start-a, After-softmax_masked-masked}

fits : (c : After-row_start-a) → MaskFits (lent_now c.args.inputs)
fits c k = rw (c.of_f32s.ensures k) tt

pub key_head-g-requires : goal.key_head-g-requires
key_head-g-requires c = let r = c.requires.accepting in ((limits r).kvheads_some, group_some r)

pub live_count-count-requires : goal.live_count-count-requires
live_count-count-requires c = let r = c.requires.accepting in record { call_bound = (limits r).total_most; live_len = (lengths r).live; b_lt_batches = c.requires.b_lt_batches.0 }

pub visible-n-requires : goal.visible-n-requires
visible-n-requires c = let r = c.requires.accepting in omega (arith, (limits r).total_most, (limits r).qlen_most, c.requires.b_lt_batches.2)

pub row_start-a-requires : goal.row_start-a-requires
row_start-a-requires c =
    let s = c.args in
    let r = c.requires.accepting in
    let u = c.requires.b_lt_batches in
    query_row_fits r s.b s.h s.i u.0 u.1 u.2 s.call.size (omega (arith, (limits r).size_most))

-- ---- the query row
-- it ends inside its tensor
row-end : (c : After-row_start-a) → let s = c.args in c.row_start-a.result + s.call.size ≤ length s.inputs.query.now
row-end c =
    let s = c.args in
    let u = c.requires.b_lt_batches in
    omega (arith, c.row_start-a.ensures, query_row_end c.requires.accepting s.b s.h s.i u.0 u.1 u.2)

pub overflow_add-e : goal.overflow_add-e
overflow_add-e c = omega (arith, row-end (goal.at.overflow_add-e c).After-row_start-a)

pub offset_bounds-inputs-a : goal.offset_bounds-inputs-a
offset_bounds-inputs-a c = omega (arith, row-end (goal.at.offset_bounds-inputs-a c).After-row_start-a)

pub slice_bounds-score_row-end : goal.slice_bounds-score_row-end
slice_bounds-score_row-end c = row-end (goal.at.slice_bounds-score_row-end c).After-row_start-a

-- the part that is lent is as long as a row
part-long : (c : After-row_start-a) → let s = c.args in length (take (c.row_start-a.result + s.call.size - c.row_start-a.result) (drop c.row_start-a.result s.inputs.query.now)) ≡ s.call.size
part-long c =
    let s = c.args in
    let a = c.row_start-a.result in
    let e : a + s.call.size - a ≡ s.call.size = omega arith in
    ap (λ (n : ℕ). length (take n (drop a s.inputs.query.now))) e ∙ length_part a s.call.size s.inputs.query.now (row-end c)

-- ---- step 1: what the functions before it gave is as the definitions have it
-- the number of visible positions
visible-is : (c : After-row_start-a) → let s = c.args in c.visible-n.result ≡ visible_of s.call (live_of s.call s.inputs.live.now s.b) s.i
visible-is c = let s = c.args in c.visible-n.ensures ∙ ap (λ (n : ℕ). visible_of s.call n s.i) c.live_count-count.ensures

-- the number of scores
needed-is : (c : After-row_start-a) → let s = c.args in c.scored-m.result ≡ cond c.shows-dots.result (live_of s.call s.inputs.live.now s.b) c.visible-n.result
needed-is c = c.scored-m.ensures ∙ ap (λ (n : ℕ). cond c.shows-dots.result n c.visible-n.result) c.live_count-count.ensures

-- the query row, as it is lent
abbrev row_of : After-row_start-a → List Float
row_of c = let s = c.args in take (c.row_start-a.result + s.call.size - c.row_start-a.result) (drop c.row_start-a.result s.inputs.query.now)

row-cells : (c : After-row_start-a) → let s = c.args in (k : ℕ) → k < s.call.size → element_of (row_of c) k ≡ query_at s.call (lent_now c.args.inputs) s.b s.h s.i k
row-cells c =
    let s = c.args in
    query_row s.call (lent_now c.args.inputs) s.b s.h s.i c.row_start-a.result (c.row_start-a.result + s.call.size - c.row_start-a.result) c.row_start-a.ensures (omega arith)

-- there are no more visible positions than positions, and no more scores
visible-most : (c : After-row_start-a) → c.visible-n.result ≤ total_of c.args.call
visible-most c =
    let s = c.args in
    let u = c.requires.b_lt_batches in
    n_total c.requires.accepting (fits c) s.b s.h s.i u.0 u.1 u.2 c.visible-n.result c.scored-m.result (mask_start s.call.mask s.call s.b s.h s.i) c.key_head-g.result c.shows-dots.result (visible-is c) c.shows-dots.ensures (needed-is c) refl c.key_head-g.ensures
    (row_of c) (row-cells c)

needed-most : (c : After-row_start-a) → c.scored-m.result ≤ total_of c.args.call
needed-most c =
    let s = c.args in
    let u = c.requires.b_lt_batches in
    m_total c.requires.accepting (fits c) s.b s.h s.i u.0 u.1 u.2 c.visible-n.result c.scored-m.result (mask_start s.call.mask s.call s.b s.h s.i) c.key_head-g.result c.shows-dots.result (visible-is c) c.shows-dots.ensures (needed-is c) refl c.key_head-g.ensures
    (row_of c) (row-cells c)

pub score_row-requires : goal.score_row-requires
score_row-requires c =
    let a = (goal.at.score_row-requires c).After-row_start-a in
    let s = c.args in
    let r = c.requires.accepting in
    let u = c.requires.b_lt_batches in
    let l = c.requires.out_len in
    record {
      q_len = part-long a;
      run_fits = subst (λ (g : ℕ). RunFits s.call (length s.inputs.pastkey.now) (length s.inputs.key.now) s.call.size s.b g s.call.past 0) (sym c.key_head-g.ensures) (key_run r s.b s.h u.0 u.1);
      m_bound = (
        needed-most a,
        omega (arith, needed-most a, l.2),
        λ e. omega (arith, needed-most a, l.1 ∙ shows_room s.call.mode 0 0 (total_of s.call) (sym c.shows-dots.ensures ∙ e)),
      );
    }

-- ---- steps 2 to 4
pub mask_start-requires : goal.mask_start-requires
mask_start-requires c =
    let r = c.requires.accepting in
    record { call_value = ((accepts r).limits, (accepts r).mask_shape); b_lt_batches = c.requires.b_lt_batches }

pub softmax_masked-masked-requires : goal.softmax_masked-masked-requires
softmax_masked-masked-requires c =
    let a = (goal.at.softmax_masked-masked-requires c).After-row_start-a in
    let s = c.args in
    let r = c.requires.accepting in
    let u = c.requires.b_lt_batches in
    let l = c.requires.out_len in
    let n = c.visible-n.result in
    let kept : length c.score_row.new.work ≡ total_of s.call = c.score_row.auto.work ∙ l.2 in
    record {
      mask_row_fits = subst (λ (at : ℕ). MaskRowFits s.call.mask (length s.inputs.boolmask.now) (length s.inputs.floatmask.now) at s.call.maskk n) (sym c.mask_start.ensures) (mask_row_fits r s.b s.h s.i u.0 u.1 u.2 n (visible-most a));
      t = capped_scores r (fits a) s.b s.h s.i u.0 u.1 u.2 n c.scored-m.result c.mask_start.result c.key_head-g.result c.shows-dots.result (visible-is a) c.shows-dots.ensures (needed-is a) c.mask_start.ensures c.key_head-g.ensures
          (row_of a) (row-cells a) s.shown.now s.work.now c.score_row.new.shown c.score_row.new.work c.score_row.ensures l.2;
      n_in_bounds = (omega (arith, visible-most a, kept), omega (arith, kept, (limits r).total_most));
      shown_len = c.score_row.auto.shown ∙ l.1 ∙ ap (in_scores s.call.mode) (sym kept);
    }

-- ---- step 5
-- the scratch row keeps its length
weights-kept : (c : After-softmax_masked-masked) → length c.softmax_masked-masked.new.work ≡ total_of c.args.call
weights-kept c = c.softmax_masked-masked.auto.work ∙ c.score_row.auto.work ∙ c.requires.out_len.2

pub slice_bounds-output_row-end : goal.slice_bounds-output_row-end
slice_bounds-output_row-end c = omega (arith, weights-kept (goal.at.slice_bounds-output_row-end c).After-softmax_masked-masked, visible-most (goal.at.slice_bounds-output_row-end c).After-row_start-a)

taken-long : (c : After-softmax_masked-masked) → c.visible-n.result ≤ total_of c.args.call → length (take c.visible-n.result c.softmax_masked-masked.new.work) ≡ c.visible-n.result
taken-long c n = length-take-le c.visible-n.result c.softmax_masked-masked.new.work (omega (arith, weights-kept c))

pub slice_bounds-output_row-end-2 : goal.slice_bounds-output_row-end-2
slice_bounds-output_row-end-2 c = sym (taken-long (goal.at.slice_bounds-output_row-end-2 c).After-softmax_masked-masked (visible-most (goal.at.slice_bounds-output_row-end-2 c).After-row_start-a))

pub output_row-requires : goal.output_row-requires
output_row-requires c =
    let a = (goal.at.output_row-requires c).After-row_start-a in
    let s = c.args in
    let r = c.requires.accepting in
    let u = c.requires.b_lt_batches in
    let n = c.visible-n.result in
    let most = visible-most a in
    let long = taken-long (goal.at.output_row-requires c).After-softmax_masked-masked most in
    record {
      out_len = c.requires.out_len.0;
      run_fits = subst (λ (g : ℕ). RunFits s.call (length s.inputs.pastvalue.now) (length s.inputs.value.now) s.call.vsize s.b g s.call.past 0) (sym c.key_head-g.ensures) (value_run r s.b s.h u.0 u.1);
      weights_len_bound = omega (arith, long, most);
      weights_bound = (
        omega (arith, long, c.mask_start.ensures, mask_start_small r s.b s.h s.i u.0 u.1 u.2 n most),
        λ j l. subst (λ (at : ℕ). MaskHas s.call.mask (length s.inputs.boolmask.now) (length s.inputs.floatmask.now) (at + repeated s.call.maskk j)) (sym c.mask_start.ensures)
            (mask_has r s.b s.h s.i u.0 u.1 u.2 j (omega (arith, long, most))),
      );
    }

pub returns : goal.returns
returns c =
    let a = (goal.at.returns c).After-row_start-a in
    let s = c.args in
    let u = c.requires.b_lt_batches in
    let l = c.requires.out_len in
    row_done c.requires.accepting (fits a) s.b s.h s.i u.0 u.1 u.2 c.visible-n.result c.scored-m.result c.mask_start.result c.key_head-g.result c.shows-dots.result (visible-is a) c.shows-dots.ensures (needed-is a) c.mask_start.ensures c.key_head-g.ensures
    (row_of a) (row-cells a) s.shown.now s.work.now c.score_row.new.shown c.score_row.new.work c.score_row.ensures l.2 l.1
    c.softmax_masked-masked.new.shown c.softmax_masked-masked.new.work c.softmax_masked-masked.result c.softmax_masked-masked.ensures (c.score_row.auto.work ∙ l.2) c.output_row.new.out c.output_row.ensures
