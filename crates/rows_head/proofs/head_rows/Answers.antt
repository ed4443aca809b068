use mathlib.Core.Path.{◌≡◌, sym, ap, ◌∙◌, subst}
use mathlib.Core.List.{List}
use Prim.Native.Nat.{ℕ, ◌+◌, ◌-◌, ◌*◌, ◌≤◌, ◌<◌}
use native.Mathlib.Omega.{arith}
use lib.ListN.{length, take, drop}
use lib.Ieee.{Float}
use Rattle.bool_laws.proofs.Counts.{count_le, tally_le}
use Rattle.tensor_laws.specs.Layout.{slot}
use Rattle.tensor_laws.proofs.Parts.{with_part, length_part}
use Rattle.tensor_laws.proofs.Written.{row_inside}
use Rattle.call.specs.Limits.{total_of}
use Rattle.call.specs.Lengths.{in_scores}
use Rattle.call.specs.Lent.{lent_now}
use Rattle.attention.specs.Formula.{row_masked}
use Rattle.rows.proofs.Ready.{limits, query_row_fits}
use Rattle.rows.proofs.UnitRows.{shown_most, Done, begun, row_more, finished, scores_by_rows}
use Rattle.rows_head.proofs.head_rows.Goals as goal
use Rattle.rows_head.proofs.head_rows.Goals.{After-row_start-sa, After-row_start-ya, At-loop-i, In-loop-i}

pub shown_width-width-requires : goal.shown_width-width-requires
shown_width-width-requires c = (limits c.requires.accepting).total_most

pub overflow_add-i-end : goal.overflow_add-i-end
overflow_add-i-end c = omega (arith, c.requires.b_lt_batches.3, (limits c.requires.accepting).qlen_most)

pub loop-i-init : goal.loop-i-init
loop-i-init c =
    let s = c.args in
    let p = c.requires.b_lt_batches in
    let q = c.requires.output_len in
    (p.0, p.1, p.3, begun s.call (lent_now s.inputs) s.b s.h s.first s.count p.0 p.1 p.3 s.output.now s.scores.now s.work.now q.0 q.1 q.2)

-- the rows before row i
abbrev done : (c : At-loop-i) → let s = c.args in Done s.call (lent_now c.args.inputs) s.b s.h s.first s.count c.loop-i.invariant.0 c.loop-i.invariant.1 c.loop-i.invariant.2 s.output.now s.scores.now c.loop-i.i c.loop-i.output c.loop-i.scores c.loop-i.work c.loop-i.masked
done c = c.loop-i.invariant.3

-- row i is one of the call's
inside : (c : In-loop-i) → c.loop-i.i < c.args.call.qlen
inside c = omega (arith, c.loop-i.invariant.2, c.loop-i-test.true)

pub row_start-ya-requires : goal.row_start-ya-requires
row_start-ya-requires c =
    let s = c.args in
    let r = c.requires.accepting in
    query_row_fits r s.b s.h c.loop-i.i c.loop-i.invariant.0 c.loop-i.invariant.1 (inside (goal.at.row_start-ya-requires c).In-loop-i) s.call.vsize (omega (arith, (limits r).vsize_most))

-- the output row ends inside the output
output-end : (c : After-row_start-ya) → c.row_start-ya.result + c.args.call.vsize ≤ length c.loop-i.output
output-end c =
    let s = c.args in
    let k = s.call in
    let l : c.loop-i.i < k.qlen = omega (arith, c.loop-i.invariant.2) in
    omega (arith, c.row_start-ya.ensures, c.requires.output_len.0, row_inside k.rank k.batches k.qheads k.qlen k.vsize s.b s.h c.loop-i.i c.loop-i.invariant.0 c.loop-i.invariant.1 l)

pub overflow_add-ye : goal.overflow_add-ye
overflow_add-ye c = omega (arith, output-end (goal.at.overflow_add-ye c).After-row_start-ya)

pub row_start-sa-requires : goal.row_start-sa-requires
row_start-sa-requires c =
    let s = c.args in
    let r = c.requires.accepting in
    query_row_fits r s.b s.h c.loop-i.i c.loop-i.invariant.0 c.loop-i.invariant.1 (inside (goal.at.row_start-sa-requires c).In-loop-i) c.shown_width-width.result
    (omega (arith, c.shown_width-width.ensures, shown_most s.call.mode (total_of s.call), (limits r).total_most))

-- the scores' row ends inside the scores
scores-end : (c : After-row_start-sa) → c.row_start-sa.result + c.shown_width-width.result ≤ length c.loop-i.scores
scores-end c =
    let s = c.args in
    let k = s.call in
    let l : c.loop-i.i < k.qlen = omega (arith, c.loop-i.invariant.2) in
    rw (c.row_start-sa.ensures, c.shown_width-width.ensures, c.loop-i.auto.scores, c.requires.output_len.1, scores_by_rows k.mode (k.batches * k.qheads * k.qlen) (total_of k))
    (row_inside 4 k.batches k.qheads k.qlen (in_scores k.mode (total_of k)) s.b s.h c.loop-i.i c.loop-i.invariant.0 c.loop-i.invariant.1 l)

pub overflow_add-se : goal.overflow_add-se
overflow_add-se c = omega (arith, scores-end (goal.at.overflow_add-se c).After-row_start-sa)

pub offset_bounds-output-ya : goal.offset_bounds-output-ya
offset_bounds-output-ya c = omega (arith, output-end (goal.at.offset_bounds-output-ya c).After-row_start-ya)

pub slice_bounds-attend_row-end : goal.slice_bounds-attend_row-end
slice_bounds-attend_row-end c = output-end (goal.at.slice_bounds-attend_row-end c).After-row_start-ya

pub offset_bounds-scores-sa : goal.offset_bounds-scores-sa
offset_bounds-scores-sa c = omega (arith, scores-end (goal.at.offset_bounds-scores-sa c).After-row_start-sa)

pub slice_bounds-attend_row-end-in-loop-i : goal.slice_bounds-attend_row-end-in-loop-i
slice_bounds-attend_row-end-in-loop-i c = scores-end (goal.at.slice_bounds-attend_row-end-in-loop-i c).After-row_start-sa

-- the part of a row is as long as the row
part-row : (a n : ℕ) (t : List Float) → a + n ≤ length t → length (take (a + n - a) (drop a t)) ≡ n
part-row a n t l = let e : a + n - a ≡ n = omega arith in ap (λ (k : ℕ). length (take k (drop a t))) e ∙ length_part a n t l

pub attend_row-t-requires : goal.attend_row-t-requires
attend_row-t-requires c =
    let at = goal.at.attend_row-t-requires c in
    record {
      accepting = c.requires.accepting;
      b_lt_batches = (c.loop-i.invariant.0, c.loop-i.invariant.1, inside at.In-loop-i);
      out_len = (
        part-row c.row_start-ya.result c.args.call.vsize c.loop-i.output (output-end at.After-row_start-ya),
        part-row c.row_start-sa.result c.shown_width-width.result c.loop-i.scores (scores-end at.After-row_start-sa) ∙ c.shown_width-width.ensures,
        (done at.At-loop-i).long,
      );
    }

-- no more rows are fully masked than are done
masked-most : (c : At-loop-i) → c.loop-i.masked ≤ c.loop-i.i
masked-most c =
    let s = c.args in
    omega (arith, (done c).told, (done c).low, count_le (c.loop-i.i - s.first) (λ n. row_masked s.call (lent_now c.args.inputs) s.b s.h (s.first + n)))

pub overflow_add-masked : goal.overflow_add-masked
overflow_add-masked c =
    omega (arith, masked-most (goal.at.overflow_add-masked c).At-loop-i, inside (goal.at.overflow_add-masked c).In-loop-i, (limits c.requires.accepting).qlen_most, c.tally_of-masked.ensures, tally_le c.attend_row-t.result)

pub loop-i-preserved : goal.loop-i-preserved
loop-i-preserved c =
    let s = c.args in
    let inv = c.loop-i.invariant in
    let width = c.shown_width-width.result in
    let ya = c.row_start-ya.result in
    let sa = c.row_start-sa.result in
    let row = c.attend_row-t.new in
    let x = lent_now c.args.inputs in (
      inv.0,
      inv.1,
      inv.2,
      subst (λ (m : ℕ). Done s.call x s.b s.h s.first s.count inv.0 inv.1 inv.2 s.output.now s.scores.now (c.loop-i.i + 1)
          (with_part ya (ya + s.call.vsize - ya) c.loop-i.output row.out)
          (with_part sa (sa + width - sa) c.loop-i.scores row.shown) row.work (c.loop-i.masked + m)) (sym c.tally_of-masked.ensures)
          (row_more s.call x s.b s.h s.first s.count inv.0 inv.1 inv.2 s.output.now s.scores.now
          c.loop-i.i c.loop-i.output c.loop-i.scores c.loop-i.work c.loop-i.masked (done (goal.at.loop-i-preserved c).At-loop-i) (omega arith)
          row.out row.shown row.work c.attend_row-t.result c.attend_row-t.ensures
          ya (ya + s.call.vsize - ya) sa (sa + width - sa)
          c.row_start-ya.ensures (omega arith) (c.row_start-sa.ensures ∙ ap (λ (m : ℕ). slot 4 s.call.qheads s.call.qlen s.b s.h c.loop-i.i * m) c.shown_width-width.ensures) (omega (arith, c.shown_width-width.ensures))),
    )

pub returns : goal.returns
returns c =
    let s = c.args in
    let inv = c.loop-i.invariant in
    finished s.call (lent_now c.args.inputs) s.b s.h s.first s.count inv.0 inv.1 inv.2 s.output.now s.scores.now c.loop-i.i c.loop-i.output c.loop-i.scores c.loop-i.work c.loop-i.masked (done (goal.at.returns c).At-loop-i)
    c.loop-i-test.false c.requires.b_lt_batches.2
