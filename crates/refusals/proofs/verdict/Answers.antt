-- `refusals::verdict` meets its contract: the first link that refuses gives the answer, and each link asks only what those before it have settled. Assumes nothing.
use Rattle.std.specs.Prelude.{Ok, Err}
use Rattle.std.proofs.lemmas.Result.{err_from_is_err_and}
use mathlib.Core.Path.{◌≡◌, sym, ap, ◌∙◌}
use Rattle.call.specs.Refusals.{record_verdict, verdict_of}
use Rattle.call.proofs.Facts.{limits→facts, fit→lengths}
use Rattle.call.proofs.Accepted.{record→held, lengths→held, cells→none}
use Rattle.shapes.proofs.Written.{written, written_lengths}
use Rattle.refusals.proofs.verdict.Goals as goal
use Rattle.refusals.proofs.verdict.Goals.{In_ok-record_verdict}

pub returns-in_err-record_verdict : goal.returns-in_err-record_verdict
unfolding verdict_of
returns-in_err-record_verdict c = λ y w. let v = err_from_is_err_and _ c.from_residual.ensures.1 in v.1 ∙ ap Err v.2 ∙ rw (sym c.record_verdict.ensures ∙ c.in_err-record_verdict.was)

-- the links that refuse nothing
record-held : (c : In_ok-record_verdict) → record_verdict c.args.call ≡ Ok tt
record-held c = sym c.record_verdict.ensures ∙ c.in_ok-record_verdict.was

pub lengths_verdict-requires : goal.lengths_verdict-requires
lengths_verdict-requires c =
    let h = record→held _ (record-held (goal.at.lengths_verdict-requires c).In_ok-record_verdict) in
    record { call_value = h.0; call_value_2 = h.3 }

pub returns-in_err-lengths_verdict : goal.returns-in_err-lengths_verdict
unfolding verdict_of
returns-in_err-lengths_verdict c = λ y w. let v = err_from_is_err_and _ c.from_residual-in_err-lengths_verdict.ensures.1 in v.1 ∙ ap Err v.2 ∙ rw (record-held (goal.at.returns-in_err-lengths_verdict c).In_ok-record_verdict, sym (c.lengths_verdict.ensures y w) ∙ c.in_err-lengths_verdict.was)

pub cells_verdict-requires : goal.cells_verdict-requires
cells_verdict-requires c = (limits→facts _ (record→held _ (record-held (goal.at.cells_verdict-requires c).In_ok-record_verdict)).0).total_most

pub returns-in_err-cells_verdict : goal.returns-in_err-cells_verdict
unfolding verdict_of
returns-in_err-cells_verdict c =
    λ y w.
    let v = err_from_is_err_and _ c.from_residual-in_err-cells_verdict.ensures.1 in
    v.1 ∙ ap Err v.2 ∙ rw (
      record-held (goal.at.returns-in_err-cells_verdict c).In_ok-record_verdict,
      sym (c.lengths_verdict.ensures y w) ∙ c.in_ok-lengths_verdict.was,
      sym c.cells_verdict.ensures ∙ c.in_err-cells_verdict.was,
    )

pub elements_verdict-requires : goal.elements_verdict-requires
elements_verdict-requires c =
    let s = c.args in
    let y = written s.output s.presentkey s.presentvalue s.scores s.work in
    let w = written_lengths s.output s.presentkey s.presentvalue s.scores s.work in
    let l = fit→lengths _ _ (lengths→held _ _ y (sym (c.lengths_verdict.ensures y w) ∙ c.in_ok-lengths_verdict.was)).0 in
    let n = cells→none _ _ (sym c.cells_verdict.ensures ∙ c.in_ok-cells_verdict.was) in
    record {
      call_value = (record→held _ (record-held (goal.at.elements_verdict-requires c).In_ok-record_verdict)).0;
      key_len = l.key;
      value_len = l.value;
      live_len = l.live;
      live_value = n.0;
    }

pub returns : goal.returns
unfolding verdict_of
returns c =
    λ y w.
    c.elements_verdict.ensures
    ∙ rw (
      record-held (goal.at.returns c).In_ok-record_verdict,
      sym (c.lengths_verdict.ensures y w) ∙ c.in_ok-lengths_verdict.was,
      sym c.cells_verdict.ensures ∙ c.in_ok-cells_verdict.was,
    )
