-- `contents_incoming::first_counted_fault` meets its contract, rank by rank. Assumes nothing.
use mathlib.Core.Path.{sym, ◌∙◌}
use native.Mathlib.Nat.{mul-pos, mul-le-mul}
use native.Mathlib.Omega.{arith}
use Rattle.call.proofs.Facts.{limits→facts}
use Rattle.contents.proofs.Groups.{search_rank4, search_rank3}
use Rattle.contents_incoming.proofs.first_counted_fault.Goals as goal

pub first_live_fault-requires-clause-le_heads : goal.first_live_fault-requires-clause-le_heads
first_live_fault-requires-clause-le_heads c = let f = limits→facts _ c.requires.call_value in omega arith

pub returns-then-call-eq4 : goal.returns-then-call-eq4
returns-then-call-eq4 c =
    let s = c.args in
    let p = c.requires in
    let f = limits→facts _ p.call_value in
    let t = s.tensor.now in
    c.first_live_fault.ensures
    ∙ (sym (search_rank4 s.call s.live.now s.size t p.past_value f.klen_some p.le_size.0 c.if-call-eq4.true))

pub overflow_mul-call : goal.overflow_mul-call
overflow_mul-call c =
    let p = c.requires in
    let f = limits→facts _ p.call_value in
    omega (arith, mul-le-mul f.kvheads_most p.le_size.1)

pub first_live_fault-requires-2-clause-le_unit : goal.first_live_fault-requires-2-clause-le_unit
first_live_fault-requires-2-clause-le_unit c =
    let p = c.requires in
    let f = limits→facts _ p.call_value in
    omega (arith, mul-pos f.kvheads_some p.le_size.0)

pub returns : goal.returns
returns c =
    let s = c.args in
    let p = c.requires in
    let f = limits→facts _ p.call_value in
    let t = s.tensor.now in
    c.first_live_fault-2.ensures
    ∙ (sym (search_rank3 s.call s.live.now s.size t p.past_value f.klen_some p.le_size.0 c.if-call-eq4.false f.kvheads_some))
