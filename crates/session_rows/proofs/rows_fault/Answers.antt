use mathlib.Core.Path.{sym}
use mathlib.Core.Bool.{Bool}
use native.Mathlib.Omega.{arith}
use borrow.Author.Count.{below_more}
use Rattle.session_file.specs.Form.{cache_row}
use Rattle.session_file.specs.Writer.{row_fault}
use Rattle.session_writer.proofs.Rows.{fit→facts, key_fits, value_fits, length_key, length_value, row_faulty, row_sound, either_first, either_second, neither_of, rows_faulty, rows_sound}
use Rattle.session_rows.proofs.rows_fault.Goals as goal
use Rattle.session_rows.proofs.rows_fault.Goals.{In-loop-r}

-- a turn's rows are at fault
abbrev key_fault : In-loop-r → Bool
key_fault t = let s = t.args in row_fault (cache_row s.n s.sizes.size s.keys.now s.p t.loop-r.r)

abbrev value_fault : In-loop-r → Bool
value_fault t = let s = t.args in row_fault (cache_row s.n s.sizes.vsize s.values.now s.p t.loop-r.r)

pub overflow_mul-r-end : goal.overflow_mul-r-end
overflow_mul-r-end c = omega (arith, (fit→facts c.requires.caches_fit).rows.1)

pub row-requires : goal.row-requires
row-requires c =
    let s = c.args in
    key_fits s.sizes s.n s.keys.now s.values.now c.requires.caches_fit s.p c.loop-r.r c.requires.p_lt_n c.loop-r-test.true

pub row_faults-requires : goal.row_faults-requires
row_faults-requires c =
    let s = c.args in
    let e = length_key s.sizes s.n s.keys.now s.values.now c.requires.caches_fit s.p c.loop-r.r c.requires.p_lt_n c.loop-r-test.true in
    let f = (fit→facts c.requires.caches_fit).size.1 in
    rw (c.row.ensures, e) f

pub returns-then-row_faults-gt0 : goal.returns-then-row_faults-gt0
returns-then-row_faults-gt0 c =
    let s = c.args in
    let e = row_faulty (cache_row s.n s.sizes.size s.keys.now s.p c.loop-r.r) c.row.result.now c.row_faults.result c.row.ensures c.row_faults.ensures c.if-row_faults-gt0.true in
    sym (rows_faulty s.sizes s.n s.keys.now s.values.now s.p c.loop-r.r c.loop-r-test.true (either_first (key_fault (goal.at.returns-then-row_faults-gt0 c).In-loop-r) (value_fault (goal.at.returns-then-row_faults-gt0 c).In-loop-r) e))

pub row-requires-in-loop-r : goal.row-requires-in-loop-r
row-requires-in-loop-r c =
    let s = c.args in
    value_fits s.sizes s.n s.keys.now s.values.now c.requires.caches_fit s.p c.loop-r.r c.requires.p_lt_n c.loop-r-test.true

pub row_faults-requires-in-loop-r : goal.row_faults-requires-in-loop-r
row_faults-requires-in-loop-r c =
    let s = c.args in
    let e = length_value s.sizes s.n s.keys.now s.values.now c.requires.caches_fit s.p c.loop-r.r c.requires.p_lt_n c.loop-r-test.true in
    let f = (fit→facts c.requires.caches_fit).vsize.1 in
    rw (c.row-in-loop-r.ensures, e) f

pub returns-then-row_faults-gt0-2 : goal.returns-then-row_faults-gt0-2
returns-then-row_faults-gt0-2 c =
    let s = c.args in
    let e = row_faulty (cache_row s.n s.sizes.vsize s.values.now s.p c.loop-r.r) c.row-in-loop-r.result.now c.row_faults-in-loop-r.result c.row-in-loop-r.ensures c.row_faults-in-loop-r.ensures c.if-row_faults-gt0-2.true in
    sym (rows_faulty s.sizes s.n s.keys.now s.values.now s.p c.loop-r.r c.loop-r-test.true (either_second (key_fault (goal.at.returns-then-row_faults-gt0-2 c).In-loop-r) (value_fault (goal.at.returns-then-row_faults-gt0-2 c).In-loop-r) e))

pub loop-r-preserved : goal.loop-r-preserved
loop-r-preserved c =
    let s = c.args in
    let e = row_sound (cache_row s.n s.sizes.size s.keys.now s.p c.loop-r.r) c.row.result.now c.row_faults.result c.row.ensures c.row_faults.ensures c.if-row_faults-gt0.false in
    let f = row_sound (cache_row s.n s.sizes.vsize s.values.now s.p c.loop-r.r) c.row-in-loop-r.result.now c.row_faults-in-loop-r.result c.row-in-loop-r.ensures c.row_faults-in-loop-r.ensures c.if-row_faults-gt0-2.false in
    below_more _ _ c.loop-r.invariant (neither_of (key_fault (goal.at.loop-r-preserved c).In-loop-r) (value_fault (goal.at.loop-r-preserved c).In-loop-r) e f)

pub returns : goal.returns
returns c =
    let s = c.args in
    sym (rows_sound s.sizes s.n s.keys.now s.values.now s.p (λ k h. c.loop-r.invariant k (omega (arith, c.loop-r-test.false))))
