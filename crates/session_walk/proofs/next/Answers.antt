-- `session_walk::next` meets its contract: its tests are the definition's, and no number that it compares wraps. Assumes nothing.
use mathlib.Core.Path.{◌≡◌, sym, ◌∙◌}
use native.Mathlib.Omega.{arith}
use Rattle.records.specs.Records.{head_is}
use Rattle.session_file.specs.Sizes.{payload_length, record_start}
use Rattle.session_file.proofs.Limits.{sizes→facts, record_start_most}
use Rattle.session_file.proofs.Nexts.{next_ended, next_wrong, next_cut, next_whole}
use Rattle.session_walk.proofs.next.Goals as goal
use Rattle.session_walk.proofs.next.Goals.{After-head_is}

pub overflow_add-at : goal.overflow_add-at
overflow_add-at c =
    omega (arith, c.record_start-at.ensures, record_start_most c.args.sizes c.args.p c.requires.sizes_value c.requires.p_bound)

pub returns-then-file-at : goal.returns-then-file-at
returns-then-file-at c =
    let s = c.args in
    sym (next_ended s.sizes s.file.now s.p (omega (arith, c.record_start-at.ensures)))

pub overflow_cast-long : goal.overflow_cast-long
overflow_cast-long c =
    omega (arith, c.payload_length-long.ensures, (sizes→facts c.args.sizes c.requires.sizes_value).payload)

pub overflow_add-long : goal.overflow_add-long
overflow_add-long c =
    omega (arith, c.payload_length-long.ensures, (sizes→facts c.args.sizes c.requires.sizes_value).payload)

pub overflow_add-at-then-head_is : goal.overflow_add-at-then-head_is
overflow_add-at-then-head_is c =
    omega (
      arith,
      c.payload_length-long.ensures,
      (sizes→facts c.args.sizes c.requires.sizes_value).payload,
      c.record_start-at.ensures,
      record_start_most c.args.sizes c.args.p c.requires.sizes_value c.requires.p_bound,
    )

-- the head that is looked for is that of the record
head_of : (c : After-head_is) → let s = c.args in head_is s.file.now (record_start s.sizes s.p) (payload_length s.sizes) 2 ≡ c.head_is.result
head_of c =
    let file = c.args.file.now in
    sym (c.head_is.ensures ∙ (λ j. head_is file (c.record_start-at.ensures j) (c.payload_length-long.ensures j) 2))

pub returns-then-file-at-2 : goal.returns-then-file-at-2
returns-then-file-at-2 c =
    let s = c.args in
    let e = c.record_start-at.ensures in
    let l = c.payload_length-long.ensures in
    sym (next_cut s.sizes s.file.now s.p (omega arith) (head_of (goal.at.returns-then-file-at-2 c).After-head_is ∙ c.if-head_is.true) (omega arith))

pub returns-then-head_is : goal.returns-then-head_is
returns-then-head_is c =
    let s = c.args in
    let e = c.record_start-at.ensures in
    let l = c.payload_length-long.ensures in
    sym (next_whole s.sizes s.file.now s.p (omega arith) (head_of (goal.at.returns-then-head_is c).After-head_is ∙ c.if-head_is.true) (omega arith))

pub returns : goal.returns
returns c =
    let s = c.args in
    let e = c.record_start-at.ensures in
    sym (next_wrong s.sizes s.file.now s.p (omega arith) (head_of (goal.at.returns c).After-head_is ∙ c.if-head_is.false))
