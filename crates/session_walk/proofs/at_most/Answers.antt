-- `session_walk::at_most` meets its contract: a match on what stands there, as in the definition. Assumes nothing.
use Rattle.std.specs.Prelude.{Err}
use mathlib.Core.Path.{sym, ap, ◌∙◌}
use Rattle.call.specs.declared.Refusal.TheVariants.{Record}
use Rattle.session_file.specs.Reader.{at_most}
use Rattle.session_file.proofs.Nexts.{walk_end}
use Rattle.session_walk.proofs.at_most.Goals as goal

pub returns-in-Ended : goal.returns-in-Ended
returns-in-Ended c =
    let s = c.args in
    ap (at_most s.sizes 2048) (sym c.in-Ended.is ∙ c.next.ensures) ∙ sym (walk_end s.sizes s.file.now 2048)

pub returns-in-Wrong : goal.returns-in-Wrong
returns-in-Wrong c =
    let s = c.args in
    (λ j. Err (Record (c.record_start-byte.ensures j)))
    ∙ ap (at_most s.sizes 2048) (sym c.in-Wrong.is ∙ c.next.ensures)
    ∙ sym (walk_end s.sizes s.file.now 2048)

pub returns-in-Cut : goal.returns-in-Cut
returns-in-Cut c =
    let s = c.args in
    ap (at_most s.sizes 2048) (sym c.in-Cut.is ∙ c.next.ensures) ∙ sym (walk_end s.sizes s.file.now 2048)

pub returns-in-Whole : goal.returns-in-Whole
returns-in-Whole c =
    let s = c.args in
    ap (at_most s.sizes 2048) (sym c.in-Whole.is ∙ c.next.ensures) ∙ sym (walk_end s.sizes s.file.now 2048)
