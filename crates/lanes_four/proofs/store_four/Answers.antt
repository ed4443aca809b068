-- `lanes_four::store_four` meets its contract.
use mathlib.Core.Path.{◌∙◌}
use Rattle.tensor_laws.proofs.Parts.{with_part}
use Rattle.lanes.proofs.Stored.{four_stored}
use Rattle.lanes_four.proofs.store_four.Goals as goal

pub returns : goal.returns
returns c =
    let s = c.args in
    (λ i. with_part 12 4 (with_part 8 4 (with_part 4 4 (with_part 0 4 s.out.now (c.copy_row.ensures i)) (c.copy_row-2.ensures i)) (c.copy_row-3.ensures i)) (c.copy_row-4.ensures i))
    ∙ four_stored s.out.now s.a.now s.b.now s.c.now s.d.now c.requires.out_len c.requires.a_len
