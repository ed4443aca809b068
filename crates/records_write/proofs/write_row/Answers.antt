use mathlib.Core.Path.{refl, ap, ◌∙◌}
use mathlib.Core.List.{List}
use Prim.Native.Nat.{ℕ, ◌*◌}
use native.Mathlib.Omega.{arith}
use lib.ListN.{get_or}
use lib.Ieee.{nan}
use Rattle.records.specs.Numbers.{f32_bytes, row_bytes}
use Rattle.records.specs.Records.{written_at}
use Rattle.records.proofs.RowFronts.{row_to_next}
use Rattle.records_write.proofs.write_row.Goals as goal

pub loop-i-init : goal.loop-i-init
unfolding row_bytes
loop-i-init c = refl

pub loop-i-preserved : goal.loop-i-preserved
unfolding f32_bytes
loop-i-preserved c =
    let s = c.args in
    let i = c.loop-i.i in
    c.put_u32.ensures
    ∙ ap (λ (r : List ℕ). written_at r (i * 4) (f32_bytes (get_or s.row.now i nan))) c.loop-i.invariant
    ∙ row_to_next s.row.now i s.bytes.now (omega arith) (omega (arith, c.requires.bytes_len))
