-- `records_write::put_head` meets its contract. Assumes nothing.
use mathlib.Core.Path.{ap, ◌∙◌}
use mathlib.Core.List.{List}
use Prim.Native.Nat.{ℕ, ◌+◌}
use native.Mathlib.Omega.{arith}
use Rattle.records.specs.Numbers.{u16_bytes, u32_bytes}
use Rattle.records.specs.Records.{written_at}
use Rattle.records.proofs.Fronts.{written_next}
use Rattle.records_write.proofs.put_head.Goals as goal

pub returns : goal.returns
returns c =
    let s = c.args in
    c.put_u16.ensures
    ∙ ap (λ (r : List ℕ). written_at r (s.at + 4) (u16_bytes s.kind)) c.put_u32.ensures
    ∙ written_next s.bytes.now s.at (u32_bytes s.long) (u16_bytes s.kind) (omega (arith, c.requires))
