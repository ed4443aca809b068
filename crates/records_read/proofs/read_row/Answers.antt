use mathlib.Core.Path.{◌≡◌, sym, ap, ◌∙◌}
use Prim.Native.Nat.{◌+◌, ◌*◌}
use native.Mathlib.Nat.{zero-add}
use native.Mathlib.Omega.{arith}
use lib.ListN.{set}
use lib.Ieee.{nan, binary32, of_bits}
use Rattle.tensor_laws.proofs.InPlace.{indexed_next, indexed_all}
use Rattle.records.specs.Numbers.{u32_at, f32_at, row_at}
use Rattle.records_read.proofs.read_row.Invariants.{each_of}
use Rattle.records_read.proofs.read_row.Goals as goal

pub loop-i-preserved : goal.loop-i-preserved
unfolding f32_at
loop-i-preserved c =
    let s = c.args in
    let i = c.loop-i.i in
    let read : of_bits binary32 c.u32_at.result ≡ f32_at s.bytes.now (0 + i * 4) =
    ap (of_bits binary32) (c.u32_at.ensures ∙ ap (u32_at s.bytes.now) (sym (zero-add (i * 4))))
    in
    (λ j. set (c.loop-i.invariant j) i (read j)) ∙ indexed_next (each_of s.bytes.now) nan i s.row.now (omega arith)

pub returns : goal.returns
unfolding row_at
returns c = c.loop-i.invariant ∙ indexed_all (each_of c.args.bytes.now) nan c.loop-i.i c.args.row.now (omega arith)
