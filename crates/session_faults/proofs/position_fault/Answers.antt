-- `session_faults::position_fault` meets its contract: the part that is looked at is the payload. Assumes nothing.
use mathlib.Core.Path.{ap, ◌∙◌}
use Prim.Native.Nat.{ℕ, ◌+◌, ◌*◌, ◌-◌}
use native.Mathlib.Omega.{arith}
use lib.Dec.{ltb}
use Rattle.bool_laws.specs.Counts.{count_where}
use Rattle.tensor_laws.proofs.Parts.{length_part}
use Rattle.session_file.specs.Sizes.{rows_of}
use Rattle.session_file.specs.Reader.{payload_fault, position_fault}
use Rattle.session_file.proofs.Limits.{sizes→facts}
use Rattle.session_reader.proofs.Payloads.{part_number}
use Rattle.session_faults.proofs.position_fault.Goals as goal

pub payload_faults-requires : goal.payload_faults-requires
payload_faults-requires c =
    let from = c.record_start-from.result + 6 in
    let f = sizes→facts c.args.sizes c.requires.sizes_value in
    let e = c.record_start-from.ensures in
    let l = c.payload_length.ensures in
    omega (arith, f.payload, c.requires, length_part from (from + c.payload_length.result - from) c.args.file.now (omega (arith, c.requires)))

pub returns : goal.returns
unfolding position_fault
returns c =
    let z = c.args.sizes in
    let from = c.record_start-from.result + 6 in
    let count = rows_of z * (z.size + z.vsize) in
    let e = c.record_start-from.ensures in
    let l = c.payload_length.ensures in
    ap (ltb 0)
    (c.payload_faults.ensures
    ∙ part_number from (from + c.payload_length.result - from) count c.args.file.now (omega (arith, c.requires)) (omega arith)
    ∙ ap (λ (n : ℕ). count_where count (payload_fault c.args.file.now (n + 6))) e)
