-- `session_sizes::record_start` meets its contract: a record of any position within the limits begins at a number that does not wrap. Assumes nothing.
use mathlib.Core.Path.{ap}
use Prim.Native.Nat.{ℕ, ◌+◌, ◌*◌}
use native.Mathlib.Omega.{arith}
use Rattle.session_file.proofs.Limits.{sizes→facts, record_start_most}
use Rattle.session_sizes.proofs.record_start.Goals as goal

pub overflow_add-result : goal.overflow_add-result
overflow_add-result c =
    let f = sizes→facts c.args.sizes c.requires.sizes_value in
    omega (arith, f.payload, c.payload_length.ensures)

pub overflow_mul-result : goal.overflow_mul-result
overflow_mul-result c =
    let m = record_start_most c.args.sizes c.args.p c.requires.sizes_value c.requires.p_bound in
    omega (arith, ap (λ (n : ℕ). c.args.p * (6 + n)) c.payload_length.ensures)

pub overflow_add-result-2 : goal.overflow_add-result-2
overflow_add-result-2 c =
    let m = record_start_most c.args.sizes c.args.p c.requires.sizes_value c.requires.p_bound in
    omega (arith, ap (λ (n : ℕ). c.args.p * (6 + n)) c.payload_length.ensures)

pub returns : goal.returns
returns c = ap (λ (n : ℕ). 14 + c.args.p * (6 + n)) c.payload_length.ensures
