use mathlib.Core.Path.{◌≡◌, ap, ◌∙◌}
use Prim.Native.Nat.{ℕ, ◌+◌, ◌*◌, ◌-◌, ◌≤◌, ◌<◌}
use native.Mathlib.Omega.{arith}
use lib.ListN.{length}
use Rattle.tensor_laws.proofs.Parts.{row_end}
use Rattle.session_file.specs.Sizes.{record_length}
use Rattle.session_file.proofs.Limits.{sizes→facts, record_start_most}
use Rattle.session_writer.proofs.Positions.{positions_none, positions_more}
use Rattle.session_positions.proofs.write_positions.Goals as goal
use Rattle.session_positions.proofs.write_positions.Goals.{At-loop-p}

-- the length of a record, as it is computed
abbrev long_of : At-loop-p → ℕ
long_of a = 6 + a.payload_length-long.result

long_is : (a : At-loop-p) → long_of a ≡ record_length a.args.sizes
long_is a = ap (λ (m : ℕ). 6 + m) a.payload_length-long.ensures

-- the bytes keep their number
as_long : (a : At-loop-p) → let s = a.args in length a.loop-p.bytes ≡ s.n * record_length s.sizes
as_long a = a.loop-p.auto.bytes ∙ a.requires.bytes_len

-- a record ends inside the bytes, which can be counted
inside : (a : At-loop-p) → a.loop-p.p < a.args.n → (a.loop-p.p * long_of a + long_of a ≤ length a.loop-p.bytes) × (length a.loop-p.bytes ≤ 1073754126)
inside a h =
    let s = a.args in
    let most = record_start_most s.sizes s.n a.requires.caches_fit.limits a.requires.caches_fit.positions in
    (rw (long_is a, as_long a) (row_end (record_length s.sizes) a.loop-p.p s.n h), omega (arith, as_long a))

pub overflow_add-long : goal.overflow_add-long
overflow_add-long c =
    omega (arith, c.payload_length-long.ensures, (sizes→facts c.args.sizes c.requires.caches_fit.limits).payload)

pub loop-p-init : goal.loop-p-init
loop-p-init c =
    let s = c.args in
    positions_none s.sizes s.n s.keys.now s.values.now s.bytes.now

pub slice_bounds-write_position-end : goal.slice_bounds-write_position-end
slice_bounds-write_position-end c = omega (arith, inside (goal.at.slice_bounds-write_position-end c).At-loop-p c.loop-p-test.true)

pub loop-p-preserved : goal.loop-p-preserved
loop-p-preserved c =
    let s = c.args in
    let from = c.loop-p.p * long_of (goal.at.loop-p-preserved c).At-loop-p in
    positions_more s.sizes s.n s.keys.now s.values.now c.requires.caches_fit s.bytes.now c.requires.bytes_len c.loop-p.p from (from + long_of (goal.at.loop-p-preserved c).At-loop-p - from) c.loop-p.bytes _ c.loop-p-test.true (ap (λ (m : ℕ). c.loop-p.p * m) (long_is (goal.at.loop-p-preserved c).At-loop-p)) (omega (arith, long_is (goal.at.loop-p-preserved c).At-loop-p)) c.loop-p.invariant c.write_position.ensures
