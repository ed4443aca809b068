-- What the limits of sizes say: each size, the rows of a position, the lengths of its record and where it begins. Assumes nothing.
use mathlib.Core.Path.{◌≡◌}
use mathlib.Core.Bool.{true}
use Prim.Native.Nat.{ℕ, ◌*◌, ◌≤◌}
use native.Mathlib.Nat.{mul-le-mul}
use native.Mathlib.Omega.{arith}
use Rattle.bool_laws.proofs.Tests.{four}
use Rattle.call.specs.Limits.{within}
use Rattle.call.proofs.Facts.{holds, bounds}
use Rattle.session_file.specs.declared.Sizes.{Sizes}
use Rattle.session_file.specs.Sizes.{sizes_hold, most_positions, rows_of, pair_length, payload_length, record_length, record_start}

pub record SizesFacts (z : Sizes) : Type 0 where
  pub batches : (1 ≤ z.batches) × (z.batches ≤ 8)
  pub kvheads : (1 ≤ z.kvheads) × (z.kvheads ≤ 32)
  pub size : (1 ≤ z.size) × (z.size ≤ 256)
  pub vsize : (1 ≤ z.vsize) × (z.vsize ≤ 256)
  pub rows : (1 ≤ rows_of z) × (rows_of z ≤ 256)
  pub pair : (8 ≤ pair_length z) × (pair_length z ≤ 2048)
  pub payload : payload_length z ≤ 524288

pub sizes→facts : (z : Sizes) → sizes_hold z ≡ true → SizesFacts z
unfolding sizes_hold
sizes→facts z e =
    let (p, q, r, t) = four (within 1 8 z.batches) (within 1 32 z.kvheads) (within 1 256 z.size) (within 1 256 z.vsize) (holds e) in
    let b = bounds 1 8 z.batches p in
    let h = bounds 1 32 z.kvheads q in
    let d = bounds 1 256 z.size r in
    let v = bounds 1 256 z.vsize t in
    let low : 1 ≤ rows_of z = mul-le-mul b.0 h.0 in
    let high : rows_of z ≤ 256 = mul-le-mul b.1 h.1 in
    let pair : pair_length z ≤ 2048 = omega arith in
    record {
      batches = b;
      kvheads = h;
      size = d;
      vsize = v;
      rows = (low, high);
      pair = (omega arith, pair);
      payload = mul-le-mul high pair;
    }

-- the record of a position begins inside any file that 2,048 positions could fill
pub record_start_most : (z : Sizes) (p : ℕ) → sizes_hold z ≡ true → p ≤ most_positions → record_start z p ≤ 1073754126
record_start_most z p e l =
    let f = sizes→facts z e in
    let r : record_length z ≤ 524294 = omega (arith, f.payload) in
    let m : p * record_length z ≤ 2048 * 524294 = mul-le-mul l r in
    omega arith
