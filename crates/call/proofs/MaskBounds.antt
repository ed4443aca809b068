-- The mask's dimensions are within the limits of batches, heads and lengths, where refusals 1 and 4 do not apply. Assumes nothing.
use mathlib.Core.Path.{◌≡◌}
use mathlib.Core.Logic.{◌⊎◌, inl, inr}
use mathlib.Core.Bool.{true}
use Prim.Native.Nat.{ℕ, ◌≤◌}
use native.Mathlib.Omega.{arith}
use Rattle.call.specs.declared.Call.{Call}
use Rattle.call.specs.declared.MaskKind.TheVariants.{Boolean, FloatMask}
use Rattle.call.specs.Limits.{limits_hold, mask_shape_holds}
use Rattle.call.proofs.Facts.{limits→facts, shape→facts}

most : {d full m : ℕ} → (d ≡ 1) ⊎ (d ≡ full) → 1 ≤ full → full ≤ m → d ≤ m
most (inl e) p q = omega arith
most (inr e) p q = omega arith

pub mask_bounds : (c : Call) → limits_hold c ≡ true → mask_shape_holds c ≡ true → (c.mask ≡ Boolean) ⊎ (c.mask ≡ FloatMask) → (c.maskb ≤ 8) × ((c.maskh ≤ 32) × ((c.maskq ≤ 2048) × (c.maskk ≤ 2048)))
mask_bounds c l s m =
    let f = limits→facts c l in
    let g = shape→facts c s m in
    (most g.maskb f.batches_some f.batches_most, (most g.maskh f.qheads_some f.qheads_most, (most g.maskq f.qlen_some f.qlen_most, most g.maskk (omega arith) f.total_most)))
