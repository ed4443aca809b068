-- The lengths of caches do not wrap: bounds of the products of sizes within their limits with a number of positions. Assumes nothing.
use mathlib.Core.Path.{◌≡◌}
use mathlib.Core.Bool.{true}
use Prim.Native.Nat.{ℕ, ◌*◌, ◌≤◌}
use native.Mathlib.Nat.{mul-le-mul}
use Rattle.session_file.specs.declared.Sizes.{Sizes}
use Rattle.session_file.specs.Sizes.{sizes_hold, rows_of}
use Rattle.session_file.proofs.Limits.{sizes→facts}

-- the rows of n positions
pub rows_most : (z : Sizes) (n : ℕ) → sizes_hold z ≡ true → n ≤ 2048 → rows_of z * n ≤ 524288
rows_most z n e l = mul-le-mul (sizes→facts z e).rows.1 l

-- a cache of rows of that size
pub cache_most : (z : Sizes) (n size : ℕ) → sizes_hold z ≡ true → n ≤ 2048 → size ≤ 256 → rows_of z * n * size ≤ 134217728
cache_most z n size e l s = mul-le-mul (rows_most z n e l) s
