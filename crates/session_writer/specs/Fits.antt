-- What the writer's functions are lent: rows inside a cache, and caches of the right lengths. Definitions only.
use Rattle.std.specs.Prelude.{◌≡◌, true, ℕ, ◌+◌, ◌*◌, ◌≤◌, ◌<◌}
use Rattle.session_file.specs.declared.Sizes.{Sizes}
use Rattle.session_file.specs.Sizes.{sizes_hold, rows_of}

-- row r of position p is inside a cache of n positions and of that length
pub record CacheRowFits (n size long p r : ℕ) : Type 0 where
  pub positions : n ≤ 2048
  pub columns : size ≤ 256
  pub row : r < 256
  pub position : p < n
  pub inside : (r * n + p) * size + size ≤ long

-- caches of n positions
pub record CachesFit (z : Sizes) (n keys values : ℕ) : Type 0 where
  pub limits : sizes_hold z ≡ true
  pub positions : n ≤ 2048
  pub keys_length : keys ≡ rows_of z * n * z.size
  pub values_length : values ≡ rows_of z * n * z.vsize
