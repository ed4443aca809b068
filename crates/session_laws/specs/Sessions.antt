-- Sessions that can be saved, the first positions of a session, and the positions of one behind those of another. Definitions only.
use Rattle.std.specs.Prelude.{◌≡◌, true, false, cond, List, ℕ, ◌+◌, ◌-◌, ◌*◌, ◌≤◌, ◌<◌, T, ltb, Float, length, get_or}
use Rattle.std.specs.Float.{nan, binary32}
use Rattle.std.specs.Float.Ieee.{fits}
use Rattle.call.specs.Contents.{element_fault}
use Rattle.session_file.specs.Sizes.{sizes_hold, most_positions, rows_of}
use Rattle.session_file.specs.Form.{Session, session_of, cache_cell, cache_of}

-- every element is an f32 of magnitude at most 65,536
abbrev pub AllWithin : List Float → Type 0
AllWithin cache = (i : ℕ) → i < length cache → T (fits binary32 (get_or cache i nan)) × (element_fault (get_or cache i nan) ≡ false)

-- sizes and positions within their limits, caches of the right lengths, elements within theirs
pub record Savable (s : Session) : Type 0 where
  pub limits : sizes_hold s.sizes ≡ true
  pub most : s.positions ≤ most_positions
  pub keys_length : length s.keys ≡ rows_of s.sizes * s.positions * s.sizes.size
  pub values_length : length s.values ≡ rows_of s.sizes * s.positions * s.sizes.vsize
  pub keys : AllWithin s.keys
  pub values : AllWithin s.values

-- the first m positions of a session
unfoldable pub first_positions : Session → ℕ → Session
unfolding cache_of
first_positions s m =
    let z = s.sizes in
    session_of z m (cache_of (rows_of z) m z.size (cache_cell s.positions z.size s.keys)) (cache_of (rows_of z) m z.vsize (cache_cell s.positions z.vsize s.values))

-- the cells of n positions and of those behind them
abbrev pub cell_behind : ℕ → (ℕ → ℕ → ℕ → Float) → (ℕ → ℕ → ℕ → Float) → (p r k : ℕ) → Float
cell_behind n first later p r k = cond (ltb p n) (first p r k) (later (p - n) r k)

-- the positions of `later` behind those of s, with the sizes of s
unfoldable pub both_of : (s later : Session) → Session
unfolding cache_of
both_of s later =
    let z = s.sizes in
    let n = s.positions in
    let m = later.positions in
    session_of z (n + m)
    (cache_of (rows_of z) (n + m) z.size (cell_behind n (cache_cell n z.size s.keys) (cache_cell m z.size later.keys)))
    (cache_of (rows_of z) (n + m) z.vsize (cell_behind n (cache_cell n z.vsize s.values) (cache_cell m z.vsize later.values)))
