-- The part of the two tensors that starts with a position's row: its elements are those of that position and of the ones behind it, and each of those rows ends inside it. The row itself and a run of rows: their elements and their lengths. Assumes nothing.
use mathlib.Core.Path.{◌≡◌, sym, ap, ◌∙◌}
use mathlib.Core.Bool.{Bool, true, false, cond}
use mathlib.Core.List.{List}
use Prim.Native.Nat.{ℕ, ◌+◌, ◌-◌, ◌*◌, ◌≤◌, ◌<◌}
use native.Mathlib.Nat.{add_assoc, zero-mul, add-mul, mul_assoc, mul-le-mul, mul-le-mul_right}
use native.Mathlib.Decide.{dec_lt}
use native.Mathlib.Omega.{arith}
use lib.Dec.{ltb, eqb}
use lib.ListN.{length, drop, length-drop}
use lib.Seq.{get_or-drop, get_or-take, length-take-le}
use lib.Ieee.{Float, nan}
use borrow.Author.Tests.{lt-ltb, le-ltb}
use Rattle.tensor_laws.specs.Layout.{slot}
use Rattle.softmax.specs.Lists.{element_of}
use Rattle.call.specs.declared.Call.{Call}
use Rattle.call.specs.Limits.{total_of, limits_hold}
use Rattle.call.proofs.Facts.{limits→facts}
use Rattle.attention.specs.Elements.{cell_at, position_cell}
use Rattle.caches.specs.Fits.{CacheFits}
use Rattle.caches.specs.Rows.{rows_from, position_row, stride_from, position_run}
use Rattle.caches.proofs.Starts.{at_position, past_row_end, incoming_row_end}

-- ---- the row m positions behind another starts m strides behind it: q is the test of the rank
start_behind_by : (q : Bool) (heads len size b h s m : ℕ)
    → cond q ((b * heads + h) * len + (s + m)) ((b * len + (s + m)) * heads + h) * size
    ≡ cond q ((b * heads + h) * len + s) ((b * len + s) * heads + h) * size + m * cond q size (heads * size)
start_behind_by true heads len size b h s m = omega (arith, add-mul ((b * heads + h) * len) (s + m) size, add-mul ((b * heads + h) * len) s size, add-mul s m size)
start_behind_by false heads len size b h s m =
    omega (
      arith,
      add-mul ((b * len + (s + m)) * heads) h size,
      add-mul ((b * len + s) * heads) h size,
      ap (λ (n : ℕ). n * size) (ap (λ (n : ℕ). n * heads) (sym (add_assoc (b * len) s m)) ∙ add-mul (b * len + s) m heads),
      add-mul ((b * len + s) * heads) (m * heads) size,
      mul_assoc m heads size,
    )

start_behind : (rank heads len size b h s m : ℕ) → slot rank heads len b h (s + m) * size ≡ slot rank heads len b h s * size + m * cond (eqb rank 4) size (heads * size)
start_behind rank = start_behind_by (eqb rank 4)

module _ (t : List Float) (rank heads len size b h s m : ℕ) where
  -- the elements of that row, seen from the start of the other
  element_behind : (k : ℕ) → element_of (drop (slot rank heads len b h s * size) t) (m * cond (eqb rank 4) size (heads * size) + k) ≡ cell_at t rank heads len size b h (s + m) k
  element_behind k =
      get_or-drop (slot rank heads len b h s * size) t (m * cond (eqb rank 4) size (heads * size) + k) nan
      ∙ ap (element_of t) (omega (arith, start_behind rank heads len size b h s m))

  -- its end, seen from the start of the other
  end_behind : slot rank heads len b h (s + m) * size + size ≤ length t
      → m * cond (eqb rank 4) size (heads * size) + size ≤ length (drop (slot rank heads len b h s * size) t)
  end_behind l = omega (arith, length-drop (slot rank heads len b h s * size) t, start_behind rank heads len size b h s m)

-- ---- the part that starts with position j's row, m positions on; where j is below P, so is j + m
module _ (c : Call) (past incoming : List Float) (size b g j m : ℕ) (f : j < c.past → j + m < c.past) where
  rows_from_cell : (k : ℕ) → element_of (rows_from c past incoming size b g j) (m * stride_from c size j + k) ≡ position_cell c past incoming size b g (j + m) k
  unfolding rows_from stride_from
  rows_from_cell k = go (dec_lt j c.past)
    where
      go : Dec (j < c.past) → element_of (rows_from c past incoming size b g j) (m * stride_from c size j + k) ≡ position_cell c past incoming size b g (j + m) k
      go (yes h) = rw (lt-ltb j c.past h, lt-ltb (j + m) c.past (f h)) (element_behind past 4 c.kvheads c.past size b g j m k)
      go (no h) =
          let l : c.past ≤ j = omega arith in
          rw (le-ltb j c.past l, le-ltb (j + m) c.past (omega arith))
          (element_behind incoming c.rank c.kvheads c.klen size b g (j - c.past) m k ∙ ap (λ (s : ℕ). cell_at incoming c.rank c.kvheads c.klen size b g s k) (omega arith))

  rows_from_inside : CacheFits c (length past) (length incoming) size b g j → j + m < total_of c → m * stride_from c size j + size ≤ length (rows_from c past incoming size b g j)
  unfolding rows_from stride_from
  rows_from_inside r t = go (dec_lt j c.past)
    where
      later : CacheFits c (length past) (length incoming) size b g (j + m)
      later = at_position r t

      go : Dec (j < c.past) → m * stride_from c size j + size ≤ length (rows_from c past incoming size b g j)
      go (yes h) = rw (lt-ltb j c.past h) (end_behind past 4 c.kvheads c.past size b g j m (past_row_end c _ _ size b g (j + m) later (f h)))
      go (no h) =
          let l : c.past ≤ j = omega arith in
          let e : j + m - c.past ≡ j - c.past + m = omega arith in
          rw (le-ltb j c.past l)
          (end_behind incoming c.rank c.kvheads c.klen size b g (j - c.past) m (rw e at (incoming_row_end c _ _ size b g (j + m) later (omega arith))))

-- ---- the row of position j itself
module _ (c : Call) (past incoming : List Float) (size b g j : ℕ) where
  behind_none : j < c.past → j + 0 < c.past
  behind_none h = omega arith

  -- it is inside the part that starts with it
  pub row_inside : CacheFits c (length past) (length incoming) size b g j → size ≤ length (rows_from c past incoming size b g j)
  row_inside f = omega (arith, rows_from_inside c past incoming size b g j 0 behind_none f (omega (arith, f.position)), zero-mul (stride_from c size j))

  pub row_long : CacheFits c (length past) (length incoming) size b g j → length (position_row c past incoming size b g j) ≡ size
  unfolding position_row
  row_long f = length-take-le size (rows_from c past incoming size b g j) (row_inside f)

  pub row_cell : (k : ℕ) → k < size → element_of (position_row c past incoming size b g j) k ≡ position_cell c past incoming size b g j k
  unfolding position_row
  row_cell k h =
      get_or-take size (rows_from c past incoming size b g j) k nan h
      ∙ ap (element_of (rows_from c past incoming size b g j)) (omega (arith, zero-mul (stride_from c size j)))
      ∙ rows_from_cell c past incoming size b g j 0 behind_none k
      ∙ ap (λ (i : ℕ). position_cell c past incoming size b g i k) (omega arith)

-- ---- the rows of n positions from j on, all in one of the two tensors
module _ (c : Call) (past incoming : List Float) (size b g j n : ℕ) (some : 0 < n) (together : j < c.past → j + n ≤ c.past) where
  behind : (m : ℕ) → m < n → j < c.past → j + m < c.past
  behind m l h = omega (arith, together h)

  -- each starts no later than the last
  start_most : (m : ℕ) → m < n → m * stride_from c size j ≤ (n - 1) * stride_from c size j
  start_most m l = let most : m ≤ n - 1 = omega arith in mul-le-mul_right (stride_from c size j) most

  -- the run is inside the part that starts with it
  pub run_inside : CacheFits c (length past) (length incoming) size b g j → j + n ≤ total_of c → (n - 1) * stride_from c size j + size ≤ length (rows_from c past incoming size b g j)
  run_inside f t = rows_from_inside c past incoming size b g j (n - 1) (behind (n - 1) (omega arith)) f (omega arith)

  -- each row is inside the run
  pub row_in_run : CacheFits c (length past) (length incoming) size b g j → j + n ≤ total_of c → (m : ℕ) → m < n → m * stride_from c size j + size ≤ length (position_run c past incoming size b g j n)
  unfolding position_run
  row_in_run f t m l = omega (arith, length-take-le ((n - 1) * stride_from c size j + size) (rows_from c past incoming size b g j) (run_inside f t), start_most m l)

  -- and has the elements of its position
  pub run_cell : (m : ℕ) → m < n → (k : ℕ) → k < size → element_of (position_run c past incoming size b g j n) (m * stride_from c size j + k) ≡ position_cell c past incoming size b g (j + m) k
  unfolding position_run
  run_cell m l k h =
      get_or-take ((n - 1) * stride_from c size j + size) (rows_from c past incoming size b g j) (m * stride_from c size j + k) nan (omega (arith, start_most m l))
      ∙ rows_from_cell c past incoming size b g j m (behind m l) k

-- a stride is small
pub stride_most : (c : Call) (size j : ℕ) → limits_hold c ≡ true → size ≤ 256 → stride_from c size j ≤ 8192
unfolding stride_from
stride_most c size j e h = go (ltb j c.past) (eqb c.rank 4)
  where
    heads : c.kvheads * size ≤ 32 * 256
    heads = mul-le-mul {n₂ = 32} {m₂ = 256} (limits→facts c e).kvheads_most h

    go : (before ranks : Bool) → cond before size (cond ranks size (c.kvheads * size)) ≤ 8192
    go true ranks = omega arith
    go false true = omega arith
    go false false = omega (arith, heads)
