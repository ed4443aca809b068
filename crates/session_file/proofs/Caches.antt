-- A cache by its cells: where a cell stands, when two caches are equal, and the rows of one. Assumes nothing.
use mathlib.Core.Path.{◌≡◌, sym, ap, ◌∙◌, subst}
use mathlib.Core.List.{List}
use Prim.Native.Nat.{ℕ, ◌+◌, ◌*◌, ◌≤◌, ◌<◌}
use native.Mathlib.Nat.{one-mul, zero-mul, zero-add}
use native.Mathlib.Omega.{arith}
use lib.Arith.{digits_lt}
use lib.Dec.{lit<}
use lib.Ieee.{Float, nan}
use lib.ListN.{length, get_or, drop}
use lib.Seq.{ext_get_or, get_or-take, get_or-drop}
use Rattle.tensor_laws.specs.Layout.{slot}
use Rattle.tensor_laws.proofs.Cells.{length_tensor_of, get_or_tensor_of, tensor_of_ext, by_cells as by-tensor-cells}
use Rattle.tensor_laws.proofs.Parts.{length_part, row_end}
use Rattle.session_file.specs.Form.{cache_cell, cache_row, cache_of}

module _ (rows n size : ℕ) where
  one_batch : 1 * rows * n * size ≡ rows * n * size
  one_batch = ap (λ (m : ℕ). m * n * size) (one-mul rows)

  first_batch : (b p r k : ℕ) → b < 1 → slot 4 rows n b r p * size + k ≡ (r * n + p) * size + k
  first_batch b p r k h =
      let e : b ≡ 0 = omega arith in
      ap (λ (m : ℕ). (m * n + p) * size + k) (ap (λ (c : ℕ). c * rows + r) e ∙ ap (λ (c : ℕ). c + r) (zero-mul rows) ∙ zero-add r)

  pub length_cache : (cell : ℕ → ℕ → ℕ → Float) → length (cache_of rows n size cell) ≡ rows * n * size
  unfolding cache_of
  length_cache cell = length_tensor_of 4 1 rows n size (λ b r p k. cell p r k) ∙ one_batch

  -- a cell's index is inside the cache
  pub cell_inside : (p r k : ℕ) → p < n → r < rows → k < size → (r * n + p) * size + k < rows * n * size
  cell_inside p r k hp hr hk = digits_lt (digits_lt hr hp) hk

  pub get_or_cache : (cell : ℕ → ℕ → ℕ → Float) (p r k : ℕ) → p < n → r < rows → k < size → cache_cell n size (cache_of rows n size cell) p r k ≡ cell p r k
  unfolding cache_of
  get_or_cache cell p r k hp hr hk =
      ap (λ (i : ℕ). get_or (cache_of rows n size cell) i nan) (sym (first_batch 0 p r k (lit< tt)))
      ∙ get_or_tensor_of 4 1 rows n size (λ b r p k. cell p r k) 0 r p k nan (lit< tt) hr hp hk

  pub cache_ext : (f g : ℕ → ℕ → ℕ → Float) → ((p r k : ℕ) → p < n → r < rows → k < size → f p r k ≡ g p r k) → cache_of rows n size f ≡ cache_of rows n size g
  unfolding cache_of
  cache_ext f g e = tensor_of_ext 4 1 rows n size (λ b r p k. f p r k) (λ b r p k. g p r k) (λ b r p k hb hr hp hk. e p r k hp hr hk)

  -- what holds at every cell's index holds at every index
  pub by_cells : (P : ℕ → Type 0) → ((p r k : ℕ) → p < n → r < rows → k < size → P ((r * n + p) * size + k)) → (i : ℕ) → i < rows * n * size → P i
  by_cells P holds i l =
      by-tensor-cells 4 1 rows n size P (λ b r p k hb hr hp hk. subst P (sym (first_batch b p r k hb)) (holds p r k hp hr hk)) i (omega (arith, one_batch, l))

  -- a cache of the right length is that of its cells
  pub cache_of_cells : (cache : List Float) (cell : ℕ → ℕ → ℕ → Float) → length cache ≡ rows * n * size → ((p r k : ℕ) → p < n → r < rows → k < size → cache_cell n size cache p r k ≡ cell p r k)
      → cache ≡ cache_of rows n size cell
  cache_of_cells cache cell long e =
      ext_get_or nan cache (cache_of rows n size cell) (long ∙ sym (length_cache cell)) (λ i l. by_cells (λ j. get_or cache j nan ≡ get_or (cache_of rows n size cell) j nan) (λ p r k hp hr hk. e p r k hp hr hk ∙ sym (get_or_cache cell p r k hp hr hk)) i (omega (arith, long, l)))

-- ---- a row

module _ (rows n size : ℕ) (cache : List Float) (long : length cache ≡ rows * n * size) (p r : ℕ) (hp : p < n) (hr : r < rows) where
  -- it ends inside the cache
  pub row_inside : (r * n + p) * size + size ≤ length cache
  row_inside = omega (arith, row_end size (r * n + p) (rows * n) (digits_lt hr hp))

  pub length_row : length (cache_row n size cache p r) ≡ size
  length_row = length_part ((r * n + p) * size) size cache row_inside

  pub row_cell : (k : ℕ) → k < size → get_or (cache_row n size cache p r) k nan ≡ cache_cell n size cache p r k
  row_cell k h = get_or-take size (drop ((r * n + p) * size) cache) k nan h ∙ get_or-drop ((r * n + p) * size) cache k nan
