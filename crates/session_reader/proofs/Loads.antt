-- A cache that is filled row by row, in the order of the positions: nothing filled, one row more, and everything. Row r of position q is the cache's row r * n + q. Assumes nothing.
use mathlib.Core.Path.{◌≡◌, sym, ap, ◌∙◌}
use mathlib.Core.List.{List}
use Prim.Native.Nat.{ℕ, ◌+◌, ◌*◌, ◌/◌, ◌%◌, ◌≤◌, ◌<◌}
use native.Mathlib.Nat.{mul_comm, mod-lt, div-lt_iff_lt-mul, div-add-mod'}
use native.Mathlib.Decide.{ℕ_discrete}
use native.Mathlib.Omega.{arith}
use lib.Arith.{digits_lt, digits_div, digits_mod}
use lib.ListN.{length, get_or}
use lib.Ieee.{Float, nan}
use Rattle.session_file.proofs.Caches.{cache_of_cells}
use Rattle.session_file.specs.Form.{cache_of}
use Rattle.tensor_laws.proofs.Parts.{with_part, row_end, length_with_part, get_or_row_same, get_or_row_other}

-- after i rows: element k of row r of position q is what cell gives, where that row came before
pub record LoadedTo (rows n size : ℕ) (cell : ℕ → ℕ → ℕ → Float) (cache : List Float) (i : ℕ) : Type 0 where
  pub long : length cache ≡ rows * n * size
  pub each : (q r k : ℕ) → q < n → r < rows → k < size → q * rows + r < i → get_or cache ((r * n + q) * size + k) nan ≡ cell q r k

module _ (rows n size : ℕ) (cell : ℕ → ℕ → ℕ → Float) (cache : List Float) where
  pub loaded_none : length cache ≡ rows * n * size → LoadedTo rows n size cell cache 0
  loaded_none l = record { long = l; each = λ q r k hq hr hk h. absurd (omega arith) }

  -- the row of turn i
  module _ (i : ℕ) (some : 0 < rows) (h : i < rows * n) (row : List Float) (long : length row ≡ size) (t : LoadedTo rows n size cell cache i) where
    position_lt : i / rows < n
    position_lt = (div-lt_iff_lt-mul some).1 (rw (mul_comm n rows) h)

    row_lt : i % rows < rows
    row_lt = mod-lt i some

    inside : (i % rows * n + i / rows) * size + size ≤ length cache
    inside = omega (arith, row_end size (i % rows * n + i / rows) (rows * n) (digits_lt row_lt position_lt), t.long)

    -- another turn's row is another row of the cache
    other : (q r : ℕ) → q < n → r < rows → (q * rows + r ≡ i → ⊥) → r * n + q ≡ i % rows * n + i / rows → ⊥
    other q r hq hr x e =
        let a : q ≡ i / rows = sym (digits_mod r hq) ∙ ap (λ (m : ℕ). m % n) e ∙ digits_mod (i % rows) position_lt in
        let b : r ≡ i % rows = sym (digits_div r hq) ∙ ap (λ (m : ℕ). m / n) e ∙ digits_div (i % rows) position_lt in
        x ((λ j. a j * rows + b j) ∙ div-add-mod' i rows)

    pub loaded_next : ((k : ℕ) → k < size → get_or row k nan ≡ cell (i / rows) (i % rows) k) → LoadedTo rows n size cell (with_part ((i % rows * n + i / rows) * size) size cache row) (i + 1)
    loaded_next cells = record {
      long = length_with_part ((i % rows * n + i / rows) * size) size cache row long inside ∙ t.long;
      each = λ q r k hq hr hk l. at_or_before q r k hq hr hk l (ℕ_discrete (q * rows + r) i);
    }
      where
        at_or_before : (q r k : ℕ) → q < n → r < rows → k < size → q * rows + r < i + 1 → Dec (q * rows + r ≡ i)
            → get_or (with_part ((i % rows * n + i / rows) * size) size cache row) ((r * n + q) * size + k) nan ≡ cell q r k
        at_or_before q r k hq hr hk l (yes e) =
            let a : i / rows ≡ q = ap (λ (m : ℕ). m / rows) (sym e) ∙ digits_div q hr in
            let b : i % rows ≡ r = ap (λ (m : ℕ). m % rows) (sym e) ∙ digits_mod q hr in
            ap (λ (m : ℕ). get_or (with_part ((i % rows * n + i / rows) * size) size cache row) (m * size + k) nan) (λ j. sym b j * n + sym a j)
            ∙ get_or_row_same size (i % rows * n + i / rows) cache row nan long inside k hk
            ∙ cells k hk
            ∙ (λ j. cell (a j) (b j) k)
        at_or_before q r k hq hr hk l (no x) =
            get_or_row_other size (i % rows * n + i / rows) cache row nan long inside (r * n + q) k (other q r hq hr x) hk
            ∙ t.each q r k hq hr hk (omega arith)

  pub loaded_all : (i : ℕ) → rows * n ≤ i → LoadedTo rows n size cell cache i → cache ≡ cache_of rows n size cell
  loaded_all i h t =
      cache_of_cells rows n size cache cell t.long
      (λ q r k hq hr hk. t.each q r k hq hr hk (omega (arith, digits_lt {q = q} {m = n} {r = r} {c = rows} hq hr, mul_comm n rows)))
