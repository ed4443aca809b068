-- The row that a turn of the loading loop reads and writes: position and row by the turn's number, that it ends inside the file and inside the cache, that its patterns are numbers, and what is read. Assumes nothing.
use mathlib.Core.Path.{◌≡◌, sym, ap, ◌∙◌, subst}
use mathlib.Core.Bool.{Bool, true, false, not}
use mathlib.Core.List.{List}
use Prim.Native.Nat.{ℕ, ◌+◌, ◌*◌, ◌/◌, ◌%◌, ◌≤◌, ◌<◌}
use native.Mathlib.Nat.{mul_comm, mod-lt, div-lt_iff_lt-mul}
use native.Mathlib.Omega.{arith}
use lib.Arith.{digits_lt}
use lib.Dec.{T}
use lib.ListN.{length, get_or, take, drop}
use lib.Ieee.{Float, binary32, is_nan, nan_bits}
use lib.Ieee.Bits.{nan_bits_is}
use Rattle.tensor_laws.proofs.Parts.{row_end}
use Rattle.tensor_laws.proofs.Tabulate.{length_tabulate, get_or_tabulate}
use Rattle.records.specs.Numbers.{u32_at, f32_at, row_at}
use Rattle.records.proofs.Places.{u32_at_take, u32_at_drop, row_at_part}
use Rattle.session_file.specs.declared.Sizes.{Sizes}
use Rattle.session_file.specs.Sizes.{sizes_hold, rows_of, pair_length, record_length, record_start}
use Rattle.session_file.specs.Reader.{payload_fault, position_fault}
use Rattle.session_file.proofs.Limits.{sizes→facts}
use Rattle.session_file.proofs.Below.{none→each}
use Rattle.session_file.proofs.Elements.{sound→number}

-- where row r of position q begins in the file: the rows begin `behind` bytes into each pair
abbrev pub row_from : Sizes → (behind q r : ℕ) → ℕ
row_from z behind q r = record_start z q + 6 + r * pair_length z + behind

-- turn i is row i % rows of position i / rows
pub record RowFacts (z : Sizes) (n behind size i : ℕ) : Type 0 where
  pub position : i / rows_of z < n
  pub row : i % rows_of z < rows_of z
  pub number : i % rows_of z * n + i / rows_of z < rows_of z * n
  pub from : row_from z behind (i / rows_of z) (i % rows_of z) + size * 4 ≤ record_start z n
  pub to : (i % rows_of z * n + i / rows_of z) * size + size ≤ rows_of z * n * size

pub row_facts : (z : Sizes) (n behind size i : ℕ) → sizes_hold z ≡ true → behind + size * 4 ≤ pair_length z → i < rows_of z * n → RowFacts z n behind size i
row_facts z n behind size i e b l =
    let some : 0 < rows_of z = (sizes→facts z e).rows.0 in
    let q : i / rows_of z < n = (div-lt_iff_lt-mul some).1 (rw (mul_comm n (rows_of z)) l) in
    let r : i % rows_of z < rows_of z = mod-lt i some in
    record {
      position = q;
      row = r;
      number = digits_lt r q;
      from = omega (arith, row_end (pair_length z) (i % rows_of z) (rows_of z) r, row_end (record_length z) (i / rows_of z) n q);
      to = row_end size (i % rows_of z * n + i / rows_of z) (rows_of z * n) (digits_lt r q);
    }

-- ---- the patterns of a row of a position without fault are numbers

module _ (z : Sizes) (file : List ℕ) (behind size q r k : ℕ) (sound : position_fault z file q ≡ false) (in_pair : behind + size * 4 ≤ pair_length z) (whole : behind % 4 ≡ 0) (hr : r < rows_of z) (hk : k < size) where
  pub element_sound : T (not (is_nan (f32_at file (row_from z behind q r + k * 4))))
  unfolding position_fault
  element_sound =
      let m = r * (z.size + z.vsize) + (behind / 4 + k) in
      let l : m < rows_of z * (z.size + z.vsize) = digits_lt {q = r} {m = rows_of z} {r = behind / 4 + k} {c = z.size + z.vsize} hr (omega arith) in
      let place : record_start z q + 6 + m * 4 ≡ row_from z behind q r + k * 4 = omega arith in
      subst (λ (i : ℕ). T (not (is_nan (f32_at file i)))) place
      (sound→number (f32_at file (record_start z q + 6 + m * 4)) (none→each (payload_fault file (record_start z q + 6)) (rows_of z * (z.size + z.vsize)) sound m l))

  -- in the part that is lent
  pub pattern_sound : (from long : ℕ) → from ≡ row_from z behind q r → size * 4 ≤ long → T (not (nan_bits binary32 (u32_at (take long (drop from file)) (k * 4))))
  unfolding f32_at
  pattern_sound from long e h =
      let bits : u32_at (take long (drop from file)) (k * 4) ≡ u32_at file (row_from z behind q r + k * 4) =
      u32_at_take long (k * 4) (drop from file) (omega arith) ∙ u32_at_drop from (k * 4) file ∙ ap (λ (i : ℕ). u32_at file (i + k * 4)) e
      in
      subst (λ (b : Bool). T (not b)) (sym (ap (nan_bits binary32) bits ∙ nan_bits_is binary32 (u32_at file (row_from z behind q r + k * 4)))) element_sound

-- ---- what is read

pub length_row : (s : List ℕ) (i n : ℕ) → length (row_at s i n) ≡ n
unfolding row_at
length_row s i n = length_tabulate n (λ k. f32_at s (i + k * 4))

-- of a part that is lent
pub row_read : (from long size k : ℕ) (file : List ℕ) (d : Float) → size * 4 ≤ long → k < size → get_or (row_at (take long (drop from file)) 0 size) k d ≡ f32_at file (from + k * 4)
unfolding row_at
row_read from long size k file d h l =
    ap (λ (t : List Float). get_or t k d) (row_at_part from long size file h)
    ∙ get_or_tabulate size (λ j. f32_at file (from + j * 4)) k d l
