-- The rows of a position: they are inside caches of the right lengths, their bytes have the lengths of the form, and none of their elements is a NaN where the position is without fault. Assumes nothing.
use mathlib.Core.Path.{◌≡◌, refl, sym, ap, ◌∙◌}
use mathlib.Core.Bool.{Bool, true, false, not, ◌||◌}
use mathlib.Core.List.{List, ◌++◌}
use Prim.Native.Nat.{ℕ, ◌+◌, ◌-◌, ◌*◌, ◌≤◌, ◌<◌}
use native.Mathlib.Omega.{arith}
use borrow.Author.Tests.{lt-ltb, le-ltb}
use lib.Dec.{T, ltb}
use lib.ListN.{length, get_or, take, drop, length-append}
use lib.Ieee.{Float, nan, is_nan}
use Rattle.bool_laws.proofs.Tests.{either_false}
use Rattle.session_file.proofs.Caches.{row_inside, length_row}
use Rattle.bool_laws.specs.Counts.{count_where}
use Rattle.tensor_laws.proofs.Parts.{length_part, row_end}
use Rattle.call.specs.Contents.{element_fault}
use Rattle.records.specs.Numbers.{row_bytes}
use Rattle.records.proofs.Numbers.{length_row_bytes}
use Rattle.session_file.specs.declared.Sizes.{Sizes}
use Rattle.session_file.specs.Below.{joined}
use Rattle.session_file.specs.Sizes.{sizes_hold, rows_of, pair_length, record_length}
use Rattle.session_file.specs.Form.{session_of, cache_row, pair_bytes, position_bytes}
use Rattle.session_file.specs.Writer.{row_fault, rows_fault}
use Rattle.session_file.proofs.Below.{none→each, each→none}
use Rattle.session_file.proofs.Elements.{sound→number}
use Rattle.session_file.proofs.Joined.{length_joined}
use Rattle.session_file.proofs.Limits.{SizesFacts, sizes→facts}
use Rattle.session_writer.specs.Fits.{CacheRowFits, CachesFit}
use Rattle.session_writer.proofs.Counts.{any_some}

-- ---- inside the caches

pub fit→facts : {z : Sizes} {n keys values : ℕ} → CachesFit z n keys values → SizesFacts z
fit→facts {z} fit = sizes→facts z fit.limits

module _ (z : Sizes) (n : ℕ) (keys values : List Float) (fit : CachesFit z n (length keys) (length values)) (p r : ℕ) (h : p < n) (l : r < rows_of z) where
  pub key_fits : CacheRowFits n z.size (length keys) p r
  key_fits =
      let f = fit→facts fit in
      record {
        positions = fit.positions;
        columns = f.size.1;
        row = omega (arith, f.rows.1);
        position = h;
        inside = row_inside (rows_of z) n z.size keys fit.keys_length p r h l;
      }

  pub value_fits : CacheRowFits n z.vsize (length values) p r
  value_fits =
      let f = fit→facts fit in
      record {
        positions = fit.positions;
        columns = f.vsize.1;
        row = omega (arith, f.rows.1);
        position = h;
        inside = row_inside (rows_of z) n z.vsize values fit.values_length p r h l;
      }

  pub length_key : length (cache_row n z.size keys p r) ≡ z.size
  length_key = length_row (rows_of z) n z.size keys fit.keys_length p r h l

  pub length_value : length (cache_row n z.vsize values p r) ≡ z.vsize
  length_value = length_row (rows_of z) n z.vsize values fit.values_length p r h l

  pub length_pair_bytes : length (pair_bytes (session_of z n keys values) p r) ≡ pair_length z
  unfolding pair_bytes
  length_pair_bytes =
      let k = cache_row n z.size keys p r in
      let v = cache_row n z.vsize values p r in
      omega (arith, length-append (row_bytes k) (row_bytes v), length_row_bytes k, length_row_bytes v, length_key, length_value)

module _ (z : Sizes) (n : ℕ) (keys values : List Float) (fit : CachesFit z n (length keys) (length values)) (p : ℕ) (h : p < n) where
  -- the first rows of a position
  pub length_pairs : (r : ℕ) → r ≤ rows_of z → length (joined (pair_bytes (session_of z n keys values) p) r) ≡ r * pair_length z
  length_pairs r l =
      length_joined (pair_bytes (session_of z n keys values) p) (pair_length z) r (λ k m. length_pair_bytes z n keys values fit p k h (omega arith))

  pub length_position_bytes : length (position_bytes (session_of z n keys values) p) ≡ record_length z
  unfolding position_bytes
  length_position_bytes = omega (arith, length_pairs (rows_of z) (omega arith))

-- ---- without fault

-- no element of a row without fault is a NaN
pub row_numbers : (row : List Float) → row_fault row ≡ false → (k : ℕ) → k < length row → T (not (is_nan (get_or row k nan)))
unfolding row_fault
row_numbers row e k h = sound→number (get_or row k nan) (none→each (λ j. element_fault (get_or row j nan)) (length row) e k h)

-- a row by the number of its faults
module _ (row given : List Float) (m : ℕ) (e : given ≡ row) (f : m ≡ count_where (length given) (λ k. element_fault (get_or given k nan))) where
  fault_is : ltb 0 m ≡ row_fault row
  unfolding row_fault
  fault_is = ap (ltb 0) f ∙ ap row_fault e

  pub row_faulty : 0 < m → row_fault row ≡ true
  row_faulty h = sym fault_is ∙ lt-ltb 0 m h

  pub row_sound : m ≤ 0 → row_fault row ≡ false
  row_sound h = sym fault_is ∙ le-ltb 0 m h

-- a row of a key or of a value has an element at fault
abbrev pub pair_fault : Sizes → ℕ → (keys values : List Float) → (p r : ℕ) → Bool
pair_fault z n keys values p r = row_fault (cache_row n z.size keys p r) || row_fault (cache_row n z.vsize values p r)

pub either_first : (a b : Bool) → a ≡ true → a || b ≡ true
either_first a b e = ap (λ (c : Bool). c || b) e

pub either_second : (a b : Bool) → b ≡ true → a || b ≡ true
either_second true b e = refl
either_second false b e = e

pub neither_of : (a b : Bool) → a ≡ false → b ≡ false → a || b ≡ false
neither_of a b e f = ap (λ (c : Bool). c || b) e ∙ f

-- the rows of a position without fault
sound_rows : (z : Sizes) (n : ℕ) (keys values : List Float) (p r : ℕ) → rows_fault (session_of z n keys values) p ≡ false → r < rows_of z
    → (row_fault (cache_row n z.size keys p r) ≡ false) × (row_fault (cache_row n z.vsize values p r) ≡ false)
unfolding rows_fault
sound_rows z n keys values p r e h =
    either_false (row_fault (cache_row n z.size keys p r)) (row_fault (cache_row n z.vsize values p r)) (none→each (pair_fault z n keys values p) (rows_of z) e r h)

module _ (z : Sizes) (n : ℕ) (keys values : List Float) (p : ℕ) where
  pub rows_faulty : (r : ℕ) → r < rows_of z → pair_fault z n keys values p r ≡ true → rows_fault (session_of z n keys values) p ≡ true
  unfolding rows_fault
  rows_faulty r h e = any_some (pair_fault z n keys values p) (rows_of z) r h e

  pub rows_sound : ((r : ℕ) → r < rows_of z → pair_fault z n keys values p r ≡ false) → rows_fault (session_of z n keys values) p ≡ false
  unfolding rows_fault
  rows_sound each = each→none (pair_fault z n keys values p) (rows_of z) each

-- a key row and a value row that are lent: their bytes
module _ (z : Sizes) (n : ℕ) (keys values : List Float) (p r : ℕ) (l : r < rows_of z) (key value : List Float) (e : key ≡ cache_row n z.size keys p r) (f : value ≡ cache_row n z.vsize values p r) where
  pub pair_is : row_bytes key ++ row_bytes value ≡ pair_bytes (session_of z n keys values) p r
  unfolding pair_bytes
  pair_is = λ j. row_bytes (e j) ++ row_bytes (f j)

  -- they may be written into the part of a record that is lent for them
  pub pair_asked : CachesFit z n (length keys) (length values) → p < n → rows_fault (session_of z n keys values) p ≡ false → (b : List ℕ) → length b ≡ record_length z
      → let from = 6 + r * pair_length z in
      (length (take (from + pair_length z - from) (drop from b)) ≡ (length key + length value) * 4) × ((row_fault key ≡ false) × (row_fault value ≡ false))
  pair_asked fit h g b d =
      let from = 6 + r * pair_length z in
      let part = length_part from (from + pair_length z - from) b (omega (arith, row_end (pair_length z) r (rows_of z) l)) in
      let s = sound_rows z n keys values p r g l in
      (omega (arith, ap length e, ap length f, length_key z n keys values fit p r h l, length_value z n keys values fit p r h l), (ap row_fault e ∙ s.0, ap row_fault f ∙ s.1))

-- a pair of rows ends inside its record, whose bytes can be counted
pub pair_inside : (z : Sizes) (r : ℕ) → sizes_hold z ≡ true → r < rows_of z → (6 + r * pair_length z + pair_length z ≤ record_length z) × (record_length z ≤ 524294)
pair_inside z r e h = (omega (arith, row_end (pair_length z) r (rows_of z) h), omega (arith, (sizes→facts z e).payload))
