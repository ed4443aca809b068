-- The file of the session that stands in a file is that file, up to the end of its last whole record. Assumes nothing.
use mathlib.Core.Path.{◌≡◌, sym, ap, ◌∙◌}
use mathlib.Core.List.{List, ◌++◌}
use Prim.Native.Nat.{ℕ, zero, suc, ◌+◌, ◌*◌, ◌≤◌, ◌<◌}
use native.Mathlib.Nat.{zero-mul, suc-mul}
use native.Mathlib.Omega.{arith}
use lib.Ieee.{nan}
use lib.ListN.{length, get_or, take, drop}
use lib.Seq.{ext_get_or}
use Rattle.session_file.proofs.Caches.{get_or_cache, length_row, row_cell}
use Rattle.tensor_laws.proofs.Tabulate.{length_tabulate, get_or_tabulate}
use Rattle.records.specs.Numbers.{row_bytes, f32_at, row_at}
use Rattle.records.specs.Records.{head_bytes}
use Rattle.records.proofs.Numbers.{take_join, u16_bytes_lem, row_bytes_lem}
use Rattle.records.proofs.Records.{head_bytes_lem}
use Rattle.session_file.specs.declared.Sizes.{Sizes}
use Rattle.session_file.specs.Below.{joined}
use Rattle.session_file.specs.Sizes.{rows_of, pair_length, payload_length, record_length, record_start}
use Rattle.session_file.specs.Form.{Session, cache_row, pair_bytes, position_bytes, sizes_bytes, file_of}
use Rattle.session_file.specs.Reader.{cache_at, session_at, file_cell}
use Rattle.session_file.proofs.Elements.{sound→number}
use Rattle.session_file.proofs.Joined.{joined_ext}
use Rattle.session_file.proofs.Walks.{Standing}
use Rattle.session_laws.proofs.Cuts.{first→head, record_end}
use Rattle.session_laws.proofs.Given.{cache_at_is, pair_end, cell_sound, length_cache_at, standing→savable}
use Rattle.session_laws.proofs.Stands.{length_payload}

-- parts of one length, one after the other
joined_parts : (s : List ℕ) (i w n : ℕ) → joined (λ p. take w (drop (i + p * w) s)) n ≡ take (n * w) (drop i s)
unfolding joined
joined_parts s i w zero = ap (λ (m : ℕ). take m (drop i s)) (sym (zero-mul w))
joined_parts s i w (suc n) =
    ap (λ (r : List ℕ). r ++ take w (drop (i + n * w) s)) (joined_parts s i w n)
    ∙ take_join s i (n * w) w
    ∙ ap (λ (m : ℕ). take m (drop i s)) (sym (suc-mul n w))

module _ (file : List ℕ) (z : Sizes) (n : ℕ) (s : Standing file z n) (small : (k : ℕ) → get_or file k 0 < 256) where
  abbrev found : Session
  found = session_at z file n

  -- ---- the first record

  first_bytes : sizes_bytes z ≡ take 14 file
  first_bytes =
      let long : 14 ≤ length file = omega (arith, s.inside) in
      ap sizes_bytes s.sizes
      ∙ (λ i. head_bytes_lem file small 0 8 1 (omega arith) (first→head file s.first) i ++ (u16_bytes_lem file small 6 (omega arith) i ++ (u16_bytes_lem file small 8 (omega arith) i ++ (u16_bytes_lem file small 10 (omega arith) i ++ u16_bytes_lem file small 12 (omega arith) i))))
      ∙ ap (λ (r : List ℕ). take 6 (drop 0 file) ++ (take 2 (drop 6 file) ++ (take 2 (drop 8 file) ++ r))) (take_join file 10 2 2)
      ∙ ap (λ (r : List ℕ). take 6 (drop 0 file) ++ (take 2 (drop 6 file) ++ r)) (take_join file 8 2 4)
      ∙ ap (λ (r : List ℕ). take 6 (drop 0 file) ++ r) (take_join file 6 2 6)
      ∙ take_join file 0 6 8

  -- ---- the record of a position

  module _ (p : ℕ) (hp : p < n) where
    abbrev at : ℕ
    at = record_start z p

    inside : at + record_length z ≤ length file
    inside = omega (arith, record_end z p n hp, s.inside)

    -- a row, `before` elements into its pair
    row_back : (r before size : ℕ) → r < rows_of z → before + size ≤ z.size + z.vsize
        → row_bytes (cache_row n size (cache_at z file n (before * 4) size) p r) ≡ take (size * 4) (drop (at + 6 + r * pair_length z + before * 4) file)
    unfolding row_at
    row_back r before size hr fit =
        let from = at + 6 + r * pair_length z + before * 4 in
        let cache = cache_at z file n (before * 4) size in
        let cells = file_cell z file (before * 4) in
        let long = length_cache_at z file n (before * 4) size in
        let row : cache_row n size cache p r ≡ row_at file from size =
        ext_get_or nan (cache_row n size cache p r) (row_at file from size) (length_row (rows_of z) n size cache long p r hp hr ∙ sym (length_tabulate size (λ k. f32_at file (from + k * 4))))
        (λ k h.
        let l : k < size = omega (arith, h, length_row (rows_of z) n size cache long p r hp hr) in
        row_cell (rows_of z) n size cache long p r hp hr k l
        ∙ (λ i. get_or (cache_at_is z file n (before * 4) size i) ((r * n + p) * size + k) nan)
        ∙ get_or_cache (rows_of z) n size cells p r k hp hr l
        ∙ sym (get_or_tabulate size (λ j. f32_at file (from + j * 4)) k nan l)) in
        let e = pair_end z p r hr in
        ap row_bytes row
        ∙ row_bytes_lem file small size from (omega (arith, inside)) (λ k h. sound→number (f32_at file (from + k * 4)) (cell_sound z file n s before size fit p r k hp hr h))

    pair_back : (r : ℕ) → r < rows_of z → pair_bytes found p r ≡ take (pair_length z) (drop (at + 6 + r * pair_length z) file)
    unfolding pair_bytes session_at
    pair_back r hr =
        let from = at + 6 + r * pair_length z in
        let w : z.size * 4 + z.vsize * 4 ≡ pair_length z = omega arith in
        let none : from + 0 * 4 ≡ from = omega arith in
        (λ i. (row_back r 0 z.size hr (omega arith) ∙ ap (λ (m : ℕ). take (z.size * 4) (drop m file)) none) i ++ row_back r z.size z.vsize hr (omega arith) i)
        ∙ take_join file from (z.size * 4) (z.vsize * 4)
        ∙ ap (λ (m : ℕ). take m (drop from file)) w

    payload_back : joined (pair_bytes found p) (rows_of z) ≡ take (payload_length z) (drop (at + 6) file)
    payload_back =
        joined_ext (pair_bytes found p) (λ r. take (pair_length z) (drop (at + 6 + r * pair_length z) file)) (rows_of z) pair_back
        ∙ joined_parts file (at + 6) (pair_length z) (rows_of z)

    position_back : position_bytes found p ≡ take (record_length z) (drop at file)
    unfolding position_bytes session_at
    position_back =
        ap (λ (m : ℕ). head_bytes m 2 ++ joined (pair_bytes found p) (rows_of z)) (length_payload found (standing→savable file z n s) p hp)
        ∙ (λ i. head_bytes_lem file small at (payload_length z) 2 (omega (arith, inside)) (s.heads p hp) i ++ payload_back i)
        ∙ take_join file at 6 (payload_length z)

  -- ---- the file

  pub rewritten : file_of found ≡ take (record_start z n) file
  unfolding file_of session_at
  rewritten =
      (λ i. first_bytes i ++ joined_ext (position_bytes found) (λ p. take (record_length z) (drop (14 + p * record_length z) file)) n position_back i)
      ∙ ap (λ (r : List ℕ). take 14 file ++ r) (joined_parts file 14 (record_length z) n)
      ∙ take_join file 0 14 (n * record_length z)
