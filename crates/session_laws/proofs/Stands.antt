-- The record of a position of a session, where it stands in a file: its length, its head, its cells, and that no element is at fault. Assumes nothing.
use mathlib.Core.Path.{◌≡◌, sym, ap, ◌∙◌, subst}
use mathlib.Core.Bool.{true, false}
use mathlib.Core.List.{List, ◌++◌, append_assoc}
use Prim.Native.Nat.{ℕ, ◌+◌, ◌-◌, ◌*◌, ◌/◌, ◌%◌, ◌<◌}
use native.Mathlib.Nat.{mul_assoc, add-mul, div-lt_iff_lt-mul, div-add-mod', mod-lt}
use native.Mathlib.Decide.{dec_lt}
use native.Mathlib.Omega.{arith}
use lib.Dec.{T}
use lib.Ieee.{Float, nan, binary32, fits}
use lib.ListN.{length, get_or, length-append}
use Rattle.session_file.proofs.Caches.{cell_inside, length_row, row_cell}
use Rattle.tensor_laws.proofs.Tabulate.{get_or_tabulate}
use Rattle.call.specs.Contents.{element_fault}
use Rattle.records.specs.Numbers.{row_bytes, f32_at, row_at}
use Rattle.records.specs.Records.{head_bytes, head_is}
use Rattle.records.proofs.Numbers.{length_row_bytes, row_written}
use Rattle.records.proofs.Records.{head_written}
use Rattle.session_file.specs.declared.Sizes.{Sizes}
use Rattle.session_file.specs.Below.{joined}
use Rattle.session_file.specs.Sizes.{rows_of, pair_length, payload_length, record_length, record_start}
use Rattle.session_file.specs.Form.{Session, cache_row, pair_bytes, position_bytes, cache_cell}
use Rattle.session_file.specs.Reader.{payload_fault, position_fault}
use Rattle.session_file.proofs.Below.{each→none}
use Rattle.session_file.proofs.Joined.{length_joined, joined_split}
use Rattle.session_file.proofs.Limits.{sizes→facts}
use Rattle.session_laws.specs.Sessions.{AllWithin, Savable}

-- ---- a row of a cache

module _ (rows n size : ℕ) (cache : List Float) (long : length cache ≡ rows * n * size) (p r : ℕ) (hp : p < n) (hr : r < rows) where
  long_row : length (cache_row n size cache p r) ≡ size
  long_row = length_row rows n size cache long p r hp hr

  cell_at : (k : ℕ) → k < size → get_or (cache_row n size cache p r) k nan ≡ cache_cell n size cache p r k
  cell_at = row_cell rows n size cache long p r hp hr

  row_fits : AllWithin cache → (k : ℕ) → k < length (cache_row n size cache p r) → T (fits binary32 (get_or (cache_row n size cache p r) k nan))
  row_fits w k h =
      let l : k < size = omega (arith, long_row, h) in
      subst (λ (x : Float). T (fits binary32 x)) (sym (cell_at k l)) (w ((r * n + p) * size + k) (omega (arith, cell_inside rows n size p r k hp hr l, long))).0

  -- a row whose bytes stand in a file, by its cells
  row_read : AllWithin cache → (file front back : List ℕ) (at : ℕ) → file ≡ front ++ (row_bytes (cache_row n size cache p r) ++ back) → length front ≡ at
      → (k : ℕ) → k < size → f32_at file (at + k * 4) ≡ cache_cell n size cache p r k
  unfolding row_at
  row_read w file front back at e l k h =
      let row = cache_row n size cache p r in
      sym (get_or_tabulate size (λ j. f32_at file (at + j * 4)) k nan h)
      ∙ ap (λ (t : List Float). get_or t k nan) ((λ i. row_at (e i) (sym l i) (sym long_row i)) ∙ row_written row (row_fits w) front back)
      ∙ cell_at k h

-- ---- a record

module _ (s : Session) (w : Savable s) (p : ℕ) (hp : p < s.positions) where
  abbrev z : Sizes
  z = s.sizes

  abbrev n : ℕ
  n = s.positions

  pub length_pair : (r : ℕ) → r < rows_of z → length (pair_bytes s p r) ≡ pair_length z
  unfolding pair_bytes
  length_pair r hr =
      let key = cache_row n z.size s.keys p r in
      let value = cache_row n z.vsize s.values p r in
      omega (arith, length-append (row_bytes key) (row_bytes value), length_row_bytes key, length_row_bytes value, length_row (rows_of z) n z.size s.keys w.keys_length p r hp hr, length_row (rows_of z) n z.vsize s.values w.values_length p r hp hr)

  pub length_payload : length (joined (pair_bytes s p) (rows_of z)) ≡ payload_length z
  length_payload = length_joined (pair_bytes s p) (pair_length z) (rows_of z) length_pair

  pub length_position : length (position_bytes s p) ≡ record_length z
  unfolding position_bytes
  length_position =
      let payload = joined (pair_bytes s p) (rows_of z) in
      omega (arith, length-append (head_bytes (length payload) 2) payload, length_payload)

  module _ (file front back : List ℕ) (at : ℕ) (e : file ≡ front ++ (position_bytes s p ++ back)) (l : length front ≡ at) where
    abbrev payload : List ℕ
    payload = joined (pair_bytes s p) (rows_of z)

    -- the head, and then the payload
    in_parts : file ≡ front ++ (head_bytes (payload_length z) 2 ++ (payload ++ back))
    unfolding position_bytes
    in_parts =
        e
        ∙ ap (λ (t : List ℕ). front ++ t) (append_assoc (head_bytes (length payload) 2) payload back)
        ∙ ap (λ (m : ℕ). front ++ (head_bytes m 2 ++ (payload ++ back))) length_payload

    pub head_stands : head_is file at (payload_length z) 2 ≡ true
    head_stands =
        (λ i. head_is (in_parts i) (sym l i) (payload_length z) 2)
        ∙ head_written (payload_length z) 2 (omega (arith, (sizes→facts z w.limits).payload)) (omega arith) front (payload ++ back)

    module _ (r : ℕ) (hr : r < rows_of z) where
      abbrev key : List Float
      key = cache_row n z.size s.keys p r

      abbrev value : List Float
      value = cache_row n z.vsize s.values p r

      abbrev before : List ℕ
      before = front ++ (head_bytes (payload_length z) 2 ++ joined (pair_bytes s p) r)

      abbrev behind : List ℕ
      behind = (joined_split (pair_bytes s p) (rows_of z) r hr).0 ++ back

      long_before : length before ≡ at + 6 + r * pair_length z
      long_before =
          let h = head_bytes (payload_length z) 2 in
          let j = joined (pair_bytes s p) r in
          omega (arith, length-append front (h ++ j), length-append h j, length_joined (pair_bytes s p) (pair_length z) r (λ i m. length_pair i (omega arith)), l)

      -- the pair of rows, and what stands before and behind it
      pair_stands : file ≡ before ++ (row_bytes key ++ (row_bytes value ++ behind))
      unfolding pair_bytes
      pair_stands =
          let h = head_bytes (payload_length z) 2 in
          let j = joined (pair_bytes s p) r in
          let q = joined_split (pair_bytes s p) (rows_of z) r hr in
          in_parts
          ∙ ap (λ (t : List ℕ). front ++ (h ++ (t ++ back))) q.1
          ∙ ap (λ (t : List ℕ). front ++ (h ++ t)) (append_assoc j (pair_bytes s p r ++ q.0) back)
          ∙ ap (λ (t : List ℕ). front ++ t) (sym (append_assoc h j ((pair_bytes s p r ++ q.0) ++ back)))
          ∙ sym (append_assoc front (h ++ j) ((pair_bytes s p r ++ q.0) ++ back))
          ∙ ap (λ (t : List ℕ). before ++ t) (append_assoc (pair_bytes s p r) q.0 back ∙ append_assoc (row_bytes key) (row_bytes value) (q.0 ++ back))

      pub key_stands : (k : ℕ) → k < z.size → f32_at file (at + 6 + r * pair_length z + 0 + k * 4) ≡ cache_cell n z.size s.keys p r k
      key_stands k h =
          ap (λ (i : ℕ). f32_at file (i + k * 4)) (omega arith)
          ∙ row_read (rows_of z) n z.size s.keys w.keys_length p r hp hr w.keys file before (row_bytes value ++ behind) (at + 6 + r * pair_length z) pair_stands long_before k h

      pub value_stands : (k : ℕ) → k < z.vsize → f32_at file (at + 6 + r * pair_length z + z.size * 4 + k * 4) ≡ cache_cell n z.vsize s.values p r k
      value_stands k h =
          row_read (rows_of z) n z.vsize s.values w.values_length p r hp hr w.values file (before ++ row_bytes key) behind (at + 6 + r * pair_length z + z.size * 4)
          (pair_stands ∙ sym (append_assoc before (row_bytes key) (row_bytes value ++ behind)))
          (omega (arith, length-append before (row_bytes key), long_before, length_row_bytes key, length_row (rows_of z) n z.size s.keys w.keys_length p r hp hr))
          k h

    -- ---- no element is at fault

    key_sound : (r k : ℕ) → r < rows_of z → k < z.size → element_fault (f32_at file (at + 6 + r * pair_length z + 0 + k * 4)) ≡ false
    key_sound r k hr hk =
        ap element_fault (key_stands r hr k hk)
        ∙ (w.keys ((r * n + p) * z.size + k) (omega (arith, cell_inside (rows_of z) n z.size p r k hp hr hk, w.keys_length))).1

    value_sound : (r k : ℕ) → r < rows_of z → k < z.vsize → element_fault (f32_at file (at + 6 + r * pair_length z + z.size * 4 + k * 4)) ≡ false
    value_sound r k hr hk =
        ap element_fault (value_stands r hr k hk)
        ∙ (w.values ((r * n + p) * z.vsize + k) (omega (arith, cell_inside (rows_of z) n z.vsize p r k hp hr hk, w.values_length))).1

    element_sound : (i : ℕ) → i < rows_of z * (z.size + z.vsize) → payload_fault file (at + 6) i ≡ false
    element_sound i h = go (dec_lt j z.size)
      where
        width : ℕ
        width = z.size + z.vsize

        r : ℕ
        r = i / width

        j : ℕ
        j = i % width

        some : 0 < width
        some = omega (arith, (sizes→facts z w.limits).size)

        inside : r < rows_of z
        inside = (div-lt_iff_lt-mul some).1 h

        place : at + 6 + i * 4 ≡ at + 6 + r * pair_length z + j * 4
        place = omega (arith, div-add-mod' i width, mul_assoc r width 4, add-mul (r * width) j 4)

        go : Dec (j < z.size) → payload_fault file (at + 6) i ≡ false
        go (yes a) = ap (λ (m : ℕ). element_fault (f32_at file m)) (place ∙ omega arith) ∙ key_sound r j inside a
        go (no a) =
            let b : j - z.size < z.vsize = omega (arith, mod-lt i some) in
            let c : at + 6 + r * pair_length z + j * 4 ≡ at + 6 + r * pair_length z + z.size * 4 + (j - z.size) * 4 = omega arith in
            ap (λ (m : ℕ). element_fault (f32_at file m)) (place ∙ c) ∙ value_sound r (j - z.size) inside b

  -- in the place of position q of a file
  pub fault_stands : (file front back : List ℕ) (q : ℕ) → file ≡ front ++ (position_bytes s p ++ back) → length front ≡ record_start z q → position_fault z file q ≡ false
  unfolding position_fault
  fault_stands file front back q e l = each→none (payload_fault file (record_start z q + 6)) (rows_of z * (z.size + z.vsize)) (element_sound file front back (record_start z q) e l)
