-- The session that stands in a file: its cells, a cut of it, and that every element is within its limits. Assumes nothing.
use mathlib.Core.Path.{◌≡◌, refl, sym, ap, ◌∙◌, subst}
use mathlib.Core.Bool.{false}
use mathlib.Core.List.{List}
use Prim.Native.Nat.{ℕ, ◌+◌, ◌*◌, ◌≤◌, ◌<◌}
use native.Mathlib.Nat.{mul_assoc, mul-le-mul_right, suc-mul, add-mul}
use native.Mathlib.Omega.{arith}
use lib.Arith.{digits_lt}
use lib.Dec.{T}
use lib.Ieee.{Float, nan, binary32, fits}
use lib.Ieee.Bits.{of_bits-fits}
use lib.ListN.{length, get_or, take}
use Rattle.session_file.proofs.Caches.{length_cache, get_or_cache, cache_ext, by_cells, cache_of_cells}
use Rattle.call.specs.Contents.{element_fault}
use Rattle.records.specs.Numbers.{u32_at, f32_at}
use Rattle.records.proofs.Places.{f32_at_take}
use Rattle.session_file.specs.declared.Sizes.{Sizes}
use Rattle.session_file.specs.Sizes.{rows_of, pair_length, record_length, record_start}
use Rattle.session_file.specs.Form.{Session, session_of, cache_cell, cache_of}
use Rattle.session_file.specs.Reader.{position_fault, payload_fault, read_of, cache_at, session_at, file_cell, session_read}
use Rattle.session_file.proofs.Below.{none→each}
use Rattle.session_file.proofs.Walks.{Standing, read→standing}
use Rattle.session_laws.specs.Sessions.{AllWithin, Savable, first_positions}
use Rattle.session_laws.proofs.Cuts.{record_end}

pub cache_at_is : (z : Sizes) (file : List ℕ) (n behind size : ℕ) → cache_at z file n behind size ≡ cache_of (rows_of z) n size (file_cell z file behind)
unfolding cache_at cache_of
cache_at_is z file n behind size = refl

-- a pair of rows ends inside its record
pub pair_end : (z : Sizes) (p r : ℕ) → r < rows_of z → record_start z p + 6 + r * pair_length z + pair_length z ≤ record_start z p + record_length z
pair_end z p r h = omega (arith, suc-mul r (pair_length z), mul-le-mul_right (pair_length z) h)

-- ---- a cut

module _ (z : Sizes) (file : List ℕ) (n k c behind size : ℕ) (h : k ≤ n) (e : record_start z k ≤ c) (fit : behind + size * 4 ≤ pair_length z) where
  cache_cut : cache_at z (take c file) k behind size ≡ cache_of (rows_of z) k size (cache_cell n size (cache_at z file n behind size))
  cache_cut =
      cache_at_is z (take c file) k behind size
      ∙ cache_ext (rows_of z) k size (file_cell z (take c file) behind) (cache_cell n size (cache_at z file n behind size)) (λ p r j hp hr hj.
      let a = record_end z p k hp in
      let b = pair_end z p r hr in
      f32_at_take c (record_start z p + 6 + r * pair_length z + behind + j * 4) file (omega arith)
      ∙ sym (get_or_cache (rows_of z) n size (file_cell z file behind) p r j (omega arith) hr hj)
      ∙ ap (λ (t : List Float). cache_cell n size t p r j) (sym (cache_at_is z file n behind size)))

-- the first positions of the session that stands in a file are those of its cut
pub session_cut : (z : Sizes) (file : List ℕ) (n k c : ℕ) → k ≤ n → record_start z k ≤ c → session_at z (take c file) k ≡ first_positions (session_at z file n) k
unfolding session_at first_positions
session_cut z file n k c h e = λ i. session_of z k (cache_cut z file n k c 0 z.size h e (omega arith) i) (cache_cut z file n k c (z.size * 4) z.vsize h e (omega arith) i)

-- all positions of a session are the session
pub first_all : (s : Session) → Savable s → first_positions s s.positions ≡ s
unfolding first_positions
first_all s w =
    let z = s.sizes in
    let n = s.positions in
    let keys = cache_of_cells (rows_of z) n z.size s.keys (cache_cell n z.size s.keys) w.keys_length (λ p r k hp hr hk. refl) in
    let values = cache_of_cells (rows_of z) n z.vsize s.values (cache_cell n z.vsize s.values) w.values_length (λ p r k hp hr hk. refl) in
    λ i. session_of z n (sym keys i) (sym values i)

-- ---- the elements

f32_at_fits : (s : List ℕ) (i : ℕ) → T (fits binary32 (f32_at s i))
unfolding f32_at
f32_at_fits s i = of_bits-fits binary32 (u32_at s i)

module _ (z : Sizes) (file : List ℕ) (n : ℕ) (s : Standing file z n) where
  -- no element of a position that stands is at fault
  element_sound : (p i : ℕ) → p < n → i < rows_of z * (z.size + z.vsize) → element_fault (f32_at file (record_start z p + 6 + i * 4)) ≡ false
  unfolding position_fault
  element_sound p i hp hi = none→each (payload_fault file (record_start z p + 6)) (rows_of z * (z.size + z.vsize)) (s.sound p hp) i hi

  module _ (before size : ℕ) (fit : before + size ≤ z.size + z.vsize) where
    pub cell_sound : (p r k : ℕ) → p < n → r < rows_of z → k < size → element_fault (file_cell z file (before * 4) p r k) ≡ false
    cell_sound p r k hp hr hk =
        let w = z.size + z.vsize in
        let i = r * w + (before + k) in
        let m : r * w * 4 ≡ r * pair_length z = mul_assoc r w 4 in
        let d : (r * w + (before + k)) * 4 ≡ r * w * 4 + (before + k) * 4 = add-mul (r * w) (before + k) 4 in
        let a : record_start z p + 6 + i * 4 ≡ record_start z p + 6 + r * pair_length z + before * 4 + k * 4 = omega arith in
        ap (λ (j : ℕ). element_fault (f32_at file j)) (sym a) ∙ element_sound p i hp (digits_lt hr (omega arith))

    cells_within : AllWithin (cache_at z file n (before * 4) size)
    cells_within i h =
        let rows = rows_of z in
        let cells = file_cell z file (before * 4) in
        subst (λ (t : List Float). T (fits binary32 (get_or t i nan)) × (element_fault (get_or t i nan) ≡ false)) (sym (cache_at_is z file n (before * 4) size))
        (by_cells rows n size (λ j. T (fits binary32 (get_or (cache_of rows n size cells) j nan)) × (element_fault (get_or (cache_of rows n size cells) j nan) ≡ false))
        (λ p r k hp hr hk. subst (λ (x : Float). T (fits binary32 x) × (element_fault x ≡ false)) (sym (get_or_cache rows n size cells p r k hp hr hk)) (f32_at_fits file _, cell_sound p r k hp hr hk))
        i (omega (arith, h, ap length (cache_at_is z file n (before * 4) size), length_cache rows n size cells)))

pub length_cache_at : (z : Sizes) (file : List ℕ) (n behind size : ℕ) → length (cache_at z file n behind size) ≡ rows_of z * n * size
length_cache_at z file n behind size = ap length (cache_at_is z file n behind size) ∙ length_cache (rows_of z) n size (file_cell z file behind)

-- the session that a reader gives is within every limit
pub standing→savable : (file : List ℕ) (z : Sizes) (n : ℕ) → Standing file z n → Savable (session_at z file n)
unfolding session_at
standing→savable file z n s = record {
  limits = s.limits;
  most = s.most;
  keys_length = length_cache_at z file n 0 z.size;
  values_length = length_cache_at z file n (z.size * 4) z.vsize;
  keys = cells_within z file n s 0 z.size (omega arith);
  values = cells_within z file n s z.size z.vsize (omega arith);
}

pub read→savable : (file : List ℕ) (z : Sizes) (n : ℕ) → read_of file ≡ session_read z n → Savable (session_at z file n)
read→savable file z n e = standing→savable file z n (read→standing file z n e)
