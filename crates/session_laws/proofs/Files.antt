-- Files that are written: the first record, the file of a session, and positions added behind a file; what a reader gives of each. Assumes nothing.
use mathlib.Core.Path.{◌≡◌, refl, sym, ap, ◌∙◌}
use mathlib.Core.Bool.{true, false, ◌&&◌, cond}
use mathlib.Core.List.{List, ◌++◌, append_assoc}
use Prim.Native.Nat.{ℕ, ◌+◌, ◌-◌, ◌*◌, ◌/◌, ◌%◌, ◌≤◌, ◌<◌}
use native.Mathlib.Nat.{add-mul, zero-mul, not-suc-le-zero}
use native.Mathlib.Decide.{dec_lt}
use native.Mathlib.Omega.{arith}
use lib.Ieee.{Float}
use lib.ListN.{length, take, length-append}
use lib.Seq.{take_at}
use borrow.Author.Tests.{le-leb, lt-ltb, le-ltb}
use Rattle.session_file.proofs.Caches.{get_or_cache, cache_ext}
use Rattle.records.specs.Numbers.{f32_at}
use Rattle.records.specs.Records.{head_is}
use Rattle.records.proofs.Places.{f32_at_take, head_is_take}
use Rattle.session_file.specs.declared.Sizes.{Sizes}
use Rattle.session_file.specs.Below.{joined}
use Rattle.session_file.specs.Sizes.{sizes_hold, most_positions, rows_of, pair_length, payload_length, record_length, record_start}
use Rattle.session_file.specs.Form.{Session, session_of, position_bytes, sizes_bytes, cache_cell, cache_of}
use Rattle.session_file.specs.Reader.{position_fault, first_whole, sizes_at, cache_at, session_at, file_cell}
use Rattle.session_file.proofs.Joined.{length_joined, joined_split}
use Rattle.session_file.proofs.Walks.{Standing}
use Rattle.session_laws.specs.Sessions.{Savable, cell_behind, both_of}
use Rattle.session_laws.proofs.Cuts.{first→head, record_end, sizes_kept, fault_kept}
use Rattle.session_laws.proofs.Given.{cache_at_is, pair_end}
use Rattle.session_laws.proofs.Stands.{length_position, head_stands, key_stands, value_stands, fault_stands}

-- ---- the first record

-- a file of no positions stands
pub begun_stands : (z : Sizes) → sizes_hold z ≡ true → Standing (sizes_bytes z) z 0
begun_stands z h = record {
  first = refl;
  sizes = λ i. record { batches = back z.batches i; kvheads = back z.kvheads i; size = back z.size i; vsize = back z.vsize i };
  limits = h;
  most = omega arith;
  inside = omega (arith, zero-mul (record_length z));
  heads = λ p l. absurd (not-suc-le-zero l);
  sound = λ p l. absurd (not-suc-le-zero l);
}
  where
    back : (n : ℕ) → n ≡ n % 256 + n / 256 * 256
    back n = omega arith

-- ---- positions behind a file in which positions stand

-- the positions of `later` behind those of a file that ends with its last one
module _ (old : List ℕ) (n : ℕ) (later : Session) (s : Standing old later.sizes n) (ends : length old ≡ record_start later.sizes n) (w : Savable later) (most : n + later.positions ≤ most_positions) where
  abbrev z : Sizes
  z = later.sizes

  abbrev added : List ℕ
  added = joined (position_bytes later) later.positions

  abbrev both : List ℕ
  both = old ++ added

  old_is : take (record_start z n) both ≡ old
  old_is = take_at old added (record_start z n) ends

  pub length_both : length both ≡ record_start z (n + later.positions)
  length_both = omega (arith, length-append old added, ends, length_joined (position_bytes later) (record_length z) later.positions (length_position later w), add-mul n later.positions (record_length z))

  -- position q of those behind, with what stands before it and behind it
  module _ (q : ℕ) (h : q < later.positions) where
    abbrev before : List ℕ
    before = old ++ joined (position_bytes later) q

    abbrev behind : List ℕ
    behind = (joined_split (position_bytes later) later.positions q h).0

    stands : both ≡ before ++ (position_bytes later q ++ behind)
    stands =
        ap (λ (t : List ℕ). old ++ t) (joined_split (position_bytes later) later.positions q h).1
        ∙ sym (append_assoc old (joined (position_bytes later) q) (position_bytes later q ++ behind))

    long_before : length before ≡ record_start z (n + q)
    long_before =
        omega (arith, length-append old (joined (position_bytes later) q), ends, length_joined (position_bytes later) (record_length z) q (λ i l. length_position later w i (omega arith)), add-mul n q (record_length z))

  inside : record_start z n ≤ length both
  inside = omega (arith, length-append old added, ends)

  head_both : (p : ℕ) → Dec (p < n) → p < n + later.positions → head_is both (record_start z p) (payload_length z) 2 ≡ true
  head_both p (yes a) l =
      let e = record_end z p n a in
      sym (head_is_take (record_start z n) (record_start z p) (payload_length z) 2 both (omega arith))
      ∙ ap (λ (t : List ℕ). head_is t (record_start z p) (payload_length z) 2) old_is
      ∙ s.heads p a
  head_both p (no a) l =
      let q = p - n in
      let h : q < later.positions = omega arith in
      let m : n + q ≡ p = omega arith in
      head_stands later w q h both (before q h) (behind q h) (record_start z p) (stands q h) (long_before q h ∙ ap (record_start z) m)

  fault_both : (p : ℕ) → Dec (p < n) → p < n + later.positions → position_fault z both p ≡ false
  fault_both p (yes a) l =
      let e = record_end z p n a in
      sym (fault_kept both z (record_start z n) inside p e)
      ∙ ap (λ (t : List ℕ). position_fault z t p) old_is
      ∙ s.sound p a
  fault_both p (no a) l =
      let q = p - n in
      let h : q < later.positions = omega arith in
      let m : n + q ≡ p = omega arith in
      fault_stands later w q h both (before q h) (behind q h) p (stands q h) (long_before q h ∙ ap (record_start z) m)

  first_both : first_whole both ≡ true
  first_both =
      (λ i. le-leb 14 (length both) (omega (arith, inside)) i && head_is both 0 8 1)
      ∙ sym (head_is_take (record_start z n) 0 8 1 both (omega arith))
      ∙ ap (λ (t : List ℕ). head_is t 0 8 1) old_is
      ∙ first→head old s.first

  -- all positions stand
  pub standing_both : Standing both z (n + later.positions)
  standing_both = record {
    first = first_both;
    sizes = s.sizes ∙ ap sizes_at (sym old_is) ∙ sizes_kept both z (record_start z n) inside (omega arith);
    limits = s.limits;
    most = most;
    inside = omega (arith, length_both);
    heads = λ p l. head_both p (dec_lt p n) l;
    sound = λ p l. fault_both p (dec_lt p n) l;
  }

  -- ---- the session that stands in all of it

  module _ (behind size : ℕ) (fit : behind + size * 4 ≤ pair_length z) (cache : List Float)
      (cell : (q r k : ℕ) (h : q < later.positions) → r < rows_of z → k < size → f32_at both (record_start z (n + q) + 6 + r * pair_length z + behind + k * 4) ≡ cache_cell later.positions size cache q r k) where
    cell_both : (p r k : ℕ) → Dec (p < n) → p < n + later.positions → r < rows_of z → k < size
        → file_cell z both behind p r k ≡ cell_behind n (cache_cell n size (cache_at z old n behind size)) (cache_cell later.positions size cache) p r k
    cell_both p r k (yes a) l hr hk =
        let e = record_end z p n a in
        let f = pair_end z p r hr in
        sym (f32_at_take (record_start z n) (record_start z p + 6 + r * pair_length z + behind + k * 4) both (omega arith))
        ∙ ap (λ (t : List ℕ). file_cell z t behind p r k) old_is
        ∙ sym (get_or_cache (rows_of z) n size (file_cell z old behind) p r k a hr hk)
        ∙ ap (λ (t : List Float). cache_cell n size t p r k) (sym (cache_at_is z old n behind size))
        ∙ (λ i. cond (sym (lt-ltb p n a) i) (cache_cell n size (cache_at z old n behind size) p r k) (cache_cell later.positions size cache (p - n) r k))
    cell_both p r k (no a) l hr hk =
        let m : n + (p - n) ≡ p = omega arith in
        ap (λ (q : ℕ). file_cell z both behind q r k) (sym m)
        ∙ cell (p - n) r k (omega arith) hr hk
        ∙ (λ i. cond (sym (le-ltb p n (omega arith)) i) (cache_cell n size (cache_at z old n behind size) p r k) (cache_cell later.positions size cache (p - n) r k))

    cache_both : cache_at z both (n + later.positions) behind size
        ≡ cache_of (rows_of z) (n + later.positions) size (cell_behind n (cache_cell n size (cache_at z old n behind size)) (cache_cell later.positions size cache))
    cache_both =
        cache_at_is z both (n + later.positions) behind size
        ∙ cache_ext (rows_of z) (n + later.positions) size (file_cell z both behind) (cell_behind n (cache_cell n size (cache_at z old n behind size)) (cache_cell later.positions size cache)) (λ p r k hp hr hk. cell_both p r k (dec_lt p n) hp hr hk)

  -- its keys and values are those that stood there and then those that were added
  pub session_both : session_at z both (n + later.positions) ≡ both_of (session_at z old n) later
  unfolding session_at both_of
  session_both =
      let keys = cache_both 0 z.size (omega arith) later.keys (λ q r k h hr hk. key_stands later w q h both (before q h) (behind q h) (record_start z (n + q)) (stands q h) (long_before q h) r hr k hk) in
      let values = cache_both (z.size * 4) z.vsize (omega arith) later.values (λ q r k h hr hk. value_stands later w q h both (before q h) (behind q h) (record_start z (n + q)) (stands q h) (long_before q h) r hr k hk) in
      λ i. session_of z (n + later.positions) (keys i) (values i)
