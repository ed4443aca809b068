-- A file in which positions stand, cut after any byte: the reader gives exactly the positions that are whole. Assumes nothing.
use Rattle.std.specs.Prelude.{Err}
use mathlib.Core.Path.{◌≡◌, sym, ap, ◌∙◌, subst}
use mathlib.Core.Logic.{inl, inr}
use mathlib.Core.Bool.{true, false, ◌&&◌, cond}
use mathlib.Core.List.{List}
use Prim.Native.Nat.{ℕ, zero, suc, ◌+◌, ◌-◌, ◌*◌, ◌/◌, ◌≤◌, ◌<◌}
use native.Mathlib.Nat.{div-add-mod', mod-lt, mul-le-mul_right, mul_assoc}
use native.Mathlib.Decide.{dec_lt}
use native.Mathlib.Omega.{arith}
use lib.Dec.{leb, ltb}
use lib.ListN.{length, take}
use lib.Seq.{length-take-le}
use borrow.Author.Tests.{le-leb, lt-leb}
use Rattle.session_file.proofs.Nexts.{next_ended, next_cut, next_whole}
use Rattle.bool_laws.proofs.Counts.{count_agree}
use Rattle.bool_laws.proofs.Tests.{both_true}
use Rattle.call.specs.Contents.{element_fault}
use Rattle.records.specs.Records.{head_is}
use Rattle.records.proofs.Places.{u16_at_take, f32_at_take, head_is_take}
use Rattle.session_file.specs.declared.Sizes.{Sizes}
use Rattle.call.specs.declared.Refusal.TheVariants.{Limits, Record}
use Rattle.session_file.specs.declared.Next.{Next}
use Rattle.session_file.specs.declared.Next.TheVariants.{Whole}
use Rattle.session_file.specs.Sizes.{sizes_hold, most_positions, rows_of, payload_length, record_length, record_start}
use Rattle.session_file.specs.Reader.{next_of, payload_fault, position_fault, at_most, onward, walk_from, sizes_at, first_whole, read_of, session_read}
use Rattle.session_file.proofs.Walks.{Standing, next_at, Stops}

-- ---- positions rise

pub position_mono : (z : Sizes) (p q : ℕ) → p ≤ q → record_start z p ≤ record_start z q
position_mono z p q l = omega (arith, mul-le-mul_right (record_length z) l)

-- a record ends where a later one begins, or before
pub record_end : (z : Sizes) (p n : ℕ) → p < n → record_start z p + record_length z ≤ record_start z n
record_end z p n l = rw (sym (next_at z p)) (position_mono z (suc p) n l)

-- ---- what stands at a place

-- a right head and a payload that is all there are a whole record
pub whole_at : (z : Sizes) (file : List ℕ) (p : ℕ) → head_is file (record_start z p) (payload_length z) 2 ≡ true → record_start z p + record_length z ≤ length file → next_of z file p ≡ Whole
whole_at z file p h b = next_whole z file p (omega arith) h b

-- ---- the walk to a place where it stops

-- a whole record without fault
abbrev Sound : Sizes → List ℕ → ℕ → Type 0
Sound z file q = (next_of z file q ≡ Whole) × (position_fault z file q ≡ false)

module _ (z : Sizes) (file : List ℕ) (k : ℕ) where
  stops_here : Stops z file k → (more : ℕ) → k + more ≡ most_positions → walk_from z file more k ≡ session_read z k
  unfolding walk_from
  stops_here (inl e) zero m = ap (at_most z k) e
  stops_here (inl e) (suc more) m = ap (λ (x : Next). onward z k x (position_fault z file k) (walk_from z file more (suc k))) e
  stops_here (inr e) zero m = absurd (omega (arith, e.1))
  stops_here (inr e) (suc more) m = ap (λ (x : Next). onward z k x (position_fault z file k) (walk_from z file more (suc k))) e.0

  walk_to : k ≤ most_positions → Stops z file k → ((q : ℕ) → q < k → Sound z file q) → (d p more : ℕ) → p + d ≡ k → p + more ≡ most_positions → walk_from z file more p ≡ session_read z k
  unfolding walk_from
  walk_to l stop each zero p more e m = let f : k ≡ p = omega arith in subst (λ (x : ℕ). walk_from z file more x ≡ session_read z k) f (stops_here stop more (omega arith))
  walk_to l stop each (suc d) p zero e m = absurd (omega arith)
  walk_to l stop each (suc d) p (suc more) e m =
      let s = each p (omega arith) in
      (λ i. onward z p (s.0 i) (s.1 i) (walk_from z file more (suc p)))
      ∙ walk_to l stop each d (suc p) more (omega arith) (omega arith)

-- a file with a right first record whose walk stops behind k sound positions
pub read_as : (z : Sizes) (file : List ℕ) (k : ℕ) → first_whole file ≡ true → z ≡ sizes_at file → sizes_hold z ≡ true → k ≤ most_positions → Stops z file k → ((q : ℕ) → q < k → Sound z file q)
    → read_of file ≡ session_read z k
unfolding read_of
read_as z file k f s h l stop each =
    (λ i. cond (f i) (cond (sizes_hold (sizes_at file)) (walk_from (sizes_at file) file most_positions 0) (Err Limits)) (Err (Record 0)))
    ∙ (λ i. cond (sizes_hold (sym s i)) (walk_from (sym s i) file most_positions 0) (Err Limits))
    ∙ (λ i. cond (h i) (walk_from z file most_positions 0) (Err Limits))
    ∙ walk_to z file k l stop each k 0 most_positions (omega arith) (omega arith)

-- ---- a cut of a file in which positions stand

-- a whole first record has the right head
pub first→head : (file : List ℕ) → first_whole file ≡ true → head_is file 0 8 1 ≡ true
first→head file f = (both_true (leb 14 (length file)) (head_is file 0 8 1) f).1

module _ (file : List ℕ) (z : Sizes) (c : ℕ) (inside : c ≤ length file) where
  long : length (take c file) ≡ c
  long = length-take-le c file inside

  first_kept : 14 ≤ c → first_whole file ≡ true → first_whole (take c file) ≡ true
  first_kept l f =
      (λ i. leb 14 (long i) && head_is_take c 0 8 1 file (omega arith) i)
      ∙ (λ i. le-leb 14 c l i && head_is file 0 8 1)
      ∙ first→head file f

  pub sizes_kept : 14 ≤ c → sizes_at (take c file) ≡ sizes_at file
  sizes_kept l = λ i. record {
    batches = u16_at_take c 6 file (omega arith) i;
    kvheads = u16_at_take c 8 file (omega arith) i;
    size = u16_at_take c 10 file (omega arith) i;
    vsize = u16_at_take c 12 file (omega arith) i;
  }

  pub fault_kept : (p : ℕ) → record_start z p + record_length z ≤ c → position_fault z (take c file) p ≡ position_fault z file p
  unfolding position_fault
  fault_kept p l =
      let from = record_start z p + 6 in
      let w = z.size + z.vsize in
      let all : rows_of z * w * 4 ≡ payload_length z = mul_assoc (rows_of z) w 4 in
      ap (ltb 0) (count_agree (rows_of z * w) (payload_fault (take c file) from) (payload_fault file from) (λ i h. ap element_fault (f32_at_take c (from + i * 4) file (omega arith))))

  -- the positions that end before the cut stand in what is left
  pub standing_cut : (n k : ℕ) → 14 ≤ c → Standing file z n → k ≤ n → record_start z k ≤ c → Standing (take c file) z k
  standing_cut n k l s h e = record {
    first = first_kept l s.first;
    sizes = s.sizes ∙ sym (sizes_kept l);
    limits = s.limits;
    most = omega (arith, s.most);
    inside = omega (arith, long);
    heads = λ p q. let a = record_end z p k q in head_is_take c (record_start z p) (payload_length z) 2 file (omega arith) ∙ s.heads p (omega arith);
    sound = λ p q. let a = record_end z p k q in fault_kept p (omega arith) ∙ s.sound p (omega arith);
  }

-- ---- the reader

-- a file that ends with its last position, or within the record behind it
pub standing→read : (file : List ℕ) (z : Sizes) (k : ℕ) → Standing file z k → Stops z file k → read_of file ≡ session_read z k
standing→read file z k s stop =
    read_as z file k s.first s.sizes s.limits s.most stop (λ q l. let a = record_end z q k l in (whole_at z file q (s.heads q l) (omega (arith, s.inside)), s.sound q l))

-- the number of records that are whole before byte c
pub whole_records : (z : Sizes) (c : ℕ) → 14 ≤ c → (record_start z ((c - 14) / record_length z) ≤ c) × (c < record_start z ((c - 14) / record_length z) + record_length z)
whole_records z c l =
    let k = (c - 14) / record_length z in
    let some : 0 < record_length z = omega arith in
    let e = div-add-mod' (c - 14) (record_length z) in
    let r = mod-lt (c - 14) some in
    (omega arith, omega arith)

-- A cut inside the record behind n positions, or before: where it leaves that record's head, the head is right and is not the 2,049th.
pub tail→read : (file : List ℕ) (z : Sizes) (n c : ℕ) → Standing file z n → 14 ≤ c → c ≤ length file → c < record_start z n + record_length z
    → (record_start z n + 6 ≤ c → (head_is file (record_start z n) (payload_length z) 2 ≡ true) × (n < most_positions))
    → read_of (take c file) ≡ session_read z ((c - 14) / record_length z)
tail→read file z n c s l inside h tail = standing→read (take c file) z k kept (stop (dec_lt c (record_start z k + 6)))
  where
    k : ℕ
    k = (c - 14) / record_length z

    -- no more are whole than stand
    fewer : Dec (n < k) → k ≤ n
    fewer (yes a) = absurd (omega (arith, record_end z n k a, (whole_records z c l).0))
    fewer (no a) = omega arith

    kept : Standing (take c file) z k
    kept = standing_cut file z c inside n k l s (fewer (dec_lt n k)) (whole_records z c l).0

    head : Dec (k < n) → record_start z k + 6 ≤ c → (head_is file (record_start z k) (payload_length z) 2 ≡ true) × (k < most_positions)
    head (yes a) b = (s.heads k a, omega (arith, s.most))
    head (no a) b =
        let m : n ≡ k = omega (arith, fewer (dec_lt n k)) in
        subst (λ (i : ℕ). (head_is file (record_start z i) (payload_length z) 2 ≡ true) × (i < most_positions)) m (tail (omega (arith, ap (record_start z) m)))

    stop : Dec (c < record_start z k + 6) → Stops z (take c file) k
    stop (yes a) = inl (next_ended z (take c file) k (omega (arith, long file z c inside)))
    stop (no a) =
        let b = head (dec_lt k n) (omega arith) in
        let m = long file z c inside in
        inr (next_cut z (take c file) k (omega arith) (head_is_take c (record_start z k) (payload_length z) 2 file (omega arith) ∙ b.0) (omega (arith, (whole_records z c l).1)), b.1)

-- a cut before the end of the positions that stand
pub cut→read : (file : List ℕ) (z : Sizes) (n c : ℕ) → Standing file z n → 14 ≤ c → c ≤ record_start z n → read_of (take c file) ≡ session_read z ((c - 14) / record_length z)
cut→read file z n c s l h = tail→read file z n c s l (omega (arith, s.inside)) (omega arith) (λ b. absurd (omega arith))

-- without the whole first record a file is refused at byte 0
pub first_missing : (file : List ℕ) → length file < 14 → read_of file ≡ Err (Record 0)
unfolding read_of
first_missing file l = rw (lt-leb 14 (length file) l)
