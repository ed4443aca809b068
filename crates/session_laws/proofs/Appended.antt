-- The promises on writing: what a writer says is saved is what the reader then gives. Assumes nothing.
use Rattle.std.specs.Prelude.{None}
use mathlib.Core.Path.{◌≡◌, sym, ap, ◌∙◌, subst}
use mathlib.Core.Bool.{Bool, false, ◌||◌}
use mathlib.Core.List.{List, ◌++◌, append_assoc}
use Prim.Native.Nat.{ℕ, suc, ◌+◌, ◌*◌, ◌≤◌, ◌<◌}
use native.Mathlib.Nat.{zero-add, lt_of_not-le}
use native.Mathlib.Omega.{arith}
use lib.Dec.{eqb}
use lib.Ieee.{Float, nan}
use lib.ListN.{length, get_or, take, drop, length-append, length-take}
use lib.Seq.{length-take-le, take-take, take_at, drop_at}
use borrow.Author.Tests.{eqb-true}
use Rattle.session_file.proofs.Caches.{by_cells, length_row, row_cell}
use Rattle.bool_laws.proofs.Tests.{both_true, either_false}
use Rattle.call.specs.Contents.{element_fault}
use Rattle.records.specs.Records.{written_at}
use Rattle.session_file.specs.declared.Sizes.{Sizes}
use Rattle.session_file.specs.Below.{least_from, joined}
use Rattle.session_file.specs.Sizes.{rows_of, record_start}
use Rattle.session_file.specs.Form.{Session, session_of, cache_row, position_bytes}
use Rattle.session_file.specs.Reader.{read_of, session_at, session_read}
use Rattle.session_file.specs.Writer.{written, row_fault, rows_fault, append_of, saved}
use Rattle.session_file.proofs.Below.{none→each, least_none→each}
use Rattle.session_file.proofs.Walks.{Standing, read→standing}
use Rattle.session_laws.specs.Sessions.{AllWithin, Savable, both_of}
use Rattle.session_laws.specs.Statements.{AllFit, AppendHolds}
use Rattle.session_laws.proofs.Cuts.{position_mono, record_end, standing_cut, cut→read}
use Rattle.session_laws.proofs.Given.{first_all, session_cut, standing→savable}
use Rattle.session_laws.proofs.Files.{length_both, standing_both, session_both}
use Rattle.session_laws.proofs.Saved.{ends→read}
use Rattle.session_laws.proofs.Passed.{Passed, saved→passed}

-- ---- rows without fault

module _ (z : Sizes) (count : ℕ) (keys values : List Float) (sound : least_from (rows_fault (session_of z count keys values)) count 0 ≡ None) where
  -- no row of a position is at fault
  rows_sound : (p r : ℕ) → p < count → r < rows_of z → (row_fault (cache_row count z.size keys p r) ≡ false) × (row_fault (cache_row count z.vsize values p r) ≡ false)
  unfolding rows_fault
  rows_sound p r hp hr =
      let fault : ℕ → Bool = λ q. row_fault (cache_row count z.size keys p q) || row_fault (cache_row count z.vsize values p q) in
      let each = least_none→each (rows_fault (session_of z count keys values)) count 0 sound p hp in
      either_false (row_fault (cache_row count z.size keys p r)) (row_fault (cache_row count z.vsize values p r)) (none→each fault (rows_of z) (ap (rows_fault (session_of z count keys values)) (sym (zero-add p)) ∙ each) r hr)

-- an element of a row without fault
row_sound : (row : List Float) → row_fault row ≡ false → (k : ℕ) → k < length row → element_fault (get_or row k nan) ≡ false
unfolding row_fault
row_sound row e = none→each (λ k. element_fault (get_or row k nan)) (length row) e

all_within : (rows n size : ℕ) (cache : List Float) → length cache ≡ rows * n * size → AllFit cache → ((p r : ℕ) → p < n → r < rows → row_fault (cache_row n size cache p r) ≡ false) → AllWithin cache
all_within rows n size cache long fit sound i h = (
  fit i h,
  by_cells rows n size (λ j. element_fault (get_or cache j nan) ≡ false) (λ p r k hp hr hk.
      let l = length_row rows n size cache long p r hp hr in
      ap element_fault (sym (row_cell rows n size cache long p r hp hr k hk)) ∙ row_sound (cache_row n size cache p r) (sound p r hp hr) k (omega arith))
      i (omega (arith, long, h)),
)

-- ---- the buffer that is left

-- bytes written at the end of a file, without what is behind them
take_written : (s : List ℕ) (i : ℕ) (w : List ℕ) → i + length w ≤ length s → take (i + length w) (written_at s i w) ≡ take i s ++ w
take_written s i w h =
    let l = length-take-le i s (omega arith) in
    ap (take (i + length w)) (sym (append_assoc (take i s) w (drop (i + length w) s)))
    ∙ take_at (take i s ++ w) (drop (i + length w) s) (i + length w) (omega (arith, length-append (take i s) w))

front_written : (s : List ℕ) (i : ℕ) (w : List ℕ) → i ≤ length s → take i (written_at s i w) ≡ take i s
front_written s i w h = take_at (take i s) (w ++ drop (i + length w) s) i (length-take-le i s h)

drop_written : (s : List ℕ) (i : ℕ) (w : List ℕ) → i + length w ≤ length s → drop (i + length w) (written_at s i w) ≡ drop (i + length w) s
drop_written s i w h =
    let l = length-take-le i s (omega arith) in
    ap (drop (i + length w)) (sym (append_assoc (take i s) w (drop (i + length w) s)))
    ∙ drop_at (take i s ++ w) (drop (i + length w) s) (i + length w) (omega (arith, length-append (take i s) w))

module _ (buffer : List ℕ) (used count : ℕ) (keys values : List Float) (m u : ℕ) (left : List ℕ) (kf : AllFit keys) (vf : AllFit values) (x : Passed buffer used count keys values m u left) where
  abbrev z : Sizes
  z = x.z

  abbrev n : ℕ
  n = x.n

  abbrev new : Session
  new = session_of z count keys values

  file_stands : Standing (take used buffer) z n
  file_stands = read→standing (take used buffer) z n x.file

  lengths : (length keys ≡ rows_of z * count * z.size) × (length values ≡ rows_of z * count * z.vsize)
  lengths =
      let b = both_true (eqb (length keys) (rows_of z * count * z.size)) (eqb (length values) (rows_of z * count * z.vsize)) x.fit in
      (eqb-true _ _ b.0, eqb-true _ _ b.1)

  savable : Savable new
  savable = record {
    limits = file_stands.limits;
    most = omega (arith, x.most);
    keys_length = lengths.0;
    values_length = lengths.1;
    keys = all_within (rows_of z) count z.size keys lengths.0 kf (λ p r hp hr. (rows_sound z count keys values x.sound p r hp hr).0);
    values = all_within (rows_of z) count z.vsize values lengths.1 vf (λ p r hp hr. (rows_sound z count keys values x.sound p r hp hr).1);
  }

  -- the file to the end of its last whole record
  abbrev old : List ℕ
  old = take (record_start z n) buffer

  used_long : length (take used buffer) ≡ used
  used_long = length-take-le used buffer x.file_inside

  old_is : take (record_start z n) (take used buffer) ≡ old
  old_is = take-take (record_start z n) used buffer (omega (arith, file_stands.inside, used_long))

  old_stands : Standing old z n
  old_stands = subst (λ (t : List ℕ). Standing t z n) old_is (standing_cut (take used buffer) z (record_start z n) file_stands.inside n n (omega arith) file_stands (omega arith) (omega arith))

  old_ends : length old ≡ record_start z n
  old_ends = length-take-le (record_start z n) buffer (omega (arith, file_stands.inside, used_long, x.file_inside))

  abbrev added : List ℕ
  added = joined (position_bytes new) count

  long : length (old ++ added) ≡ record_start z (n + count)
  long = length_both old n new old_stands old_ends savable x.most

  added_long : record_start z n + length added ≡ record_start z (n + count)
  added_long = omega (arith, length-append old added, old_ends, long)

  fits_in : record_start z n + length added ≤ length buffer
  fits_in = omega (arith, added_long, x.room)

  left_is : take u left ≡ old ++ added
  left_is =
      (λ i. take ((sym x.end ∙ sym added_long) i) (sym x.buffer_left i))
      ∙ take_written buffer (record_start z n) added fits_in

  all_stand : Standing (old ++ added) z (n + count)
  all_stand = standing_both old n new old_stands old_ends savable x.most

  old_session : session_at z old n ≡ session_at z (take used buffer) n
  unfolding session_at
  old_session =
      ap (λ (t : List ℕ). session_at z t n) (sym old_is)
      ∙ session_cut z (take used buffer) n n (record_start z n) (omega arith) (omega arith)
      ∙ first_all (session_at z (take used buffer) n) (standing→savable (take used buffer) z n file_stands)

  -- a record that ends before byte u is that of a saved position
  below : (p : ℕ) → record_start z (suc p) ≤ u → p < m
  below p h = lt_of_not-le (λ l. let a = position_mono z (n + count) p (omega (arith, x.total)) in let b = record_end z p (suc p) (omega arith) in omega (arith, x.end))

  holds : AppendHolds buffer used count keys values m u left
  holds = record {
    z = z;
    n = n;
    file = x.file;
    total = sym x.total;
    end = sym x.end ∙ ap (record_start z) x.total;
    saved = λ p l. let e = position_mono z (suc p) (n + count) (omega (arith, x.total)) in omega (arith, x.end);
    only = λ p h. below p h;
    inside = omega (arith, ap length left_is, length-take u left, long, x.end);
    behind = (λ i. drop ((sym x.end ∙ sym added_long) i) (sym x.buffer_left i)) ∙ drop_written buffer (record_start z n) added fits_in ∙ ap (λ (i : ℕ). drop i buffer) (added_long ∙ x.end);
    before = ap (take (record_start z n)) (sym x.buffer_left) ∙ front_written buffer (record_start z n) added (omega (arith, fits_in));
    reads = ap read_of left_is ∙ ends→read (old ++ added) z (n + count) all_stand long ∙ ap (session_read z) x.total;
    session = (λ i. session_at z (left_is i) (sym x.total i)) ∙ session_both old n new old_stands old_ends savable x.most ∙ ap (λ (s : Session). both_of s new) old_session;
    cut = λ c l h. ap read_of (sym (take-take c u left h) ∙ ap (take c) left_is) ∙ cut→read (old ++ added) z (n + count) c all_stand l (omega (arith, x.end));
  }

-- every writer that says saved keeps these promises, of rows of f32
pub append_holds : (buffer : List ℕ) (used count : ℕ) (keys values : List Float) (m u : ℕ) (left : List ℕ) → AllFit keys → AllFit values → append_of buffer used count keys values ≡ written (saved m u) left
    → AppendHolds buffer used count keys values m u left
append_holds buffer used count keys values m u left kf vf e = holds buffer used count keys values m u left kf vf (saved→passed buffer used count keys values m u left e)
