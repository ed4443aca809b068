-- The promises on reading: a file that is read, and the file of a session. Assumes nothing.
use Rattle.std.specs.Prelude.{Err}
use mathlib.Core.Path.{◌≡◌, sym, ap, ◌∙◌, subst}
use mathlib.Core.Logic.{inl, inr}
use mathlib.Core.Bool.{cond, true}
use mathlib.Core.List.{List}
use Prim.Native.Nat.{ℕ, ◌+◌, ◌-◌, ◌*◌, ◌≤◌, ◌<◌}
use native.Mathlib.Nat.{zero-add, zero-mul, sub-zero}
use native.Mathlib.Decide.{dec_lt}
use native.Mathlib.Omega.{arith}
use lib.Ieee.{Float}
use lib.ListN.{length, take, length-take}
use borrow.Author.Tests.{le-ltb}
use Rattle.session_file.proofs.Nexts.{next_ended}
use Rattle.session_file.proofs.Caches.{cache_of_cells}
use Rattle.records.specs.Records.{head_is}
use Rattle.session_file.specs.declared.Sizes.{Sizes}
use Rattle.call.specs.declared.Refusal.TheVariants.{Record}
use Rattle.session_file.specs.Sizes.{most_positions, rows_of, payload_length, record_length, record_start}
use Rattle.session_file.specs.Form.{Session, session_of, sizes_bytes, file_of, cache_cell, cache_of}
use Rattle.session_file.specs.Reader.{read_of, session_at, session_read}
use Rattle.session_file.proofs.Walks.{Standing, Stops, read→standing, read→stops, cut→record, ended→short}
use Rattle.session_laws.specs.Sessions.{Savable, cell_behind, first_positions, both_of}
use Rattle.session_laws.specs.Statements.{whole_in, ReadHolds, SavedHolds}
use Rattle.session_laws.proofs.Cuts.{record_end, standing→read, whole_records, tail→read, cut→read, first_missing}
use Rattle.session_laws.proofs.Given.{session_cut, standing→savable}
use Rattle.session_laws.proofs.Rewritten.{rewritten}
use Rattle.session_laws.proofs.Files.{begun_stands, length_both, standing_both, session_both}

-- no more positions are whole before byte c than stand there
pub whole_most : (z : Sizes) (n c : ℕ) → 14 ≤ c → c ≤ record_start z n → whole_in z c ≤ n
whole_most z n c l h = go (dec_lt n (whole_in z c))
  where
    go : Dec (n < whole_in z c) → whole_in z c ≤ n
    go (yes a) = absurd (omega (arith, record_end z n (whole_in z c) a, (whole_records z c l).0))
    go (no a) = omega arith

-- and no fewer than those that end before it
pub whole_least : (z : Sizes) (n c : ℕ) → record_start z n ≤ c → n ≤ whole_in z c
whole_least z n c h = go (dec_lt (whole_in z c) n)
  where
    go : Dec (whole_in z c < n) → n ≤ whole_in z c
    go (yes a) = absurd (omega (arith, record_end z (whole_in z c) n a, (whole_records z c (omega arith)).1))
    go (no a) = omega arith

pub cut_missing : (file : List ℕ) (c : ℕ) → c < 14 → read_of (take c file) ≡ Err (Record 0)
cut_missing file c l = first_missing (take c file) (omega (arith, length-take c file))

-- what stands behind the last position of a file that is read
module _ (file : List ℕ) (z : Sizes) (n : ℕ) (e : read_of file ≡ session_read z n) where
  ends_inside : length file < record_start z n + record_length z
  ends_inside = go (read→stops file z n e)
    where
      go : Stops z file n → length file < record_start z n + record_length z
      go (inl a) = omega (arith, ended→short z file n a)
      go (inr a) = (cut→record z file n a.0).1

  tail_head : record_start z n + 6 ≤ length file → (head_is file (record_start z n) (payload_length z) 2 ≡ true) × (n < most_positions)
  tail_head h = go (read→stops file z n e)
    where
      go : Stops z file n → (head_is file (record_start z n) (payload_length z) 2 ≡ true) × (n < most_positions)
      go (inl a) = absurd (omega (arith, ended→short z file n a))
      go (inr a) = ((cut→record z file n a.0).0, a.1)

  read_cut : (c : ℕ) → 14 ≤ c → c ≤ length file → read_of (take c file) ≡ session_read z (whole_in z c)
  read_cut c l h = tail→read file z n c (read→standing file z n e) l h (omega (arith, ends_inside)) (λ b. tail_head (omega arith))

  read_fewer : (c : ℕ) → 14 ≤ c → c ≤ length file → whole_in z c ≤ n
  read_fewer c l h = go (dec_lt n (whole_in z c))
    where
      go : Dec (n < whole_in z c) → whole_in z c ≤ n
      go (yes a) = absurd (omega (arith, record_end z n (whole_in z c) a, (whole_records z c l).0, ends_inside))
      go (no a) = omega arith

  read_same : (c : ℕ) → 14 ≤ c → c ≤ length file → session_at z (take c file) (whole_in z c) ≡ first_positions (session_at z file n) (whole_in z c)
  read_same c l h = session_cut z file n (whole_in z c) c (read_fewer c l h) (whole_records z c l).0

module _ (file : List ℕ) (z : Sizes) (n : ℕ) (s : Standing file z n) where
  cut_same : (c : ℕ) → 14 ≤ c → c ≤ record_start z n → session_at z (take c file) (whole_in z c) ≡ first_positions (session_at z file n) (whole_in z c)
  cut_same c l h = session_cut z file n (whole_in z c) c (whole_most z n c l h) (whole_records z c l).0

  -- a file that ends with its last position is read as those that stand in it
  pub ends→read : length file ≡ record_start z n → read_of file ≡ session_read z n
  ends→read e = standing→read file z n s (inl (next_ended z file n (omega arith)))

-- every reading that gives a session keeps these promises
pub read_holds : (file : List ℕ) (z : Sizes) (n : ℕ) → read_of file ≡ session_read z n → ReadHolds file z n
read_holds file z n e =
    let s = read→standing file z n e in
    record { within = standing→savable file z n s; rewritten = rewritten file z n s; missing = cut_missing file; cut = read_cut file z n e; fewer = read_fewer file z n e; same = read_same file z n e }

-- ---- the file of a session

module _ (s : Session) (w : Savable s) where
  abbrev z : Sizes
  z = s.sizes

  abbrev n : ℕ
  n = s.positions

  begun : Standing (sizes_bytes z) z 0
  begun = begun_stands z w.limits

  begun_ends : length (sizes_bytes z) ≡ record_start z 0
  begun_ends = omega (arith, zero-mul (record_length z))

  some : 0 + n ≤ most_positions
  some = omega (arith, w.most)

  file_long : length (file_of s) ≡ record_start z n
  unfolding file_of
  file_long = length_both (sizes_bytes z) 0 s begun begun_ends w some ∙ ap (record_start z) (zero-add n)

  file_stands : Standing (file_of s) z n
  unfolding file_of
  file_stands = subst (Standing (file_of s) z) (zero-add n) (standing_both (sizes_bytes z) 0 s begun begun_ends w some)

  -- nothing, and the positions of s behind it
  cells_alone : (size : ℕ) (cache : List Float) (first : ℕ → ℕ → ℕ → Float) → length cache ≡ rows_of z * n * size → cache_of (rows_of z) n size (cell_behind 0 first (cache_cell n size cache)) ≡ cache
  cells_alone size cache first e = sym (cache_of_cells (rows_of z) n size cache (cell_behind 0 first (cache_cell n size cache)) e (λ p r k hp hr hk. (λ i. cache_cell n size cache (sym (sub-zero p) i) r k) ∙ (λ i. cond (sym (le-ltb p 0 (omega arith)) i) (first p r k) (cache_cell n size cache (p - 0) r k))))

  file_session : session_at z (file_of s) n ≡ s
  unfolding file_of session_at both_of
  file_session =
      let old = session_at z (sizes_bytes z) 0 in
      let keys = cell_behind 0 (cache_cell 0 z.size old.keys) (cache_cell n z.size s.keys) in
      let values = cell_behind 0 (cache_cell 0 z.vsize old.values) (cache_cell n z.vsize s.values) in
      ap (session_at z (file_of s)) (sym (zero-add n))
      ∙ session_both (sizes_bytes z) 0 s begun begun_ends w some
      ∙ (λ i. session_of z (zero-add n i) (cache_of (rows_of z) (zero-add n i) z.size keys) (cache_of (rows_of z) (zero-add n i) z.vsize values))
      ∙ (λ i. session_of z n (cells_alone z.size s.keys (cache_cell 0 z.size old.keys) w.keys_length i) (cells_alone z.vsize s.values (cache_cell 0 z.vsize old.values) w.values_length i))

  pub saved_holds : SavedHolds s
  saved_holds = record {
    long = file_long;
    reads = ends→read (file_of s) z n file_stands file_long;
    same = file_session;
    missing = cut_missing (file_of s);
    cut = λ c l h. cut→read (file_of s) z n c file_stands l (omega (arith, file_long));
    first = λ c l h. cut_same (file_of s) z n file_stands c l (omega (arith, file_long)) ∙ ap (λ (t : Session). first_positions t (whole_in z c)) file_session;
  }
