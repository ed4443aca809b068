-- What adding positions answers, test by test in the definition's order, and what it leaves in the buffer. Assumes nothing.
use Rattle.std.specs.Prelude.{Option, Some, None, Ok, Err}
use mathlib.Core.Path.{◌≡◌, refl, sym, ap, ◌∙◌}
use mathlib.Core.Bool.{true, false}
use mathlib.Core.List.{List}
use Prim.Native.Nat.{ℕ, ◌+◌, ◌-◌, ◌*◌, ◌≤◌, ◌<◌}
use native.Mathlib.Nat.{add-mul}
use native.Mathlib.Omega.{arith}
use borrow.Author.Tests.{eqb-true, le-leb, lt-leb}
use lib.Dec.{eqb}
use lib.Ieee.{Float}
use lib.ListN.{length, take}
use Rattle.bool_laws.proofs.Tests.{both_true}
use Rattle.tensor_laws.proofs.Parts.{with_part}
use Rattle.records.specs.Records.{written_at}
use Rattle.records.proofs.Fronts.{written_part}
use Rattle.session_file.specs.declared.Sizes.{Sizes}
use Rattle.call.specs.declared.Refusal.{Refusal}
use Rattle.call.specs.declared.Refusal.TheVariants.{Limits, InputLength, Position, Room}
use Rattle.call.specs.Refusals.{Verdict, where_found}
use Rattle.call.proofs.FirstLink.{refused_not_accepted, same_refusal}
use Rattle.session_file.specs.Reader.{Reading, session_read}
use Rattle.session_file.specs.Below.{least_from, joined}
use Rattle.session_file.specs.Sizes.{sizes_hold, rows_of, record_length, record_start}
use Rattle.session_file.specs.Form.{session_of, position_bytes}
use Rattle.session_file.specs.Reader.{caches_fit, read_of}
use Rattle.session_file.specs.Writer.{saved, Written, written, refused_with, rows_fault, written_behind, appended_to, append_of}
use Rattle.session_file.proofs.Joined.{length_joined}
use Rattle.session_writer.specs.Fits.{CachesFit}
use Rattle.session_writer.proofs.Rows.{length_position_bytes}

-- ---- what the test of lengths says

pub caches_fit_lem : (z : Sizes) (n keys values : ℕ) → sizes_hold z ≡ true → n ≤ 2048 → caches_fit z n keys values ≡ true → CachesFit z n keys values
caches_fit_lem z n keys values l h e =
    let t = both_true (eqb keys (rows_of z * n * z.size)) (eqb values (rows_of z * n * z.vsize)) e in
    record {
      limits = l;
      positions = h;
      keys_length = eqb-true keys (rows_of z * n * z.size) t.0;
      values_length = eqb-true values (rows_of z * n * z.vsize) t.1;
    }

-- ---- what the verdict on what was found says

-- where it accepts, nothing was found
accepted_none : (f : Option ℕ) (r : ℕ → Refusal) (u : Unit {0}) → where_found f r ≡ Ok u → f ≡ None
accepted_none None r u e = refl
accepted_none (Some p) r u e = elim (refused_not_accepted {a = r p} e) [ ]

pub none_found : {f g : Option ℕ} {v : Verdict} (r : ℕ → Refusal) (u : Unit {0}) → f ≡ g → v ≡ where_found f r → v ≡ Ok u → g ≡ None
none_found {f = f} r u e is was = sym e ∙ accepted_none f r u (sym is ∙ was)

-- where it refuses, that was found at a place
refused_some : (f : Option ℕ) (r : ℕ → Refusal) (a : Refusal) → where_found f r ≡ Err a → (p : ℕ) × (f ≡ Some p) × (a ≡ r p)
refused_some None r a e = elim (refused_not_accepted {a = a} (sym e)) [ ]
refused_some (Some p) r a e = (p, refl, sym (same_refusal e))

-- ---- the place of the new records

-- they fill the bytes from the end of the last whole record to the new end
pub new_length : (z : Sizes) (n count from to : ℕ) → from ≡ record_start z n → to ≡ record_start z (n + count) → (from + (to - from) ≡ to) × (to - from ≡ count * record_length z)
new_length z n count from to e f = let m = add-mul n count (record_length z) in (omega arith, omega arith)

-- ---- the answers

module _ (z : Sizes) (n : ℕ) (buffer : List ℕ) (count : ℕ) (keys values : List Float) where
  pub too_many : 2048 < n + count → refused_with Limits buffer ≡ appended_to (session_read z n) buffer count keys values
  unfolding appended_to
  too_many h = rw (lt-leb (n + count) 2048 h)

  module _ (h : n + count ≤ 2048) where
    pub wrong_lengths : caches_fit z count (length keys) (length values) ≡ false → refused_with InputLength buffer ≡ appended_to (session_read z n) buffer count keys values
    unfolding appended_to
    wrong_lengths e = rw (le-leb (n + count) 2048 h, e)

    module _ (e : caches_fit z count (length keys) (length values) ≡ true) where
      -- a fault was found at p
      pub wrong_element : (p : ℕ) → least_from (rows_fault (session_of z count keys values)) count 0 ≡ Some p → refused_with (Position (n + p)) buffer ≡ appended_to (session_read z n) buffer count keys values
      unfolding appended_to written_behind
      wrong_element p f = rw (le-leb (n + count) 2048 h, e, f)

      -- so the verdict on what was found is the answer
      pub position_refused : (f : Option ℕ) (v : Verdict) (a : Refusal) → f ≡ least_from (rows_fault (session_of z count keys values)) count 0 → v ≡ where_found f (λ p. Position (n + p)) → v ≡ Err a
          → refused_with a buffer ≡ appended_to (session_read z n) buffer count keys values
      position_refused f v a g is was =
          let s = refused_some f (λ p. Position (n + p)) a (sym is ∙ was) in
          ap (λ (b : Refusal). refused_with b buffer) s.2 ∙ wrong_element s.0 (sym g ∙ s.1)

      -- none was found
      module _ (f : least_from (rows_fault (session_of z count keys values)) count 0 ≡ None) where
        pub no_room : length buffer < record_start z (n + count) → refused_with Room buffer ≡ appended_to (session_read z n) buffer count keys values
        unfolding appended_to written_behind
        no_room l = rw (le-leb (n + count) 2048 h, e, f, lt-leb (record_start z (n + count)) (length buffer) l)

        added : record_start z (n + count) ≤ length buffer
            → written (saved (n + count) (record_start z (n + count))) (written_at buffer (record_start z n) (joined (position_bytes (session_of z count keys values)) count))
            ≡ appended_to (session_read z n) buffer count keys values
        unfolding appended_to written_behind
        added l = rw (le-leb (n + count) 2048 h, e, f, le-leb (record_start z (n + count)) (length buffer) l)

        -- the part of the buffer that was lent comes back with the new records
        pub all_saved : CachesFit z count (length keys) (length values) → (from to : ℕ) (w : List ℕ) → from ≡ record_start z n → to ≡ record_start z (n + count) → to ≤ length buffer
            → w ≡ joined (position_bytes (session_of z count keys values)) count
            → written (saved (n + count) to) (with_part from (to - from) buffer w) ≡ appended_to (session_read z n) buffer count keys values
        all_saved fit from to w a b l d =
            let records = joined (position_bytes (session_of z count keys values)) count in
            let long : length w ≡ to - from =
            ap length d
            ∙ length_joined (position_bytes (session_of z count keys values)) (record_length z) count (λ p k. length_position_bytes z count keys values fit p k)
            ∙ omega (arith, (new_length z n count from to a b).1)
            in
            ap (λ (s : List ℕ). written (saved (n + count) to) s) (written_part from (to - from) buffer w long)
            ∙ (λ j. written (saved (n + count) (b j)) (written_at buffer (a j) (d j)))
            ∙ added (rw b at l)

-- ---- the file in the buffer

module _ (buffer : List ℕ) (used count : ℕ) (keys values : List Float) where
  pub behind_buffer : length buffer < used → refused_with Room buffer ≡ append_of buffer used count keys values
  unfolding append_of
  behind_buffer h = rw (lt-leb used (length buffer) h)

  -- the file's reading decides
  pub read_first : (reading : Reading) (w : Written) → used ≤ length buffer → read_of (take used buffer) ≡ reading → w ≡ appended_to reading buffer count keys values → w ≡ append_of buffer used count keys values
  unfolding append_of
  read_first reading w h e f = rw (le-leb used (length buffer) h, e) f

  pub file_refused : (r : Refusal) → used ≤ length buffer → read_of (take used buffer) ≡ Err r → refused_with r buffer ≡ append_of buffer used count keys values
  unfolding appended_to
  file_refused r h e = read_first (Err r) (refused_with r buffer) h e refl
