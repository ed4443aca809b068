-- Of a file that is refused in the record of a position: every cut before the byte that shows the fault is read, and every later one is refused alike. Assumes nothing.
use Rattle.std.specs.Prelude.{Err}
use mathlib.Core.Logic.{◌⊎◌, inl, inr}
use mathlib.Core.Path.{◌≡◌, refl, sym, ap, ◌∙◌, subst}
use mathlib.Core.Bool.{Bool, true, false, cond, true≢false}
use mathlib.Core.List.{List}
use Prim.Native.Nat.{ℕ, zero, suc, ◌+◌, ◌≤◌, ◌<◌}
use native.Mathlib.Omega.{arith}
use native.Mathlib.Decide.{dec_lt}
use lib.Dec.{ltb}
use lib.ListN.{length, take}
use lib.Seq.{length-take-le}
use borrow.Author.Tests.{ltb-false}
use Rattle.session_file.proofs.Nexts.{next_cut, next_wrong}
use Rattle.call.specs.declared.Refusal.{Refusal}
use Rattle.call.specs.declared.Refusal.TheVariants.{Limits, Position, Record}
use Rattle.records.specs.Records.{head_is}
use Rattle.records.proofs.Places.{head_is_take}
use Rattle.session_file.specs.declared.Sizes.{Sizes}
use Rattle.session_file.specs.declared.Next.{Next}
use Rattle.session_file.specs.declared.Next.TheVariants.{Ended, Wrong, Cut, Whole}
use Rattle.session_file.specs.Sizes.{sizes_hold, most_positions, payload_length, record_length, record_start}
use Rattle.session_file.specs.Reader.{next_of, position_fault, at_most, onward, walk_from, sizes_at, first_whole, read_of}
use Rattle.session_file.proofs.Walks.{Standing, whole→record, cut→record, Fault, refused→standing}
use Rattle.session_laws.specs.Statements.{RefusedHolds}
use Rattle.session_laws.proofs.Cuts.{record_end, whole_at, fault_kept, standing_cut, tail→read}
use Rattle.session_laws.proofs.Saved.{cut_missing}

-- ---- a walk to a record that is at fault

module _ (z : Sizes) (file : List ℕ) (n : ℕ) (r : Refusal) where
  breaks_here : Fault z file most_positions n r → (more : ℕ) → n + more ≡ most_positions → walk_from z file more n ≡ Err r
  unfolding walk_from
  breaks_here (inl (a, b, c, d)) zero m = absurd (omega (arith, c))
  breaks_here (inl (a, b, c, d)) (suc more) m = (λ i. onward z n (a i) (b i) (walk_from z file more (suc n))) ∙ ap Err (sym d)
  breaks_here (inr (inl (a, d))) zero m = ap (at_most z n) a ∙ ap Err (sym d)
  breaks_here (inr (inl (a, d))) (suc more) m = ap (λ (x : Next). onward z n x (position_fault z file n) (walk_from z file more (suc n))) a ∙ ap Err (sym d)
  breaks_here (inr (inr (inl a, c, d))) zero m = ap (at_most z n) a ∙ ap Err (sym d)
  breaks_here (inr (inr (inr a, c, d))) zero m = ap (at_most z n) a ∙ ap Err (sym d)
  breaks_here (inr (inr (a, c, d))) (suc more) m = absurd (omega (arith, c))

  walk_to : Fault z file most_positions n r → ((q : ℕ) → q < n → (next_of z file q ≡ Whole) × (position_fault z file q ≡ false)) → (d p more : ℕ) → p + d ≡ n → p + more ≡ most_positions → n ≤ most_positions → walk_from z file more p ≡ Err r
  unfolding walk_from
  walk_to f each zero p more e m l = let q : n ≡ p = omega arith in subst (λ (x : ℕ). walk_from z file more x ≡ Err r) q (breaks_here f more (omega arith))
  walk_to f each (suc d) p zero e m l = absurd (omega arith)
  walk_to f each (suc d) p (suc more) e m l =
      let s = each p (omega arith) in
      (λ i. onward z p (s.0 i) (s.1 i) (walk_from z file more (suc p)))
      ∙ walk_to f each d (suc p) more (omega arith) (omega arith) l

-- a file in which n positions stand, and the record behind them is at fault
standing→refused : (file : List ℕ) (z : Sizes) (n : ℕ) (r : Refusal) → Standing file z n → Fault z file most_positions n r → read_of file ≡ Err r
unfolding read_of
standing→refused file z n r s f =
    (λ i. cond (s.first i) (cond (sizes_hold (sizes_at file)) (walk_from (sizes_at file) file most_positions 0) (Err Limits)) (Err (Record 0)))
    ∙ (λ i. cond (sizes_hold (sym s.sizes i)) (walk_from (sym s.sizes i) file most_positions 0) (Err Limits))
    ∙ (λ i. cond (s.limits i) (walk_from z file most_positions 0) (Err Limits))
    ∙ walk_to z file n r f (λ q l. let a = record_end z q n l in (whole_at z file q (s.heads q l) (omega (arith, s.inside)), s.sound q l)) n 0 most_positions (omega arith) (omega arith) s.most

-- ---- a wrong head

abbrev is_wrong : Next → Bool
is_wrong Ended = false
is_wrong Wrong = true
is_wrong Cut = false
is_wrong Whole = false

wrong_by : (a b c : Bool) → is_wrong (cond a Ended (cond b (cond c Cut Whole) Wrong)) ≡ true → (a ≡ false) × (b ≡ false)
wrong_by true b c e = absurd (true≢false (sym e))
wrong_by false true true e = absurd (true≢false (sym e))
wrong_by false true false e = absurd (true≢false (sym e))
wrong_by false false c e = (refl, refl)

wrong→head : (z : Sizes) (file : List ℕ) (p : ℕ) → next_of z file p ≡ Wrong → (record_start z p + 6 ≤ length file) × (head_is file (record_start z p) (payload_length z) 2 ≡ false)
unfolding next_of
wrong→head z file p e =
    let w = wrong_by (ltb (length file) (record_start z p + 6)) (head_is file (record_start z p) (payload_length z) 2) (ltb (length file) (record_start z p + record_length z)) (ap is_wrong e) in
    (ltb-false _ _ w.0, w.1)

-- ---- a cut behind the byte that shows the fault

module _ (file : List ℕ) (z : Sizes) (n : ℕ) (s : Standing file z n) (c : ℕ) (inside : c ≤ length file) where
  long : length (take c file) ≡ c
  long = length-take-le c file inside

  head_kept : record_start z n + 6 ≤ c → head_is (take c file) (record_start z n) (payload_length z) 2 ≡ head_is file (record_start z n) (payload_length z) 2
  head_kept l = head_is_take c (record_start z n) (payload_length z) 2 file l

  stands : record_start z n ≤ c → Standing (take c file) z n
  stands l = standing_cut file z c inside n n (omega arith) s (omega arith) l

  -- a whole record with a fault
  faulty : (r : Refusal) → next_of z file n ≡ Whole → position_fault z file n ≡ true → n < most_positions → r ≡ Position n → record_start z n + record_length z ≤ c → read_of (take c file) ≡ Err r
  faulty r a b m d l =
      let w = whole→record z file n a in
      standing→refused (take c file) z n r (stands (omega arith))
      (inl (whole_at z (take c file) n (head_kept (omega arith) ∙ w.0) (omega (arith, long)), fault_kept file z c inside n l ∙ b, m, d))

  -- a wrong head
  wrong : (r : Refusal) → next_of z file n ≡ Wrong → r ≡ Record (record_start z n) → record_start z n + 6 ≤ c → read_of (take c file) ≡ Err r
  wrong r a d l =
      let w = wrong→head z file n a in
      standing→refused (take c file) z n r (stands (omega arith)) (inr (inl (next_wrong z (take c file) n (omega (arith, long)) (head_kept l ∙ w.1), d)))

  -- a right head behind 2,048 positions
  too_many : (r : Refusal) → head_is file (record_start z n) (payload_length z) 2 ≡ true → n ≡ most_positions → r ≡ Limits → record_start z n + 6 ≤ c → read_of (take c file) ≡ Err r
  too_many r h m d l = standing→refused (take c file) z n r (stands (omega arith)) (inr (inr (right (dec_lt c (record_start z n + record_length z)), m, d)))
    where
      right : Dec (c < record_start z n + record_length z) → (next_of z (take c file) n ≡ Cut) ⊎ (next_of z (take c file) n ≡ Whole)
      right (yes a) = inl (next_cut z (take c file) n (omega (arith, long)) (head_kept l ∙ h) (omega (arith, long)))
      right (no a) = inr (whole_at z (take c file) n (head_kept l ∙ h) (omega (arith, long)))

-- ---- the file

-- every file with a right first record within the limits that is refused keeps these promises
pub refused_holds : (file : List ℕ) (r : Refusal) → first_whole file ≡ true → sizes_hold (sizes_at file) ≡ true → read_of file ≡ Err r → RefusedHolds file (sizes_at file) r
refused_holds file r a b e = let (n, s, f) = refused→standing file r a b e in go n s f
  where
    z : Sizes
    z = sizes_at file

    at_head : (n : ℕ) → Standing file z n → record_start z n + 6 ≤ length file → (r ≡ Record (record_start z n)) ⊎ ((r ≡ Limits) × (n ≡ most_positions))
        → ((c : ℕ) → record_start z n + 6 ≤ c → c ≤ length file → read_of (take c file) ≡ Err r) → RefusedHolds file z r
    at_head n s l d after = record {
      n = n;
      shown = record_start z n + 6;
      where_shown_is = inr (d, refl);
      inside = l;
      missing = cut_missing file;
      before = λ c q h. tail→read file z n c s q (omega arith) (omega arith) (λ t. absurd (omega arith));
      after = after;
    }

    go : (n : ℕ) → Standing file z n → Fault z file most_positions n r → RefusedHolds file z r
    go n s (inl (w, y, m, d)) =
        let x = whole→record z file n w in
        record {
          n = n;
          shown = record_start z n + record_length z;
          where_shown_is = inl (d, refl);
          inside = x.1;
          missing = cut_missing file;
          before = λ c q h. tail→read file z n c s q (omega (arith, x.1)) h (λ t. (x.0, m));
          after = λ c h k. faulty file z n s c k r w y m d h;
        }
    go n s (inr (inl (w, d))) = at_head n s (wrong→head z file n w).0 (inl d) (λ c h k. wrong file z n s c k r w d h)
    go n s (inr (inr (inl w, m, d))) = let x = cut→record z file n w in at_head n s x.2 (inr (d, m)) (λ c h k. too_many file z n s c k r x.0 m d h)
    go n s (inr (inr (inr w, m, d))) = let x = whole→record z file n w in at_head n s (omega (arith, x.1)) (inr (d, m)) (λ c h k. too_many file z n s c k r x.0 m d h)
