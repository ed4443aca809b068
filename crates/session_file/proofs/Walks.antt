-- What a reading says of the file: its first record, its sizes, and that the positions it counts are whole and without fault. Assumes nothing.
use Rattle.std.specs.Prelude.{Ok, Err}
use mathlib.Core.Path.{◌≡◌, refl, sym, ap, ◌∙◌, subst}
use mathlib.Core.Logic.{◌⊎◌, inl, inr}
use mathlib.Core.Bool.{Bool, true, false, cond, true≢false}
use mathlib.Core.List.{List}
use Prim.Native.Nat.{ℕ, zero, suc, ◌+◌, ◌≤◌, ◌<◌}
use native.Mathlib.Nat.{suc-mul, zero-mul}
use native.Mathlib.Omega.{arith}
use lib.Dec.{leb, ltb}
use lib.ListN.{length}
use native.Mathlib.Decide.{dec_lt}
use borrow.Author.Tests.{ltb-true, ltb-false, leb-true}
use Rattle.bool_laws.proofs.Tests.{both_true}
use Rattle.records.specs.Records.{head_is}
use Rattle.session_file.specs.declared.Sizes.{Sizes}
use Rattle.session_file.specs.declared.Next.{Next}
use Rattle.session_file.specs.declared.Next.TheVariants.{Ended, Wrong, Cut, Whole}
use Rattle.call.specs.declared.Refusal.{Refusal}
use Rattle.call.specs.declared.Refusal.TheVariants.{Limits, Position, Record}
use Rattle.session_file.specs.Reader.{Reading, session_read}
use Rattle.session_file.specs.Sizes.{sizes_hold, most_positions, payload_length, record_length, record_start}
use Rattle.session_file.specs.Reader.{next_of, position_fault, at_most, onward, walk_from, sizes_at, first_whole, read_of}

-- n positions of a file of sizes z are whole and without fault
pub record Standing (file : List ℕ) (z : Sizes) (n : ℕ) : Type 0 where
  pub first : first_whole file ≡ true
  pub sizes : z ≡ sizes_at file
  pub limits : sizes_hold z ≡ true
  pub most : n ≤ most_positions
  pub inside : record_start z n ≤ length file
  pub heads : (p : ℕ) → p < n → head_is file (record_start z p) (payload_length z) 2 ≡ true
  pub sound : (p : ℕ) → p < n → position_fault z file p ≡ false

-- ---- one record

pub next_at : (z : Sizes) (p : ℕ) → record_start z (suc p) ≡ record_start z p + record_length z
next_at z p = omega (arith, suc-mul p (record_length z))

abbrev is_whole : Next → Bool
is_whole Ended = false
is_whole Wrong = false
is_whole Cut = false
is_whole Whole = true

whole_by : (a b c : Bool) → is_whole (cond a Ended (cond b (cond c Cut Whole) Wrong)) ≡ true → (b ≡ true) × (c ≡ false)
whole_by true b c e = absurd (true≢false (sym e))
whole_by false true true e = absurd (true≢false (sym e))
whole_by false true false e = (refl, refl)
whole_by false false c e = absurd (true≢false (sym e))

-- a whole record has the right head, and ends inside the file
pub whole→record : (z : Sizes) (file : List ℕ) (p : ℕ) → next_of z file p ≡ Whole → (head_is file (record_start z p) (payload_length z) 2 ≡ true) × (record_start z p + record_length z ≤ length file)
unfolding next_of
whole→record z file p e =
    let w = whole_by (ltb (length file) (record_start z p + 6)) (head_is file (record_start z p) (payload_length z) 2) (ltb (length file) (record_start z p + record_length z)) (ap is_whole e) in
    (w.0, ltb-false _ _ w.1)

-- ---- the walk

abbrev is_session : Reading → Bool
is_session (Ok s) = true
is_session (Err r) = false

abbrev sizes_in : Sizes → Reading → Sizes
sizes_in z (Ok s) = s.sizes
sizes_in z (Err r) = z

abbrev positions_in : Reading → ℕ
positions_in (Ok s) = s.positions
positions_in (Err r) = 0

-- the walk from position p on stops at n: the positions between are whole and without fault
record Walked (z : Sizes) (file : List ℕ) (more p : ℕ) (y : Sizes) (n : ℕ) : Type 0 where
  sizes : y ≡ z
  low : p ≤ n
  high : n ≤ p + more
  each : (q : ℕ) → p ≤ q → q < n → (next_of z file q ≡ Whole) × (position_fault z file q ≡ false)
  end : (next_of z file n ≡ Ended) ⊎ ((next_of z file n ≡ Cut) × (n < p + more))

stopped : (z : Sizes) (file : List ℕ) (more p : ℕ) (y : Sizes) (n : ℕ) → (next_of z file p ≡ Ended) ⊎ ((next_of z file p ≡ Cut) × (p < p + more)) → session_read z p ≡ session_read y n → Walked z file more p y n
stopped z file more p y n s e =
    let m : p ≡ n = ap positions_in e in
    record {
      sizes = sym (ap (sizes_in z) e);
      low = omega arith;
      high = omega arith;
      each = λ q l h. absurd (omega arith);
      end = subst (λ (i : ℕ). (next_of z file i ≡ Ended) ⊎ ((next_of z file i ≡ Cut) × (i < p + more))) m s;
    }

not_session : (r : Reading) (y : Sizes) (n : ℕ) → is_session r ≡ false → r ≡ session_read y n → ⊥
not_session r y n f e = true≢false (sym (ap is_session e) ∙ f)

at_most→walked : (z : Sizes) (file : List ℕ) (p : ℕ) (y : Sizes) (n : ℕ) (k : Next) → next_of z file p ≡ k → at_most z p k ≡ session_read y n → Walked z file 0 p y n
at_most→walked z file p y n Ended f e = stopped z file 0 p y n (inl f) e
at_most→walked z file p y n Wrong f e = absurd (not_session _ y n refl e)
at_most→walked z file p y n Cut f e = absurd (not_session _ y n refl e)
at_most→walked z file p y n Whole f e = absurd (not_session _ y n refl e)

onward→walked : (z : Sizes) (file : List ℕ) (more p : ℕ) (y : Sizes) (n : ℕ) (k : Next) (b : Bool) → next_of z file p ≡ k → position_fault z file p ≡ b
    → (walk_from z file more (suc p) ≡ session_read y n → Walked z file more (suc p) y n) → onward z p k b (walk_from z file more (suc p)) ≡ session_read y n → Walked z file (suc more) p y n
onward→walked z file more p y n Ended b f g rest e = stopped z file (suc more) p y n (inl f) e
onward→walked z file more p y n Wrong b f g rest e = absurd (not_session _ y n refl e)
onward→walked z file more p y n Cut b f g rest e = stopped z file (suc more) p y n (inr (f, omega arith)) e
onward→walked z file more p y n Whole true f g rest e = absurd (not_session _ y n refl e)
onward→walked z file more p y n Whole false f g rest e =
    let w = rest e in record {
      sizes = w.sizes;
      low = omega (arith, w.low);
      high = omega (arith, w.high);
      each = λ q l h. at_or_after q l h (dec_lt p q);
      end = later w.end;
    }
  where
    later : (next_of z file n ≡ Ended) ⊎ ((next_of z file n ≡ Cut) × (n < suc p + more)) → (next_of z file n ≡ Ended) ⊎ ((next_of z file n ≡ Cut) × (n < p + suc more))
    later (inl a) = inl a
    later (inr a) = inr (a.0, omega (arith, a.1))

    at_or_after : (q : ℕ) → p ≤ q → q < n → Dec (p < q) → (next_of z file q ≡ Whole) × (position_fault z file q ≡ false)
    at_or_after q l h (yes a) = (rest e).each q a h
    at_or_after q l h (no a) =
        let m : p ≡ q = omega arith in
        (subst (λ (i : ℕ). next_of z file i ≡ Whole) m f, subst (λ (i : ℕ). position_fault z file i ≡ false) m g)

walk→walked : (z : Sizes) (file : List ℕ) (more p : ℕ) (y : Sizes) (n : ℕ) → walk_from z file more p ≡ session_read y n → Walked z file more p y n
unfolding walk_from
walk→walked z file zero p y n e = at_most→walked z file p y n (next_of z file p) refl e
walk→walked z file (suc more) p y n e =
    onward→walked z file more p y n (next_of z file p) (position_fault z file p) refl refl (walk→walked z file more (suc p) y n) e

-- ---- the file

inside_of : (z : Sizes) (file : List ℕ) (n : ℕ) → 14 ≤ length file → ((q : ℕ) → 0 ≤ q → q < n → (next_of z file q ≡ Whole) × (position_fault z file q ≡ false)) → record_start z n ≤ length file
inside_of z file zero h each = rw (zero-mul (record_length z)) h
inside_of z file (suc n) h each =
    let w = whole→record z file n (each n (omega arith) (omega arith)).0 in
    rw (next_at z n) w.1

walked→standing : (z y : Sizes) (file : List ℕ) (n : ℕ) → first_whole file ≡ true → sizes_hold z ≡ true → z ≡ sizes_at file → Walked z file most_positions 0 y n → Standing file y n
walked→standing z y file n f h s w =
    subst (λ (x : Sizes). Standing file x n) (sym w.sizes) (record {
      first = f;
      sizes = s;
      limits = h;
      most = omega (arith, w.high);
      inside = inside_of z file n (leb-true 14 (length file) (both_true (leb 14 (length file)) (head_is file 0 8 1) f).0) w.each;
      heads = λ p l. (whole→record z file p (w.each p (omega arith) l).0).0;
      sound = λ p l. (w.each p (omega arith) l).1;
    })

read_by : (file : List ℕ) (y : Sizes) (n : ℕ) (a b : Bool) → first_whole file ≡ a → sizes_hold (sizes_at file) ≡ b
    → cond a (cond b (walk_from (sizes_at file) file most_positions 0) (Err Limits)) (Err (Record 0)) ≡ session_read y n → Standing file y n
read_by file y n true true f h e = walked→standing (sizes_at file) y file n f h refl (walk→walked (sizes_at file) file most_positions 0 y n e)
read_by file y n true false f h e = absurd (not_session _ y n refl e)
read_by file y n false b f h e = absurd (not_session _ y n refl e)

-- a reading that gives a session: its positions stand in the file
pub read→standing : (file : List ℕ) (z : Sizes) (n : ℕ) → read_of file ≡ session_read z n → Standing file z n
unfolding read_of
read→standing file z n e = read_by file z n (first_whole file) (sizes_hold (sizes_at file)) refl refl e

-- where the walk of a read file ends: fewer than six bytes, or a cut record that is not the 2,049th
abbrev pub Stops : Sizes → List ℕ → ℕ → Type 0
Stops z file k = (next_of z file k ≡ Ended) ⊎ ((next_of z file k ≡ Cut) × (k < most_positions))

stops_by : (file : List ℕ) (y : Sizes) (n : ℕ) (a b : Bool) → first_whole file ≡ a → sizes_hold (sizes_at file) ≡ b
    → cond a (cond b (walk_from (sizes_at file) file most_positions 0) (Err Limits)) (Err (Record 0)) ≡ session_read y n → Stops y file n
stops_by file y n true true f h e = let w = walk→walked (sizes_at file) file most_positions 0 y n e in subst (λ (z : Sizes). Stops z file n) (sym w.sizes) (narrow w.end)
  where
    narrow : (next_of (sizes_at file) file n ≡ Ended) ⊎ ((next_of (sizes_at file) file n ≡ Cut) × (n < 0 + most_positions)) → Stops (sizes_at file) file n
    narrow (inl q) = inl q
    narrow (inr q) = inr (q.0, omega (arith, q.1))
stops_by file y n true false f h e = absurd (not_session _ y n refl e)
stops_by file y n false b f h e = absurd (not_session _ y n refl e)

pub read→stops : (file : List ℕ) (z : Sizes) (n : ℕ) → read_of file ≡ session_read z n → Stops z file n
unfolding read_of
read→stops file z n e = stops_by file z n (first_whole file) (sizes_hold (sizes_at file)) refl refl e

-- ---- what is known of a record that is cut

abbrev is_cut : Next → Bool
is_cut Ended = false
is_cut Wrong = false
is_cut Cut = true
is_cut Whole = false

cut_by : (a b c : Bool) → is_cut (cond a Ended (cond b (cond c Cut Whole) Wrong)) ≡ true → (a ≡ false) × (b ≡ true) × (c ≡ true)
cut_by true b c e = absurd (true≢false (sym e))
cut_by false true true e = (refl, refl, refl)
cut_by false true false e = absurd (true≢false (sym e))
cut_by false false c e = absurd (true≢false (sym e))

-- a cut record has the right head, and the file ends inside it, behind the head
pub cut→record : (z : Sizes) (file : List ℕ) (p : ℕ) → next_of z file p ≡ Cut → (head_is file (record_start z p) (payload_length z) 2 ≡ true) × (length file < record_start z p + record_length z) × (record_start z p + 6 ≤ length file)
unfolding next_of
cut→record z file p e =
    let w = cut_by (ltb (length file) (record_start z p + 6)) (head_is file (record_start z p) (payload_length z) 2) (ltb (length file) (record_start z p + record_length z)) (ap is_cut e) in
    (w.1, ltb-true _ _ w.2, ltb-false _ _ w.0)

abbrev is_ended : Next → Bool
is_ended Ended = true
is_ended Wrong = false
is_ended Cut = false
is_ended Whole = false

ended_by : (a b c : Bool) → is_ended (cond a Ended (cond b (cond c Cut Whole) Wrong)) ≡ true → a ≡ true
ended_by true b c e = refl
ended_by false true true e = absurd (true≢false (sym e))
ended_by false true false e = absurd (true≢false (sym e))
ended_by false false c e = absurd (true≢false (sym e))

-- behind the last record of a file that ends there are fewer than six bytes
pub ended→short : (z : Sizes) (file : List ℕ) (p : ℕ) → next_of z file p ≡ Ended → length file < record_start z p + 6
unfolding next_of
ended→short z file p e =
    ltb-true _ _ (ended_by (ltb (length file) (record_start z p + 6)) (head_is file (record_start z p) (payload_length z) 2) (ltb (length file) (record_start z p + record_length z)) (ap is_ended e))

-- ---- a walk that is refused

abbrev refusal_in : Reading → Refusal
refusal_in (Ok s) = Limits
refusal_in (Err r) = r

-- why a walk is refused at position n: a whole record with a fault, a wrong head, or a right head behind 2,048 positions
abbrev pub Fault : Sizes → List ℕ → (most n : ℕ) → Refusal → Type 0
Fault z file most n r =
    ((next_of z file n ≡ Whole) × (position_fault z file n ≡ true) × (n < most) × (r ≡ Position n))
    ⊎ (((next_of z file n ≡ Wrong) × (r ≡ Record (record_start z n)))
    ⊎ (((next_of z file n ≡ Cut) ⊎ (next_of z file n ≡ Whole)) × (n ≡ most) × (r ≡ Limits)))

record Broken (z : Sizes) (file : List ℕ) (more p : ℕ) (r : Refusal) : Type 0 where
  n : ℕ
  low : p ≤ n
  high : n ≤ p + more
  each : (q : ℕ) → p ≤ q → q < n → (next_of z file q ≡ Whole) × (position_fault z file q ≡ false)
  fault : Fault z file (p + more) n r

breaks : (z : Sizes) (file : List ℕ) (more p : ℕ) (r : Refusal) → Fault z file (p + more) p r → Broken z file more p r
breaks z file more p r f = record { n = p; low = omega arith; high = omega arith; each = λ q l h. absurd (omega arith); fault = f }

is_session_lem : (z : Sizes) (n : ℕ) (r : Refusal) → session_read z n ≡ Err r → ⊥
is_session_lem z n r e = true≢false (ap is_session e)

at_most→broken : (z : Sizes) (file : List ℕ) (p : ℕ) (r : Refusal) (k : Next) → next_of z file p ≡ k → at_most z p k ≡ Err r → Broken z file 0 p r
at_most→broken z file p r Ended f e = absurd (is_session_lem _ _ r e)
at_most→broken z file p r Wrong f e = breaks z file 0 p r (inr (inl (f, sym (ap refusal_in e))))
at_most→broken z file p r Cut f e = breaks z file 0 p r (inr (inr (inl f, omega arith, sym (ap refusal_in e))))
at_most→broken z file p r Whole f e = breaks z file 0 p r (inr (inr (inr f, omega arith, sym (ap refusal_in e))))

onward→broken : (z : Sizes) (file : List ℕ) (more p : ℕ) (r : Refusal) (k : Next) (b : Bool) → next_of z file p ≡ k → position_fault z file p ≡ b
    → (walk_from z file more (suc p) ≡ Err r → Broken z file more (suc p) r) → onward z p k b (walk_from z file more (suc p)) ≡ Err r → Broken z file (suc more) p r
onward→broken z file more p r Ended b f g rest e = absurd (is_session_lem _ _ r e)
onward→broken z file more p r Wrong b f g rest e = breaks z file (suc more) p r (inr (inl (f, sym (ap refusal_in e))))
onward→broken z file more p r Cut b f g rest e = absurd (is_session_lem _ _ r e)
onward→broken z file more p r Whole true f g rest e = breaks z file (suc more) p r (inl (f, g, omega arith, sym (ap refusal_in e)))
onward→broken z file more p r Whole false f g rest e =
    let w = rest e in
    let m : suc p + more ≡ p + suc more = omega arith in
    record {
      n = w.n;
      low = omega (arith, w.low);
      high = omega (arith, w.high);
      each = λ q l h. at_or_after q l h (dec_lt p q);
      fault = subst (λ (i : ℕ). Fault z file i w.n r) m w.fault;
    }
  where
    at_or_after : (q : ℕ) → p ≤ q → q < (rest e).n → Dec (p < q) → (next_of z file q ≡ Whole) × (position_fault z file q ≡ false)
    at_or_after q l h (yes a) = (rest e).each q a h
    at_or_after q l h (no a) =
        let m : p ≡ q = omega arith in
        (subst (λ (i : ℕ). next_of z file i ≡ Whole) m f, subst (λ (i : ℕ). position_fault z file i ≡ false) m g)

walk→broken : (z : Sizes) (file : List ℕ) (more p : ℕ) (r : Refusal) → walk_from z file more p ≡ Err r → Broken z file more p r
unfolding walk_from
walk→broken z file zero p r e = at_most→broken z file p r (next_of z file p) refl e
walk→broken z file (suc more) p r e = onward→broken z file more p r (next_of z file p) (position_fault z file p) refl refl (walk→broken z file more (suc p) r) e

-- a file with a right first record that is refused: some positions stand in it, and the record behind them shows the fault
pub refused→standing : (file : List ℕ) (r : Refusal) → first_whole file ≡ true → sizes_hold (sizes_at file) ≡ true → read_of file ≡ Err r
    → (n : ℕ) × Standing file (sizes_at file) n × Fault (sizes_at file) file most_positions n r
unfolding read_of
refused→standing file r f h e =
    let z = sizes_at file in
    let w = walk→broken z file most_positions 0 r ((λ i. cond (sym f i) (cond (sym h i) (walk_from z file most_positions 0) (Err Limits)) (Err (Record 0))) ∙ e) in (
      w.n,
      record {
        first = f;
        sizes = refl;
        limits = h;
        most = omega (arith, w.high);
        inside = inside_of z file w.n (leb-true 14 (length file) (both_true (leb 14 (length file)) (head_is file 0 8 1) f).0) w.each;
        heads = λ p l. (whole→record z file p (w.each p (omega arith) l).0).0;
        sound = λ p l. (w.each p (omega arith) l).1;
      },
      subst (λ (i : ℕ). Fault z file i w.n r) (omega arith) w.fault,
    )
