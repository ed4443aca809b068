-- A search finds nothing exactly where no element is at fault, and otherwise the first index at fault; where two searches agree on every element of a list, they find the same. Assumes nothing.
use Rattle.std.specs.Prelude.{Option, Some, None}
use mathlib.Core.Path.{◌≡◌, refl, sym, ap, ◌∙◌, subst}
use mathlib.Core.List.{List, [], ◌∷◌}
use mathlib.Core.Bool.{Bool, true, false, true≢false, cond}
use Prim.Native.Nat.{ℕ, zero, suc, ◌+◌, ◌<◌, suc-le-suc}
use native.Mathlib.Nat.{lt_of_not-le, le_antisymm, not-suc-le-zero, le_of_suc-le-suc, add-zero, zero-add, add-suc, suc-add, zero-lt-suc}
use native.Mathlib.Omega.{arith}
use lib.ListN.{length, get_or}
use Rattle.std.specs.List.{position, position_or_len}
use Rattle.std.proofs.lemmas.List.Sums.{passes_at_first, fails_before_first}
use borrow.Author.Tests.{ltb-true, ltb-false}
use lib.Dec.{ltb}
use Rattle.call.specs.Contents.{first_from, first_fault}
use Rattle.call.specs.Places.{First}

pub no_index : (i : ℕ) → Some i ≡ None → ⊥
no_index i e = let z : ◌≡◌ {A = ℕ} 0 1 = cc in omega arith

passed : (b : Bool) (i : ℕ) (later : Option ℕ) → cond b (Some i) later ≡ None → (b ≡ false) × (later ≡ None)
passed true i later e = absurd (no_index i e)
passed false i later e = (refl, e)

-- what was found: here, or later
either : (b : Bool) (i k : ℕ) (later : Option ℕ) → cond b (Some i) later ≡ Some k → (P : Type 0) → (b ≡ true → i ≡ k → P) → (b ≡ false → later ≡ Some k → P) → P
either true i k later e P here there = here refl (cc)
either false i k later e P here there = there refl e

module _ {A : Type 0} (fault : ℕ → A → Bool) (d : A) where
  shifted : (i k : ℕ) (x : A) (b : Bool) → fault (suc i + k) x ≡ b → fault (i + suc k) x ≡ b
  shifted i k x b h = subst (λ (n : ℕ). fault n x ≡ b) (suc-add i k ∙ sym (add-suc i k)) h

  clear_from : (xs : List A) (i : ℕ) → first_from fault i xs ≡ None → (k : ℕ) → k < length xs → fault (i + k) (get_or xs k d) ≡ false
  unfolding first_from
  clear_from [] i e k h = absurd (not-suc-le-zero h)
  clear_from (x ∷ xs) i e zero h = subst (λ (n : ℕ). fault n x ≡ false) (sym (add-zero i)) (passed (fault i x) i (first_from fault (suc i) xs) e).0
  clear_from (x ∷ xs) i e (suc k) h = shifted i k (get_or xs k d) false (clear_from xs (suc i) (passed (fault i x) i (first_from fault (suc i) xs) e).1 k (le_of_suc-le-suc h))

  from_clear : (xs : List A) (i : ℕ) → ((k : ℕ) → k < length xs → fault (i + k) (get_or xs k d) ≡ false) → first_from fault i xs ≡ None
  unfolding first_from
  from_clear [] i h = refl
  from_clear (x ∷ xs) i h =
      ap (λ (b : Bool). cond b (Some i) (first_from fault (suc i) xs)) (subst (λ (n : ℕ). fault n x ≡ false) (add-zero i) (h 0 (zero-lt-suc (length xs))))
      ∙ from_clear xs (suc i) (λ k l. subst (λ (n : ℕ). fault n (get_or xs k d) ≡ false) (sym (suc-add i k ∙ sym (add-suc i k))) (h (suc k) (suc-le-suc l)))

  -- nothing is found exactly where no element is at fault
  pub nothing→clear : (xs : List A) → first_fault fault xs ≡ None → (k : ℕ) → k < length xs → fault k (get_or xs k d) ≡ false
  unfolding first_fault
  nothing→clear xs e k h = subst (λ (n : ℕ). fault n (get_or xs k d) ≡ false) (zero-add k) (clear_from xs 0 e k h)

  pub clear→nothing : (xs : List A) → ((k : ℕ) → k < length xs → fault k (get_or xs k d) ≡ false) → first_fault fault xs ≡ None
  unfolding first_fault
  clear→nothing xs h = from_clear xs 0 (λ k l. subst (λ (n : ℕ). fault n (get_or xs k d) ≡ false) (sym (zero-add k)) (h k l))

  -- element k is the first at fault of a list whose indexes are counted from i
  record FirstFrom (xs : List A) (i k : ℕ) : Type 0 where
    inside : k < length xs
    faulty : fault (i + k) (get_or xs k d) ≡ true
    before : (j : ℕ) → j < k → fault (i + j) (get_or xs j d) ≡ false

  first_from_is : (xs : List A) (i n : ℕ) → first_from fault i xs ≡ Some n → (k : ℕ) × (n ≡ i + k) × FirstFrom xs i k
  unfolding first_from
  first_from_is [] i n e = absurd (no_index n (sym e))
  first_from_is (x ∷ xs) i n e =
      either (fault i x) i n (first_from fault (suc i) xs) e ((k : ℕ) × (n ≡ i + k) × FirstFrom (x ∷ xs) i k)
      (λ b p. (0, sym p ∙ sym (add-zero i), record { inside = zero-lt-suc (length xs); faulty = subst (λ (m : ℕ). fault m x ≡ true) (sym (add-zero i)) b; before = λ j h. absurd (not-suc-le-zero h) }))
      (λ b p. let r = first_from_is xs (suc i) n p in (suc r.0, r.1 ∙ suc-add i r.0 ∙ sym (add-suc i r.0), later b r.0 r.2))
    where
      later : fault i x ≡ false → (k : ℕ) → FirstFrom xs (suc i) k → FirstFrom (x ∷ xs) i (suc k)
      later b k f = record {
        inside = suc-le-suc f.inside;
        faulty = shifted i k (get_or xs k d) true f.faulty;
        before = earlier b k f;
      }
        where
          earlier : fault i x ≡ false → (k : ℕ) → FirstFrom xs (suc i) k → (j : ℕ) → j < suc k → fault (i + j) (get_or (x ∷ xs) j d) ≡ false
          earlier b k f zero h = subst (λ (m : ℕ). fault m x ≡ false) (sym (add-zero i)) b
          earlier b k f (suc j) h = shifted i j (get_or xs j d) false (f.before j (le_of_suc-le-suc h))

  -- what is found is the first index at fault
  pub found→first : (xs : List A) (n : ℕ) → first_fault fault xs ≡ Some n → First fault d xs n
  unfolding first_fault
  found→first xs n e =
      let r = first_from_is xs 0 n e in
      let f = subst (λ (k : ℕ). FirstFrom xs 0 k) (sym (r.1 ∙ zero-add r.0)) r.2 in
      record {
        inside = f.inside;
        faulty = subst (λ (m : ℕ). fault m (get_or xs n d) ≡ true) (zero-add n) f.faulty;
        before = λ j h. subst (λ (m : ℕ). fault m (get_or xs j d) ≡ false) (zero-add j) (f.before j h);
      }

  -- where an element is at fault and none before it, its index is found
  pub first→found : (xs : List A) (n : ℕ) → n < length xs → fault n (get_or xs n d) ≡ true → ((k : ℕ) → k < n → fault k (get_or xs k d) ≡ false) → first_fault fault xs ≡ Some n
  first→found xs n h f b = by_found (first_fault fault xs) refl
    where
      by_found : (r : Option ℕ) → first_fault fault xs ≡ r → first_fault fault xs ≡ Some n
      by_found None e = absurd (true≢false (sym f ∙ nothing→clear xs e n h))
      by_found (Some m) e = e ∙ ap Some (same (found→first xs m e))
        where
          same : First fault d xs m → m ≡ n
          same p =
              le_antisymm
              (le_of_suc-le-suc (lt_of_not-le (λ g. true≢false (sym f ∙ p.before n g))))
              (le_of_suc-le-suc (lt_of_not-le (λ l. true≢false (sym p.faulty ∙ b m l))))

-- searches that agree on every element of a list
module _ {A : Type 0} (f g : ℕ → A → Bool) (d : A) where
  from_same : (xs : List A) (i : ℕ) → ((k : ℕ) → k < length xs → f (i + k) (get_or xs k d) ≡ g (i + k) (get_or xs k d)) → first_from f i xs ≡ first_from g i xs
  unfolding first_from
  from_same [] i h = refl
  from_same (x ∷ xs) i h =
      λ j. cond (subst (λ (n : ℕ). f n x ≡ g n x) (add-zero i) (h 0 (zero-lt-suc (length xs))) j) (Some i)
      (from_same xs (suc i) (λ k l. subst (λ (n : ℕ). f n (get_or xs k d) ≡ g n (get_or xs k d)) (sym (suc-add i k ∙ sym (add-suc i k))) (h (suc k) (suc-le-suc l))) j)

  pub fault_same : (xs : List A) → ((k : ℕ) → k < length xs → f k (get_or xs k d) ≡ g k (get_or xs k d)) → first_fault f xs ≡ first_fault g xs
  unfolding first_fault
  fault_same xs h = from_same xs 0 (λ k l. subst (λ (n : ℕ). f n (get_or xs k d) ≡ g n (get_or xs k d)) (sym (zero-add k)) (h k l))

-- where the index does not matter, what is found is the position of the first element at fault
pub search_position : {A : Type 0} (p : A → Bool) (d : A) (xs : List A) → first_fault (λ k x. p x) xs ≡ position p xs
search_position {A} p d xs = by_test (position_or_len p xs) refl (ltb (position_or_len p xs) (length xs)) refl
  where
    by_test : (n : ℕ) → n ≡ position_or_len p xs → (b : Bool) → ltb n (length xs) ≡ b → first_fault (λ k x. p x) xs ≡ cond b (Some n) None
    by_test n q true e = let l = ltb-true n (length xs) e in first→found (λ k x. p x) d xs n l (rw q (passes_at_first p xs d (rw q at l))) (λ k h. fails_before_first p xs k d (rw q at h))
    by_test n q false e = let l = ltb-false n (length xs) e in clear→nothing (λ k x. p x) d xs (λ k h. fails_before_first p xs k d (omega arith))
