-- A list that is mapped in place, one element after the other: before element i the list is what was mapped and then what was not. Assumes nothing.
use mathlib.Core.Path.{◌≡◌, refl, sym, ap, ◌∙◌}
use mathlib.Core.List.{List, [], ◌∷◌, ◌++◌, map}
use Prim.Native.Nat.{ℕ, zero, suc, ◌+◌, ◌≤◌, ◌<◌}
use native.Mathlib.Nat.{le_of_suc-le-suc, not-suc-le-zero, zero-add, suc-add}
use native.Mathlib.Numerals.{add-one}
use lib.ListN.{length, get_or, take, drop, set, replicate}
use native.Mathlib.Omega.{arith}
use Rattle.tensor_laws.proofs.Parts.{with_part}
use Rattle.tensor_laws.specs.Layout.{tabulate}

-- the first i elements mapped, the others as they were
abbrev pub mapped_to : {A : Type 0} → (A → A) → ℕ → List A → List A
mapped_to g i l = map g (take i l) ++ drop i l

module _ {A : Type 0} (g : A → A) (d : A) where
  pub get_or_mapped_to : (i : ℕ) (l : List A) → get_or (mapped_to g i l) i d ≡ get_or l i d
  get_or_mapped_to zero l = refl
  get_or_mapped_to (suc i) [] = refl
  get_or_mapped_to (suc i) (x ∷ l) = get_or_mapped_to i l

  set_mapped_to : (i : ℕ) (l : List A) → i < length l → set (mapped_to g i l) i (g (get_or l i d)) ≡ mapped_to g (suc i) l
  set_mapped_to zero [] h = absurd (not-suc-le-zero h)
  set_mapped_to zero (x ∷ l) h = refl
  set_mapped_to (suc i) [] h = absurd (not-suc-le-zero h)
  set_mapped_to (suc i) (x ∷ l) h = ap (λ (r : List A). g x ∷ r) (set_mapped_to i l (le_of_suc-le-suc h))

  -- one turn of the loop
  pub mapped_next : (i : ℕ) (l : List A) → i < length l → set (mapped_to g i l) i (g (get_or (mapped_to g i l) i d)) ≡ mapped_to g (i + 1) l
  mapped_next i l h =
      ap (λ (x : A). set (mapped_to g i l) i (g x)) (get_or_mapped_to i l) ∙ set_mapped_to i l h ∙ ap (λ (n : ℕ). mapped_to g n l) (sym (add-one i))

module _ {A : Type 0} (g : A → A) where
  pub length_mapped_to : (i : ℕ) (l : List A) → length (mapped_to g i l) ≡ length l
  length_mapped_to zero l = refl
  length_mapped_to (suc i) [] = refl
  length_mapped_to (suc i) (x ∷ l) = ap suc (length_mapped_to i l)

  pub mapped_all : (i : ℕ) (l : List A) → length l ≤ i → mapped_to g i l ≡ map g l
  mapped_all zero [] h = refl
  mapped_all zero (x ∷ l) h = absurd (not-suc-le-zero h)
  mapped_all (suc i) [] h = refl
  mapped_all (suc i) (x ∷ l) h = ap (λ (r : List A). g x ∷ r) (mapped_all i l (le_of_suc-le-suc h))

-- ---- the same where what an element becomes depends on its index too

-- the first i elements, each mapped with its index; the others as they were
abbrev pub indexed_to : {A : Type 0} → (ℕ → A → A) → ℕ → List A → List A
indexed_to g zero l = l
indexed_to g (suc i) [] = []
indexed_to g (suc i) (x ∷ l) = g 0 x ∷ indexed_to (λ k. g (suc k)) i l

module _ {A : Type 0} where
  get_or_indexed_to : (g : ℕ → A → A) (d : A) (i : ℕ) (l : List A) → get_or (indexed_to g i l) i d ≡ get_or l i d
  get_or_indexed_to g d zero l = refl
  get_or_indexed_to g d (suc i) [] = refl
  get_or_indexed_to g d (suc i) (x ∷ l) = get_or_indexed_to (λ k. g (suc k)) d i l

  set_indexed_to : (g : ℕ → A → A) (d : A) (i : ℕ) (l : List A) → i < length l → set (indexed_to g i l) i (g i (get_or l i d)) ≡ indexed_to g (suc i) l
  set_indexed_to g d zero [] h = absurd (not-suc-le-zero h)
  set_indexed_to g d zero (x ∷ l) h = refl
  set_indexed_to g d (suc i) [] h = absurd (not-suc-le-zero h)
  set_indexed_to g d (suc i) (x ∷ l) h = ap (λ (r : List A). g 0 x ∷ r) (set_indexed_to (λ k. g (suc k)) d i l (le_of_suc-le-suc h))

  -- one turn of the loop
  pub indexed_next : (g : ℕ → A → A) (d : A) (i : ℕ) (l : List A) → i < length l → set (indexed_to g i l) i (g i (get_or (indexed_to g i l) i d)) ≡ indexed_to g (i + 1) l
  indexed_next g d i l h =
      ap (λ (x : A). set (indexed_to g i l) i (g i x)) (get_or_indexed_to g d i l) ∙ set_indexed_to g d i l h ∙ ap (λ (n : ℕ). indexed_to g n l) (sym (add-one i))

  pub length_indexed_to : (g : ℕ → A → A) (i : ℕ) (l : List A) → length (indexed_to g i l) ≡ length l
  length_indexed_to g zero l = refl
  length_indexed_to g (suc i) [] = refl
  length_indexed_to g (suc i) (x ∷ l) = ap suc (length_indexed_to (λ k. g (suc k)) i l)

  pub indexed_all : (g : ℕ → A → A) (d : A) (i : ℕ) (l : List A) → length l ≤ i → indexed_to g i l ≡ tabulate (length l) (λ k. g k (get_or l k d))
  unfolding tabulate
  indexed_all g d zero [] h = refl
  indexed_all g d zero (x ∷ l) h = absurd (not-suc-le-zero h)
  indexed_all g d (suc i) [] h = refl
  indexed_all g d (suc i) (x ∷ l) h = ap (λ (r : List A). g 0 x ∷ r) (indexed_all (λ k. g (suc k)) d i l (le_of_suc-le-suc h))

-- ---- every element becomes the same
pub map_same : {A B : Type 0} (y : B) (l : List A) → map (λ x. y) l ≡ replicate (length l) y
map_same y [] = refl
map_same {B = B} y (x ∷ l) = ap (λ (r : List B). y ∷ r) (map_same y l)

-- ---- a row that is mapped in place, one block after the other

-- with the block of k elements from i on mapped too
pub mapped_block : {A : Type 0} (g : A → A) (i k : ℕ) (l : List A) → i + k ≤ length l
    → with_part i k (mapped_to g i l) (map g (take k (drop i (mapped_to g i l)))) ≡ mapped_to g (i + k) l
mapped_block g zero k l h = ap (λ (n : ℕ). mapped_to g n l) (sym (zero-add k))
mapped_block g (suc i) k [] h = absurd (omega arith)
mapped_block {A} g (suc i) k (x ∷ l) h =
    ap (λ (r : List A). g x ∷ r) (mapped_block g i k l (omega (arith, suc-add i k)))
    ∙ ap (λ (n : ℕ). mapped_to g n (x ∷ l)) (sym (suc-add i k))
