-- The list f 0, f 1, .. f (n - 1): its length, its elements, and when two such lists are equal. Assumes nothing.
use mathlib.Core.Path.{◌≡◌, refl, sym, ap, ◌∙◌}
use mathlib.Core.List.{List, [], ◌∷◌, ◌++◌, map}
use Prim.Native.Nat.{ℕ, zero, suc, ◌+◌, ◌-◌, ◌*◌, ◌≤◌, ◌<◌, suc-le-suc}
use native.Mathlib.Nat.{not-suc-le-zero, le_of_suc-le-suc, zero-lt-suc, zero-add, suc-add, add-sub_of_le}
use native.Mathlib.Omega.{arith}
use lib.ListN.{length, get_or, take}
use lib.Seq.{take_at}
use Rattle.tensor_laws.specs.Layout.{tabulate}

module _ {A : Type 0} where
  pub length_tabulate : (n : ℕ) (f : ℕ → A) → length (tabulate n f) ≡ n
  unfolding tabulate
  length_tabulate zero f = refl
  length_tabulate (suc n) f = ap suc (length_tabulate n (λ k. f (suc k)))

  pub get_or_tabulate : (n : ℕ) (f : ℕ → A) (k : ℕ) (d : A) → k < n → get_or (tabulate n f) k d ≡ f k
  unfolding tabulate
  get_or_tabulate zero f k d h = absurd (not-suc-le-zero h)
  get_or_tabulate (suc n) f zero d h = refl
  get_or_tabulate (suc n) f (suc k) d h = get_or_tabulate n (λ j. f (suc j)) k d (le_of_suc-le-suc h)

  pub tabulate_ext : (n : ℕ) (f g : ℕ → A) → ((k : ℕ) → k < n → f k ≡ g k) → tabulate n f ≡ tabulate n g
  unfolding tabulate
  tabulate_ext zero f g h = refl
  tabulate_ext (suc n) f g h =
      λ i. h zero (zero-lt-suc n) i ∷ tabulate_ext n (λ k. f (suc k)) (λ k. g (suc k)) (λ k l. h (suc k) (suc-le-suc l)) i

  pub tabulate_get_d : (l : List A) (d : A) → tabulate (length l) (λ k. get_or l k d) ≡ l
  unfolding tabulate
  tabulate_get_d [] d = refl
  tabulate_get_d (x ∷ xs) d = ap (λ (r : List A). x ∷ r) (tabulate_get_d xs d)

squares : tabulate 3 (λ (k : ℕ). k * k) ≡ 0 ∷ 1 ∷ 4 ∷ []
unfolding tabulate
squares = refl

-- the first a elements, and those from a on
pub tabulate_append : {A : Type 0} (a n : ℕ) (f : ℕ → A) → tabulate a f ++ tabulate n (λ j. f (a + j)) ≡ tabulate (a + n) f
unfolding tabulate
tabulate_append zero n f = (λ i. tabulate (sym (zero-add n) i) (λ j. f (zero-add j i)))
tabulate_append {A} (suc a) n f =
    ap (λ (r : List A). f 0 ∷ (tabulate a (λ k. f (suc k)) ++ r)) (λ i. tabulate n (λ j. f (suc-add a j i)))
    ∙ ap (λ (r : List A). f 0 ∷ r) (tabulate_append a n (λ k. f (suc k)))
    ∙ ap (λ (m : ℕ). tabulate m f) (sym (suc-add a n))

pub take_tabulate : {A : Type 0} (n m : ℕ) (f : ℕ → A) → n ≤ m → take n (tabulate m f) ≡ tabulate n f
take_tabulate {A} n m f h =
    ap (take n) (sym (tabulate_append n (m - n) f ∙ ap (λ (k : ℕ). tabulate k f) (add-sub_of_le h)))
    ∙ take_at (tabulate n f) (tabulate (m - n) (λ j. f (n + j))) n (length_tabulate n f)

-- a list mapped, by its elements
pub map_elements : {A B : Type 0} (g : A → B) (d : A) (l : List A) → map g l ≡ tabulate (length l) (λ k. g (get_or l k d))
unfolding tabulate
map_elements g d [] = refl
map_elements {B = B} g d (x ∷ l) = ap (λ (r : List B). g x ∷ r) (map_elements g d l)

pub map_tabulate : {A B : Type 0} (g : A → B) (n : ℕ) (f : ℕ → A) → map g (tabulate n f) ≡ tabulate n (λ j. g (f j))
unfolding tabulate
map_tabulate g zero f = refl
map_tabulate {B = B} g (suc n) f = ap (λ (r : List B). g (f 0) ∷ r) (map_tabulate g n (λ k. f (suc k)))

-- a list of no elements
pub none_long : {A : Type 0} (t : List A) → length t ≡ 0 → t ≡ []
none_long [] e = refl
none_long (x ∷ t) e = absurd (omega arith)
