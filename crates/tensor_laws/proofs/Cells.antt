-- A tensor by its cells: its length, where a cell stands, that the cells are all its elements, and when two tensors are equal. Assumes nothing.
use mathlib.Core.Path.{◌≡◌, refl, ap, ◌∙◌, subst}
use mathlib.Core.List.{[], ◌∷◌}
use Prim.Native.Nat.{ℕ, zero, suc, ◌+◌, ◌*◌, ◌/◌, ◌%◌, ◌<◌, suc-le-suc}
use native.Mathlib.Nat.{div-lt_iff_lt-mul, div-add-mod', mod-lt, zero-lt-suc}
use lib.Arith.{digits_lt, digits_div, digits_mod}
use lib.ListN.{length, get_or}
use Rattle.tensor_laws.specs.Layout.{slot, batch_at, head_at, position_at, tabulate, tensor_of}
use Rattle.tensor_laws.proofs.Slots.{slot_lt, batch_slot, head_slot, position_slot, slot_at, batch_lt, head_lt, position_lt, right_factor_pos, left_factor_pos}
use Rattle.tensor_laws.proofs.Tabulate.{length_tabulate, get_or_tabulate, tabulate_ext}

-- ---- from a cell to its index

pub index_lt : (rank batches heads len size b h s k : ℕ) → b < batches → h < heads → s < len → k < size
    → slot rank heads len b h s * size + k < batches * heads * len * size
index_lt rank batches heads len size b h s k hb hh hs hk = digits_lt (slot_lt rank batches heads len b h s hb hh hs) hk

module _ {A : Type 0} (rank batches heads len size : ℕ) (cell : ℕ → ℕ → ℕ → ℕ → A) where
  pub length_tensor_of : length (tensor_of rank batches heads len size cell) ≡ batches * heads * len * size
  unfolding tensor_of
  length_tensor_of = length_tabulate (batches * heads * len * size) _

  pub get_or_tensor_of : (b h s k : ℕ) (d : A) → b < batches → h < heads → s < len → k < size
      → get_or (tensor_of rank batches heads len size cell) (slot rank heads len b h s * size + k) d ≡ cell b h s k
  unfolding tensor_of
  get_or_tensor_of b h s k d hb hh hs hk =
      let n : ℕ = slot rank heads len b h s in
      get_or_tabulate (batches * heads * len * size) _ (n * size + k) d (index_lt rank batches heads len size b h s k hb hh hs hk)
      ∙ ap (λ (m : ℕ). cell (batch_at heads len m) (head_at rank heads len m) (position_at rank heads len m) ((n * size + k) % size)) (digits_div n hk)
      ∙ (λ i. cell (batch_slot rank heads len b h s hh hs i) (head_slot rank heads len b h s hh hs i) (position_slot rank heads len b h s hh hs i) (digits_mod n hk i))

-- ---- from an index to its cell

-- a statement on every batch, head, position and column in range holds of those of an index below the tensor's length
at_index : (rank batches heads len size : ℕ) (P : ℕ → ℕ → ℕ → ℕ → Type 0)
    → ((b h s k : ℕ) → b < batches → h < heads → s < len → k < size → P b h s k)
    → (i : ℕ) → i < batches * heads * len * size
    → P (batch_at heads len (i / size)) (head_at rank heads len (i / size)) (position_at rank heads len (i / size)) (i % size)
at_index rank batches heads len size P p i l =
    let rows : ℕ = batches * heads * len in
    let n : ℕ = i / size in
    let sp : 0 < size = right_factor_pos rows size i l in
    let m : n < rows = (div-lt_iff_lt-mul sp).1 l in
    let lp : 0 < len = right_factor_pos (batches * heads) len n m in
    let hp : 0 < heads = right_factor_pos batches heads 0 (left_factor_pos (batches * heads) len n m) in
    p (batch_at heads len n) (head_at rank heads len n) (position_at rank heads len n) (i % size)
    (batch_lt batches heads len n m) (head_lt rank heads len n hp) (position_lt rank heads len n lp) (mod-lt i sp)

-- a statement on the index of every cell holds of every index below the tensor's length
pub by_cells : (rank batches heads len size : ℕ) (P : ℕ → Type 0)
    → ((b h s k : ℕ) → b < batches → h < heads → s < len → k < size → P (slot rank heads len b h s * size + k))
    → (i : ℕ) → i < batches * heads * len * size → P i
by_cells rank batches heads len size P p i l =
    subst P (ap (λ (n : ℕ). n * size + i % size) (slot_at rank heads len (i / size)) ∙ div-add-mod' i size)
    (at_index rank batches heads len size (λ b h s k. P (slot rank heads len b h s * size + k)) p i l)

-- tensors with equal cells are equal
pub tensor_of_ext : {A : Type 0} (rank batches heads len size : ℕ) (f g : ℕ → ℕ → ℕ → ℕ → A)
    → ((b h s k : ℕ) → b < batches → h < heads → s < len → k < size → f b h s k ≡ g b h s k)
    → tensor_of rank batches heads len size f ≡ tensor_of rank batches heads len size g
unfolding tensor_of
tensor_of_ext rank batches heads len size f g e = tabulate_ext (batches * heads * len * size) _ _ (at_index rank batches heads len size (λ b h s k. f b h s k ≡ g b h s k) e)

-- ---- every element

-- what holds of d and of every f k holds of every element of a tabulated list, d standing past its end
pub every_tabulate : {A : Type 0} (P : A → Type 0) (n : ℕ) (f : ℕ → A) (d : A) → P d → ((k : ℕ) → k < n → P (f k)) → (i : ℕ) → P (get_or (tabulate n f) i d)
unfolding tabulate
every_tabulate P zero f d p h i = p
every_tabulate P (suc n) f d p h zero = h 0 (zero-lt-suc n)
every_tabulate P (suc n) f d p h (suc i) = every_tabulate P n (λ k. f (suc k)) d p (λ k l. h (suc k) (suc-le-suc l)) i

-- what holds of d and of every cell holds of every element of a tensor
pub every_cell : {A : Type 0} (P : A → Type 0) (rank batches heads len size : ℕ) (cell : ℕ → ℕ → ℕ → ℕ → A) (d : A) → P d
    → ((b h s k : ℕ) → b < batches → h < heads → s < len → k < size → P (cell b h s k)) → (i : ℕ) → P (get_or (tensor_of rank batches heads len size cell) i d)
unfolding tensor_of
every_cell P rank batches heads len size cell d p f =
    every_tabulate P (batches * heads * len * size) _ d p (at_index rank batches heads len size (λ b h s k. P (cell b h s k)) f)

-- ---- one batch, two heads, three positions, rows of one element: head and position of each

rank_4 : tensor_of 4 1 2 3 1 (λ b h s k. 10 * h + s) ≡ 0 ∷ 1 ∷ 2 ∷ 10 ∷ 11 ∷ 12 ∷ []
unfolding tensor_of tabulate
rank_4 = refl

rank_3 : tensor_of 3 1 2 3 1 (λ b h s k. 10 * h + s) ≡ 0 ∷ 10 ∷ 1 ∷ 11 ∷ 2 ∷ 12 ∷ []
unfolding tensor_of tabulate
rank_3 = refl
