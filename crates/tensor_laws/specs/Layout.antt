-- Where a row stands in a flat list that holds a tensor of rank 4 or 3, and the tensor with given cells.
-- A row is the elements of one batch, head and position. At rank 4 the heads of a batch stand before its positions, and at rank 3 the positions before the heads. Definitions only.
use Rattle.std.specs.Prelude.{Bool, cond, List, [], ◌∷◌, ℕ, zero, suc, ◌+◌, ◌*◌, ◌/◌, ◌%◌, eqb, get_or}

-- the number of the row of batch b, head h, position s
abbrev pub slot : ℕ → ℕ → ℕ → ℕ → ℕ → ℕ → ℕ
slot rank heads len b h s = cond (eqb rank 4) ((b * heads + h) * len + s) ((b * len + s) * heads + h)

-- the batch, the head and the position of the row with the number n
abbrev pub batch_at : ℕ → ℕ → ℕ → ℕ
batch_at heads len n = n / (heads * len)

abbrev pub head_at : ℕ → ℕ → ℕ → ℕ → ℕ
head_at rank heads len n = cond (eqb rank 4) (n / len % heads) (n % heads)

abbrev pub position_at : ℕ → ℕ → ℕ → ℕ → ℕ
position_at rank heads len n = cond (eqb rank 4) (n % len) (n / heads % len)

-- f 0, f 1, .. f (n - 1)
unfoldable pub tabulate : {A : Type 0} → ℕ → (ℕ → A) → List A
tabulate zero f = []
tabulate (suc n) f = f 0 ∷ tabulate n (λ k. f (suc k))

-- the tensor whose element k of the row of batch b, head h, position s is cell b h s k
unfoldable pub tensor_of : {A : Type 0} → (rank batches heads len size : ℕ) → (ℕ → ℕ → ℕ → ℕ → A) → List A
tensor_of rank batches heads len size cell =
    tabulate (batches * heads * len * size)
    (λ i. let n = i / size in cell (batch_at heads len n) (head_at rank heads len n) (position_at rank heads len n) (i % size))

-- t with the rows that pass the test replaced by those of cell, by cells
unfoldable pub written_of : {A : Type 0} → (rank batches heads len size : ℕ) → (ℕ → ℕ → ℕ → Bool) → (ℕ → ℕ → ℕ → ℕ → A) → A → List A → List A
written_of rank batches heads len size test cell d t =
    tensor_of rank batches heads len size (λ b h s k. cond (test b h s) (cell b h s k) (get_or t (slot rank heads len b h s * size + k) d))
