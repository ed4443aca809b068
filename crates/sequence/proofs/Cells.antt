-- A tensor of the right length has no element at fault exactly where none of its cells is: the cells of every batch, head, position and column are all its elements. Assumes nothing.
use Rattle.std.specs.Prelude.{None}
use mathlib.Core.Path.{◌≡◌, ap, ◌∙◌}
use mathlib.Core.List.{List}
use mathlib.Core.Bool.{true, false}
use Prim.Native.Nat.{ℕ, ◌+◌, ◌*◌, ◌/◌, ◌<◌}
use native.Mathlib.Nat.{div-lt_iff_lt-mul}
use native.Mathlib.Omega.{arith}
use lib.IntN.{ℤ}
use lib.Dec.{ltb}
use lib.ListN.{length, get_or}
use lib.Ieee.{Float, nan}
use borrow.Author.Tests.{lt-ltb}
use Rattle.tensor_laws.specs.Layout.{slot, batch_at, position_at}
use Rattle.tensor_laws.proofs.Slots.{position_lt, right_factor_pos}
use Rattle.tensor_laws.proofs.Cells.{index_lt, by_cells}
use Rattle.call.specs.declared.Call.{Call}
use Rattle.call.specs.Limits.{total_of}
use Rattle.call.specs.Contents.{element_fault, tensor_fault, incoming_fault, looked_at, live_of}
use Rattle.call.proofs.Clear.{tensor→clear, clear→tensor, incoming→looked, looked→incoming}
use Rattle.attention.specs.Elements.{cell_at}

-- no cell is at fault
abbrev pub GoodCells : (batches heads len size : ℕ) → (ℕ → ℕ → ℕ → ℕ → Float) → Type 0
GoodCells batches heads len size cell =
    (b h i k : ℕ) → b < batches → h < heads → i < len → k < size → element_fault (cell b h i k) ≡ false

module _ (rank batches heads len size : ℕ) (t : List Float) (fits : length t ≡ batches * heads * len * size) where
  inside : (b h i k : ℕ) → b < batches → h < heads → i < len → k < size → slot rank heads len b h i * size + k < length t
  inside b h i k hb hh hi hk = rw fits (index_lt rank batches heads len size b h i k hb hh hi hk)

  -- no element of a tensor of the right length is at fault exactly where no cell is
  pub nothing→good : tensor_fault t ≡ None → GoodCells batches heads len size (cell_at t rank heads len size)
  nothing→good e b h i k hb hh hi hk = tensor→clear t e (slot rank heads len b h i * size + k) (inside b h i k hb hh hi hk)

  pub good→nothing : GoodCells batches heads len size (cell_at t rank heads len size) → tensor_fault t ≡ None
  good→nothing g =
      clear→tensor t
      (λ k l. by_cells rank batches heads len size (λ i. element_fault (get_or t i nan) ≡ false) g k (rw fits at l))

-- K or V of a call in which every position is live
module _ (c : Call) (live : List ℤ) (whole : (b : ℕ) → live_of c live b ≡ total_of c) (size : ℕ) (t : List Float)
    (fits : length t ≡ c.batches * c.kvheads * c.klen * size) where
  looked : (i : ℕ) → i < length t → looked_at c live size i ≡ true
  looked i l =
      let rows : ℕ = c.batches * c.kvheads * c.klen in
      let m : i / size < rows = let l : i < rows * size = rw fits at l in (div-lt_iff_lt-mul (right_factor_pos rows size i l)).1 l in
      let p : position_at c.rank c.kvheads c.klen (i / size) < c.klen =
      position_lt c.rank c.kvheads c.klen (i / size) (right_factor_pos (c.batches * c.kvheads) c.klen (i / size) m) in
      ap (ltb (c.past + position_at c.rank c.kvheads c.klen (i / size))) (whole (batch_at c.kvheads c.klen (i / size)))
      ∙ lt-ltb (c.past + position_at c.rank c.kvheads c.klen (i / size)) (total_of c) (omega arith)

  -- no element of it that is looked at is at fault exactly where no cell is
  pub nothing→good_incoming : incoming_fault c live size t ≡ None → GoodCells c.batches c.kvheads c.klen size (cell_at t c.rank c.kvheads c.klen size)
  nothing→good_incoming e b h i k hb hh hi hk =
      let n : ℕ = slot c.rank c.kvheads c.klen b h i * size + k in
      let l : n < length t = inside c.rank c.batches c.kvheads c.klen size t fits b h i k hb hh hi hk in
      incoming→looked c live size t e n l (looked n l)

  pub good→nothing_incoming : GoodCells c.batches c.kvheads c.klen size (cell_at t c.rank c.kvheads c.klen size) → incoming_fault c live size t ≡ None
  good→nothing_incoming g =
      looked→incoming c live size t
      (λ k l e. by_cells c.rank c.batches c.kvheads c.klen size (λ i. element_fault (get_or t i nan) ≡ false) g k (rw fits at l))
