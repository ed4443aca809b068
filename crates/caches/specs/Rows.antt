-- The rows of the positions of one key head where they stand: in the past cache, which is always of rank 4, below P, and in the incoming tensor from there on. Definitions only.
use Rattle.std.specs.Prelude.{Bool, cond, ◌&&◌, List, ℕ, ◌+◌, ◌-◌, ◌*◌, ltb, eqb, take, drop, Float}
use Rattle.tensor_laws.specs.Layout.{slot}
use Rattle.call.specs.declared.Call.{Call}

-- the part of the two tensors that starts with position j's row of key head g in batch b
unfoldable pub rows_from : Call → (past incoming : List Float) → (size b g j : ℕ) → List Float
rows_from c past incoming size b g j =
    cond (ltb j c.past) (drop (slot 4 c.kvheads c.past b g j * size) past)
    (drop (slot c.rank c.kvheads c.klen b g (j - c.past) * size) incoming)

-- position j's row of key head g in batch b: the first elements of that part
unfoldable pub position_row : Call → (past incoming : List Float) → (size b g j : ℕ) → List Float
unfolding rows_from
position_row c past incoming size b g j = take size (rows_from c past incoming size b g j)

-- the distance from one position's row to the next there
unfoldable pub stride_from : Call → (size j : ℕ) → ℕ
stride_from c size j = cond (ltb j c.past) size (cond (eqb c.rank 4) size (c.kvheads * size))

-- a run of rows: those of n positions from j on, from the start of the first to the end of the last
unfoldable pub position_run : Call → (past incoming : List Float) → (size b g j n : ℕ) → List Float
unfolding rows_from stride_from
position_run c past incoming size b g j n = take ((n - 1) * stride_from c size j + size) (rows_from c past incoming size b g j)

-- whether a row is one of key head g in batch b
abbrev pub in_head : ℕ → ℕ → ℕ → ℕ → ℕ → Bool
in_head b g b' g' s' = eqb b' b && eqb g' g

-- whether a row is one of the heads before number n, where the heads of all batches are numbered one after the other
abbrev pub heads_before : ℕ → ℕ → ℕ → ℕ → ℕ → Bool
heads_before heads n b' g' s' = ltb (b' * heads + g') n
