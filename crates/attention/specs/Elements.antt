-- Where an element stands: the rows of Q, K and V in either rank, the past and incoming rows of a position, and the key head of a query head. Definitions only.
use Rattle.std.specs.Prelude.{cond, List, ℕ, ◌+◌, ◌-◌, ◌*◌, ◌/◌, ltb, Float}
use Rattle.tensor_laws.specs.Layout.{slot}
use Rattle.softmax.specs.Lists.{element_of}
use Rattle.call.specs.declared.Call.{Call}
use Rattle.call.specs.Tensors.{Inputs}

-- element k of the row of batch b, head h, position s in a tensor whose rows have that size
abbrev pub cell_at : List Float → (rank heads len size : ℕ) → (b h s k : ℕ) → Float
cell_at t rank heads len size b h s k = element_of t (slot rank heads len b h s * size + k)

-- query head h uses key head floor(h / (Hq / Hkv))
abbrev pub key_head_of : Call → ℕ → ℕ
key_head_of c h = h / (c.qheads / c.kvheads)

abbrev pub query_at : Call → Inputs → (b h i k : ℕ) → Float
query_at c x b h i k = cell_at x.query c.rank c.qheads c.qlen c.size b h i k

-- element k of position j's row, for key head g: in the past cache, which is always of rank 4, below P, and in the incoming tensor at j - P from there on
abbrev pub position_cell : Call → (past incoming : List Float) → (size : ℕ) → (b g j k : ℕ) → Float
position_cell c past incoming size b g j k =
    cond (ltb j c.past) (cell_at past 4 c.kvheads c.past size b g j k)
    (cell_at incoming c.rank c.kvheads c.klen size b g (j - c.past) k)

abbrev pub key_at : Call → Inputs → (b g j k : ℕ) → Float
key_at c x b g j k = position_cell c x.past_key x.key c.size b g j k

abbrev pub value_at : Call → Inputs → (b g j k : ℕ) → Float
value_at c x b g j k = position_cell c x.past_value x.value c.vsize b g j k
