-- The rows of one key head as they are lent. In a `requires` it is `cache`, in an `ensures` `cache.entry`. Definitions only.
use Rattle.std.specs.Prelude.{List, ℕ, length, Float}
use Rattle.call.specs.declared.Call.{Call}
use Rattle.attention.specs.Elements.{position_cell}
use Rattle.caches.specs.declared.HeadCache.{HeadCache}
use Rattle.caches.specs.Fits.{CacheFits}
use Rattle.caches.specs.Rows.{rows_from, position_row, position_run}

-- position j has a row there
abbrev pub HeadFits : Call → HeadCache → (j : ℕ) → Type 0
HeadFits c cache j = CacheFits c (length cache.past.now) (length cache.incoming.now) cache.size cache.b cache.g j

-- the part of the two tensors that starts with position j's row, the row itself, and a run of n rows
abbrev pub head_from : Call → HeadCache → (j : ℕ) → List Float
head_from c cache j = rows_from c cache.past.now cache.incoming.now cache.size cache.b cache.g j

abbrev pub head_row : Call → HeadCache → (j : ℕ) → List Float
head_row c cache j = position_row c cache.past.now cache.incoming.now cache.size cache.b cache.g j

abbrev pub head_run : Call → HeadCache → (j n : ℕ) → List Float
head_run c cache j n = position_run c cache.past.now cache.incoming.now cache.size cache.b cache.g j n

-- element k of position j's row
abbrev pub head_cell : Call → HeadCache → (j k : ℕ) → Float
head_cell c cache j k = position_cell c cache.past.now cache.incoming.now cache.size cache.b cache.g j k
