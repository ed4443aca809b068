-- The positions of a history and of a chunk after it: how many there are, which stands where, and when none of them is at fault. Assumes nothing.
use mathlib.Core.Path.{◌≡◌, sym, ap, ◌∙◌, subst}
use mathlib.Core.List.{List, ◌++◌}
use mathlib.Core.Bool.{Bool, true, false, not}
use Prim.Native.Nat.{ℕ, ◌+◌, ◌-◌, ◌≤◌, ◌<◌}
use native.Mathlib.Nat.{add-sub_of_le}
use native.Mathlib.Omega.{arith}
use lib.Dec.{T, ltb, ltb→lt, nltb→le}
use lib.ListN.{length, length-append, get_or-append}
use lib.Seq.{get_or-append-add}
use Rattle.tensor_laws.proofs.Tabulate.{length_tabulate, get_or_tabulate}
use Rattle.call.specs.declared.Call.{Call}
use Rattle.call.specs.Contents.{element_fault}
use Rattle.attention.specs.Elements.{cell_at}
use Rattle.sequence.specs.Positions.{Position, nowhere, position_of, key_cache, value_cache}
use Rattle.sequence.specs.Chunks.{Chunk, State, length_of, positions_of}

-- the state after the positions of a history
abbrev pub state_of : Call → List Position → State
state_of s history = record { past = length history; key = key_cache s history; value = value_cache s history }

-- position i of a chunk
abbrev pub chunk_position : Call → Chunk → ℕ → Position
chunk_position s r i = record {
  query = λ b h k. cell_at r.query s.rank s.qheads (length_of r) s.size b h i k;
  key = λ b h k. cell_at r.key s.rank s.kvheads (length_of r) s.size b h i k;
  value = λ b h k. cell_at r.value s.rank s.kvheads (length_of r) s.vsize b h i k;
}

-- a number below p, or p and a number
pub below_or_past : (p j : ℕ) (P : ℕ → Type 0) → (j < p → P j) → ((i : ℕ) → p + i ≡ j → P (p + i)) → P j
below_or_past p j P low high = go (ltb j p) (λ t. ltb→lt j p t) (λ t. nltb→le j p t)
  where
    go : (b : Bool) → (T b → j < p) → (T (not b) → p ≤ j) → P j
    go true f g = low (f tt)
    go false f g = let e : p + (j - p) ≡ j = add-sub_of_le (g tt) in subst P e (high (j - p) e)

module _ (s : Call) (r : Chunk) where
  -- a chunk has as many positions as its length, and they add to those of the history
  pub length_positions : length (positions_of s r) ≡ length_of r
  unfolding positions_of
  length_positions = length_tabulate (length_of r) (chunk_position s r)

  pub length_with_chunk : (history : List Position) → length (history ++ positions_of s r) ≡ length history + length_of r
  length_with_chunk history = length-append history (positions_of s r) ∙ ap (◌+◌ (length history)) length_positions

  -- position P + i of a history of P positions and then a chunk's is position i of the chunk
  pub position_new : (history : List Position) (i : ℕ) → i < length_of r → position_of (history ++ positions_of s r) (length history + i) ≡ chunk_position s r i
  unfolding positions_of
  position_new history i h = get_or-append-add history (positions_of s r) i nowhere ∙ get_or_tabulate (length_of r) (chunk_position s r) i nowhere h

-- a position of the history stands where it stood
pub position_old : (history ps : List Position) (j : ℕ) → j < length history → position_of (history ++ ps) j ≡ position_of history j
position_old history ps j h = get_or-append history ps nowhere j h

-- ---- positions without a fault

-- none of the position's elements is at fault
pub record Good (s : Call) (p : Position) : Type 0 where
  pub query : (b h k : ℕ) → b < s.batches → h < s.qheads → k < s.size → element_fault (p.query b h k) ≡ false
  pub key : (b g k : ℕ) → b < s.batches → g < s.kvheads → k < s.size → element_fault (p.key b g k) ≡ false
  pub value : (b g k : ℕ) → b < s.batches → g < s.kvheads → k < s.vsize → element_fault (p.value b g k) ≡ false

-- none of any position's elements is
abbrev pub AllGood : Call → List Position → Type 0
AllGood s ps = (i : ℕ) → i < length ps → Good s (position_of ps i)

-- the positions that a list begins with are good where all are
pub good_before : (s : Call) (history ps : List Position) → AllGood s (history ++ ps) → AllGood s history
good_before s history ps g i h =
    subst (Good s) (position_old history ps i h) (g i (let l = length-append history ps in omega arith))

-- a chunk's positions are good where those of the history and it are
pub good_chunk : (s : Call) (history : List Position) (r : Chunk) → AllGood s (history ++ positions_of s r) → (i : ℕ) → i < length_of r → Good s (chunk_position s r i)
good_chunk s history r g i h =
    subst (Good s) (position_new s r history i h) (g (length history + i) (let l = length_with_chunk s r history in omega arith))

-- a history and a chunk are good where each is
pub good_with_chunk : (s : Call) (history : List Position) (r : Chunk) → AllGood s history → ((i : ℕ) → i < length_of r → Good s (chunk_position s r i)) → AllGood s (history ++ positions_of s r)
good_with_chunk s history r old new j h =
    below_or_past (length history) j (λ j. Good s (position_of (history ++ positions_of s r) j))
    (λ l. subst (Good s) (sym (position_old history (positions_of s r) j l)) (old j l))
    (λ i e. let l : i < length_of r = let z = length_with_chunk s r history in omega arith in subst (Good s) (sym (position_new s r history i l)) (new i l))
