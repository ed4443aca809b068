-- A causal call lays out positions where its query, key and value cells are theirs: the plain call over positions does, and a chunk on the caches of a history does. Assumes nothing.
use mathlib.Core.Bool.{cond}
use mathlib.Core.Path.{◌≡◌, sym, ap, ◌∙◌}
use mathlib.Core.List.{List, ◌++◌}
use Prim.Native.Nat.{ℕ, ◌+◌, ◌-◌, ◌<◌, zero-le}
use native.Mathlib.Nat.{sub-zero, zero-add}
use native.Mathlib.Omega.{arith}
use lib.Dec.{ltb}
use lib.Ieee.{Float}
use lib.ListN.{length}
use borrow.Author.Tests.{lt-ltb, le-ltb}
use Rattle.call.specs.declared.Call.{Call}
use Rattle.call.specs.declared.Form.{Form}
use Rattle.call.specs.declared.Form.TheVariants.{Plain, Cached}
use Rattle.call.specs.Tensors.{Inputs}
use Rattle.attention.specs.Elements.{cell_at, query_at, key_at, value_at}
use Rattle.sequence.specs.Positions.{Position, position_of, causal_call, plain_inputs}
use Rattle.sequence.specs.Chunks.{Chunk, length_of, chunk_inputs, positions_of}
use Rattle.sequence.proofs.Places.{state_of, chunk_position, below_or_past, position_new, position_old}
use Rattle.sequence.proofs.Plain.{query_cell, key_cell, value_cell}
use Rattle.sequence.proofs.Step.{key_cache_cell, value_cache_cell}

-- query row i of the call is that of position at + i, and key and value row j, below the live count, those of position j
pub record Lays (s : Call) (form : Form) (past qlen klen at live : ℕ) (x : Inputs) (ps : List Position) : Type 0 where
  pub query : (b h i k : ℕ) → b < s.batches → h < s.qheads → i < qlen → k < s.size
      → query_at (causal_call s form past qlen klen) x b h i k ≡ (position_of ps (at + i)).query b h k
  pub key : (b g j k : ℕ) → b < s.batches → g < s.kvheads → j < live → k < s.size
      → key_at (causal_call s form past qlen klen) x b g j k ≡ (position_of ps j).key b g k
  pub value : (b g j k : ℕ) → b < s.batches → g < s.kvheads → j < live → k < s.vsize
      → value_at (causal_call s form past qlen klen) x b g j k ≡ (position_of ps j).value b g k

-- ---- the plain call

-- with no past, every row is incoming
no_past : (j : ℕ) (u : Float) (v : ℕ → Float) → cond (ltb j 0) u (v (j - 0)) ≡ v j
no_past j u v = ap (λ t. cond t u (v (j - 0))) (le-ltb j 0 zero-le) ∙ ap v (sub-zero j)

-- the plain call over positions lays them out
pub plain_lays : (s : Call) (ps : List Position) → Lays s Plain 0 (length ps) (length ps) 0 (length ps) (plain_inputs s ps) ps
plain_lays s ps =
    let x = plain_inputs s ps in
    record {
      query = λ b h i k hb hh l hk. query_cell s ps b h i k hb hh l hk ∙ ap (λ j. (position_of ps j).query b h k) (sym (zero-add i));
      key = λ b g j k hb hg l hk.
          no_past j (cell_at x.past_key 4 s.kvheads 0 s.size b g j k) (λ j. cell_at x.key s.rank s.kvheads (length ps) s.size b g j k)
          ∙ key_cell s ps b g j k hb hg (omega arith) hk;
      value = λ b g j k hb hg l hk.
          no_past j (cell_at x.past_value 4 s.kvheads 0 s.vsize b g j k) (λ j. cell_at x.value s.rank s.kvheads (length ps) s.vsize b g j k)
          ∙ value_cell s ps b g j k hb hg (omega arith) hk;
    }

-- ---- a chunk

-- below P a row is from the cache, and from P on it is incoming
old_row : (p j : ℕ) (u v : Float) → j < p → cond (ltb j p) u v ≡ u
old_row p j u v h = ap (λ t. cond t u v) (lt-ltb j p h)

new_row : (p i : ℕ) (u : Float) (v : ℕ → Float) → cond (ltb (p + i) p) u (v (p + i - p)) ≡ v i
new_row p i u v = ap (λ t. cond t u (v (p + i - p))) (le-ltb (p + i) p (omega arith)) ∙ ap v (omega arith)

-- a chunk on the caches of a history lays out the history and its positions, and so every list that begins with them
pub chunk_lays : (s : Call) (history : List Position) (r : Chunk) (ps : List Position)
    → ((j : ℕ) → j < length history + length_of r → position_of ps j ≡ position_of (history ++ positions_of s r) j)
    → Lays s Cached (length history) (length_of r) (length_of r) (length history) (length history + length_of r) (chunk_inputs (state_of s history) r) ps
chunk_lays s history r ps same =
    record {
      query = λ b h i k hb hh l hk. ap (λ p. p.query b h k) (sym (new i l));
      key = λ b g j k hb hg l hk.
          below_or_past p j (λ j. key_at c x b g j k ≡ (position_of ps j).key b g k)
          (λ m. old_row p j (cell_at x.past_key 4 s.kvheads p s.size b g j k) (cell_at r.key s.rank s.kvheads n s.size b g (j - p) k) m
          ∙ key_cache_cell s history b g j k hb hg m hk ∙ ap (λ p. p.key b g k) (sym (old j m)))
          (λ i e. new_row p i (cell_at x.past_key 4 s.kvheads p s.size b g (p + i) k) (λ i. cell_at r.key s.rank s.kvheads n s.size b g i k)
          ∙ ap (λ p. p.key b g k) (sym (new i (omega arith))));
      value = λ b g j k hb hg l hk.
          below_or_past p j (λ j. value_at c x b g j k ≡ (position_of ps j).value b g k)
          (λ m. old_row p j (cell_at x.past_value 4 s.kvheads p s.vsize b g j k) (cell_at r.value s.rank s.kvheads n s.vsize b g (j - p) k) m
          ∙ value_cache_cell s history b g j k hb hg m hk ∙ ap (λ p. p.value b g k) (sym (old j m)))
          (λ i e. new_row p i (cell_at x.past_value 4 s.kvheads p s.vsize b g (p + i) k) (λ i. cell_at r.value s.rank s.kvheads n s.vsize b g i k)
          ∙ ap (λ p. p.value b g k) (sym (new i (omega arith))));
    }
  where
    p : ℕ
    p = length history

    n : ℕ
    n = length_of r

    x : Inputs
    x = chunk_inputs (state_of s history) r

    c : Call
    c = causal_call s Cached p n n

    new : (i : ℕ) → i < n → position_of ps (p + i) ≡ chunk_position s r i
    new i l = same (p + i) (omega arith) ∙ position_new s r history i l

    old : (j : ℕ) → j < p → position_of ps j ≡ position_of history j
    old j l = same j (omega arith) ∙ position_old history (positions_of s r) j l
