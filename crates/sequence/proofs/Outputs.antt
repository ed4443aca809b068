-- What an accepted chunk on the caches of a history leaves: it answers done with no fully masked row, its presents are the caches of the history and its positions, and its rows have the bits of the plain call's. Assumes nothing.
use mathlib.Core.Path.{◌≡◌, refl, sym, ap, ◌∙◌}
use mathlib.Core.List.{List, ◌++◌}
use mathlib.Core.Bool.{true}
use Prim.Native.Nat.{ℕ, suc, ◌+◌, ◌≤◌, ◌<◌}
use native.Mathlib.Nat.{zero-add}
use native.Mathlib.Omega.{arith}
use lib.Dec.{leb}
use lib.Ieee.{Float}
use lib.ListN.{length}
use Rattle.tensor_laws.specs.Layout.{tensor_of}
use Rattle.softmax.specs.Row.{score_of, row_output_of}
use Rattle.softmax.specs.Cap.{capped_where}
use Rattle.softmax.proofs.Structure.{agree_output, agree_score}
use Rattle.call.specs.declared.Call.{Call}
use Rattle.call.specs.declared.Form.{Form}
use Rattle.call.specs.declared.Form.TheVariants.{Plain, Cached}
use Rattle.call.specs.Tensors.{Inputs}
use Rattle.call.specs.Contents.{live_in}
use Rattle.attention.specs.Elements.{key_head_of, query_at, key_at, value_at}
use Rattle.attention.specs.Admission.{causal_admits}
use Rattle.attention.specs.Formula.{effective_scale, attention_output}
use Rattle.attention.specs.Outcomes.{accepted_of}
use Rattle.attention.proofs.Facts.{grouped_head_lt}
use Rattle.attention.proofs.Outcome.{accepted_answer, accepted_present_key, accepted_present_value}
use Rattle.attention.proofs.Causal.{scale_same, causal_output, causal_none_masked}
use Rattle.sequence.specs.Positions.{Position, position_of, causal_call, plain_call, plain_inputs, key_cache, value_cache}
use Rattle.sequence.specs.Chunks.{Chunk, length_of, chunk_call, chunk_inputs, positions_of}
use Rattle.sequence.proofs.Places.{state_of, length_with_chunk}
use Rattle.sequence.proofs.Plain.{PlainGood}
use Rattle.sequence.proofs.Lays.{Lays, plain_lays, chunk_lays}
use Rattle.call.specs.Answers.{done_of}

-- the output of position m's row over the positions 0 to m, all of them seen
abbrev row_over : Call → List Position → (b h m k : ℕ) → Float
row_over s ps b h m k =
    row_output_of (suc m) (λ j. true)
    (λ j. capped_where s.softcap (score_of s.size (λ c. (position_of ps m).query b h c) (λ c. (position_of ps j).key b (key_head_of s h) c) (effective_scale s)))
    (λ j. (position_of ps j).value b (key_head_of s h) k)

-- the output of row i of a call that lays out positions, and whose row i reaches at + i, is that of position at + i over them
row_output : (s : Call) (form : Form) (past qlen klen at live : ℕ) (x : Inputs) (ps : List Position)
    → ((i j : ℕ) → causal_admits (causal_call s form past qlen klen) live i j ≡ leb j (at + i)) → live ≤ past + klen
    → Lays s form past qlen klen at live x ps
    → (b h i k : ℕ) → live_in form (past + klen) x.live b ≡ live → b < s.batches → h < s.qheads → i < qlen → at + i < live → k < s.vsize → key_head_of s h < s.kvheads
    → attention_output (causal_call s form past qlen klen) x b h i k ≡ row_over s ps b h (at + i) k
row_output s form past qlen klen at live x ps reached most lays b h i k count hb hh hi hl hk hg =
    let c = causal_call s form past qlen klen in
    let g = key_head_of s h in
    causal_output c x refl b at (λ i j. ap (λ n. causal_admits c n i j) count ∙ reached i j) h i k (rw count hl) (rw count most)
    ∙ agree_output (suc (at + i)) (λ j. true) (λ j. true)
    (λ j. capped_where s.softcap (score_of s.size (query_at c x b h i) (key_at c x b g j) (effective_scale c)))
    (λ j. capped_where s.softcap (score_of s.size (λ c. (position_of ps (at + i)).query b h c) (λ c. (position_of ps j).key b g c) (effective_scale s)))
    (λ j. value_at c x b g j k) (λ j. (position_of ps j).value b g k)
    (λ j l. refl)
    (λ j l e. ap (capped_where s.softcap) (agree_score s.size (query_at c x b h i) (λ c. (position_of ps (at + i)).query b h c) (key_at c x b g j) (λ c. (position_of ps j).key b g c) (effective_scale c)
    (λ q hq. lays.query b h i q hb hh hi hq) (λ q hq. lays.key b g j q hb hg (omega arith) hq)
    ∙ ap (score_of s.size (λ c. (position_of ps (at + i)).query b h c) (λ c. (position_of ps j).key b g c)) (scale_same c s refl refl)))
    (λ j l e. lays.value b g j k hb hg (omega arith) hk)

module _ (s : Call) (history : List Position) (r : Chunk) where
  -- an accepted chunk answers done, the number of positions of the history and it, and no fully masked row
  pub chunk_answer : (accepted_of (chunk_call s (length history) r) (chunk_inputs (state_of s history) r)).answer ≡ done_of (length history + length_of r) 0
  chunk_answer =
      let c = chunk_call s (length history) r in
      let x = chunk_inputs (state_of s history) r in
      accepted_answer c x ∙ ap (done_of (length history + length_of r)) (causal_none_masked c x refl (length history) (λ b i j hb. refl) (λ b hb. (omega arith, omega arith)))

  -- its presents are the caches of the history and its positions
  pub chunk_present_keys : (accepted_of (chunk_call s (length history) r) (chunk_inputs (state_of s history) r)).tensors.present_key ≡ key_cache s (history ++ positions_of s r)
  unfolding key_cache
  chunk_present_keys =
      let ps = history ++ positions_of s r in
      accepted_present_key (chunk_call s (length history) r) (chunk_inputs (state_of s history) r) refl (λ b g j k. (position_of ps j).key b g k)
      (chunk_lays s history r ps (λ j l. refl)).key
      ∙ ap (λ n. tensor_of 4 s.batches s.kvheads n s.size (λ b g j k. (position_of ps j).key b g k)) (sym (length_with_chunk s r history))

  pub chunk_present_values : (accepted_of (chunk_call s (length history) r) (chunk_inputs (state_of s history) r)).tensors.present_value ≡ value_cache s (history ++ positions_of s r)
  unfolding value_cache
  chunk_present_values =
      let ps = history ++ positions_of s r in
      accepted_present_value (chunk_call s (length history) r) (chunk_inputs (state_of s history) r) refl (λ b g j k. (position_of ps j).value b g k)
      (chunk_lays s history r ps (λ j l. refl)).value
      ∙ ap (λ n. tensor_of 4 s.batches s.kvheads n s.vsize (λ b g j k. (position_of ps j).value b g k)) (sym (length_with_chunk s r history))

  -- row i of a chunk has the bits of row P + i of the plain call over any positions that begin with the history's and the chunk's
  pub chunk_row : PlainGood s (history ++ positions_of s r) → (ps : List Position)
      → length history + length_of r ≤ length ps
      → ((j : ℕ) → j < length history + length_of r → position_of ps j ≡ position_of (history ++ positions_of s r) j)
      → (b h i k : ℕ) → b < s.batches → h < s.qheads → i < length_of r → k < s.vsize
      → attention_output (chunk_call s (length history) r) (chunk_inputs (state_of s history) r) b h i k
      ≡ attention_output (plain_call s ps) (plain_inputs s ps) b h (length history + i) k
  chunk_row p ps long same b h i k hb hh hi hk =
      let hg = grouped_head_lt (plain_call s (history ++ positions_of s r)) p.groups h hh in
      row_output s Cached (length history) (length_of r) (length_of r) (length history) (length history + length_of r) (chunk_inputs (state_of s history) r) ps (λ i j. refl) (omega arith) (chunk_lays s history r ps same) b h i k refl hb hh hi (omega arith) hk hg
      ∙ ap (λ m. row_over s ps b h m k) (omega arith)
      ∙ sym (row_output s Plain 0 (length ps) (length ps) 0 (length ps) (plain_inputs s ps) ps (λ i j. refl) (omega arith) (plain_lays s ps) b h (length history + i) k (zero-add (length ps)) hb hh (omega arith) (omega arith) hk hg)
