-- One chunk on the caches of a history: no refusal applies to it exactly when it is entered, and what it then leaves. Assumes nothing.
use Rattle.std.specs.Prelude.{Ok, Err}
use mathlib.Core.Path.{◌≡◌, refl, sym, ap, ◌∙◌, subst}
use mathlib.Core.List.{List, ◌++◌}
use mathlib.Core.Bool.{Bool, true, false, ◌&&◌}
use Prim.Native.Nat.{ℕ, ◌*◌, ◌<◌}
use native.Mathlib.Omega.{arith}
use lib.Ieee.{nan}
use lib.ListN.{length}
use Rattle.bool_laws.proofs.Tests.{both_true}
use Rattle.tensor_laws.proofs.Tabulate.{none_long}
use Rattle.tensor_laws.proofs.Cells.{length_tensor_of, get_or_tensor_of}
use Rattle.call.specs.declared.Call.{Call}
use Rattle.call.specs.declared.Form.TheVariants.{Cached}
use Rattle.call.specs.Refusals.{Verdict}
use Rattle.call.specs.Profile.{Entry, general, step, takes}
use Rattle.call.specs.Tensors.{Inputs}
use Rattle.call.specs.Lengths.{inputs_fit, outputs_fit}
use Rattle.call.specs.Contents.{live_fault, byte_mask_fault, float_mask_fault}
use Rattle.call.specs.Refusals.{verdict_of}
use Rattle.call.proofs.Clear.{no_live, no_bytes, no_cells}
use Rattle.call.proofs.Accepted.{Accepts, verdict→accepts, accepts→verdict}
use Rattle.call.proofs.Facts.{groups_same, settings_same, shape_without_mask, fit→lengths}
use Rattle.attention.specs.Elements.{cell_at}
use Rattle.attention.specs.Outcomes.{Outcome, accepted_of, attention_of}
use Rattle.attention.specs.Entries.{outcome_at}
use Rattle.attention.proofs.Outcome.{accepted_outcome, refused_outcome}
use Rattle.attention.proofs.Entries.{taken_outcome, not_taken_outcome}
use Rattle.sequence.specs.Positions.{Position, position_of, plain_call, key_cache, value_cache}
use Rattle.sequence.specs.Chunks.{entry_run, Chunk, State, inputs_at, outputs_at, length_of, lent_of, chunk_call, chunk_inputs, chunk_outcome, positions_of, plain_accepted, entered, is_done}
use Rattle.sequence.proofs.Cells.{nothing→good, good→nothing, nothing→good_incoming, good→nothing_incoming}
use Rattle.sequence.proofs.Places.{state_of, length_with_chunk, AllGood, good_before, good_chunk, good_with_chunk}
use Rattle.sequence.proofs.Plain.{limits→limited, limited→limits, PlainGood, plain→good, good→plain}

-- ---- the caches of a history

module _ (s : Call) (history : List Position) where
  -- the caches of a history have the right lengths, and their cells are those of its positions
  pub key_cache_length : length (key_cache s history) ≡ s.batches * s.kvheads * length history * s.size
  unfolding key_cache
  key_cache_length = length_tensor_of 4 s.batches s.kvheads (length history) s.size (λ b g j k. (position_of history j).key b g k)

  pub value_cache_length : length (value_cache s history) ≡ s.batches * s.kvheads * length history * s.vsize
  unfolding value_cache
  value_cache_length = length_tensor_of 4 s.batches s.kvheads (length history) s.vsize (λ b g j k. (position_of history j).value b g k)

  pub key_cache_cell : (b g j k : ℕ) → b < s.batches → g < s.kvheads → j < length history → k < s.size
      → cell_at (key_cache s history) 4 s.kvheads (length history) s.size b g j k ≡ (position_of history j).key b g k
  unfolding key_cache
  key_cache_cell b g j k = get_or_tensor_of 4 s.batches s.kvheads (length history) s.size (λ b g j k. (position_of history j).key b g k) b g j k nan

  pub value_cache_cell : (b g j k : ℕ) → b < s.batches → g < s.kvheads → j < length history → k < s.vsize
      → cell_at (value_cache s history) 4 s.kvheads (length history) s.vsize b g j k ≡ (position_of history j).value b g k
  unfolding value_cache
  value_cache_cell b g j k = get_or_tensor_of 4 s.batches s.kvheads (length history) s.vsize (λ b g j k. (position_of history j).value b g k) b g j k nan

-- ---- what a chunk is lent is all that its entry looks at

pub chunk_entry : (s : Call) (st : State) (r : Chunk) → chunk_outcome entry_run s st r ≡ outcome_at r.entry (chunk_call s st.past r) (chunk_inputs st r) (lent_of r)
unfolding chunk_outcome
chunk_entry s st r = go r.entry
  where
    go : (e : Entry) → entry_run e (chunk_call s st.past r) (inputs_at e st r) (outputs_at e r) ≡ outcome_at e (chunk_call s st.past r) (inputs_at e st r) (outputs_at e r)
    go general = refl
    go step = refl

-- ---- accepted exactly when entered

module _ (s : Call) (history : List Position) (r : Chunk) where
  -- no refusal applies to a chunk only where none applies to the plain call over the history and it
  accepts→plain : AllGood s history → Accepts (chunk_call s (length history) r) (chunk_inputs (state_of s history) r) (lent_of r) → PlainGood s (history ++ positions_of s r)
  accepts→plain good a =
      let c = chunk_call s (length history) r in
      let f = fit→lengths c (chunk_inputs (state_of s history) r) a.inputs in
      let d = limits→limited s Cached (length history) (length_of r) a.limits in
      let q = nothing→good s.rank s.batches s.qheads (length_of r) s.size r.query f.query a.query in
      let k = nothing→good_incoming c (chunk_inputs (state_of s history) r).live (λ b. refl) s.size r.key f.key a.key in
      let v = nothing→good_incoming c (chunk_inputs (state_of s history) r).live (λ b. refl) s.vsize r.value f.value a.value in
      let n = length_with_chunk s r history in
      record {
        limited = record { dimensions = d.dimensions; some = omega arith; total = omega arith };
        groups = groups_same (plain_call s (history ++ positions_of s r)) c refl refl ∙ a.groups;
        settings = settings_same (plain_call s (history ++ positions_of s r)) c refl refl refl refl refl ∙ a.settings;
        good = good_with_chunk s history r good
            (λ i l. record {
              query = λ b h n hb hh hn. q b h i n hb hh l hn;
              key = λ b g n hb hg hn. k b g i n hb hg l hn;
              value = λ b g n hb hg hn. v b g i n hb hg l hn;
            });
      }

  -- none applies to a chunk of the right lengths where none applies to that plain call
  plain→accepts : inputs_fit (chunk_call s (length history) r) (chunk_inputs (state_of s history) r) ≡ true → outputs_fit (chunk_call s (length history) r) (lent_of r) ≡ true
      → PlainGood s (history ++ positions_of s r) → Accepts (chunk_call s (length history) r) (chunk_inputs (state_of s history) r) (lent_of r)
  plain→accepts inputs outputs p =
      let c = chunk_call s (length history) r in
      let f = fit→lengths c (chunk_inputs (state_of s history) r) inputs in
      let d = p.limited in
      let new = good_chunk s history r p.good in
      let old = good_before s history (positions_of s r) p.good in
      let n = length_with_chunk s r history in
      record {
        limits = limited→limits s Cached (length history) (length_of r) refl (record { dimensions = d.dimensions; some = omega arith; total = omega arith });
        groups = groups_same c (plain_call s (history ++ positions_of s r)) refl refl ∙ p.groups;
        settings = settings_same c (plain_call s (history ++ positions_of s r)) refl refl refl refl refl ∙ p.settings;
        mask_shape = shape_without_mask c refl;
        inputs = inputs;
        outputs = outputs;
        live = ap (live_fault c) (none_long (chunk_inputs (state_of s history) r).live f.live) ∙ no_live c;
        bytes = ap byte_mask_fault (none_long (chunk_inputs (state_of s history) r).bool_mask f.bool_mask) ∙ no_bytes;
        cells = ap float_mask_fault (none_long (chunk_inputs (state_of s history) r).float_mask f.float_mask) ∙ no_cells;
        query = good→nothing s.rank s.batches s.qheads (length_of r) s.size r.query f.query
            (λ b h i n hb hh l hn. (new i l).query b h n hb hh hn);
        past_key = good→nothing 4 s.batches s.kvheads (length history) s.size (key_cache s history) (key_cache_length s history)
            (λ b g i n hb hg l hn. rw (key_cache_cell s history b g i n hb hg l hn) ((old i l).key b g n hb hg hn));
        key = good→nothing_incoming c (chunk_inputs (state_of s history) r).live (λ b. refl) s.size r.key f.key
            (λ b g i n hb hg l hn. (new i l).key b g n hb hg hn);
        past_value = good→nothing 4 s.batches s.kvheads (length history) s.vsize (value_cache s history) (value_cache_length s history)
            (λ b g i n hb hg l hn. rw (value_cache_cell s history b g i n hb hg l hn) ((old i l).value b g n hb hg hn));
        value = good→nothing_incoming c (chunk_inputs (state_of s history) r).live (λ b. refl) s.vsize r.value f.value
            (λ b g i n hb hg l hn. (new i l).value b g n hb hg hn);
      }

  -- a chunk that its entry takes and that has the right lengths is entered where none applies to that plain call
  pub fits→entered : takes r.entry (chunk_call s (length history) r) ≡ true → inputs_fit (chunk_call s (length history) r) (chunk_inputs (state_of s history) r) ≡ true → outputs_fit (chunk_call s (length history) r) (lent_of r) ≡ true
      → PlainGood s (history ++ positions_of s r) → entered s (state_of s history) history r ≡ true
  unfolding entered
  fits→entered taken inputs outputs p = simp (taken, inputs, outputs, good→plain s (history ++ positions_of s r) p)

  entered→parts : entered s (state_of s history) history r ≡ true
      → (takes r.entry (chunk_call s (length history) r) ≡ true) × (inputs_fit (chunk_call s (length history) r) (chunk_inputs (state_of s history) r) ≡ true) × (outputs_fit (chunk_call s (length history) r) (lent_of r) ≡ true) × PlainGood s (history ++ positions_of s r)
  unfolding entered
  entered→parts e =
      let i = inputs_fit (chunk_call s (length history) r) (chunk_inputs (state_of s history) r) in
      let o = outputs_fit (chunk_call s (length history) r) (lent_of r) in
      let t = takes r.entry (chunk_call s (length history) r) in
      let e2 = both_true (t && i && o) (plain_accepted s (history ++ positions_of s r)) e in
      let e1 = both_true (t && i) o e2.0 in
      let e0 = both_true t i e1.0 in
      (e0.0, e0.1, e1.1, plain→good s (history ++ positions_of s r) e2.1)

  -- the plain call over the history and an entered chunk is accepted
  pub entered→plain : entered s (state_of s history) history r ≡ true → PlainGood s (history ++ positions_of s r)
  entered→plain e = (entered→parts e).3

  -- an entered chunk is accepted
  pub entered_outcome : entered s (state_of s history) history r ≡ true
      → chunk_outcome entry_run s (state_of s history) r ≡ accepted_of (chunk_call s (length history) r) (chunk_inputs (state_of s history) r)
  entered_outcome e =
      let p = entered→parts e in
      let c = chunk_call s (length history) r in
      let x = chunk_inputs (state_of s history) r in
      chunk_entry s (state_of s history) r ∙ taken_outcome c x (lent_of r) r.entry p.0 ∙ accepted_outcome c x (lent_of r) (accepts→verdict c x (lent_of r) (plain→accepts p.1 p.2 p.3))

  -- any other chunk is refused: its answer is not done, and every lent tensor is as before
  pub other_outcome : AllGood s history → entered s (state_of s history) history r ≡ false
      → (is_done (chunk_outcome entry_run s (state_of s history) r).answer ≡ false) × ((chunk_outcome entry_run s (state_of s history) r).tensors ≡ lent_of r)
  other_outcome good e = subst (λ (o : Outcome). (is_done o.answer ≡ false) × (o.tensors ≡ lent_of r)) (sym (chunk_entry s (state_of s history) r)) (by_entry (takes r.entry c) refl)
    where
      c : Call
      c = chunk_call s (length history) r

      x : Inputs
      x = chunk_inputs (state_of s history) r

      by_verdict : takes r.entry c ≡ true → (v : Verdict) → verdict_of c x (lent_of r) ≡ v → (is_done (attention_of c x (lent_of r)).answer ≡ false) × ((attention_of c x (lent_of r)).tensors ≡ lent_of r)
      by_verdict taken (Ok u) p =
          let a = verdict→accepts c x (lent_of r) p in
          let t : entered s (state_of s history) history r ≡ true = fits→entered taken a.inputs a.outputs (accepts→plain good a) in
          absurd (let z : ◌≡◌ {A = ℕ} 0 1 = cc in omega arith)
      by_verdict taken (Err a) p =
          let o = refused_outcome c x (lent_of r) a p in
          (ap (λ o. is_done o.answer) o, ap (λ o. o.tensors) o)

      by_entry : (t : Bool) → takes r.entry c ≡ t → (is_done (outcome_at r.entry c x (lent_of r)).answer ≡ false) × ((outcome_at r.entry c x (lent_of r)).tensors ≡ lent_of r)
      by_entry true taken =
          let o = taken_outcome c x (lent_of r) r.entry taken in
          let v = by_verdict taken (verdict_of c x (lent_of r)) refl in
          (ap (λ o. is_done o.answer) o ∙ v.0, ap (λ o. o.tensors) o ∙ v.1)
      by_entry false other =
          let o = not_taken_outcome c x (lent_of r) r.entry other in
          (ap (λ o. is_done o.answer) o, ap (λ o. o.tensors) o)
