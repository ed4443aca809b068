-- The state after a sequence of chunks can be saved: it is within every limit, since demand 3's invariant says so of the history. Assumes nothing.
use mathlib.Core.Path.{◌≡◌, sym, ap, ◌∙◌, subst}
use mathlib.Core.Bool.{Bool, true, false}
use mathlib.Core.List.{List, [], ◌∷◌, ◌++◌}
use Prim.Native.Nat.{ℕ, ◌≤◌, ◌<◌}
use native.Mathlib.Decide.{dec_lt}
use native.Mathlib.Omega.{arith}
use lib.Dec.{T}
use lib.Ieee.{Float, nan, binary32, fits}
use lib.ListN.{length, get_or, get_or-eq_default}
use lib.Seq.{get_or-append-add}
use Rattle.tensor_laws.proofs.Cells.{by_cells, every_tabulate, every_cell}
use Rattle.call.specs.declared.Call.{Call}
use Rattle.call.specs.Contents.{element_fault}
use Rattle.session_file.specs.Sizes.{sizes_hold}
use Rattle.session_laws.specs.Sessions.{AllWithin, Savable}
use Rattle.session_laws.specs.Statements.{AllFit}
use Rattle.sequence.specs.Positions.{Position, nowhere, position_of, key_cache, value_cache}
use Rattle.sequence.specs.Chunks.{entry_run, Chunk, State, start, length_of, positions_of, entered, history_where, history_next, history_after}
use Rattle.sequence.proofs.Places.{AllGood, chunk_position, below_or_past, position_old}
use Rattle.sequence.proofs.Plain.{PlainGood}
use Rattle.sequence.proofs.Step.{key_cache_length, value_cache_length, key_cache_cell, value_cache_cell}
use Rattle.sequence.proofs.Kept.{kept_start, kept_after, next}
use Rattle.saved_sequence.specs.Resumed.{sizes_for, history_session, ChunksFit}

-- ---- f32 throughout

nan_fits : T (fits binary32 nan)
unfolding fits
nan_fits = tt

-- an element of a list of f32, or none
element_fits : (t : List Float) → AllFit t → (i : ℕ) → T (fits binary32 (get_or t i nan))
element_fits t f i = go (dec_lt i (length t))
  where
    go : Dec (i < length t) → T (fits binary32 (get_or t i nan))
    go (yes l) = f i l
    go (no l) = subst (λ (x : Float). T (fits binary32 x)) (sym (get_or-eq_default t nan (omega arith))) nan_fits

pub record PositionFits (p : Position) : Type 0 where
  pub key : (b g k : ℕ) → T (fits binary32 (p.key b g k))
  pub value : (b g k : ℕ) → T (fits binary32 (p.value b g k))

abbrev pub HistoryFits : List Position → Type 0
HistoryFits history = (i : ℕ) → PositionFits (position_of history i)

nowhere_fits : PositionFits nowhere
nowhere_fits = record { key = λ b g k. nan_fits; value = λ b g k. nan_fits }

chunk_fits : (s : Call) (r : Chunk) → AllFit r.key → AllFit r.value → HistoryFits (positions_of s r)
unfolding positions_of
chunk_fits s r kf vf =
    every_tabulate PositionFits (length_of r) (chunk_position s r) nowhere nowhere_fits (λ i h. record { key = λ b g k. element_fits r.key kf _; value = λ b g k. element_fits r.value vf _ })

both_fit : (history ps : List Position) → HistoryFits history → HistoryFits ps → HistoryFits (history ++ ps)
both_fit history ps hf pf j =
    below_or_past (length history) j (λ j. PositionFits (position_of (history ++ ps) j))
    (λ l. subst PositionFits (sym (position_old history ps j l)) (hf j))
    (λ i e. subst PositionFits (sym (get_or-append-add history ps i nowhere)) (pf i))

next_fits : (s : Call) (st : State) (history : List Position) (r : Chunk) → AllFit r.key → AllFit r.value → HistoryFits history → HistoryFits (history_next s st history r)
unfolding history_next
next_fits s st history r kf vf hf = go (entered s st history r)
  where
    go : (b : Bool) → HistoryFits (history_where b history (positions_of s r))
    go true = both_fit history (positions_of s r) hf (chunk_fits s r kf vf)
    go false = hf

after_fits : (s : Call) (st : State) (history : List Position) (rs : List Chunk) → ChunksFit rs → HistoryFits history → HistoryFits (history_after entry_run s st history rs)
unfolding history_after
after_fits s st history [] c hf = hf
after_fits s st history (r ∷ rs) c hf = after_fits s (next s st r) (history_next s st history r) rs c.2 (next_fits s st history r c.0 c.1 hf)

-- ---- the caches of a history

module _ (s : Call) (history : List Position) (good : AllGood s history) (f32 : HistoryFits history) where
  keys_within : AllWithin (key_cache s history)
  unfolding key_cache
  keys_within i h = (
    every_cell (λ (x : Float). T (fits binary32 x)) 4 s.batches s.kvheads (length history) s.size (λ b g j k. (position_of history j).key b g k) nan nan_fits (λ b g j k hb hg hj hk. (f32 j).key b g k) i,
    by_cells 4 s.batches s.kvheads (length history) s.size (λ j. element_fault (get_or (key_cache s history) j nan) ≡ false)
        (λ b g j k hb hg hj hk. ap element_fault (key_cache_cell s history b g j k hb hg hj hk) ∙ (good j hj).key b g k hb hg hk) i (omega (arith, h, key_cache_length s history)),
  )

  values_within : AllWithin (value_cache s history)
  unfolding value_cache
  values_within i h = (
    every_cell (λ (x : Float). T (fits binary32 x)) 4 s.batches s.kvheads (length history) s.vsize (λ b g j k. (position_of history j).value b g k) nan nan_fits (λ b g j k hb hg hj hk. (f32 j).value b g k) i,
    by_cells 4 s.batches s.kvheads (length history) s.vsize (λ j. element_fault (get_or (value_cache s history) j nan) ≡ false)
        (λ b g j k hb hg hj hk. ap element_fault (value_cache_cell s history b g j k hb hg hj hk) ∙ (good j hj).value b g k hb hg hk) i (omega (arith, h, value_cache_length s history)),
  )

  pub history_savable : sizes_hold (sizes_for s) ≡ true → (1 ≤ length history → PlainGood s history) → Savable (history_session s history)
  unfolding history_session
  history_savable limits plain = record {
    limits = limits;
    most = go (dec_lt 0 (length history));
    keys_length = key_cache_length s history;
    values_length = value_cache_length s history;
    keys = keys_within;
    values = values_within;
  }
    where
      go : Dec (0 < length history) → length history ≤ 2048
      go (yes l) = omega (arith, (plain l).limited.total)
      go (no l) = omega arith

-- the history after a sequence of chunks of f32 can be saved
pub after_savable : (s : Call) (chunks : List Chunk) → sizes_hold (sizes_for s) ≡ true → ChunksFit chunks → Savable (history_session s (history_after entry_run s start [] chunks))
after_savable s chunks limits c =
    let k = kept_after s start [] chunks (kept_start s) in
    history_savable s (history_after entry_run s start [] chunks) k.good (after_fits s start [] chunks c (λ i. nowhere_fits)) limits k.plain
