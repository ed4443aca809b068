-- The corollary on cuts: chunks with tensors of the right lengths are all accepted exactly when the one plain call over all their positions is. Assumes nothing.
use mathlib.Core.Path.{◌≡◌, refl, sym, ◌∙◌, subst}
use mathlib.Core.List.{List, [], ◌∷◌, ◌++◌, append_assoc, append-nil}
use mathlib.Core.Bool.{Bool, true, false, ◌&&◌}
use Prim.Native.Nat.{◌+◌, ◌≤◌}
use native.Mathlib.Omega.{arith}
use lib.ListN.{length, length-append}
use Rattle.bool_laws.proofs.Tests.{both_true}
use Rattle.call.specs.declared.Call.{Call}
use Rattle.call.specs.Profile.{takes}
use Rattle.call.specs.Lengths.{inputs_fit, outputs_fit}
use Rattle.call.proofs.Facts.{groups_same, settings_same, fit→lengths, lengths→fit}
use Rattle.sequence.specs.Positions.{Position, plain_call}
use Rattle.sequence.specs.Chunks.{entry_run, Chunk, start, length_of, lent_of, chunk_call, chunk_inputs, chunk_outcome, positions_of, plain_accepted, entered, is_done}
use Rattle.sequence.specs.Cuts.{caches_for, fits_after, all_fit, all_positions, all_accepted, CutHolds}
use Rattle.sequence.proofs.Places.{state_of, AllGood, good_before, length_with_chunk}
use Rattle.sequence.proofs.Plain.{both, PlainGood, plain→good, good→plain}
use Rattle.sequence.proofs.Step.{key_cache_length, value_cache_length, fits→entered, entered→plain}
use Rattle.sequence.proofs.Kept.{next, state_entered, kept_start}
use Rattle.sequence.proofs.Theorem.{done_entered}

-- the plain call over the positions that a list begins with is accepted where that over all is and there is one at least
plain_before : (s : Call) (history ps : List Position) → 1 ≤ length history → PlainGood s (history ++ ps) → PlainGood s history
plain_before s history ps some p =
    let n = length-append history ps in
    record {
      limited = record { dimensions = p.limited.dimensions; some = some; total = omega arith };
      groups = groups_same (plain_call s history) (plain_call s (history ++ ps)) refl refl ∙ p.groups;
      settings = settings_same (plain_call s history) (plain_call s (history ++ ps)) refl refl refl refl refl ∙ p.settings;
      good = good_before s history ps p.good;
    }

-- a chunk that has the right lengths on caches of the right lengths has them on the caches of a history
caches_fit_lem : (s : Call) (history : List Position) (r : Chunk)
    → inputs_fit (chunk_call s (length history) r) (chunk_inputs (caches_for s (length history)) r) ≡ true → inputs_fit (chunk_call s (length history) r) (chunk_inputs (state_of s history) r) ≡ true
caches_fit_lem s history r e =
    let c = chunk_call s (length history) r in
    let l = fit→lengths c (chunk_inputs (caches_for s (length history)) r) e in
    lengths→fit c (chunk_inputs (state_of s history) r)
    (record {
      query = l.query;
      key = l.key;
      value = l.value;
      bool_mask = l.bool_mask;
      float_mask = l.float_mask;
      past_key = key_cache_length s history;
      past_value = value_cache_length s history;
      live = l.live;
    })

-- a chunk that fits after a history is entered where the plain call over the history and it is accepted
fits_entered : (s : Call) (history : List Position) (r : Chunk) → fits_after s (length history) r ≡ true → PlainGood s (history ++ positions_of s r) → entered s (state_of s history) history r ≡ true
unfolding fits_after
fits_entered s history r e p =
    let t = takes r.entry (chunk_call s (length history) r) in
    let i = inputs_fit (chunk_call s (length history) r) (chunk_inputs (caches_for s (length history)) r) in
    let f = both_true (t && i) (outputs_fit (chunk_call s (length history) r) (lent_of r)) e in
    let g = both_true t i f.0 in
    fits→entered s history r g.0 (caches_fit_lem s history r g.1) f.1 p

-- after a history, chunks that fit are all accepted where the plain call over the history and all their positions is
plain→all : (s : Call) (history : List Position) (rs : List Chunk) → AllGood s history → all_fit s (length history) rs ≡ true → PlainGood s (history ++ all_positions s rs) → all_accepted entry_run s (state_of s history) rs ≡ true
unfolding all_fit all_positions all_accepted
plain→all s history [] good fit p = refl
plain→all s history (r ∷ rs) good fit p =
    let f = both_true (fits_after s (length history) r) (all_fit s (length history + length_of r) rs) fit in
    let n = length_with_chunk s r history in
    let w : PlainGood s (history ++ positions_of s r ++ all_positions s rs) = subst (PlainGood s) (sym (append_assoc history (positions_of s r) (all_positions s rs))) p in
    let q = plain_before s (history ++ positions_of s r) (all_positions s rs) (omega arith) w in
    let e = fits_entered s history r f.0 q in
    let rest = plain→all s (history ++ positions_of s r) rs q.good (subst (λ m. all_fit s m rs ≡ true) (sym n) f.1) w in
    both (done_entered s history r good ∙ e) (subst (λ st. all_accepted entry_run s st rs ≡ true) (sym (state_entered s history r e)) rest)

-- where all chunks after a history are accepted, the plain call over the history and the first is, and the others are on its caches
first_accepted : (s : Call) (history : List Position) (r : Chunk) (rs : List Chunk) → AllGood s history → all_accepted entry_run s (state_of s history) (r ∷ rs) ≡ true
    → PlainGood s (history ++ positions_of s r) × (all_accepted entry_run s (state_of s (history ++ positions_of s r)) rs ≡ true)
unfolding all_accepted
first_accepted s history r rs good a =
    let f = both_true (is_done (chunk_outcome entry_run s (state_of s history) r).answer) (all_accepted entry_run s (next s (state_of s history) r) rs) a in
    let e = sym (done_entered s history r good) ∙ f.0 in
    (entered→plain s history r e, subst (λ st. all_accepted entry_run s st rs ≡ true) (state_entered s history r e) f.1)

-- after an accepted history, the plain call over the history and all positions of chunks is accepted where all of them are
all→plain : (s : Call) (history : List Position) (rs : List Chunk) → PlainGood s history → all_accepted entry_run s (state_of s history) rs ≡ true → PlainGood s (history ++ all_positions s rs)
unfolding all_positions
all→plain s history [] p a = subst (PlainGood s) (sym (append-nil history)) p
all→plain s history (r ∷ rs) p a =
    let f = first_accepted s history r rs p.good a in
    subst (PlainGood s) (append_assoc history (positions_of s r) (all_positions s rs)) (all→plain s (history ++ positions_of s r) rs f.0 f.1)

each_way : (a b : Bool) → (a ≡ true → b ≡ true) → (b ≡ true → a ≡ true) → a ≡ b
each_way true b f g = sym (f refl)
each_way false true f g = g refl
each_way false false f g = refl

-- however positions are cut into chunks with tensors of the right lengths, all are accepted exactly when the one plain call over all of them is
pub cut_holds : (s : Call) (r : Chunk) (rs : List Chunk) → CutHolds entry_run s r rs
unfolding all_positions
cut_holds s r rs fit =
    let k = kept_start s in
    each_way (all_accepted entry_run s start (r ∷ rs)) (plain_accepted s (all_positions s (r ∷ rs)))
    (λ a. let f = first_accepted s [] r rs k.good (subst (λ st. all_accepted entry_run s st (r ∷ rs) ≡ true) k.state a) in
    good→plain s (all_positions s (r ∷ rs)) (all→plain s (positions_of s r) rs f.0 f.1))
    (λ p. subst (λ st. all_accepted entry_run s st (r ∷ rs) ≡ true) (sym k.state)
    (plain→all s [] (r ∷ rs) k.good fit (plain→good s (all_positions s (r ∷ rs)) p)))
