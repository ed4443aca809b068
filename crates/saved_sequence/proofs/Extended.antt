-- Positions that a writer adds extend the history that a file holds, and a cut leaves its first ones. Assumes nothing.
use Rattle.std.specs.Prelude.{Ok, Err}
use mathlib.Core.Path.{◌≡◌, sym, ap, ◌∙◌}
use mathlib.Core.Bool.{cond}
use mathlib.Core.List.{List, ◌++◌}
use Prim.Native.Nat.{ℕ, ◌+◌, ◌-◌, ◌*◌, ◌/◌, ◌%◌, ◌≤◌, ◌<◌}
use native.Mathlib.Nat.{div-lt_iff_lt-mul, div-add-mod', mod-lt}
use native.Mathlib.Decide.{dec_lt}
use native.Mathlib.Omega.{arith}
use lib.Ieee.{Float}
use lib.ListN.{length, take, length-append}
use lib.Seq.{length-take-le, get_or-take, get_or-append-add}
use borrow.Author.Tests.{lt-ltb, le-ltb}
use Rattle.session_file.proofs.Caches.{cache_of_cells}
use Rattle.tensor_laws.proofs.Slots.{right_factor_pos}
use Rattle.call.specs.declared.Call.{Call}
use Rattle.attention.specs.Elements.{cell_at}
use Rattle.session_file.specs.declared.Sizes.{Sizes}
use Rattle.session_file.specs.Reader.{Reading, session_read}
use Rattle.session_file.specs.Form.{Session, session_of, cache_cell, cache_of}
use Rattle.session_file.specs.Reader.{session_at}
use Rattle.session_laws.specs.Sessions.{cell_behind, first_positions, both_of}
use Rattle.session_laws.specs.Statements.{whole_in}
use Rattle.session_laws.proofs.Saved.{read_holds}
use Rattle.session_laws.proofs.Appended.{append_holds}
use Rattle.sequence.specs.Positions.{Position, nowhere, position_of, key_cache, value_cache}
use Rattle.sequence.proofs.Places.{position_old}
use Rattle.sequence.proofs.Step.{key_cache_length, value_cache_length, key_cache_cell, value_cache_cell}
use Rattle.saved_sequence.specs.Resumed.{sizes_for, history_session, FileHolds, AppendExtends}

-- ---- the cache of two histories, over keys and values alike

module _ (batches heads size : ℕ) (part : Position → ℕ → ℕ → ℕ → Float) (cache : List Position → List Float)
    (long : (ps : List Position) → length (cache ps) ≡ batches * heads * length ps * size)
    (cell : (ps : List Position) (b g j k : ℕ) → b < batches → g < heads → j < length ps → k < size → cell_at (cache ps) 4 heads (length ps) size b g j k ≡ part (position_of ps j) b g k) where
  -- row r is that of batch r / Hkv and key head r % Hkv
  row_cell : (ps : List Position) (p r k : ℕ) → p < length ps → r < batches * heads → k < size → cache_cell (length ps) size (cache ps) p r k ≡ part (position_of ps p) (r / heads) (r % heads) k
  row_cell ps p r k hp hr hk =
      let some : 0 < heads = right_factor_pos batches heads r hr in
      ap (λ (i : ℕ). cache_cell (length ps) size (cache ps) p i k) (sym (div-add-mod' r heads))
      ∙ cell ps (r / heads) (r % heads) p k ((div-lt_iff_lt-mul some).1 hr) (mod-lt r some) hp hk

  module _ (history ps : List Position) where
    abbrev n : ℕ
    n = length history

    abbrev m : ℕ
    m = length ps

    both_cell : (p r k : ℕ) → Dec (p < n) → p < n + m → r < batches * heads → k < size
        → part (position_of (history ++ ps) p) (r / heads) (r % heads) k ≡ cell_behind n (cache_cell n size (cache history)) (cache_cell m size (cache ps)) p r k
    both_cell p r k (yes a) l hr hk =
        ap (λ (x : Position). part x (r / heads) (r % heads) k) (position_old history ps p a)
        ∙ sym (row_cell history p r k a hr hk)
        ∙ (λ i. cond (sym (lt-ltb p n a) i) (cache_cell n size (cache history) p r k) (cache_cell m size (cache ps) (p - n) r k))
    both_cell p r k (no a) l hr hk =
        let e : n + (p - n) ≡ p = omega arith in
        ap (λ (i : ℕ). part (position_of (history ++ ps) i) (r / heads) (r % heads) k) (sym e)
        ∙ ap (λ (x : Position). part x (r / heads) (r % heads) k) (get_or-append-add history ps (p - n) nowhere)
        ∙ sym (row_cell ps (p - n) r k (omega arith) hr hk)
        ∙ (λ i. cond (sym (le-ltb p n (omega arith)) i) (cache_cell n size (cache history) p r k) (cache_cell m size (cache ps) (p - n) r k))

    both_cache : cache_of (batches * heads) (n + m) size (cell_behind n (cache_cell n size (cache history)) (cache_cell m size (cache ps))) ≡ cache (history ++ ps)
    both_cache =
        let e : length (history ++ ps) ≡ n + m = length-append history ps in
        sym (cache_of_cells (batches * heads) (n + m) size (cache (history ++ ps)) (cell_behind n (cache_cell n size (cache history)) (cache_cell m size (cache ps)))
        (long (history ++ ps) ∙ ap (λ (i : ℕ). batches * heads * i * size) e)
        (λ p r k hp hr hk.
        ap (λ (i : ℕ). cache_cell i size (cache (history ++ ps)) p r k) (sym e)
        ∙ row_cell (history ++ ps) p r k (omega arith) hr hk
        ∙ both_cell p r k (dec_lt p n) hp hr hk))

  module _ (history : List Position) (n : ℕ) (l : n ≤ length history) where
    first_cache : cache_of (batches * heads) n size (cache_cell (length history) size (cache history)) ≡ cache (take n history)
    first_cache =
        let e : length (take n history) ≡ n = length-take-le n history l in
        sym (cache_of_cells (batches * heads) n size (cache (take n history)) (cache_cell (length history) size (cache history))
        (long (take n history) ∙ ap (λ (i : ℕ). batches * heads * i * size) e)
        (λ p r k hp hr hk.
        ap (λ (i : ℕ). cache_cell i size (cache (take n history)) p r k) (sym e)
        ∙ row_cell (take n history) p r k (omega arith) hr hk
        ∙ ap (λ (x : Position). part x (r / heads) (r % heads) k) (get_or-take n history p nowhere hp)
        ∙ sym (row_cell history p r k (omega arith) hr hk)))

-- the session of two histories, one behind the other
both_history : (s : Call) (history ps : List Position) → both_of (history_session s history) (history_session s ps) ≡ history_session s (history ++ ps)
unfolding both_of history_session
both_history s history ps =
    let keys = both_cache s.batches s.kvheads s.size (λ p. p.key) (key_cache s) (key_cache_length s) (key_cache_cell s) history ps in
    let values = both_cache s.batches s.kvheads s.vsize (λ p. p.value) (value_cache s) (value_cache_length s) (value_cache_cell s) history ps in
    λ i. session_of (sizes_for s) (sym (length-append history ps) i) (keys i) (values i)

-- the session of the first n positions of a history
first_history : (s : Call) (history : List Position) (n : ℕ) → n ≤ length history → first_positions (history_session s history) n ≡ history_session s (take n history)
unfolding first_positions history_session
first_history s history n l =
    let keys = first_cache s.batches s.kvheads s.size (λ p. p.key) (key_cache s) (key_cache_length s) (key_cache_cell s) history n l in
    let values = first_cache s.batches s.kvheads s.vsize (λ p. p.value) (value_cache s) (value_cache_length s) (value_cache_cell s) history n l in
    λ i. session_of (sizes_for s) (sym (length-take-le n history l) i) (keys i) (values i)

-- a cut leaves the positions that are whole in it
pub cut_holds : (s : Call) (file : List ℕ) (history : List Position) (c : ℕ) → FileHolds s file history → 14 ≤ c → c ≤ length file → FileHolds s (take c file) (take (whole_in (sizes_for s) c) history)
cut_holds s file history c h l inside =
    let z = sizes_for s in
    let k = whole_in z c in
    let x = read_holds file z (length history) h.reads in
    let e : length (take k history) ≡ k = length-take-le k history (x.fewer c l inside) in
    record {
      reads = x.cut c l inside ∙ ap (session_read z) (sym e);
      session =
          ap (session_at z (take c file)) e
          ∙ x.same c l inside
          ∙ ap (λ (y : Session). first_positions y k) h.session
          ∙ first_history s history k (x.fewer c l inside);
    }

-- ---- the writer

abbrev sizes_in : Sizes → Reading → Sizes
sizes_in z (Ok s) = s.sizes
sizes_in z (Err r) = z

abbrev positions_in : Reading → ℕ
positions_in (Ok s) = s.positions
positions_in (Err r) = 0

pub append_extends : (s : Call) (history ps : List Position) → AppendExtends s history ps
unfolding history_session
append_extends s history ps buffer used m u left kf vf h e =
    let reads = h.reads in
    let session = h.session in
    let x = append_holds buffer used (length ps) (key_cache s ps) (value_cache s ps) m u left kf vf e in
    let z : x.z ≡ sizes_for s = ap (sizes_in (sizes_for s)) (sym x.file ∙ reads) in
    let n : x.n ≡ length history = ap positions_in (sym x.file ∙ reads) in
    let t : m ≡ length (history ++ ps) = x.total ∙ ap (λ (i : ℕ). i + length ps) n ∙ sym (length-append history ps) in
    record {
      reads = x.reads ∙ (λ i. session_read (z i) (t i));
      session =
          (λ i. session_at (sym z i) (take u left) (sym t i))
          ∙ x.session
          ∙ (λ i. both_of (session_at (z i) (take used buffer) (n i)) (session_of (z i) (length ps) (key_cache s ps) (value_cache s ps)))
          ∙ ap (λ (y : Session). both_of y (session_of (sizes_for s) (length ps) (key_cache s ps) (value_cache s ps))) session
          ∙ both_history s history ps;
    }
