-- A file that was begun and added to, cut or not, holds the history that was said to be saved, and a recording goes on from it. Assumes nothing.
use mathlib.Core.Path.{◌≡◌, sym, ap, ◌∙◌, subst}
use mathlib.Core.List.{List, []}
use Prim.Native.Nat.{ℕ, ◌*◌}
use lib.ListN.{take}
use lib.Seq.{take-take}
use Rattle.tensor_laws.proofs.Tabulate.{none_long}
use Rattle.call.specs.declared.Call.{Call}
use Rattle.session_file.specs.Form.{session_of}
use Rattle.session_file.specs.Writer.{Written, written, begin_of, saved}
use Rattle.session_laws.proofs.Saved.{whole_least}
use Rattle.session_laws.proofs.Begun.{no_cells, begin_holds}
use Rattle.session_laws.proofs.Passed.{is_saved}
use Rattle.session_laws.proofs.Kept.{append_keeps}
use Rattle.sequence.specs.Positions.{Position, key_cache, value_cache}
use Rattle.sequence.proofs.Step.{key_cache_length, value_cache_length}
use Rattle.saved_sequence.specs.Resumed.{sizes_for, history_session, FileHolds, SavedBy, begun, added, refused, cut, SavedResumes}
use Rattle.saved_sequence.proofs.Resumed.{resumes}
use Rattle.saved_sequence.proofs.Extended.{append_extends, cut_holds}

-- the session of no position
no_history : (s : Call) → history_session s [] ≡ session_of (sizes_for s) 0 [] []
unfolding history_session
no_history s =
    let keys = none_long (key_cache s []) (key_cache_length s [] ∙ no_cells (s.batches * s.kvheads) s.size) in
    let values = none_long (value_cache s []) (value_cache_length s [] ∙ no_cells (s.batches * s.kvheads) s.vsize) in
    λ i. session_of (sizes_for s) 0 (keys i) (values i)

begun_holds : (s : Call) (buffer left : List ℕ) (m u : ℕ) → begin_of buffer (sizes_for s) ≡ written (saved m u) left → FileHolds s (take u left) []
begun_holds s buffer left m u e =
    let x = begin_holds buffer (sizes_for s) m u left e in
    record { reads = x.reads; session = x.session ∙ sym (no_history s) }

pub saved→holds : (s : Call) (file : List ℕ) (history : List Position) → SavedBy s file history → FileHolds s file history
saved→holds s file history (begun buffer left m u e) = begun_holds s buffer left m u e
saved→holds s file history (added buffer left used m u old ps b kf vf e) = append_extends s old ps buffer used m u left kf vf (saved→holds s (take used buffer) old b) e
saved→holds s file history (refused buffer left used count keys values r old b e) =
    let same : left ≡ buffer = sym (ap (λ (w : Written). w.buffer) e) ∙ append_keeps buffer used count keys values (ap (λ (w : Written). is_saved w.answer) e) in
    subst (λ (x : List ℕ). FileHolds s (take used x) old) (sym same) (saved→holds s (take used buffer) old b)
saved→holds s file history (cut whole c old b l inside) = cut_holds s whole old c (saved→holds s whole old b) l inside

-- begun, added to, cut, loaded and continued
pub saved_resumes : (s : Call) (file : List ℕ) (history : List Position) → SavedBy s file history → SavedResumes s file history
saved_resumes s file history b =
    let h = saved→holds s file history b in
    record {
      holds = h;
      kept = λ c n l. take-take n _ history (whole_least (sizes_for s) n c l);
      resumes = λ chunks e. resumes s chunks file (subst (FileHolds s file) (sym e) h);
    }
