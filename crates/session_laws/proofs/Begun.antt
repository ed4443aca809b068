-- The promise on a file that is begun: the reader finds its sizes and no position. Assumes nothing.
use mathlib.Core.Path.{◌≡◌, refl, sym, ap, ◌∙◌}
use mathlib.Core.Bool.{Bool, true, false, cond}
use mathlib.Core.List.{List, []}
use Prim.Native.Nat.{ℕ, ◌*◌, ◌≤◌}
use native.Mathlib.Nat.{zero-mul, mul-zero}
use native.Mathlib.Omega.{arith}
use lib.Dec.{leb}
use lib.ListN.{length, take, drop, length-append, length-drop}
use borrow.Author.Tests.{leb-true}
use Rattle.session_laws.proofs.Given.{length_cache_at}
use Rattle.tensor_laws.proofs.Tabulate.{none_long}
use Rattle.session_file.specs.declared.Sizes.{Sizes}
use Rattle.call.specs.declared.Refusal.TheVariants.{Limits, Room}
use Rattle.session_file.specs.Sizes.{sizes_hold, rows_of, record_length}
use Rattle.session_file.specs.Form.{session_of, sizes_bytes}
use Rattle.session_file.specs.Reader.{read_of, cache_at, session_at}
use Rattle.session_file.specs.Writer.{Written, written, refused_with, begin_of, saved}
use Rattle.records.specs.Records.{written_at}
use Rattle.session_laws.specs.Statements.{BeginHolds}
use Rattle.session_laws.proofs.Files.{begun_stands}
use Rattle.session_laws.proofs.Saved.{ends→read}
use Rattle.session_laws.proofs.Passed.{positions_in, bytes_in, not_saved}

-- no position has no element
pub no_cells : (rows size : ℕ) → rows * 0 * size ≡ 0
no_cells rows size = ap (λ (i : ℕ). i * size) (mul-zero rows) ∙ zero-mul size

no_cache : (z : Sizes) (file : List ℕ) (behind size : ℕ) → cache_at z file 0 behind size ≡ []
no_cache z file behind size = none_long (cache_at z file 0 behind size) (length_cache_at z file 0 behind size ∙ no_cells (rows_of z) size)

no_position : (z : Sizes) (file : List ℕ) → session_at z file 0 ≡ session_of z 0 [] []
unfolding session_at
no_position z file = λ i. session_of z 0 (no_cache z file 0 z.size i) (no_cache z file (z.size * 4) z.vsize i)

module _ (buffer : List ℕ) (z : Sizes) (m u : ℕ) (left : List ℕ) where
  begun : sizes_hold z ≡ true → 14 ≤ length buffer → written (saved 0 14) (written_at buffer 0 (sizes_bytes z)) ≡ written (saved m u) left → BeginHolds buffer z m u left
  begun h l e =
      let n : 0 ≡ m = ap (λ (w : Written). positions_in w.answer) e in
      let b : 14 ≡ u = ap (λ (w : Written). bytes_in w.answer) e in
      let x : written_at buffer 0 (sizes_bytes z) ≡ left = ap (λ (w : Written). w.buffer) e in
      record {
        none = sym n;
        end = sym b;
        inside = omega (arith, ap length (sym x), length-append (sizes_bytes z) (drop 14 buffer), length-drop 14 buffer);
        behind = (λ i. drop (sym b i) (sym x i)) ∙ ap (λ (i : ℕ). drop i buffer) b;
        reads = (λ i. read_of (take (sym b i) (sym x i))) ∙ ends→read (sizes_bytes z) z 0 (begun_stands z h) (omega (arith, zero-mul (record_length z)));
        session = no_position z (take u left);
      }

  room_by : sizes_hold z ≡ true → (b : Bool) → leb 14 (length buffer) ≡ b → cond b (written (saved 0 14) (written_at buffer 0 (sizes_bytes z))) (refused_with Room buffer) ≡ written (saved m u) left
      → BeginHolds buffer z m u left
  room_by h true l e = begun h (leb-true 14 (length buffer) l) e
  room_by h false l e = not_saved Room buffer m u left e

  limits_by : (b : Bool) → sizes_hold z ≡ b
      → cond b (cond (leb 14 (length buffer)) (written (saved 0 14) (written_at buffer 0 (sizes_bytes z))) (refused_with Room buffer)) (refused_with Limits buffer) ≡ written (saved m u) left
      → BeginHolds buffer z m u left
  limits_by true h e = room_by h (leb 14 (length buffer)) refl e
  limits_by false h e = not_saved Limits buffer m u left e

  -- every writer that says it has begun keeps this promise
  pub begin_holds : begin_of buffer z ≡ written (saved m u) left → BeginHolds buffer z m u left
  unfolding begin_of
  begin_holds e = limits_by (sizes_hold z) refl e
