-- The first record, written piece by piece. Assumes nothing.
use mathlib.Core.Path.{◌≡◌, ap, ◌∙◌}
use mathlib.Core.List.{List, ◌++◌}
use Prim.Native.Nat.{ℕ, ◌+◌, ◌≤◌}
use native.Mathlib.Omega.{arith}
use lib.ListN.{length}
use Rattle.records.specs.Numbers.{u16_bytes}
use Rattle.records.specs.Records.{head_bytes, written_at}
use Rattle.records.proofs.Fronts.{written_next}
use Rattle.session_file.specs.declared.Sizes.{Sizes}
use Rattle.session_file.specs.Form.{sizes_bytes}

-- a piece more
piece : (s w v b next : List ℕ) → 0 + length w + length v ≤ length s → b ≡ written_at s 0 w → next ≡ written_at b (0 + length w) v → next ≡ written_at s 0 (w ++ v)
piece s w v b next h e f = f ∙ ap (λ (r : List ℕ). written_at r (0 + length w) v) e ∙ written_next s 0 w v h

pub sizes_written : (z : Sizes) (s head batches kvheads size vsize : List ℕ) → 14 ≤ length s
    → head ≡ written_at s 0 (head_bytes 8 1)
    → batches ≡ written_at head 6 (u16_bytes z.batches)
    → kvheads ≡ written_at batches 8 (u16_bytes z.kvheads)
    → size ≡ written_at kvheads 10 (u16_bytes z.size)
    → vsize ≡ written_at size 12 (u16_bytes z.vsize)
    → vsize ≡ written_at s 0 (sizes_bytes z)
sizes_written z s head batches kvheads size vsize h e₁ e₂ e₃ e₄ e₅ =
    let two = head_bytes 8 1 ++ u16_bytes z.batches in
    let three = two ++ u16_bytes z.kvheads in
    let four = three ++ u16_bytes z.size in
    piece s four (u16_bytes z.vsize) size vsize (omega arith)
    (piece s three (u16_bytes z.size) kvheads size (omega arith)
    (piece s two (u16_bytes z.kvheads) batches kvheads (omega arith)
    (piece s (head_bytes 8 1) (u16_bytes z.batches) head batches (omega arith) e₁ e₂) e₃) e₄) e₅
