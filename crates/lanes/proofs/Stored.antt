-- Four rows of four elements that are copied one after the other into sixteen. Assumes nothing.
use mathlib.Core.Path.{◌≡◌, sym, ap, ◌∙◌}
use mathlib.Core.List.{List, [], ◌++◌, append_assoc, append-nil}
use Prim.Native.Nat.{ℕ, ◌+◌}
use native.Mathlib.Omega.{arith}
use lib.ListN.{length, drop, length-append}
use lib.Seq.{take_at, drop_at, drop-drop, drop-length}
use lib.Ieee.{Float}
use Rattle.tensor_laws.proofs.Parts.{with_part}

-- the next row, behind those that are stored
next : (s l t row : List Float) (j : ℕ) → t ≡ s ++ drop j l → length s ≡ j → with_part j 4 t row ≡ (s ++ row) ++ drop (j + 4) l
next s l t row j e es =
    ap (λ (r : List Float). with_part j 4 r row) e
    ∙ (λ i. take_at s (drop j l) j es i ++ (row ++ drop 4 (drop_at s (drop j l) j es i)))
    ∙ ap (λ (r : List Float). s ++ (row ++ r)) (drop-drop 4 j l)
    ∙ sym (append_assoc s row (drop (j + 4) l))

-- all four
pub four_stored : (l a b c d : List Float) → length l ≡ 16 → (length a ≡ 4) × (length b ≡ 4) × (length c ≡ 4) × (length d ≡ 4)
    → with_part 12 4 (with_part 8 4 (with_part 4 4 (with_part 0 4 l a) b) c) d ≡ a ++ (b ++ (c ++ d))
four_stored l a b c d long long4 =
    let one : with_part 0 4 l a ≡ a ++ drop 4 l = next [] l l a 0 (λ i. l) (λ i. 0) in
    let two : with_part 4 4 (with_part 0 4 l a) b ≡ (a ++ b) ++ drop 8 l = next a l (with_part 0 4 l a) b 4 one long4.0 in
    let ab : length (a ++ b) ≡ 8 = omega (arith, length-append a b, long4.0, long4.1) in
    let three : with_part 8 4 (with_part 4 4 (with_part 0 4 l a) b) c ≡ ((a ++ b) ++ c) ++ drop 12 l = next (a ++ b) l (with_part 4 4 (with_part 0 4 l a) b) c 8 two ab in
    let abc : length ((a ++ b) ++ c) ≡ 12 = omega (arith, length-append (a ++ b) c, ab, long4.2) in
    next ((a ++ b) ++ c) l (with_part 8 4 (with_part 4 4 (with_part 0 4 l a) b) c) d 12 three abc
    ∙ ap (λ (n : ℕ). (((a ++ b) ++ c) ++ d) ++ drop n l) (sym long)
    ∙ ap (λ (t : List Float). (((a ++ b) ++ c) ++ d) ++ t) (drop-length l)
    ∙ append-nil (((a ++ b) ++ c) ++ d)
    ∙ append_assoc (a ++ b) c d
    ∙ append_assoc a b (c ++ d)
