-- Bytes written into a list: the length, two bytes stored one after the other, a second piece that follows the first, a part that was lent and comes back, and a list whose front is written piece by piece. Assumes nothing.
use mathlib.Core.Path.{◌≡◌, sym, ap, ◌∙◌}
use mathlib.Core.List.{List, [], ◌∷◌, ◌++◌, append_assoc}
use Prim.Native.Nat.{ℕ, ◌+◌, ◌≤◌}
use native.Mathlib.Numerals.{add-one}
use native.Mathlib.Omega.{arith}
use lib.ListN.{length, take, drop, set, length-append, length-drop}
use lib.Seq.{length-take-le, take_at, drop_at, drop-drop, sets-eq}
use Rattle.records.specs.Records.{written_at}
use Rattle.tensor_laws.proofs.Parts.{with_part}

-- the bytes are as many as they were
pub length_written_at : (s : List ℕ) (i : ℕ) (w : List ℕ) → i + length w ≤ length s → length (written_at s i w) ≡ length s
length_written_at s i w h =
    let l : length (take i s) ≡ i = length-take-le i s (omega arith) in
    simp (length-append, length-drop, l) (omega arith)

-- two bytes, stored one after the other
pub written_two : (s : List ℕ) (i a b : ℕ) → i + 2 ≤ length s → set (set s i a) (i + 1) b ≡ written_at s i (a ∷ b ∷ [])
written_two s i a b h =
    ap (λ (n : ℕ). set (set s i a) n b) (add-one i)
    ∙ sets-eq (a ∷ b ∷ []) s i h
    ∙ append_assoc (take i s) (a ∷ b ∷ []) (drop (i + 2) s)

-- a front of n elements, and then a piece of k: the front, the piece, and what stood behind
pub front_next : {A : Type 0} (n k : ℕ) (b w v : List A) → length w ≡ n → length v ≡ k → n + k ≤ length b → with_part n k (w ++ drop n b) v ≡ (w ++ v) ++ drop (n + k) b
front_next {A} n k b w v e f h =
    (λ j. take_at w (drop n b) n e j ++ (v ++ drop k (drop_at w (drop n b) n e j)))
    ∙ ap (λ (r : List A). w ++ (v ++ r)) (drop-drop k n b)
    ∙ sym (append_assoc w v (drop (n + k) b))

-- a part that was lent comes back as bytes written
pub written_part : (a k : ℕ) (s w : List ℕ) → length w ≡ k → with_part a k s w ≡ written_at s a w
written_part a k s w e =
    ap (λ (r : List ℕ). take a s ++ (w ++ r)) (drop-drop k a s ∙ ap (λ (n : ℕ). drop (a + n) s) (sym e))

-- two pieces, one behind the other, are written as one
pub written_next : (s : List ℕ) (i : ℕ) (w v : List ℕ) → i + length w + length v ≤ length s → written_at (written_at s i w) (i + length w) v ≡ written_at s i (w ++ v)
written_next s i w v h =
    let n = i + length w in
    let front = take i s ++ w in
    let m : n + length v ≡ i + length (w ++ v) = omega (arith, length-append w v) in
    let l : length front ≡ n = length-append (take i s) w ∙ ap (λ (j : ℕ). j + length w) (length-take-le i s (omega arith)) in
    sym (written_part n (length v) (written_at s i w) v (λ _. length v))
    ∙ ap (λ (r : List ℕ). with_part n (length v) r v) (sym (append_assoc (take i s) w (drop n s)))
    ∙ front_next n (length v) s front v l (λ _. length v) (omega arith)
    ∙ append_assoc front v (drop (n + length v) s)
    ∙ append_assoc (take i s) w (v ++ drop (n + length v) s)
    ∙ ap (λ (r : List ℕ). take i s ++ r) (sym (append_assoc w v (drop (n + length v) s)))
    ∙ ap (λ (j : ℕ). take i s ++ ((w ++ v) ++ drop j s)) m
