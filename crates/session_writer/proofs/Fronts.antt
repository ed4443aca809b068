-- Bytes that are written piece by piece: a head, pieces of one length behind it, and then what stood there. No piece, the length, one piece more, and the whole. Assumes nothing.
use mathlib.Core.Path.{◌≡◌, sym, ap, ◌∙◌}
use mathlib.Core.List.{List, ◌++◌, append-nil, append_assoc}
use Prim.Native.Nat.{ℕ, ◌+◌, ◌*◌, ◌≤◌, ◌<◌}
use native.Mathlib.Nat.{mul-le-mul_right}
use native.Mathlib.Omega.{arith}
use lib.ListN.{length, drop, length-append, length-drop, drop_of_length-le}
use lib.Seq.{drop_at}
use Rattle.tensor_laws.proofs.Parts.{with_part, row_end}
use Rattle.records.specs.Records.{written_at}
use Rattle.records.proofs.Fronts.{front_next}
use Rattle.session_file.specs.Below.{joined}
use Rattle.session_file.proofs.Joined.{length_joined}
use Rattle.session_writer.proofs.Joined.{joined_none, joined_more}

-- the head, the first r pieces of length w, and then what stood there
abbrev pub front_to : List ℕ → (ℕ → List ℕ) → (w r : ℕ) → List ℕ → List ℕ
front_to head f w r b = (head ++ joined f r) ++ drop (length head + r * w) b

-- no piece, where the head was written
pub front_none : (head : List ℕ) (f : ℕ → List ℕ) (w : ℕ) (s b : List ℕ) → b ≡ written_at s 0 head → b ≡ front_to head f w 0 b
front_none head f w s b e =
    let n : length head + 0 * w ≡ length head = omega arith in
    let rest = drop (0 + length head) s in
    let d : drop (length head + 0 * w) b ≡ rest = (λ j. drop (n j) (e j)) ∙ drop_at head rest (length head) (λ _. length head) in
    e ∙ (λ j. (sym (append-nil head) ∙ ap (λ (r : List ℕ). head ++ r) (sym (joined_none f))) j ++ sym d j)

module _ (head : List ℕ) (f : ℕ → List ℕ) (w n : ℕ) (b : List ℕ) (each : (i : ℕ) → i < n → length (f i) ≡ w) (long : length b ≡ length head + n * w) where
  length_front : (r : ℕ) → r ≤ n → length (head ++ joined f r) ≡ length head + r * w
  length_front r h = omega (arith, length-append head (joined f r), length_joined f w r (λ i l. each i (omega arith)))

  pub length_front_to : (r : ℕ) → r ≤ n → length (front_to head f w r b) ≡ length b
  length_front_to r h =
      let m = length head + r * w in
      let l : r * w ≤ n * w = mul-le-mul_right w h in
      omega (arith, length-append (head ++ joined f r) (drop m b), length_front r h, length-drop m b)

  -- a piece more comes back at its place
  pub front_more : (r k : ℕ) (o v : List ℕ) → r < n → k ≡ w → o ≡ front_to head f w r b → v ≡ f r → with_part (length head + r * w) k o v ≡ front_to head f w (r + 1) b
  front_more r k o v h e g d =
      let m = length head + r * w in
      let next : m + w ≡ length head + (r + 1) * w = omega arith in
      (λ j. with_part m (e j) (g j) (d j))
      ∙ front_next m w b (head ++ joined f r) (f r) (length_front r (omega arith)) (each r h) (omega (arith, row_end w r n h))
      ∙ (λ j. (append_assoc head (joined f r) (f r) ∙ ap (λ (l : List ℕ). head ++ l) (joined_more f r)) j ++ drop (next j) b)

  pub front_all : (r : ℕ) → r ≡ n → front_to head f w r b ≡ head ++ joined f n
  front_all r e =
      ap (λ (m : ℕ). front_to head f w m b) e
      ∙ ap (λ (l : List ℕ). (head ++ joined f n) ++ l) (drop_of_length-le b {i = length head + n * w} (omega arith))
      ∙ append-nil (head ++ joined f n)
