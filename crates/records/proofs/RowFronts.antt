-- A list of bytes whose front is the bytes of the first elements of a row: its length, one element more, and the whole row. Assumes nothing.
use mathlib.Core.Path.{◌≡◌, refl, sym, ap, ◌∙◌}
use mathlib.Core.List.{List, [], ◌∷◌, ◌++◌, append-nil}
use Prim.Native.Nat.{ℕ, ◌+◌, ◌*◌, ◌≤◌, ◌<◌}
use native.Mathlib.Numerals.{add-one}
use native.Mathlib.Omega.{arith}
use lib.ListN.{length, get_or, take, drop, length-append, length-drop, drop_of_length-le}
use lib.Seq.{length-take-le, take-suc, take_all}
use lib.Ieee.{Float, nan}
use Rattle.records.specs.Numbers.{f32_bytes, row_bytes}
use Rattle.records.specs.Records.{written_at}
use Rattle.records.proofs.Fronts.{front_next, written_part}
use Rattle.records.proofs.Numbers.{length_row_bytes, row_bytes_append}

-- the bytes of the first i elements, and then what stood there
abbrev pub row_to : List Float → ℕ → List ℕ → List ℕ
row_to xs i b = row_bytes (take i xs) ++ drop (i * 4) b

length_f32_bytes : (x : Float) → length (f32_bytes x) ≡ 4
unfolding f32_bytes
length_f32_bytes x = refl

bytes_of_one : (x : Float) → f32_bytes x ≡ row_bytes (x ∷ [])
unfolding row_bytes f32_bytes
bytes_of_one x = refl

module _ (xs : List Float) (i : ℕ) (b : List ℕ) where
  length_row_front : i ≤ length xs → length (row_bytes (take i xs)) ≡ i * 4
  length_row_front h = length_row_bytes (take i xs) ∙ ap (λ (n : ℕ). n * 4) (length-take-le i xs h)

  pub length_row_to : i ≤ length xs → length b ≡ length xs * 4 → length (row_to xs i b) ≡ length b
  length_row_to h e = omega (arith, length-append (row_bytes (take i xs)) (drop (i * 4) b), length_row_front h, length-drop (i * 4) b)

  pub row_to_next : i < length xs → i * 4 + 4 ≤ length b → written_at (row_to xs i b) (i * 4) (f32_bytes (get_or xs i nan)) ≡ row_to xs (i + 1) b
  row_to_next h l =
      let x = get_or xs i nan in
      let front = row_bytes (take i xs) in
      let row : front ++ f32_bytes x ≡ row_bytes (take (i + 1) xs) =
      ap (λ (r : List ℕ). front ++ r) (bytes_of_one x)
      ∙ sym (row_bytes_append (take i xs) (x ∷ []))
      ∙ ap row_bytes (sym (take-suc xs i nan h))
      ∙ ap (λ (n : ℕ). row_bytes (take n xs)) (sym (add-one i))
      in
      let behind : i * 4 + 4 ≡ (i + 1) * 4 = omega arith in
      sym (written_part (i * 4) 4 (row_to xs i b) (f32_bytes x) (length_f32_bytes x))
      ∙ front_next (i * 4) 4 b front (f32_bytes x) (length_row_front (omega arith)) (length_f32_bytes x) l
      ∙ (λ j. row j ++ drop (behind j) b)

  pub row_to_all : length xs ≤ i → length b ≡ length xs * 4 → row_to xs i b ≡ row_bytes xs
  row_to_all h e =
      (λ j. row_bytes (take_all i xs h j) ++ drop_of_length-le b {i = i * 4} (omega arith) j)
      ∙ append-nil (row_bytes xs)
