-- Numbers as bytes and read again: the length of a row's bytes, that each byte is below 256, that what was written is read again, and that what was read is written again. Assumes nothing.
use mathlib.Core.Path.{◌≡◌, refl, sym, ap, ◌∙◌}
use mathlib.Core.Bool.{not}
use mathlib.Core.List.{List, [], ◌∷◌, ◌++◌}
use Prim.Native.Nat.{ℕ, zero, suc, ◌+◌, ◌*◌, ◌/◌, ◌%◌, ◌≤◌, ◌<◌, suc-le-suc}
use native.Mathlib.Numerals.{add-one}
use native.Mathlib.Omega.{arith}
use lib.Dec.{T}
use lib.ListN.{length, get_or, take, drop}
use lib.Seq.{drop-cons, drop-drop, take-add}
use lib.Ieee.{Float, nan, binary32, of_bits, to_bits, fits, is_nan}
use lib.Ieee.Bits.{of_bits-to_bits, to_bits-of_bits, to_bits-lt}
use Rattle.tensor_laws.specs.Layout.{tabulate}
use Rattle.tensor_laws.proofs.Tabulate.{tabulate_ext}
use Rattle.records.specs.Numbers.{u16_bytes, u32_bytes, f32_bytes, row_bytes, u16_at, u32_at, f32_at, row_at}
use Rattle.records.proofs.Places.{u16_at_drop, u32_at_drop, f32_at_drop, row_at_drop, behind}

pub length_row_bytes : (xs : List Float) → length (row_bytes xs) ≡ length xs * 4
unfolding row_bytes
length_row_bytes [] = refl
length_row_bytes (x ∷ xs) = omega (arith, length_row_bytes xs)

pub row_bytes_append : (xs ys : List Float) → row_bytes (xs ++ ys) ≡ row_bytes xs ++ row_bytes ys
unfolding row_bytes
row_bytes_append [] ys = refl
row_bytes_append (x ∷ xs) ys = ap (λ (r : List ℕ). f32_bytes x ++ r) (row_bytes_append xs ys)

-- ---- what is written is bytes

pub append_small : (s t : List ℕ) → ((k : ℕ) → get_or s k 0 < 256) → ((k : ℕ) → get_or t k 0 < 256) → (k : ℕ) → get_or (s ++ t) k 0 < 256
append_small [] t f g k = g k
append_small (x ∷ s) t f g zero = f 0
append_small (x ∷ s) t f g (suc k) = append_small s t (λ j. f (suc j)) g k

pub u16_bytes_small : (n : ℕ) → n < 65536 → (k : ℕ) → get_or (u16_bytes n) k 0 < 256
u16_bytes_small n h zero = omega arith
u16_bytes_small n h (suc zero) = omega arith
u16_bytes_small n h (suc (suc k)) = omega arith

pub u32_bytes_small : (n : ℕ) → n < 4294967296 → (k : ℕ) → get_or (u32_bytes n) k 0 < 256
u32_bytes_small n h =
    append_small (u16_bytes (n % 65536)) (u16_bytes (n / 65536)) (u16_bytes_small (n % 65536) (omega arith)) (u16_bytes_small (n / 65536) (omega arith))

pub f32_bytes_small : (x : Float) → T (fits binary32 x) → (k : ℕ) → get_or (f32_bytes x) k 0 < 256
unfolding f32_bytes
f32_bytes_small x h = u32_bytes_small (to_bits binary32 x) (to_bits-lt binary32 x h)

pub row_bytes_small : (xs : List Float) → ((k : ℕ) → k < length xs → T (fits binary32 (get_or xs k nan))) → (k : ℕ) → get_or (row_bytes xs) k 0 < 256
unfolding row_bytes
row_bytes_small [] h k = omega arith
row_bytes_small (x ∷ xs) h k =
    append_small (f32_bytes x) (row_bytes xs) (f32_bytes_small x (h 0 (omega arith))) (row_bytes_small xs (λ j l. h (suc j) (suc-le-suc l))) k

-- ---- what was written is read again

pub u16_written : (n : ℕ) → n < 65536 → (p q : List ℕ) → u16_at (p ++ (u16_bytes n ++ q)) (length p) ≡ n
u16_written n h p q = behind u16_at u16_at_drop p (u16_bytes n ++ q) ∙ read_back
  where
    read_back : u16_at (u16_bytes n ++ q) 0 ≡ n
    read_back = omega arith

pub u32_written : (n : ℕ) → n < 4294967296 → (p q : List ℕ) → u32_at (p ++ (u32_bytes n ++ q)) (length p) ≡ n
u32_written n h p q = behind u32_at u32_at_drop p (u32_bytes n ++ q) ∙ read_back
  where
    read_back : u32_at (u32_bytes n ++ q) 0 ≡ n
    read_back = omega arith

pub f32_written : (x : Float) → T (fits binary32 x) → (p q : List ℕ) → f32_at (p ++ (f32_bytes x ++ q)) (length p) ≡ x
unfolding f32_at f32_bytes
f32_written x h p q = ap (of_bits binary32) (u32_written (to_bits binary32 x) (to_bits-lt binary32 x h) p q) ∙ of_bits-to_bits binary32 x h

row_front : (xs : List Float) → ((k : ℕ) → k < length xs → T (fits binary32 (get_or xs k nan))) → (q : List ℕ) → row_at (row_bytes xs ++ q) 0 (length xs) ≡ xs
unfolding row_at row_bytes tabulate f32_bytes
row_front [] h q = refl
row_front (x ∷ xs) h q =
    let rest = row_bytes xs ++ q in
    let whole = f32_bytes x ++ rest in
    let n = length xs in
    let first : f32_at whole 0 ≡ x = f32_written x (h 0 (omega arith)) [] rest in
    let place : (k : ℕ) → 4 + (0 + k * 4) ≡ 0 + suc k * 4 = (λ k. omega arith) in
    let others : tabulate n (λ k. f32_at whole (0 + suc k * 4)) ≡ row_at rest 0 n =
    tabulate_ext n (λ k. f32_at whole (0 + suc k * 4)) (λ k. f32_at rest (0 + k * 4)) (λ k l. sym (f32_at_drop 4 (0 + k * 4) whole ∙ ap (f32_at whole) (place k)))
    in
    (λ j. first j ∷ (others ∙ row_front xs (λ k l. h (suc k) (suc-le-suc l)) q) j)

pub row_written : (xs : List Float) → ((k : ℕ) → k < length xs → T (fits binary32 (get_or xs k nan))) → (p q : List ℕ)
    → row_at (p ++ (row_bytes xs ++ q)) (length p) (length xs) ≡ xs
row_written xs h p q =
    behind (λ s i. row_at s i (length xs)) (λ a i s. row_at_drop a i (length xs) s) p (row_bytes xs ++ q) ∙ row_front xs h q

-- ---- what was read is written again, where the bytes s are below 256

take_two : (s : List ℕ) (i : ℕ) → i + 2 ≤ length s → take 2 (drop i s) ≡ get_or s i 0 ∷ get_or s (i + 1) 0 ∷ []
take_two s i h =
    ap (take 2) (drop-cons s i 0 (omega arith))
    ∙ ap (λ (r : List ℕ). get_or s i 0 ∷ take 1 r) (drop-cons s (suc i) 0 (omega arith))
    ∙ ap (λ (n : ℕ). get_or s i 0 ∷ get_or s n 0 ∷ []) (sym (add-one i))

pub take_join : (s : List ℕ) (i m n : ℕ) → take m (drop i s) ++ take n (drop (i + m) s) ≡ take (m + n) (drop i s)
take_join s i m n = sym (take-add m n (drop i s) ∙ ap (λ (r : List ℕ). take m (drop i s) ++ take n r) (drop-drop m i s))

module _ (s : List ℕ) (small : (k : ℕ) → get_or s k 0 < 256) where
  pub u16_at_lt : (i : ℕ) → u16_at s i < 65536
  u16_at_lt i = omega (arith, small i, small (i + 1))

  pub u32_at_lt : (i : ℕ) → u32_at s i < 4294967296
  u32_at_lt i = omega (arith, u16_at_lt i, u16_at_lt (i + 2))

  pub u16_bytes_lem : (i : ℕ) → i + 2 ≤ length s → u16_bytes (u16_at s i) ≡ take 2 (drop i s)
  u16_bytes_lem i h =
      let low : u16_at s i % 256 ≡ get_or s i 0 = omega (arith, small i) in
      let high : u16_at s i / 256 ≡ get_or s (i + 1) 0 = omega (arith, small i) in
      (λ j. low j ∷ high j ∷ []) ∙ sym (take_two s i h)

  pub u32_bytes_lem : (i : ℕ) → i + 4 ≤ length s → u32_bytes (u32_at s i) ≡ take 4 (drop i s)
  u32_bytes_lem i h =
      let low : u32_at s i % 65536 ≡ u16_at s i = omega (arith, u16_at_lt i) in
      let high : u32_at s i / 65536 ≡ u16_at s (i + 2) = omega (arith, u16_at_lt i) in
      (λ j. u16_bytes (low j) ++ u16_bytes (high j))
      ∙ (λ j. u16_bytes_lem i (omega arith) j ++ u16_bytes_lem (i + 2) (omega arith) j)
      ∙ take_join s i 2 2

  pub f32_bytes_lem : (i : ℕ) → i + 4 ≤ length s → T (not (is_nan (f32_at s i))) → f32_bytes (f32_at s i) ≡ take 4 (drop i s)
  unfolding f32_at f32_bytes
  f32_bytes_lem i h v = ap u32_bytes (to_bits-of_bits binary32 (u32_at s i) (u32_at_lt i) v) ∙ u32_bytes_lem i h

  pub row_bytes_lem : (n i : ℕ) → i + n * 4 ≤ length s → ((k : ℕ) → k < n → T (not (is_nan (f32_at s (i + k * 4))))) → row_bytes (row_at s i n) ≡ take (n * 4) (drop i s)
  unfolding row_at row_bytes tabulate
  row_bytes_lem zero i h v = refl
  row_bytes_lem (suc n) i h v =
      let here : i + 0 * 4 ≡ i = omega arith in
      let place : (k : ℕ) → i + suc k * 4 ≡ i + 4 + k * 4 = (λ k. omega arith) in
      let long : 4 + n * 4 ≡ suc n * 4 = omega arith in
      let valid : T (not (is_nan (f32_at s i))) = rw here at (v 0 (omega arith)) in
      let others : tabulate n (λ k. f32_at s (i + suc k * 4)) ≡ row_at s (i + 4) n =
      tabulate_ext n (λ k. f32_at s (i + suc k * 4)) (λ k. f32_at s (i + 4 + k * 4)) (λ k l. ap (f32_at s) (place k))
      in
      (λ j. f32_bytes (f32_at s (here j)) ++ row_bytes (others j))
      ∙ (λ j. f32_bytes_lem i (omega arith) valid j ++ row_bytes_lem n (i + 4) (omega arith) (λ k l. rw (place k) at (v (suc k) (suc-le-suc l))) j)
      ∙ take_join s i 4 (n * 4)
      ∙ ap (λ (m : ℕ). take m (drop i s)) long
