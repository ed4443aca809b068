-- A list with a part replaced, in the form in which a part `&mut t[a..e]` that was lent comes back: the lengths of the part and of the list, the elements of the part, and the others. Assumes nothing.
use mathlib.Core.Path.{◌≡◌, sym, ap, ◌∙◌}
use mathlib.Core.Logic.{◌≢◌}
use mathlib.Core.List.{List, ◌++◌}
use Prim.Native.Nat.{ℕ, ◌+◌, ◌-◌, ◌*◌, ◌≤◌, ◌<◌}
use native.Mathlib.Nat.{suc-mul, mul-le-mul_right}
use native.Mathlib.Decide.{dec_lt}
use native.Mathlib.Omega.{arith}
use lib.ListN.{length, get_or, take, drop, length-append, length-drop, get_or-append}
use lib.Seq.{length-take-le, get_or-take, get_or-drop, get_or-append-add}

-- t with r in the place of the k elements from a on
abbrev pub with_part : {A : Type 0} → ℕ → ℕ → List A → List A → List A
with_part a k t r = take a t ++ (r ++ drop k (drop a t))

module _ {A : Type 0} where
  -- the part as it is lent
  pub length_part : (a k : ℕ) (t : List A) → a + k ≤ length t → length (take k (drop a t)) ≡ k
  length_part a k t h = length-take-le k (drop a t) (omega (arith, length-drop a t))

  pub length_with_part : (a k : ℕ) (t r : List A) → length r ≡ k → a + k ≤ length t → length (with_part a k t r) ≡ length t
  length_with_part a k t r e h =
      let l : length (take a t) ≡ a = length-take-le a t (omega arith) in
      simp (length-append, length-drop, l) (omega arith)

  -- what stands i places behind a front of m elements
  get_or_behind : (m i : ℕ) (p q : List A) (d : A) → length p ≡ m → get_or (p ++ q) (m + i) d ≡ get_or q i d
  get_or_behind m i p q d e = ap (λ (n : ℕ). get_or (p ++ q) (n + i) d) (sym e) ∙ get_or-append-add p q i d

  module _ (a k : ℕ) (t r : List A) (d : A) (e : length r ≡ k) (h : a + k ≤ length t) where
    taken : length (take a t) ≡ a
    taken = length-take-le a t (omega arith)

    get_or_within : (j : ℕ) → j < k → get_or (with_part a k t r) (a + j) d ≡ get_or r j d
    get_or_within j l = get_or_behind a j (take a t) (r ++ drop k (drop a t)) d taken ∙ get_or-append r (drop k (drop a t)) d j (omega arith)

    get_or_before : (i : ℕ) → i < a → get_or (with_part a k t r) i d ≡ get_or t i d
    get_or_before i l = get_or-append (take a t) (r ++ drop k (drop a t)) d i (omega (arith, taken)) ∙ get_or-take a t i d l

    get_or_after : (j : ℕ) → get_or (with_part a k t r) (a + (k + j)) d ≡ get_or t (a + (k + j)) d
    get_or_after j =
        get_or_behind a (k + j) (take a t) (r ++ drop k (drop a t)) d taken
        ∙ get_or_behind k j r (drop k (drop a t)) d e
        ∙ get_or-drop k (drop a t) j d
        ∙ get_or-drop a t (k + j) d

-- ---- where the part is a row

-- a row ends before a later one
pub row_end : (size m n : ℕ) → m < n → m * size + size ≤ n * size
row_end size m n l = omega (arith, suc-mul m size, mul-le-mul_right size l)

-- the elements of that row, and of every other
module _ {A : Type 0} (size n : ℕ) (t r : List A) (d : A) (e : length r ≡ size) (h : n * size + size ≤ length t) where
  pub get_or_row_same : (j : ℕ) → j < size → get_or (with_part (n * size) size t r) (n * size + j) d ≡ get_or r j d
  get_or_row_same = get_or_within (n * size) size t r d e h

  pub get_or_row_other : (m j : ℕ) → m ≢ n → j < size → get_or (with_part (n * size) size t r) (m * size + j) d ≡ get_or t (m * size + j) d
  get_or_row_other m j x l = go (dec_lt m n)
    where
      go : Dec (m < n) → get_or (with_part (n * size) size t r) (m * size + j) d ≡ get_or t (m * size + j) d
      go (yes p) = get_or_before (n * size) size t r d e h (m * size + j) (omega (arith, row_end size m n p))
      go (no p) =
          let q : n < m = omega arith in
          let f : n * size + size ≤ m * size = row_end size n m q in
          let z : n * size + (size + (m * size + j - n * size - size)) ≡ m * size + j = omega arith in
          ap (λ (i : ℕ). get_or (with_part (n * size) size t r) i d) (sym z)
          ∙ get_or_after (n * size) size t r d e h (m * size + j - n * size - size)
          ∙ ap (λ (i : ℕ). get_or t i d) z
