-- Reading looks at its own bytes only: what is read in the front of a list, in the list from a byte on, in a part, and behind other bytes. Assumes nothing.
use mathlib.Core.Path.{◌≡◌, sym, ap, ◌∙◌}
use mathlib.Core.Bool.{◌&&◌}
use mathlib.Core.List.{List, ◌++◌}
use Prim.Native.Nat.{ℕ, ◌+◌, ◌*◌, ◌≤◌}
use native.Mathlib.Nat.{add-zero, add_assoc}
use native.Mathlib.Omega.{arith}
use lib.Dec.{eqb}
use lib.ListN.{length, take, drop}
use lib.Seq.{get_or-take, get_or-drop, drop-append_seam}
use lib.Ieee.{binary32, of_bits}
use Rattle.tensor_laws.proofs.Tabulate.{tabulate_ext}
use Rattle.records.specs.Numbers.{u16_at, u32_at, f32_at, row_at}
use Rattle.records.specs.Records.{head_is}

-- ---- in the first n bytes

module _ (n i : ℕ) (s : List ℕ) where
  pub u16_at_take : i + 2 ≤ n → u16_at (take n s) i ≡ u16_at s i
  u16_at_take h = omega (arith, get_or-take n s i 0 (omega arith), get_or-take n s (i + 1) 0 (omega arith))

  pub u32_at_take : i + 4 ≤ n → u32_at (take n s) i ≡ u32_at s i
  u32_at_take h =
      omega (
        arith,
        get_or-take n s i 0 (omega arith),
        get_or-take n s (i + 1) 0 (omega arith),
        get_or-take n s (i + 2) 0 (omega arith),
        get_or-take n s (i + 2 + 1) 0 (omega arith),
      )

  pub f32_at_take : i + 4 ≤ n → f32_at (take n s) i ≡ f32_at s i
  unfolding f32_at
  f32_at_take h = ap (of_bits binary32) (u32_at_take h)

pub head_is_take : (n i long kind : ℕ) (s : List ℕ) → i + 6 ≤ n → head_is (take n s) i long kind ≡ head_is s i long kind
head_is_take n i long kind s h =
    (λ j. eqb (u32_at_take n i s (omega arith) j) long && eqb (u16_at_take n (i + 4) s (omega arith) j) kind)

-- ---- from byte a on

module _ (a i : ℕ) (s : List ℕ) where
  pub u16_at_drop : u16_at (drop a s) i ≡ u16_at s (a + i)
  u16_at_drop = simp (get_or-drop, add_assoc)

  pub u32_at_drop : u32_at (drop a s) i ≡ u32_at s (a + i)
  u32_at_drop = simp (get_or-drop, add_assoc)

  pub f32_at_drop : f32_at (drop a s) i ≡ f32_at s (a + i)
  unfolding f32_at
  f32_at_drop = ap (of_bits binary32) u32_at_drop

pub head_is_drop : (a i long kind : ℕ) (s : List ℕ) → head_is (drop a s) i long kind ≡ head_is s (a + i) long kind
head_is_drop a i long kind s =
    (λ j. eqb (u32_at_drop a i s j) long && eqb (u16_at_drop a (i + 4) s j) kind)
    ∙ ap (λ (m : ℕ). eqb (u32_at s (a + i)) long && eqb (u16_at s m) kind) (omega arith)

pub row_at_drop : (a i n : ℕ) (s : List ℕ) → row_at (drop a s) i n ≡ row_at s (a + i) n
unfolding row_at
row_at_drop a i n s =
    tabulate_ext n (λ j. f32_at (drop a s) (i + j * 4)) (λ j. f32_at s (a + i + j * 4))
    (λ j l. f32_at_drop a (i + j * 4) s ∙ ap (f32_at s) (sym (add_assoc a i (j * 4))))

-- ---- a row in a part

zero_in : (a k : ℕ) → a + (0 + k) ≡ a + k
zero_in a k = omega arith

pub row_at_part : (a k n : ℕ) (s : List ℕ) → n * 4 ≤ k → row_at (take k (drop a s)) 0 n ≡ row_at s a n
unfolding row_at
row_at_part a k n s h =
    tabulate_ext n (λ j. f32_at (take k (drop a s)) (0 + j * 4)) (λ j. f32_at s (a + j * 4))
    (λ j l.
    f32_at_take k (0 + j * 4) (drop a s) (omega arith)
    ∙ f32_at_drop a (0 + j * 4) s
    ∙ ap (f32_at s) (zero_in a (j * 4)))

-- ---- behind the bytes p

module _ {B : Type 0} (f : List ℕ → ℕ → B) (drops : (a i : ℕ) (s : List ℕ) → f (drop a s) i ≡ f s (a + i)) where
  pub behind : (p r : List ℕ) → f (p ++ r) (length p) ≡ f r 0
  behind p r =
      ap (f (p ++ r)) (sym (add-zero (length p)))
      ∙ sym (drops (length p) 0 (p ++ r))
      ∙ ap (λ (s : List ℕ). f s 0) (drop-append_seam p r)
