-- A list from one of its elements on, as `&s[at..]` lends it: its length and its elements, and the whole when other elements come back in its place. Assumes nothing.
use mathlib.Core.Path.{◌≡◌, ap, ◌∙◌}
use mathlib.Core.List.{List, ◌++◌, append-nil}
use Prim.Native.Nat.{ℕ, ◌+◌, ◌-◌, ◌≤◌}
use native.Mathlib.Omega.{arith}
use lib.ListN.{length, get_or, take, drop, length-append, length-drop}
use lib.Seq.{take_all, take_at, drop-length, get_or-drop}
use borrow.Rule.Slice.PartMut.{put_mid, Post-is}

module _ {A : Type 0} where
  -- the list from the element at on
  abbrev pub part_of : ℕ → List A → List A
  part_of at l = take (length l - at) (drop at l)

  part_is : (at : ℕ) (l : List A) → part_of at l ≡ drop at l
  part_is at l = take_all (length l - at) (drop at l) (omega (arith, length-drop at l))

  pub length_part : (at : ℕ) (l : List A) → length (part_of at l) ≡ length l - at
  length_part at l = ap length (part_is at l) ∙ length-drop at l

  pub get_or_part : (at : ℕ) (l : List A) (k : ℕ) (d : A) → get_or (part_of at l) k d ≡ get_or l (at + k) d
  get_or_part at l k d = ap (λ (r : List A). get_or r k d) (part_is at l) ∙ get_or-drop at l k d

  -- with other elements in the place of those from at on the list is what stood before them, and they
  pub put_part : (at : ℕ) (l r : List A) → at ≤ length l → put_mid at (length l - at) l r ≡ take at l ++ r
  put_part at l r h = ap (λ (z : List A). take at l ++ (r ++ z)) (Post-is at (length l) l h ∙ drop-length l) ∙ ap (λ (z : List A). take at l ++ z) (append-nil r)

  -- two parts that come back one after the other: what stands behind the first is the second
  module _ (cut : ℕ) (l s : List A) (e : length s ≡ cut) (h : cut ≤ length l) where
    -- the list has its length after the first
    pub length_first : length (s ++ drop cut l) ≡ length l
    length_first = omega (arith, length-append s (drop cut l), length-drop cut l)

    pub length_second : length (part_of cut (s ++ drop cut l)) ≡ length l - cut
    length_second = length_part cut (s ++ drop cut l) ∙ ap (λ (n : ℕ). n - cut) length_first

    pub put_second : (r : List A) → put_mid cut (length (s ++ drop cut l) - cut) (s ++ drop cut l) r ≡ s ++ r
    put_second r =
        put_part cut (s ++ drop cut l) r (omega (arith, length_first))
        ∙ ap (λ (z : List A). z ++ r) (take_at s (drop cut l) cut e)
