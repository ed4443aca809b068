-- A list that is written block by block: before element j it is what was written and then what stood there. One block more, what is not written yet, and the rest at once. Assumes nothing.
use mathlib.Core.Path.{◌≡◌, sym, ap, ◌∙◌}
use mathlib.Core.List.{List, ◌++◌, append_assoc}
use Prim.Native.Nat.{ℕ, ◌+◌, ◌-◌, ◌≤◌, ◌<◌}
use native.Mathlib.Omega.{arith}
use lib.ListN.{length, get_or, take, drop}
use lib.Seq.{take_at, drop_at, drop-drop, get_or-take, get_or-drop}
use borrow.Rule.Slice.PartMut.{put_mid}
use Rattle.tensor_laws.specs.Layout.{tabulate}
use Rattle.tensor_laws.proofs.Tabulate.{length_tabulate, tabulate_append}
use Rattle.tensor_laws.proofs.Parts.{with_part}
use Rattle.tensor_laws.proofs.Tails.{put_second}

-- the first j elements written, the others as they were
abbrev pub written_to : {A : Type 0} → (ℕ → A) → ℕ → List A → List A
written_to f j l = tabulate j f ++ drop j l

module _ {A : Type 0} (f : ℕ → A) (l : List A) (j : ℕ) where
  -- with a block of n more
  pub block_more : (k n : ℕ) → k ≡ n → j + n ≤ length l → with_part j k (written_to f j l) (tabulate n (λ i. f (j + i))) ≡ written_to f (j + n) l
  block_more k n e h =
      let first = tabulate j f in
      let more = tabulate n (λ i. f (j + i)) in
      let long : length first ≡ j = length_tabulate j f in
      (λ i. take_at first (drop j l) j long i ++ (more ++ drop (e i) (drop_at first (drop j l) j long i)))
      ∙ ap (λ (r : List A). first ++ (more ++ r)) (drop-drop n j l)
      ∙ sym (append_assoc first more (drop (j + n) l))
      ∙ ap (λ (r : List A). r ++ drop (j + n) l) (tabulate_append j n f)

  -- a part from element j on is as it was
  pub get_or_unwritten : (o : List A) → o ≡ written_to f j l → (k i : ℕ) (d : A) → i < k → get_or (take k (drop j o)) i d ≡ get_or l (j + i) d
  get_or_unwritten o e k i d h =
      get_or-take k (drop j o) i d h
      ∙ ap (λ (r : List A). get_or (drop j r) i d) e
      ∙ ap (λ (r : List A). get_or r i d) (drop_at (tabulate j f) (drop j l) j (length_tabulate j f))
      ∙ get_or-drop j l i d

  -- with the rest written at once
  pub rest_written : (o r : List A) → o ≡ written_to f j l → j ≤ length l → r ≡ tabulate (length l - j) (λ i. f (j + i)) → put_mid j (length o - j) o r ≡ tabulate (length l) f
  rest_written o r e h w =
      let n : j + (length l - j) ≡ length l = omega arith in
      ap (λ (p : List A). put_mid j (length p - j) p r) e
      ∙ put_second j l (tabulate j f) (length_tabulate j f) h r
      ∙ ap (λ (p : List A). tabulate j f ++ p) w
      ∙ tabulate_append j (length l - j) f
      ∙ ap (λ (m : ℕ). tabulate m f) n
