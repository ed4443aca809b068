-- A row that is mapped in place, block after block. Assumes nothing.
use mathlib.Core.Path.{◌≡◌, ap, ◌∙◌}
use mathlib.Core.List.{List, map}
use Prim.Native.Nat.{ℕ, ◌+◌, ◌≤◌}
use native.Mathlib.Omega.{arith}
use borrow.Rule.Slice.PartMut.{put_mid}
use lib.ListN.{length, take, drop}
use Rattle.tensor_laws.proofs.InPlace.{mapped_to, mapped_all, mapped_block}
use Rattle.tensor_laws.proofs.Parts.{with_part}

-- the k elements from a on are mapped, and the a elements before them were
module _ {A : Type 0} (g : A → A) (a k : ℕ) (row₀ row r : List A) (b : ℕ) (before : row ≡ mapped_to g b row₀) (here : b ≡ a) (part : r ≡ map g (take k (drop a row))) (within : a + k ≤ length row₀) where
  pub block_mapped : (n : ℕ) → a + k ≡ n → put_mid a k row r ≡ mapped_to g n row₀
  block_mapped n end =
      ap (λ (x : List A). with_part a k row x) part
      ∙ ap (λ (x : List A). with_part a k x (map g (take k (drop a x)))) (before ∙ ap (λ (m : ℕ). mapped_to g m row₀) here)
      ∙ mapped_block g a k row₀ within
      ∙ ap (λ (m : ℕ). mapped_to g m row₀) end

  pub all_mapped : length row₀ ≤ a + k → put_mid a k row r ≡ map g row₀
  all_mapped last = block_mapped (a + k) (omega arith) ∙ mapped_all g (a + k) row₀ last
