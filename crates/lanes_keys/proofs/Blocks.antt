-- Lanes that are written block by block, as a loop over parts `&mut lanes[a..e]` leaves them: one block more, and a block that is still as it was. Assumes nothing.
use Rattle.std.proofs.Common.{◌≡◌, ℕ, ◌+◌, ◌-◌, ◌≤◌, List, ◌++◌, length, take, drop, sym, ap, ◌∙◌, arith}
use Rattle.std.proofs.Math.Seq.{drop_at}
use Rattle.tensor_laws.specs.Layout.{tabulate}
use Rattle.tensor_laws.proofs.Tabulate.{length_tabulate, tabulate_append, take_tabulate}
use Rattle.tensor_laws.proofs.Parts.{with_part}
use Rattle.tensor_laws.proofs.Blocks.{written_to, block_more}

module _ {A : Type 0} (f : ℕ → A) (l o : List A) (j k n : ℕ) (e : o ≡ written_to f j l) (size : k ≡ n) (h : j + n ≤ length l) where
  pub block_written : (m : ℕ) (r : List A) → m ≡ j + n → r ≡ tabulate n (λ t. f (j + t)) → with_part j k o r ≡ written_to f m l
  block_written m r em er = rw (e, er, em) (block_more f l j k n size h)

  -- where the list was g 0, g 1, ..
  pub block_unwritten : (g : ℕ → A) → l ≡ tabulate (length l) g → take k (drop j o) ≡ tabulate n (λ t. g (j + t))
  block_unwritten g el =
      let all : length l ≡ j + (length l - j) = omega arith in
      let cut : l ≡ tabulate j g ++ tabulate (length l - j) (λ t. g (j + t)) = el ∙ ap (λ (m : ℕ). tabulate m g) all ∙ sym (tabulate_append j (length l - j) g) in
      ap (λ (r : List A). take k (drop j r)) e
      ∙ ap (take k) (drop_at (tabulate j f) (drop j l) j (length_tabulate j f))
      ∙ ap (λ (r : List A). take k (drop j r)) cut
      ∙ ap (take k) (drop_at (tabulate j g) (tabulate (length l - j) (λ t. g (j + t))) j (length_tabulate j g))
      ∙ take_tabulate k (length l - j) (λ t. g (j + t)) (omega arith)
      ∙ ap (λ (m : ℕ). tabulate m (λ t. g (j + t))) size
