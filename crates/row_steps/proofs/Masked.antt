-- A mask whose cells for a row start at an index, with a last dimension that is repeated or not: what it does to the row's scores. Assumes nothing.
use mathlib.Core.Path.{◌≡◌, refl, sym, ap, ◌∙◌}
use mathlib.Core.List.{List, map}
use Prim.Native.Nat.{ℕ, ◌+◌}
use native.Mathlib.Nat.{add-zero}
use lib.ListN.{length}
use lib.Ieee.{Float, nan}
use borrow.Author.Tests.{eq-eqb, ne_eqb}
use Rattle.tensor_laws.specs.Layout.{tabulate}
use Rattle.tensor_laws.proofs.Tabulate.{length_tabulate, get_or_tabulate, tabulate_ext, tabulate_get_d, map_elements}
use Rattle.softmax.specs.Lists.{element_of}
use Rattle.call.specs.declared.MaskKind.{MaskKind}
use Rattle.call.specs.declared.MaskKind.TheVariants.{NoMask, Boolean, FloatMask}
use Rattle.attention.specs.Admission.{repeated}
use Rattle.row_steps.specs.Steps.{masked_by, masked_row_by}
use Rattle.tensor_laws.proofs.Tails.{part_of, get_or_part}

-- a dimension of 1 is read at 0
repeated_one : (width j : ℕ) → width ≡ 1 → repeated width j ≡ 0
repeated_one width j e = rw (eq-eqb width 1 e)

-- any other dimension is read at the position
pub repeated_full : (width j : ℕ) → (width ≡ 1 → ⊥) → repeated width j ≡ j
repeated_full width j n = rw (ne_eqb width 1 n)

-- the row keeps its length
pub length_masked : (kind : MaskKind) (bytes : List ℕ) (cells : List Float) (index : ℕ → ℕ) (row : List Float) → length (masked_row_by kind bytes cells index row) ≡ length row
unfolding masked_row_by
length_masked kind bytes cells index row = length_tabulate (length row) _

-- a row of scores that is given position by position
pub masked_tabulated : (kind : MaskKind) (bytes : List ℕ) (cells : List Float) (index : ℕ → ℕ) (n : ℕ) (f : ℕ → Float) → masked_row_by kind bytes cells index (tabulate n f) ≡ tabulate n (λ j. masked_by kind bytes cells (index j) (f j))
unfolding masked_row_by
masked_tabulated kind bytes cells index n f =
    ap (λ (m : ℕ). tabulate m (λ j. masked_by kind bytes cells (index j) (element_of (tabulate n f) j))) (length_tabulate n f)
    ∙ tabulate_ext n _ _ (λ j h. ap (masked_by kind bytes cells (index j)) (get_or_tabulate n f j nan h))

-- without a mask the row is as it was
pub masked_none : (bytes : List ℕ) (cells : List Float) (index : ℕ → ℕ) (row : List Float) → masked_row_by NoMask bytes cells index row ≡ row
unfolding masked_row_by
masked_none bytes cells index row = tabulate_get_d row nan

-- under a repeated cell every score is masked alike
pub masked_repeated : (kind : MaskKind) (bytes : List ℕ) (cells : List Float) (at width : ℕ) (row : List Float) → width ≡ 1 → masked_row_by kind bytes cells (λ j. at + repeated width j) row ≡ map (masked_by kind bytes cells at) row
unfolding masked_row_by
masked_repeated kind bytes cells at width row e =
    let each : ℕ → ℕ → Float = λ i j. masked_by kind bytes cells i (element_of row j) in
    tabulate_ext (length row) (λ j. each (at + repeated width j) j) (λ j. each at j) (λ j l. ap (λ (i : ℕ). each i j) (ap (λ (x : ℕ). at + x) (repeated_one width j e) ∙ add-zero at))
    ∙ sym (map_elements (masked_by kind bytes cells at) nan row)

-- what the mask does to a score at an index of its part that starts at `at`
masked_in_part : (kind : MaskKind) (bytes : List ℕ) (cells : List Float) (at j : ℕ) (s : Float) → masked_by kind (part_of at bytes) (part_of at cells) j s ≡ masked_by kind bytes cells (at + j) s
masked_in_part NoMask bytes cells at j s = refl
masked_in_part Boolean bytes cells at j s = rw (get_or_part at bytes j 0)
masked_in_part FloatMask bytes cells at j s = rw (get_or_part at cells j nan)

-- the mask's part that starts at `at` does to a row what the mask does from there on, where its last dimension is not repeated
pub masked_part : (kind : MaskKind) (bytes : List ℕ) (cells : List Float) (at width : ℕ) (row : List Float) → (width ≡ 1 → ⊥) → masked_row_by kind (part_of at bytes) (part_of at cells) (λ j. j) row ≡ masked_row_by kind bytes cells (λ j. at + repeated width j) row
unfolding masked_row_by
masked_part kind bytes cells at width row n =
    tabulate_ext (length row) (λ j. masked_by kind (part_of at bytes) (part_of at cells) j (element_of row j)) (λ j. masked_by kind bytes cells (at + repeated width j) (element_of row j))
    (λ j l. masked_in_part kind bytes cells at j (element_of row j) ∙ ap (λ (x : ℕ). masked_by kind bytes cells (at + x) (element_of row j)) (sym (repeated_full width j n)))
