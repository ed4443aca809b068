-- Faults by number: a count is a sum and at most the length, and a count of 0 is a list with no fault. Assumes nothing.
use mathlib.Core.Path.{◌≡◌, refl}
use mathlib.Core.List.{List, [], ◌∷◌}
use Prim.Native.Nat.{zero, suc, ◌≤◌}
use native.Mathlib.Nat.{not-suc-le-zero, le_of_suc-le-suc}
use native.Mathlib.Omega.{arith}
use lib.ListN.{length}
use lib.Ieee.{Float}
use Rattle.std.specs.List.{sum_by}
use Rattle.std.proofs.lemmas.List.Recursion.{is_sum_by}
use Rattle.bool_laws.proofs.Counts.{tally_none, tally_le}
use Rattle.bool_laws.specs.Counts.{tally}
use Rattle.call.specs.Contents.{element_fault}
use Rattle.call.specs.Places.{TensorClear}
use Rattle.contents.specs.Faults.{fault_count}

-- the count is a sum of ones and zeros
pub count_sum : (xs : List Float) → fault_count xs ≡ sum_by (λ x. tally (element_fault x)) xs
unfolding fault_count
count_sum xs = is_sum_by fault_count (λ x. tally (element_fault x)) refl (λ _ _. refl) xs

-- no more are counted than there are
pub count_le : (xs : List Float) → fault_count xs ≤ length xs
unfolding fault_count
count_le [] = omega arith
count_le (x ∷ xs) = omega (arith, tally_le (element_fault x), count_le xs)

-- no faults are counted where none is
pub count_none : (xs : List Float) → fault_count xs ≡ 0 → TensorClear xs
unfolding fault_count
count_none [] e k h = absurd (not-suc-le-zero h)
count_none (x ∷ xs) e zero h = tally_none (element_fault x) (omega arith)
count_none (x ∷ xs) e (suc k) h = count_none xs (omega arith) k (le_of_suc-le-suc h)
