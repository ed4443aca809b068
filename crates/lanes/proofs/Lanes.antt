-- The lanes of a dot product: one element more goes into the lane of its remainder and leaves the others, and the lanes of no element. Assumes nothing.
use mathlib.Core.Path.{◌≡◌, refl, sym, ap, ◌∙◌}
use mathlib.Core.List.{List, [], ◌∷◌}
use Prim.Native.Nat.{ℕ, zero, suc, ◌+◌, ◌%◌, ◌<◌}
use native.Mathlib.Nat.{add-mod, mod-eq_of_lt}
use native.Mathlib.Numerals.{add-one}
use native.Mathlib.Omega.{arith}
use lib.Dec.{eqb}
use lib.ListN.{length, replicate, set}
use lib.Ieee.{Float, binary32, add, mul}
use Rattle.exponential.specs.ExpNeg.{plus_zero}
use Rattle.tensor_laws.specs.Layout.{tabulate}
use Rattle.tensor_laws.proofs.Tabulate.{length_tabulate}
use Rattle.softmax.specs.Row.{add_where, sum_of, lane_of, dot_of}
use Rattle.softmax.specs.Lists.{element_of, dot_row_of}
use Rattle.lanes.specs.Sums.{lanes_of}

module _ (q k : List Float) where
  -- the lanes of no element
  pub lanes_start : replicate 4 plus_zero ≡ lanes_of q k 0
  unfolding lanes_of tabulate lane_of sum_of
  lanes_start = refl

  -- there are four
  pub lanes_four : (n : ℕ) → length (lanes_of q k n) ≡ 4
  unfolding lanes_of
  lanes_four n = length_tabulate 4 (λ l. lane_of l n (element_of q) (element_of k))

  -- one element more, whose index has the remainder r: its product goes into lane r, and the other lanes stay
  each_lane : (i r l : ℕ) → i % 4 ≡ r → add_where (eqb r l) (lane_of l i (element_of q) (element_of k)) (mul binary32 (element_of q i) (element_of k i)) ≡ lane_of l (i + 1) (element_of q) (element_of k)
  unfolding lane_of sum_of
  each_lane i r l e =
      ap (λ (n : ℕ). add_where (eqb n l) (lane_of l i (element_of q) (element_of k)) (mul binary32 (element_of q i) (element_of k i))) (sym e)
      ∙ ap (λ (n : ℕ). lane_of l n (element_of q) (element_of k)) (sym (add-one i))

  pub lanes_next : (i r : ℕ) → r < 4 → i % 4 ≡ r → set (lanes_of q k i) r (add binary32 (element_of (lanes_of q k i) r) (mul binary32 (element_of q i) (element_of k i))) ≡ lanes_of q k (i + 1)
  unfolding lanes_of tabulate
  lanes_next i zero h e = λ j. each_lane i 0 0 e j ∷ each_lane i 0 1 e j ∷ each_lane i 0 2 e j ∷ each_lane i 0 3 e j ∷ []
  lanes_next i (suc zero) h e = λ j. each_lane i 1 0 e j ∷ each_lane i 1 1 e j ∷ each_lane i 1 2 e j ∷ each_lane i 1 3 e j ∷ []
  lanes_next i (suc (suc zero)) h e = λ j. each_lane i 2 0 e j ∷ each_lane i 2 1 e j ∷ each_lane i 2 2 e j ∷ each_lane i 2 3 e j ∷ []
  lanes_next i (suc (suc (suc zero))) h e = λ j. each_lane i 3 0 e j ∷ each_lane i 3 1 e j ∷ each_lane i 3 2 e j ∷ each_lane i 3 3 e j ∷ []
  lanes_next i (suc (suc (suc (suc r)))) h e = absurd (omega arith)

  -- joined they are the dot product
  pub lanes_joined : let x = lanes_of q k (length q) in add binary32 (add binary32 (element_of x 0) (element_of x 1)) (add binary32 (element_of x 2) (element_of x 3)) ≡ dot_row_of q k
  unfolding lanes_of tabulate dot_row_of dot_of
  lanes_joined = refl

-- the remainder of an index behind a multiple of four
pub remainder_behind : (from r : ℕ) → r < 4 → from % 4 ≡ 0 → (from + r) % 4 ≡ r
remainder_behind from r h e = add-mod from r 4 ∙ ap (λ (n : ℕ). (n + r % 4) % 4) e ∙ omega (arith, mod-eq_of_lt h)
