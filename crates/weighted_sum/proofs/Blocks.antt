-- Positions in blocks: the weighted values of n positions more, as the parts of the weights and of the values that start with position j lend them.
use mathlib.Core.Path.{◌≡◌, refl, sym, ap, ◌∙◌}
use mathlib.Core.List.{List}
use Prim.Native.Nat.{ℕ, zero, suc, ◌+◌, ◌*◌, ◌<◌}
use native.Mathlib.Nat.{add-zero, add-mul}
use native.Mathlib.Omega.{arith}
use lib.ListN.{length}
use lib.Ieee.{Float, nan, binary32, add, mul}
use Rattle.tensor_laws.specs.Layout.{tabulate}
use Rattle.tensor_laws.proofs.Tails.{part_of, get_or_part}
use Rattle.tensor_laws.proofs.Tabulate.{length_tabulate, get_or_tabulate, tabulate_ext}
use Rattle.softmax.specs.Lists.{element_of, accumulated_of, weighted_rows_of}
use Rattle.softmax.proofs.Rows.{column_of}

-- weights and values that agree
accumulated_same : (n : ℕ) (w w' v v' : ℕ → Float) (x : Float) → ((i : ℕ) → i < n → w i ≡ w' i) → ((i : ℕ) → v i ≡ v' i) → accumulated_of n w v x ≡ accumulated_of n w' v' x
unfolding accumulated_of
accumulated_same zero w w' v v' x ew ev = refl
accumulated_same (suc n) w w' v v' x ew ev = λ k. add binary32 (accumulated_same n w w' v v' x (λ i h. ew i (omega arith)) ev k) (mul binary32 (ew n (omega arith) k) (ev n k))

-- n positions after the first a
accumulated_run : (a n : ℕ) (w v : ℕ → Float) (x : Float) → accumulated_of n (λ i. w (a + i)) (λ i. v (a + i)) (accumulated_of a w v x) ≡ accumulated_of (a + n) w v x
unfolding accumulated_of
accumulated_run a zero w v x = ap (λ (m : ℕ). accumulated_of m w v x) (sym (add-zero a))
accumulated_run a (suc n) w v x =
    let e : suc (a + n) ≡ a + suc n = omega arith in
    ap (λ (y : Float). add binary32 y (mul binary32 (w (a + n)) (v (a + n)))) (accumulated_run a n w v x) ∙ ap (λ (m : ℕ). accumulated_of m w v x) e

-- the output row with those of the first j positions added, and those of the n behind them, whose weights are given
pub rows_more : (weights values : List Float) (stride : ℕ) (out : List Float) (j n : ℕ) (given row : List Float)
    → row ≡ tabulate (length out) (column_of weights values stride out j) → length given ≡ n → ((i : ℕ) → i < n → element_of given i ≡ element_of weights (j + i))
    → weighted_rows_of given (part_of (j * stride) values) stride row ≡ tabulate (length out) (column_of weights values stride out (j + n))
unfolding weighted_rows_of
rows_more weights values stride out j n given row er eg same =
    ap (λ (r : List Float). tabulate (length r) (λ c. column r c)) er
    ∙ ap (λ (m : ℕ). tabulate m (column done)) (length_tabulate (length out) (column_of weights values stride out j))
    ∙ tabulate_ext (length out) (column done) _ each
  where
    done : List Float
    done = tabulate (length out) (column_of weights values stride out j)

    column : List Float → ℕ → Float
    column r c = accumulated_of (length given) (element_of given) (λ i. element_of (part_of (j * stride) values) (i * stride + c)) (element_of r c)

    value_at_lem : (c i : ℕ) → element_of (part_of (j * stride) values) (i * stride + c) ≡ element_of values ((j + i) * stride + c)
    value_at_lem c i =
        let e : j * stride + (i * stride + c) ≡ (j + i) * stride + c = omega (arith, add-mul j i stride) in
        get_or_part (j * stride) values (i * stride + c) nan ∙ ap (element_of values) e

    each : (c : ℕ) → c < length out → column done c ≡ column_of weights values stride out (j + n) c
    each c h =
        (λ k. accumulated_of (eg k) (element_of given) (λ i. element_of (part_of (j * stride) values) (i * stride + c)) (get_or_tabulate (length out) (column_of weights values stride out j) c nan h k))
        ∙ accumulated_same n (element_of given) (λ i. element_of weights (j + i)) (λ i. element_of (part_of (j * stride) values) (i * stride + c)) (λ i. element_of values ((j + i) * stride + c)) _ same (value_at_lem c)
        ∙ accumulated_run j n (element_of weights) (λ i. element_of values (i * stride + c)) (element_of out c)
