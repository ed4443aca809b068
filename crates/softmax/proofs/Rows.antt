-- A row that stands inside a longer list, as `&keys[at..e]` lends it: its elements, and what the dot product and the weighted sum make of it. Assumes nothing.
use mathlib.Core.Path.{◌≡◌, refl, sym, ap, ◌∙◌}
use mathlib.Core.List.{List}
use Prim.Native.Nat.{ℕ, ◌+◌, ◌*◌, ◌≤◌, ◌<◌}
use native.Mathlib.Numerals.{add-one}
use native.Mathlib.Omega.{arith}
use lib.ListN.{length, take, drop}
use lib.Seq.{get_or-take, get_or-drop}
use lib.Ieee.{Float, nan, binary32, add, mul}
use Rattle.tensor_laws.specs.Layout.{tabulate}
use Rattle.tensor_laws.proofs.Tabulate.{length_tabulate, get_or_tabulate, tabulate_ext}
use Rattle.softmax.specs.Row.{dot_of}
use Rattle.softmax.specs.Lists.{element_of, dot_row_of, accumulated_of, accumulated_row_of}
use Rattle.softmax.proofs.Structure.{agree_dot}

-- an element of a row of n elements that starts at an index
pub row_element : (list : List Float) (at n k : ℕ) → k < n → element_of (take n (drop at list)) k ≡ element_of list (at + k)
row_element list at n k h = get_or-take n (drop at list) k nan h ∙ get_or-drop at list k nan

pub dot_row : (q keys : List Float) (at n : ℕ) → length q ≤ n → dot_row_of q (take n (drop at keys)) ≡ dot_of (length q) (element_of q) (λ c. element_of keys (at + c))
unfolding dot_row_of
dot_row q keys at n h = agree_dot (length q) (element_of q) (element_of q) (element_of (take n (drop at keys))) (λ c. element_of keys (at + c)) (λ c l. refl) (λ c l. row_element keys at n c (omega (arith, h)))

-- ---- the weighted sum

-- the element of column c after the weighted values of n positions are added
abbrev pub column_of : List Float → List Float → ℕ → List Float → ℕ → ℕ → Float
column_of weights values stride out n c = accumulated_of n (element_of weights) (λ j. element_of values (j * stride + c)) (element_of out c)

-- one more position, in one column and in all
module _ (weights values : List Float) (stride : ℕ) (out : List Float) (j n : ℕ) (long : length out ≤ n) where
  column_next : (c : ℕ) → c < length out → add binary32 (element_of (tabulate (length out) (column_of weights values stride out j)) c) (mul binary32 (element_of weights j) (element_of (take n (drop (j * stride) values)) c)) ≡ column_of weights values stride out (j + 1) c
  unfolding accumulated_of
  column_next c h =
      let columns = column_of weights values stride out in
      let added : Float → Float → Float = λ x v. add binary32 x (mul binary32 (element_of weights j) v) in
      (λ i. added (get_or_tabulate (length out) (columns j) c nan h i) (row_element values (j * stride) n c (omega (arith, long)) i)) ∙ ap (λ (m : ℕ). columns m c) (sym (add-one j))

  pub weighted_next : accumulated_row_of (element_of weights j) (take n (drop (j * stride) values)) (tabulate (length out) (column_of weights values stride out j)) ≡ tabulate (length out) (column_of weights values stride out (j + 1))
  unfolding accumulated_row_of
  weighted_next =
      let row = tabulate (length out) (column_of weights values stride out j) in
      let each : ℕ → Float = λ c. add binary32 (element_of row c) (mul binary32 (element_of weights j) (element_of (take n (drop (j * stride) values)) c)) in
      ap (λ (m : ℕ). tabulate m each) (length_tabulate (length out) (column_of weights values stride out j)) ∙ tabulate_ext (length out) each (column_of weights values stride out (j + 1)) column_next
