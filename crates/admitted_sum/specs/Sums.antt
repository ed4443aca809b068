-- The weighted sum over the positions that the mask leaves: which they are, the end of a run of them, and the sum. Definitions only.
use Rattle.std.specs.Prelude.{◌≡◌, Bool, true, false, not, List, ℕ, zero, suc, ◌<◌, ◌≤◌, eqb, length, get_or, Float}
use Rattle.std.specs.Float.{binary32}
use Rattle.std.specs.Float.Ieee.{mul}
use Rattle.tensor_laws.specs.Layout.{tabulate}
use Rattle.softmax.specs.Row.{add_where}
use Rattle.softmax.specs.Lists.{element_of, is_hidden}
use Rattle.call.specs.declared.MaskKind.{MaskKind}
use Rattle.call.specs.declared.MaskKind.TheVariants.{NoMask, Boolean, FloatMask}

-- ---- the mask

-- the mask has a cell at that index
abbrev pub MaskHas : MaskKind → (bytes cells at : ℕ) → Type 0
MaskHas NoMask bytes cells at = Unit
MaskHas Boolean bytes cells at = at < bytes
MaskHas FloatMask bytes cells at = at < cells

-- the mask admits the key whose cell stands at that index
abbrev pub admitted_by : MaskKind → List ℕ → List Float → ℕ → Bool
admitted_by NoMask bytes cells at = true
admitted_by Boolean bytes cells at = not (eqb (get_or bytes at 0) 0)
admitted_by FloatMask bytes cells at = not (is_hidden (element_of cells at))

-- ---- the weighted sum

-- e is the end of the run of seen positions that starts at j, among n: all of them are seen, and e is n or not seen
pub record RunEnd (sees : ℕ → Bool) (j n e : ℕ) : Type 0 where
  pub start : j ≤ e
  pub inside : e ≤ n
  pub seen : (k : ℕ) → j ≤ k → k < e → sees k ≡ true
  pub stop : e < n → sees e ≡ false

-- x with weight * value added for each seen position of n, rising
unfoldable pub added_of : ℕ → (ℕ → Bool) → (ℕ → Float) → (ℕ → Float) → Float → Float
unfolding mul
added_of zero sees weight value x = x
added_of (suc n) sees weight value x = add_where (sees n) (added_of n sees weight value x) (mul binary32 (weight n) (value n))

-- each column of the output row with the weighted values of the seen positions added
unfoldable pub added_row_of : ℕ → (ℕ → Bool) → (ℕ → Float) → (ℕ → ℕ → Float) → List Float → List Float
unfolding tabulate added_of
added_row_of n sees weight value out = tabulate (length out) (λ k. added_of n sees weight (λ j. value j k) (element_of out k))
