-- What the steps of a row do to its lists: the run of positions that it may see, the mask and the cap on a row of scores, softmax, and the scores shown. Definitions only.
use Rattle.std.specs.Prelude.{◌≡◌, Bool, true, false, ◌&&◌, cond, List, ◌++◌, ℕ, ◌+◌, ◌-◌, ◌<◌, ◌≤◌, eqb, leb, length, get_or, replicate, Float, Option, Some, None}
use Rattle.std.specs.Float.{binary32}
use Rattle.std.specs.Float.Ieee.{add}
use Rattle.tensor_laws.specs.Layout.{tabulate}
use Rattle.exponential.specs.ExpNeg.{plus_zero}
use Rattle.softmax.specs.Lists.{element_of, hidden, softmax_row_of, fully_masked_row_of}
use Rattle.softmax.specs.Cap.{capped_row_where}
use Rattle.call.specs.declared.Call.{Call}
use Rattle.call.specs.declared.MaskKind.{MaskKind}
use Rattle.call.specs.declared.MaskKind.TheVariants.{NoMask, Boolean, FloatMask}
use Rattle.attention.specs.Admission.{mask_index, reach}

-- ---- the run of positions that row i may see

-- The positions below the live count and, when causal, up to the last causal one are a run from 0; this is its length.
abbrev pub visible_of : Call → (live i : ℕ) → ℕ
visible_of c live i =
    let end = reach c.form c.past live i + 1 in
    cond (eqb c.causal 0) live (cond (leb live end) live end)

-- ---- the mask

-- where the mask's cells of row (b, h, i) start; without a mask its dimensions are not looked at
abbrev pub mask_start : MaskKind → Call → (b h i : ℕ) → ℕ
mask_start NoMask c b h i = 0
mask_start Boolean c b h i = mask_index c b h i 0
mask_start FloatMask c b h i = mask_index c b h i 0

-- a score under the mask cell at that index: a boolean 0 hides it, and a float is added
abbrev pub masked_by : MaskKind → List ℕ → List Float → ℕ → Float → Float
masked_by NoMask bytes cells at s = s
masked_by Boolean bytes cells at s = cond (eqb (get_or bytes at 0) 0) hidden s
masked_by FloatMask bytes cells at s = add binary32 s (element_of cells at)

-- the mask has the cells of n positions from the index on; a width of 1 is repeated
abbrev pub MaskRowFits : MaskKind → (bytes cells at width n : ℕ) → Type 0
MaskRowFits NoMask bytes cells at width n = Unit
MaskRowFits Boolean bytes cells at width n = (at < bytes) × ((width ≡ 1 → ⊥) → at + n ≤ bytes)
MaskRowFits FloatMask bytes cells at width n = (at < cells) × ((width ≡ 1 → ⊥) → at + n ≤ cells)

-- every score of a row under the mask cell of its position
unfoldable pub masked_row_by : MaskKind → List ℕ → List Float → (ℕ → ℕ) → List Float → List Float
unfolding tabulate add
masked_row_by kind bytes cells index row = tabulate (length row) (λ j. masked_by kind bytes cells (index j) (element_of row j))

-- ---- the scores shown

-- the mode is one of those from low to high
abbrev pub shows_of : Option ℕ → (low high : ℕ) → Bool
shows_of None low high = false
shows_of (Some m) low high = leb low m && leb m high

-- a row, and behind it as many times `rest` as n leaves
abbrev pub padded_to : ℕ → Float → List Float → List Float
padded_to n rest row = row ++ replicate (n - length row) rest

-- what is shown after a step that shows the row where `on` holds
abbrev pub shown_where : Bool → Float → List Float → List Float → List Float
shown_where true rest row shown = padded_to (length shown) rest row
shown_where false rest row shown = shown

-- ---- the cap, and softmax

-- Step 2 and the cap leave the scores under both; mode 1 shows the scores under the mask, and mode 2 those under the cap.
pub record CapDone (mode : Option ℕ) (softcap : Float) (masked shown₀ shown row : List Float) : Type 0 where
  pub scores : row ≡ capped_row_where softcap masked
  pub shows : shown ≡ shown_where (shows_of mode 2 2) hidden (capped_row_where softcap masked) (shown_where (shows_of mode 1 1) hidden masked shown₀)

-- Steps 2 to 4 leave the weights of the scores under the mask and the cap and +0 behind them, n elements in all, and tell whether the scores are fully masked; mode 3 shows the weights.
pub record SoftmaxDone (mode : Option ℕ) (softcap : Float) (masked shown₀ : List Float) (n : ℕ) (shown work : List Float) (fully : Bool) : Type 0 where
  pub weights : work ≡ padded_to n plus_zero (softmax_row_of (capped_row_where softcap masked))
  pub told : fully ≡ fully_masked_row_of (capped_row_where softcap masked)
  pub shows : shown ≡ shown_where (shows_of mode 3 3) plus_zero work (shown_where (shows_of mode 2 2) hidden (capped_row_where softcap masked) (shown_where (shows_of mode 1 1) hidden masked shown₀))
