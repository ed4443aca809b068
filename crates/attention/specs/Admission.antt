-- Which keys a row sees: those below the live count, on or before the causal diagonal, and not hidden by the mask. Definitions only.
use Rattle.std.specs.Prelude.{ℕ, ◌+◌, ◌*◌, Bool, true, not, ◌&&◌, ◌||◌, cond, ltb, leb, eqb, get_or, Float}
use Rattle.softmax.specs.Lists.{element_of, is_hidden}
use Rattle.call.specs.declared.Call.{Call}
use Rattle.call.specs.declared.Form.{Form}
use Rattle.call.specs.declared.Form.TheVariants.{Plain, Cached, Counted}
use Rattle.call.specs.declared.MaskKind.{MaskKind}
use Rattle.call.specs.declared.MaskKind.TheVariants.{NoMask, Boolean, FloatMask}
use Rattle.call.specs.Tensors.{Inputs}
use Rattle.call.specs.Contents.{live_of}

-- a dimension of 1 is repeated
abbrev pub repeated : ℕ → ℕ → ℕ
repeated d x = cond (eqb d 1) 0 x

-- where the mask's cell for row (b, h, i) and key j stands: row-major over the mask's own four dimensions
abbrev pub mask_index : Call → (b h i j : ℕ) → ℕ
mask_index c b h i j = ((repeated c.maskb b * c.maskh + repeated c.maskh h) * c.maskq + repeated c.maskq i) * c.maskk + repeated c.maskk j

abbrev pub mask_cell : Call → Inputs → (b h i j : ℕ) → Float
mask_cell c x b h i j = element_of x.float_mask (mask_index c b h i j)

-- the mask's cell isn't boolean 0 or float minus infinity
abbrev pub mask_admits : MaskKind → Call → Inputs → (b h i j : ℕ) → Bool
mask_admits NoMask c x b h i j = true
mask_admits Boolean c x b h i j = not (eqb (get_or x.bool_mask (mask_index c b h i j) 0) 0)
mask_admits FloatMask c x b h i j = not (is_hidden (mask_cell c x b h i j))

-- ---- the last causal position of a row

-- As two numbers: row i admits position j where j, as it is shifted, is no more than the row reaches. In each form that is j ≤ P + i.
abbrev pub reach : Form → (p live i : ℕ) → ℕ
reach Plain p live i = p + i
reach Cached p live i = p + i
reach Counted p live i = p + i

abbrev pub shifted : Form → (sq j : ℕ) → ℕ
shifted Plain sq j = j
shifted Cached sq j = j
shifted Counted sq j = j

-- when causal, up to the last causal position
abbrev pub causal_admits : Call → (live i j : ℕ) → Bool
causal_admits c live i j = eqb c.causal 0 || leb (shifted c.form c.qlen j) (reach c.form c.past live i)

-- row (b, h, i) admits key j
unfoldable pub admits : Call → Inputs → (b h i j : ℕ) → Bool
admits c x b h i j = ltb j (live_of c x.live b) && causal_admits c (live_of c x.live b) i j && mask_admits c.mask c x b h i j
