-- Where the mask's cells of a row start. Assumes nothing.
use mathlib.Core.Path.{◌≡◌, refl, ap, ◌∙◌}
use mathlib.Core.Logic.{◌⊎◌, inl, inr}
use mathlib.Core.Bool.{Bool, true, false, cond}
use Prim.Native.Nat.{ℕ, ◌+◌, ◌*◌, ◌≤◌, zero-le}
use native.Mathlib.Nat.{le_refl, add-zero}
use lib.Dec.{eqb}
use Rattle.call.specs.declared.Call.{Call}
use Rattle.call.specs.declared.MaskKind.{MaskKind}
use Rattle.call.specs.declared.MaskKind.TheVariants.{NoMask, Boolean, FloatMask}
use Rattle.attention.specs.Admission.{repeated, mask_index}
use Rattle.row_steps.specs.Steps.{mask_start}

-- a position in a dimension is no greater where the dimension is repeated
pub repeated_le : (d x : ℕ) → repeated d x ≤ x
repeated_le d x = go (eqb d 1)
  where
    go : (t : Bool) → cond t 0 x ≤ x
    go true = zero-le
    go false = le_refl x

-- position 0 stands at 0, repeated or not
pub repeated_zero : (d : ℕ) → repeated d 0 ≡ 0
repeated_zero d = go (eqb d 1)
  where
    go : (t : Bool) → ◌≡◌ {A = ℕ} (cond t 0 0) 0
    go true = refl
    go false = refl

-- a mask that is there is boolean or float
pub mask_there : (k : MaskKind) → (k ≡ NoMask → ⊥) → (k ≡ Boolean) ⊎ (k ≡ FloatMask)
mask_there NoMask n = absurd (n refl)
mask_there Boolean n = inl refl
mask_there FloatMask n = inr refl

module _ (c : Call) (m : (c.mask ≡ Boolean) ⊎ (c.mask ≡ FloatMask)) where
  -- the start is the row's place in the mask's first three dimensions, times the fourth
  pub mask_start_is : (b h i : ℕ) → mask_start c.mask c b h i ≡ ((repeated c.maskb b * c.maskh + repeated c.maskh h) * c.maskq + repeated c.maskq i) * c.maskk
  mask_start_is b h i = go m ∙ ap (λ (x : ℕ). before + x) (repeated_zero c.maskk) ∙ add-zero before
    where
      before : ℕ
      before = ((repeated c.maskb b * c.maskh + repeated c.maskh h) * c.maskq + repeated c.maskq i) * c.maskk

      go : (c.mask ≡ Boolean) ⊎ (c.mask ≡ FloatMask) → mask_start c.mask c b h i ≡ mask_index c b h i 0
      go (inl e) = ap (λ (k : MaskKind). mask_start k c b h i) e
      go (inr e) = ap (λ (k : MaskKind). mask_start k c b h i) e
