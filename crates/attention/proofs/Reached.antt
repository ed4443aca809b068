-- The last causal position of a row, form by form: nothing is shifted, and every form reaches P + i. Assumes nothing.
use mathlib.Core.Path.{◌≡◌, refl}
use Prim.Native.Nat.{ℕ, ◌+◌}
use mathlib.Core.Bool.{◌||◌}
use lib.Dec.{leb, eqb}
use Rattle.call.specs.declared.Call.{Call}
use Rattle.call.specs.declared.Form.{Form}
use Rattle.call.specs.declared.Form.TheVariants.{Plain, Cached, Counted}
use Rattle.attention.specs.Admission.{reach, shifted, causal_admits}

shifted_is : (f : Form) (sq j : ℕ) → shifted f sq j ≡ j
shifted_is Plain sq j = refl
shifted_is Cached sq j = refl
shifted_is Counted sq j = refl

pub reach_is : (f : Form) (p live i : ℕ) → reach f p live i ≡ p + i
reach_is Plain p live i = refl
reach_is Cached p live i = refl
reach_is Counted p live i = refl

-- a row admits what it reaches
pub causal_reach : (c : Call) (live i j : ℕ) → causal_admits c live i j ≡ (eqb c.causal 0 || leb j (reach c.form c.past live i))
causal_reach c live i j = rw (shifted_is c.form c.qlen j)

-- which is up to P + i
pub causal_at : (c : Call) (live i j : ℕ) → causal_admits c live i j ≡ (eqb c.causal 0 || leb j (c.past + i))
causal_at c live i j = rw (shifted_is c.form c.qlen j, reach_is c.form c.past live i)
