-- Tests by the facts that they stand for: a flag that a callee returned, a number within bounds, and a test that cannot pass. Assumes nothing.
use mathlib.Core.Path.{◌≡◌, refl, sym, ◌∙◌}
use mathlib.Core.Bool.{Bool, true, false, not, true≢false}
use Prim.Native.Nat.{ℕ, ◌≤◌}
use lib.Dec.{leb}
use borrow.Author.Tests.{not-true, not-false, leb-true, le-leb}
use Rattle.call.specs.Limits.{within}

-- the test that a flag stands for, from the branch on its negation
pub fails : {r w : Bool} → not r ≡ true → r ≡ w → w ≡ false
fails {r} t e = sym e ∙ not-true r t

pub passes : {r w : Bool} → not r ≡ false → r ≡ w → w ≡ true
passes {r} t e = sym e ∙ not-false r t

-- a test that cannot pass fails
pub cannot_pass : (b : Bool) → (b ≡ true → ⊥) → false ≡ b
cannot_pass true f = absurd (f refl)
cannot_pass false f = refl

within_parts : (lo hi x : ℕ) → (b d : Bool) → leb lo x ≡ b → leb x hi ≡ d → within lo hi x ≡ true → (lo ≤ x) × (x ≤ hi)
within_parts lo hi x true true p q e = (leb-true lo x p, leb-true x hi q)
within_parts lo hi x true false p q e = absurd (true≢false (sym e ∙ rw (p, q)))
within_parts lo hi x false d p q e = absurd (true≢false (sym e ∙ rw p))

-- a number within bounds
pub inside : (lo hi x : ℕ) → within lo hi x ≡ true → (lo ≤ x) × (x ≤ hi)
inside lo hi x = within_parts lo hi x (leb lo x) (leb x hi) refl refl

pub outside : {lo hi x : ℕ} → within lo hi x ≡ false → lo ≤ x → x ≤ hi → ⊥
outside {lo} {hi} {x} e p q = true≢false (sym (rw (le-leb lo x p, le-leb x hi q)) ∙ e)
