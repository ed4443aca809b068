-- The order of finite values as one of fractions: a finite x is (gain x - loss x) / den x, and `le` and `lt` compare those. Also what `neg` does to the parts of the fraction.
-- Assumes nothing.
use mathlib.Core.Path.{◌≡◌, refl}
use mathlib.Core.Bool.{Bool, true, false, not, ◌&&◌, ◌||◌}
use mathlib.Core.Logic.{inl, inr}
use Prim.Native.Nat.{ℕ, ◌+◌, ◌*◌, ◌≤◌, ◌<◌}
use native.Mathlib.Nat.{eq-or-lt_of_le}
use native.Mathlib.Omega.{arith}
use lib.Dec.{T, ltb, eqb, eqb→eq, ltb→lt, lt→ltb, nltb→le}
use lib.Ieee.{Float, nan, inf, fin, up, down, neg, lt, le}
use lib.Ieee.Fits.{and_l, and_r, and_i, eq→eqb}
use lib.Ieee.Positive.{den}
use lib.Ieee.Scale.{finite}
use mir.Facts.{or_yes}
use Rattle.bool_laws.proofs.Tests.{or_l, or_r}
pub use Rattle.float_laws.specs.Zero.{plus_zero}

abbrev pub gain : Float → ℕ
gain nan = 0
gain (inf s) = 0
gain (fin false m e) = m * up e
gain (fin true m e) = 0

abbrev pub loss : Float → ℕ
loss nan = 0
loss (inf s) = 0
loss (fin false m e) = 0
loss (fin true m e) = m * up e

-- ---- the tests that `le` and `lt` make
test→le : (a b c d : ℕ) → (c ≡ d → a ≡ b) → T (ltb a b || (eqb c d && true)) → a ≤ b
test→le a b c d g t = elim (or_yes (ltb a b) (eqb c d && true) t) [ inl u ↦ omega (arith, ltb→lt a b u) | inr u ↦ omega (arith, g (eqb→eq c d (and_l (eqb c d) true u))) ]

le→test : (a b c d : ℕ) → (a ≡ b → c ≡ d) → a ≤ b → T (ltb a b || (eqb c d && true))
le→test a b c d g h =
    elim (eq-or-lt_of_le h) [
      | inl p ↦ or_r (ltb a b) (eqb c d && true) (and_i (eqb c d) true (eq→eqb (g p)) tt)
      | inr p ↦ or_l (ltb a b) (eqb c d && true) (lt→ltb a b p)
    ]

test→zero : (a b : ℕ) → T (eqb a b && eqb a 0) → a + b ≤ 0
test→zero a b t = omega (arith, eqb→eq a b (and_l (eqb a b) (eqb a 0) t), eqb→eq a 0 (and_r (eqb a b) (eqb a 0) t))

zero→test : (a b : ℕ) → a + b ≤ 0 → T (eqb a b && eqb a 0)
zero→test a b h = and_i (eqb a b) (eqb a 0) (eq→eqb {a = a} {b = b} (omega arith)) (eq→eqb {a = a} {b = 0} (omega arith))

apart_test : (a b : ℕ) → T (ltb 0 (a + b) || (eqb a b && eqb a 0))
apart_test a b = go (ltb 0 (a + b)) (nltb→le 0 (a + b))
  where
    go : (t : Bool) → (T (not t) → a + b ≤ 0) → T (t || (eqb a b && eqb a 0))
    go true h = tt
    go false h = zero→test a b (h tt)

-- ---- the order of finite values, as one of fractions
pub le→cross : (x y : Float) → T (finite x) → T (finite y) → T (le x y) → gain x * den y + loss y * den x ≤ gain y * den x + loss x * den y
unfolding le
le→cross nan y p q h = absurd p
le→cross (inf s) y p q h = absurd p
le→cross (fin s m e) nan p q h = absurd q
le→cross (fin s m e) (inf t) p q h = absurd q
le→cross (fin false m e) (fin false n d) p q h = omega (arith, test→le (m * up e * down d) (n * up d * down e) (m * up e * down d) (n * up d * down e) (λ g. g) h)
le→cross (fin false m e) (fin true n d) p q h = omega (arith, test→zero (m * up e * down d) (n * up d * down e) h)
le→cross (fin true m e) (fin false n d) p q h = omega arith
le→cross (fin true m e) (fin true n d) p q h = omega (arith, test→le (n * up d * down e) (m * up e * down d) (m * up e * down d) (n * up d * down e) (omega arith) h)

pub cross→le : (x y : Float) → T (finite x) → T (finite y) → gain x * den y + loss y * den x ≤ gain y * den x + loss x * den y → T (le x y)
unfolding le
cross→le nan y p q h = absurd p
cross→le (inf s) y p q h = absurd p
cross→le (fin s m e) nan p q h = absurd q
cross→le (fin s m e) (inf t) p q h = absurd q
cross→le (fin false m e) (fin false n d) p q h = le→test (m * up e * down d) (n * up d * down e) (m * up e * down d) (n * up d * down e) (λ g. g) (omega arith)
cross→le (fin false m e) (fin true n d) p q h = zero→test (m * up e * down d) (n * up d * down e) (omega arith)
cross→le (fin true m e) (fin false n d) p q h = apart_test (m * up e * down d) (n * up d * down e)
cross→le (fin true m e) (fin true n d) p q h = le→test (n * up d * down e) (m * up e * down d) (m * up e * down d) (n * up d * down e) (omega arith) (omega arith)

pub lt→cross : (x y : Float) → T (finite x) → T (finite y) → T (lt x y) → gain x * den y + loss y * den x < gain y * den x + loss x * den y
unfolding lt
lt→cross nan y p q h = absurd p
lt→cross (inf s) y p q h = absurd p
lt→cross (fin s m e) nan p q h = absurd q
lt→cross (fin s m e) (inf t) p q h = absurd q
lt→cross (fin false m e) (fin false n d) p q h = omega (arith, ltb→lt (m * up e * down d) (n * up d * down e) h)
lt→cross (fin false m e) (fin true n d) p q h = absurd h
lt→cross (fin true m e) (fin false n d) p q h = omega (arith, ltb→lt 0 (m * up e * down d + n * up d * down e) h)
lt→cross (fin true m e) (fin true n d) p q h = omega (arith, ltb→lt (n * up d * down e) (m * up e * down d) h)

pub cross→lt : (x y : Float) → T (finite x) → T (finite y) → gain x * den y + loss y * den x < gain y * den x + loss x * den y → T (lt x y)
unfolding lt
cross→lt nan y p q h = absurd p
cross→lt (inf s) y p q h = absurd p
cross→lt (fin s m e) nan p q h = absurd q
cross→lt (fin s m e) (inf t) p q h = absurd q
cross→lt (fin false m e) (fin false n d) p q h = lt→ltb (m * up e * down d) (n * up d * down e) (omega arith)
cross→lt (fin false m e) (fin true n d) p q h = omega arith
cross→lt (fin true m e) (fin false n d) p q h = lt→ltb 0 (m * up e * down d + n * up d * down e) (omega arith)
cross→lt (fin true m e) (fin true n d) p q h = lt→ltb (n * up d * down e) (m * up e * down d) (omega arith)

-- ---- `neg`
pub neg_neg : (x : Float) → neg (neg x) ≡ x
unfolding neg
neg_neg nan = refl
neg_neg (inf true) = refl
neg_neg (inf false) = refl
neg_neg (fin true m e) = refl
neg_neg (fin false m e) = refl

pub neg_finite : (x : Float) → T (finite x) → T (finite (neg x))
unfolding neg
neg_finite nan p = absurd p
neg_finite (inf s) p = absurd p
neg_finite (fin s m e) p = tt

pub gain_neg : (x : Float) → gain (neg x) ≡ loss x
unfolding neg
gain_neg nan = refl
gain_neg (inf s) = refl
gain_neg (fin true m e) = refl
gain_neg (fin false m e) = refl

pub loss_neg : (x : Float) → loss (neg x) ≡ gain x
unfolding neg
loss_neg nan = refl
loss_neg (inf s) = refl
loss_neg (fin true m e) = refl
loss_neg (fin false m e) = refl

pub den_neg : (x : Float) → den (neg x) ≡ den x
unfolding neg
den_neg nan = refl
den_neg (inf s) = refl
den_neg (fin s m e) = refl
