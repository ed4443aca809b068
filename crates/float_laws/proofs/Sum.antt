-- Sums and differences of finite values: `add` and `sub` keep the order, are never `nan`, a sum is bounded by its terms' bounds, and a difference from itself is +0. `round_neg` is that of `Rounded`, passed on.
-- Assumes nothing.
use mathlib.Core.Path.{◌≡◌, refl, sym, ap, ◌∙◌, subst}
use mathlib.Core.Bool.{Bool, true, false, not, cond}
use Prim.Native.Nat.{ℕ, ◌+◌, ◌-◌, ◌*◌, ◌≤◌, ◌<◌}
use native.Mathlib.Nat.{mul-le-mul_right, mul-pos}
use native.Mathlib.Omega.{arith}
use lib.IntN.{ℤ}
use lib.Dec.{T, ltb, ltb→lt, nltb→le}
use lib.Ieee.{Float, nan, inf, fin, Format, up, down, round, sum, add, sub, neg, le, is_nan}
use lib.Ieee.Fits.{down_pos}
use lib.Ieee.Positive.{den, den_pos}
use lib.Ieee.Scale.{finite}
use Rattle.float_laws.proofs.Fraction.{same_is, fall_is}
use Rattle.float_laws.proofs.Order.{plus_zero, gain, loss, plus, plus_finite, le→cross, neg_anti, le_refl, finite_between, finite_not_nan}
use Rattle.float_laws.proofs.Cross.{neg_finite}
use Rattle.float_laws.proofs.Rounded.{Rounded, more, less, rounded_mono, rounded_not_nan, round_zero, plus_of_round}
pub use Rattle.float_laws.proofs.Rounded.{round_neg}

-- ---- the two opposite signs of `sum`: a / c - b / c and -a / c + b / c
fall_rounded : (f : Format) (a b c p n : ℕ) → p ≡ a → n ≡ b → Rounded f p n c (sum f false a true b c)
unfolding sum
fall_rounded f a b c p n P N = go (ltb a b) (ltb→lt a b) (nltb→le a b)
  where
    go : (t : Bool) → (T t → a < b) → (T (not t) → b ≤ a) → Rounded f p n c (cond t (round f true (b - a) c) (round f false (a - b) c))
    go true h k = let l : a < b = h tt in less (b - a) (omega arith) refl
    go false h k = let l : b ≤ a = k tt in more (a - b) (omega arith) refl

rise_rounded : (f : Format) (a b c p n : ℕ) → p ≡ b → n ≡ a → Rounded f p n c (sum f true a false b c)
unfolding sum
rise_rounded f a b c p n P N = go (ltb a b) (ltb→lt a b) (nltb→le a b)
  where
    tie : (t : Bool) → b ≤ a → (T (not t) → a ≤ b) → Rounded f p n c (round f t (a - b) c)
    tie true h k = less (a - b) (omega arith) refl
    tie false h k = let l : a ≤ b = k tt in more (a - b) (omega arith) refl

    go : (t : Bool) → (T t → a < b) → (T (not t) → b ≤ a) → Rounded f p n c (cond t (round f false (b - a) c) (round f (ltb b a) (a - b) c))
    go true h k = let l : a < b = h tt in more (b - a) (omega arith) refl
    go false h k = tie (ltb b a) (k tt) (nltb→le b a)

add_is : (f : Format) (s : Bool) (m : ℕ) (e : ℤ) (t : Bool) (n : ℕ) (d : ℤ) → add f (fin s m e) (fin t n d) ≡ sum f s (m * up e * down d) t (n * up d * down e) (down e * down d)
unfolding add
add_is f s m e t n d = refl

add_rounded : (f : Format) (x y : Float) → T (finite x) → T (finite y) → Rounded f (gain x * den y + gain y * den x) (loss x * den y + loss y * den x) (den x * den y) (add f x y)
add_rounded f nan y p q = absurd p
add_rounded f (inf s) y p q = absurd p
add_rounded f (fin s m e) nan p q = absurd q
add_rounded f (fin s m e) (inf t) p q = absurd q
add_rounded f (fin true m e) (fin true n d) p q = less (m * up e * down d + n * up d * down e) (omega arith) (add_is f true m e true n d ∙ same_is f true (m * up e * down d) (n * up d * down e) (down e * down d))
add_rounded f (fin true m e) (fin false n d) p q = rw (add_is f true m e false n d) (rise_rounded f (m * up e * down d) (n * up d * down e) (down e * down d) _ _ (omega arith) (omega arith))
add_rounded f (fin false m e) (fin true n d) p q = rw (add_is f false m e true n d) (fall_rounded f (m * up e * down d) (n * up d * down e) (down e * down d) _ _ (omega arith) (omega arith))
add_rounded f (fin false m e) (fin false n d) p q = more (m * up e * down d + n * up d * down e) (omega arith) (add_is f false m e false n d ∙ same_is f false (m * up e * down d) (n * up d * down e) (down e * down d))

-- ---- the order
-- (p - n) / a ≤ (q - m) / b and (r - o) / c ≤ (s - l) / d, added
scaled : (p m q n u r l s o v : ℕ) → p + m ≤ q + n → r + l ≤ s + o → (p * u + r * v) + (m * u + l * v) ≤ (q * u + s * v) + (n * u + o * v)
scaled p m q n u r l s o v h k = omega (arith, mul-le-mul_right u h, mul-le-mul_right v k)

added : (p n a q m b r o c s l d : ℕ) → p * b + m * a ≤ q * a + n * b → r * d + l * c ≤ s * c + o * d
    → (p * c + r * a) * (b * d) + (m * d + l * b) * (a * c) ≤ (q * d + s * b) * (a * c) + (n * c + o * a) * (b * d)
added p n a q m b r o c s l d h k =
    let e₁ : (p * c + r * a) * (b * d) ≡ p * b * (c * d) + r * d * (a * b) = omega arith in
    let e₂ : (m * d + l * b) * (a * c) ≡ m * a * (c * d) + l * c * (a * b) = omega arith in
    let e₃ : (q * d + s * b) * (a * c) ≡ q * a * (c * d) + s * c * (a * b) = omega arith in
    let e₄ : (n * c + o * a) * (b * d) ≡ n * b * (c * d) + o * d * (a * b) = omega arith in
    rw (e₁, e₂, e₃, e₄) (scaled (p * b) (m * a) (q * a) (n * b) (c * d) (r * d) (l * c) (s * c) (o * d) (a * b) h k)

pub add_mono : (f : Format) (x x' y y' : Float) → T (finite x) → T (finite x') → T (finite y) → T (finite y') → T (le x x') → T (le y y') → T (le (add f x y) (add f x' y'))
add_mono f x x' y y' p p' q q' h k =
    rounded_mono f (gain x * den y + gain y * den x) (loss x * den y + loss y * den x) (den x * den y) (gain x' * den y' + gain y' * den x') (loss x' * den y' + loss y' * den x') (den x' * den y') (add f x y) (add f x' y')
    (mul-pos (den_pos x) (den_pos y)) (mul-pos (den_pos x') (den_pos y')) (add_rounded f x y p q) (add_rounded f x' y' p' q')
    (added (gain x) (loss x) (den x) (gain x') (loss x') (den x') (gain y) (loss y) (den y) (gain y') (loss y') (den y') (le→cross x x' p p' h) (le→cross y y' q q' k))

pub add_not_nan : (f : Format) (x y : Float) → T (finite x) → T (finite y) → T (not (is_nan (add f x y)))
add_not_nan f x y p q = rounded_not_nan f (gain x * den y + gain y * den x) (loss x * den y + loss y * den x) (den x * den y) (add f x y) (add_rounded f x y p q)

-- ---- a sum within the bounds of its terms
pub neg_add : (f : Format) (x y : Float) → T (plus x) → T (plus y) → neg (add f x y) ≡ add f (neg x) (neg y)
unfolding neg
neg_add f nan y p q = absurd p
neg_add f (inf s) y p q = absurd p
neg_add f (fin true m e) y p q = absurd p
neg_add f (fin false m e) nan p q = absurd q
neg_add f (fin false m e) (inf t) p q = absurd q
neg_add f (fin false m e) (fin true n d) p q = absurd q
neg_add f (fin false m e) (fin false n d) p q =
    let a = m * up e * down d in
    let b = n * up d * down e in
    let c = down e * down d in
    ap neg (add_is f false m e false n d ∙ same_is f false a b c) ∙ sym (round_neg f (a + b) c) ∙ sym (add_is f true m e true n d ∙ same_is f true a b c)

pub add_bound : (f : Format) (x y b c : Float) → T (plus b) → T (plus c) → T (le (neg b) x) → T (le x b) → T (le (neg c) y) → T (le y c)
    → T (le (neg (add f b c)) (add f x y)) × T (le (add f x y) (add f b c))
add_bound f x y b c B C h h' k k' =
    let p = plus_finite b B in
    let q = plus_finite c C in
    let u = finite_between (neg b) x b (neg_finite b p) p h h' in
    let v = finite_between (neg c) y c (neg_finite c q) q k k' in
    (rw (neg_add f b c B C) (add_mono f (neg b) x (neg c) y (neg_finite b p) u (neg_finite c q) v h k), add_mono f x b y c u p v q h' k')

-- ---- the difference
sub_is : (f : Format) (x y : Float) → sub f x y ≡ add f x (neg y)
unfolding sub
sub_is f x y = refl

pub sub_mono : (f : Format) (x x' y y' : Float) → T (finite x) → T (finite x') → T (finite y) → T (finite y') → T (le x x') → T (le y' y) → T (le (sub f x y) (sub f x' y'))
sub_mono f x x' y y' p p' q q' h k = rw (sub_is f x y, sub_is f x' y') (add_mono f x x' (neg y) (neg y') p p' (neg_finite y q) (neg_finite y' q') h (neg_anti y' y k))

pub sub_not_nan : (f : Format) (x y : Float) → T (finite x) → T (finite y) → T (not (is_nan (sub f x y)))
sub_not_nan f x y p q = rw (sub_is f x y) (add_not_nan f x (neg y) p (neg_finite y q))

-- -a / c + a / c
level_is : (f : Format) (a c : ℕ) → sum f true a false a c ≡ round f false (a - a) c
unfolding sum
level_is f a c = go (ltb a a) (ltb→lt a a)
  where
    go : (t : Bool) → (T t → a < a) → cond t (round f false (a - a) c) (round f t (a - a) c) ≡ round f false (a - a) c
    go true h = refl
    go false h = refl

nothing_left : (f : Format) (a c : ℕ) → 0 < c → round f false (a - a) c ≡ plus_zero
nothing_left f a c C = let e : a - a ≡ 0 = omega arith in ap (λ (z : ℕ). round f false z c) e ∙ round_zero f false c C

sub_opened : (f : Format) (s : Bool) (m : ℕ) (e : ℤ) (t : Bool) (n : ℕ) (d : ℤ) → sub f (fin s m e) (fin t n d) ≡ sum f s (m * up e * down d) (not t) (n * up d * down e) (down e * down d)
unfolding sub
sub_opened f s m e t n d = refl

pub sub_self : (f : Format) (x : Float) → T (finite x) → sub f x x ≡ plus_zero
sub_self f nan p = absurd p
sub_self f (inf s) p = absurd p
sub_self f (fin true m e) p =
    sub_opened f true m e true m e ∙ level_is f (m * up e * down e) (down e * down e) ∙ nothing_left f (m * up e * down e) (down e * down e) (mul-pos (down_pos e) (down_pos e))
sub_self f (fin false m e) p =
    sub_opened f false m e false m e
    ∙ fall_is f (m * up e * down e) (m * up e * down e) (down e * down e) (omega arith)
    ∙ nothing_left f (m * up e * down e) (down e * down e) (mul-pos (down_pos e) (down_pos e))

pub zero_le_sub : (f : Format) (x y : Float) → T (finite x) → T (finite y) → T (le y x) → T (le plus_zero (sub f x y))
zero_le_sub f x y p q h = subst (λ (z : Float). T (le z (sub f x y))) (sub_self f y q) (sub_mono f y x y y q p q q h (le_refl y (finite_not_nan y q)))

-- ---- the sign bit
pub add_plus : (f : Format) (x y : Float) → T (plus x) → T (plus y) → T (finite (add f x y)) → T (plus (add f x y))
add_plus f nan y p q h = absurd p
add_plus f (inf s) y p q h = absurd p
add_plus f (fin true m e) y p q h = absurd p
add_plus f (fin false m e) nan p q h = absurd q
add_plus f (fin false m e) (inf t) p q h = absurd q
add_plus f (fin false m e) (fin true n d) p q h = absurd q
add_plus f (fin false m e) (fin false n d) p q h =
    plus_of_round f (m * up e * down d + n * up d * down e) (down e * down d) (add f (fin false m e) (fin false n d))
    (add_is f false m e false n d ∙ same_is f false (m * up e * down d) (n * up d * down e) (down e * down d)) h

pub sub_plus : (f : Format) (x y : Float) → T (plus x) → T (plus y) → T (le y x) → T (finite (sub f x y)) → T (plus (sub f x y))
sub_plus f nan y p q l h = absurd p
sub_plus f (inf s) y p q l h = absurd p
sub_plus f (fin true m e) y p q l h = absurd p
sub_plus f (fin false m e) nan p q l h = absurd q
sub_plus f (fin false m e) (inf t) p q l h = absurd q
sub_plus f (fin false m e) (fin true n d) p q l h = absurd q
sub_plus f (fin false m e) (fin false n d) p q l h =
    plus_of_round f (m * up e * down d - n * up d * down e) (down e * down d) (sub f (fin false m e) (fin false n d))
    (sub_opened f false m e false n d ∙ fall_is f (m * up e * down d) (n * up d * down e) (down e * down d) (omega (arith, le→cross (fin false n d) (fin false m e) tt tt l))) h
