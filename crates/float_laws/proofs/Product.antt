-- Products and quotients of finite values: `mul` keeps the order of factors that are not negative and is bounded by its factors' bounds, and `div` keeps the order of its first operand
-- for a second above zero. Assumes nothing.
use mathlib.Core.Path.{◌≡◌, refl, ◌∙◌, sym}
use mathlib.Core.Bool.{Bool, true, false, not, cond}
use Prim.Native.Nat.{ℕ, ◌+◌, ◌*◌, ◌≤◌, ◌<◌}
use native.Mathlib.Nat.{le_trans, le_of_eq, mul-mul-mul_comm, le_of_mul-le-mul_right, mul-le-mul, mul-le-mul_right, mul-pos}
use native.Mathlib.Omega.{arith}
use lib.IntN.{ℤ, pos}
use lib.Dec.{T, eqb, eqb→eq}
use lib.Ieee.{Float, nan, inf, fin, Format, unlike, up, down, round, mul, div, neg, le, lt, is_nan}
use lib.Ieee.Fits.{up_pos, down_pos}
use lib.Ieee.Positive.{den, den_pos, first_pos}
use lib.Ieee.Scale.{finite}
use Rattle.float_laws.proofs.Order
use Rattle.float_laws.proofs.Order.{plus_zero, gain, loss, plus, plus_finite, le→cross, finite_between}
use Rattle.float_laws.proofs.Cross.{lt→cross, neg_finite, gain_neg, loss_neg, den_neg}
use Rattle.float_laws.proofs.Rounded.{Rounded, more, less, rounded_mono, rounded_neg, rounded_not_nan, round_one, plus_of_round}

-- ---- the product
mul_is : (f : Format) (s : Bool) (m : ℕ) (e : ℤ) (t : Bool) (n : ℕ) (d : ℤ) → mul f (fin s m e) (fin t n d) ≡ round f (unlike s t) (m * up e * (n * up d)) (down e * down d)
unfolding mul
mul_is f s m e t n d = refl

mul_rounded : (f : Format) (x y : Float) → T (finite x) → T (finite y) → Rounded f (gain x * gain y + loss x * loss y) (gain x * loss y + loss x * gain y) (den x * den y) (mul f x y)
mul_rounded f nan y p q = absurd p
mul_rounded f (inf s) y p q = absurd p
mul_rounded f (fin s m e) nan p q = absurd q
mul_rounded f (fin s m e) (inf t) p q = absurd q
mul_rounded f (fin true m e) (fin true n d) p q = more (m * up e * (n * up d)) (omega arith) (mul_is f true m e true n d)
mul_rounded f (fin true m e) (fin false n d) p q = less (m * up e * (n * up d)) (omega arith) (mul_is f true m e false n d)
mul_rounded f (fin false m e) (fin true n d) p q = less (m * up e * (n * up d)) (omega arith) (mul_is f false m e true n d)
mul_rounded f (fin false m e) (fin false n d) p q = more (m * up e * (n * up d)) (omega arith) (mul_is f false m e false n d)

pub mul_not_nan : (f : Format) (x y : Float) → T (finite x) → T (finite y) → T (not (is_nan (mul f x y)))
mul_not_nan f x y p q = rounded_not_nan f (gain x * gain y + loss x * loss y) (gain x * loss y + loss x * gain y) (den x * den y) (mul f x y) (mul_rounded f x y p q)

-- what is not below zero has no loss, -0 included
no_loss : (x : Float) → T (finite x) → T (le plus_zero x) → loss x ≡ 0
no_loss nan p h = absurd p
no_loss (inf s) p h = absurd p
no_loss (fin true m e) p h = omega (arith, le→cross plus_zero (fin true m e) tt tt h)
no_loss (fin false m e) p h = refl

grown : (p n a q m b r o c s l d : ℕ) → n ≡ 0 → m ≡ 0 → o ≡ 0 → l ≡ 0 → p * b + m * a ≤ q * a + n * b → r * d + l * c ≤ s * c + o * d
    → (p * r + n * o) * (b * d) + (q * l + m * s) * (a * c) ≤ (q * s + m * l) * (a * c) + (p * o + n * r) * (b * d)
grown p n a q m b r o c s l d N M O L h k =
    let h' : p * b ≤ q * a = omega (arith, rw (N, M) at h) in
    let k' : r * d ≤ s * c = omega (arith, rw (O, L) at k) in
    rw (N, M, O, L) (omega (arith, mul-le-mul h' k'))

pub mul_mono : (f : Format) (x x' y y' : Float) → T (finite x) → T (finite x') → T (finite y) → T (finite y') → T (le plus_zero x) → T (le x x') → T (le plus_zero y) → T (le y y')
    → T (le (mul f x y) (mul f x' y'))
mul_mono f x x' y y' p p' q q' a h b k =
    rounded_mono f (gain x * gain y + loss x * loss y) (gain x * loss y + loss x * gain y) (den x * den y) (gain x' * gain y' + loss x' * loss y') (gain x' * loss y' + loss x' * gain y') (den x' * den y')
    (mul f x y) (mul f x' y') (mul-pos (den_pos x) (den_pos y)) (mul-pos (den_pos x') (den_pos y')) (mul_rounded f x y p q) (mul_rounded f x' y' p' q')
    (grown (gain x) (loss x) (den x) (gain x') (loss x') (den x') (gain y) (loss y) (den y) (gain y') (loss y') (den y') (no_loss x p a) (no_loss x' p' (Order.le_trans plus_zero x x' a h)) (no_loss y q b)
    (no_loss y' q' (Order.le_trans plus_zero y y' b k)) (le→cross x x' p p' h) (le→cross y y' q q' k))

-- ---- a product within the bounds of its factors
none_left : (a d : ℕ) → 0 < d → a * d ≤ 0 → a ≡ 0
none_left a d D h = let l : a ≤ 0 = le_of_mul-le-mul_right {n = 0} {k = d} (omega arith) D in omega arith

bound_no_loss : (b : Float) → T (finite b) → T (le (neg b) b) → loss b ≡ 0
unfolding neg
bound_no_loss nan p h = absurd p
bound_no_loss (inf s) p h = absurd p
bound_no_loss (fin true m e) p h = none_left (m * up e) (down e) (down_pos e) (omega (arith, le→cross (neg (fin true m e)) (fin true m e) tt tt h))
bound_no_loss (fin false m e) p h = refl

size_le : (x b : Float) → T (finite x) → T (finite b) → T (le (neg b) x) → T (le x b) → (gain x + loss x) * den b ≤ gain b * den x
size_le nan b p q h k = absurd p
size_le (inf s) b p q h k = absurd p
size_le (fin true m e) b p q h k = omega (arith, simp (gain_neg, loss_neg, den_neg) at (le→cross (neg b) (fin true m e) (neg_finite b q) tt h))
size_le (fin false m e) b p q h k = omega (arith, le→cross (fin false m e) b tt q k)

-- (p - n) / a and (r - o) / c, no larger in size than q / b and s / d
within : (p n a q m b r o c s l d : ℕ) → m ≡ 0 → l ≡ 0 → (p + n) * b ≤ q * a → (r + o) * d ≤ s * c
    → ((q * l + m * s) * (a * c) + (p * o + n * r) * (b * d) ≤ (p * r + n * o) * (b * d) + (q * s + m * l) * (a * c))
    × ((p * r + n * o) * (b * d) + (q * l + m * s) * (a * c) ≤ (q * s + m * l) * (a * c) + (p * o + n * r) * (b * d))
within p n a q m b r o c s l d M L h k =
    let e : (p + n) * b * ((r + o) * d) ≡ (p * r + n * o) * (b * d) + (p * o + n * r) * (b * d) = omega arith in
    let g : (p * r + n * o) * (b * d) + (p * o + n * r) * (b * d) ≤ q * s * (a * c) = le_trans (le_of_eq (sym e)) (le_trans (mul-le-mul h k) (le_of_eq (mul-mul-mul_comm q a s c))) in
    rw (M, L) (omega (arith, g))

module _ (f : Format) (x y b c : Float) (p : T (finite x)) (q : T (finite y)) (B : T (finite b)) (C : T (finite c)) (h : T (le (neg b) x)) (h' : T (le x b)) (k : T (le (neg c) y)) (k' : T (le y c)) where
  products : ((gain b * loss c + loss b * gain c) * (den x * den y) + (gain x * loss y + loss x * gain y) * (den b * den c)
      ≤ (gain x * gain y + loss x * loss y) * (den b * den c) + (gain b * gain c + loss b * loss c) * (den x * den y))
      × ((gain x * gain y + loss x * loss y) * (den b * den c) + (gain b * loss c + loss b * gain c) * (den x * den y)
      ≤ (gain b * gain c + loss b * loss c) * (den x * den y) + (gain x * loss y + loss x * gain y) * (den b * den c))
  products =
      within (gain x) (loss x) (den x) (gain b) (loss b) (den b) (gain y) (loss y) (den y) (gain c) (loss c) (den c) (bound_no_loss b B (Order.le_trans (neg b) x b h h'))
      (bound_no_loss c C (Order.le_trans (neg c) y c k k')) (size_le x b p B h h') (size_le y c q C k k')

  mul_bound_finite : T (le (neg (mul f b c)) (mul f x y)) × T (le (mul f x y) (mul f b c))
  mul_bound_finite =
      let u = mul_rounded f x y p q in
      let v = mul_rounded f b c B C in
      let X = mul-pos (den_pos x) (den_pos y) in
      let Y = mul-pos (den_pos b) (den_pos c) in (
        rounded_mono f (gain b * loss c + loss b * gain c) (gain b * gain c + loss b * loss c) (den b * den c) (gain x * gain y + loss x * loss y) (gain x * loss y + loss x * gain y) (den x * den y)
            (neg (mul f b c)) (mul f x y) Y X (rounded_neg f (gain b * gain c + loss b * loss c) (gain b * loss c + loss b * gain c) (den b * den c) (mul f b c) v) u products.0,
        rounded_mono f (gain x * gain y + loss x * loss y) (gain x * loss y + loss x * gain y) (den x * den y) (gain b * gain c + loss b * loss c) (gain b * loss c + loss b * gain c) (den b * den c)
            (mul f x y) (mul f b c) X Y u v products.1,
      )

pub mul_bound : (f : Format) (x y b c : Float) → T (finite b) → T (finite c) → T (le (neg b) x) → T (le x b) → T (le (neg c) y) → T (le y c)
    → T (le (neg (mul f b c)) (mul f x y)) × T (le (mul f x y) (mul f b c))
mul_bound f x y b c B C h h' k k' = mul_bound_finite f x y b c (finite_between (neg b) x b (neg_finite b B) B h h') (finite_between (neg c) y c (neg_finite c C) C k k') B C h h' k k'

pub mul_plus : (f : Format) (x y : Float) → T (plus x) → T (plus y) → T (finite (mul f x y)) → T (plus (mul f x y))
mul_plus f nan y p q h = absurd p
mul_plus f (inf s) y p q h = absurd p
mul_plus f (fin true m e) y p q h = absurd p
mul_plus f (fin false m e) nan p q h = absurd q
mul_plus f (fin false m e) (inf t) p q h = absurd q
mul_plus f (fin false m e) (fin true n d) p q h = absurd q
mul_plus f (fin false m e) (fin false n d) p q h = plus_of_round f (m * up e * (n * up d)) (down e * down d) (mul f (fin false m e) (fin false n d)) (mul_is f false m e false n d) h

-- ---- the quotient by a value above zero
-- finite and above zero
abbrev above : Float → Type 0
above nan = ⊥
above (inf s) = ⊥
above (fin true n d) = ⊥
above (fin false n d) = 0 < n

is_above : (y : Float) → T (finite y) → T (lt plus_zero y) → above y
is_above nan p h = absurd p
is_above (inf s) p h = absurd p
is_above (fin true n d) p h = absurd (unfold lt in h)
is_above (fin false n d) p h = first_pos n (up d) (omega (arith, lt→cross plus_zero (fin false n d) tt tt h))

gain_pos : (y : Float) → above y → 0 < gain y
gain_pos nan p = absurd p
gain_pos (inf s) p = absurd p
gain_pos (fin true n d) p = absurd p
gain_pos (fin false n d) p = mul-pos p (up_pos d)

div_is : (f : Format) (s : Bool) (m : ℕ) (e : ℤ) (n : ℕ) (d : ℤ) → 0 < n → div f (fin s m e) (fin false n d) ≡ round f (unlike s false) (m * up e * down d) (n * up d * down e)
unfolding div
div_is f s m e n d N = go (eqb n 0) (eqb→eq n 0)
  where
    go : (t : Bool) → (T t → n ≡ 0)
        → cond t (cond (eqb m 0) nan (inf (unlike s false))) (round f (unlike s false) (m * up e * down d) (n * up d * down e)) ≡ round f (unlike s false) (m * up e * down d) (n * up d * down e)
    go true h = absurd (omega (arith, h tt))
    go false h = refl

div_rounded : (f : Format) (x y : Float) → T (finite x) → above y → Rounded f (gain x * den y) (loss x * den y) (gain y * den x) (div f x y)
div_rounded f nan y p q = absurd p
div_rounded f (inf s) y p q = absurd p
div_rounded f (fin s m e) nan p q = absurd q
div_rounded f (fin s m e) (inf t) p q = absurd q
div_rounded f (fin s m e) (fin true n d) p q = absurd q
div_rounded f (fin true m e) (fin false n d) p q = less (m * up e * down d) (omega arith) (div_is f true m e n d q)
div_rounded f (fin false m e) (fin false n d) p q = more (m * up e * down d) (omega arith) (div_is f false m e n d q)

pub div_not_nan : (f : Format) (x y : Float) → T (finite x) → T (finite y) → T (lt plus_zero y) → T (not (is_nan (div f x y)))
div_not_nan f x y p q l = rounded_not_nan f (gain x * den y) (loss x * den y) (gain y * den x) (div f x y) (div_rounded f x y p (is_above y q l))

divided : (p n a q m b r c : ℕ) → p * b + m * a ≤ q * a + n * b → p * c * (r * b) + m * c * (r * a) ≤ q * c * (r * a) + n * c * (r * b)
divided p n a q m b r c h = omega (arith, mul-le-mul_right (c * r) h)

pub div_mono : (f : Format) (x x' y : Float) → T (finite x) → T (finite x') → T (finite y) → T (le plus_zero x) → T (le x x') → T (lt plus_zero y) → T (le (div f x y) (div f x' y))
div_mono f x x' y p p' q a h l =
    let u = is_above y q l in
    rounded_mono f (gain x * den y) (loss x * den y) (gain y * den x) (gain x' * den y) (loss x' * den y) (gain y * den x') (div f x y) (div f x' y) (mul-pos (gain_pos y u) (den_pos x))
    (mul-pos (gain_pos y u) (den_pos x')) (div_rounded f x y p u) (div_rounded f x' y p' u)
    (divided (gain x) (loss x) (den x) (gain x') (loss x') (den x') (gain y) (den y) (le→cross x x' p p' h))

div_self_above : (f : Format) (x : Float) → above x → div f x x ≡ fin false 1 (pos 0)
div_self_above f nan p = absurd p
div_self_above f (inf s) p = absurd p
div_self_above f (fin true m e) p = absurd p
div_self_above f (fin false m e) p = div_is f false m e m e p ∙ round_one f (m * up e * down e) (mul-pos (mul-pos p (up_pos e)) (down_pos e))

pub div_self : (f : Format) (x : Float) → T (finite x) → T (lt plus_zero x) → div f x x ≡ fin false 1 (pos 0)
div_self f x p h = div_self_above f x (is_above x p h)

div_plus_above : (f : Format) (x y : Float) → T (plus x) → above y → T (finite (div f x y)) → T (plus (div f x y))
div_plus_above f nan y p q h = absurd p
div_plus_above f (inf s) y p q h = absurd p
div_plus_above f (fin true m e) y p q h = absurd p
div_plus_above f (fin false m e) nan p q h = absurd q
div_plus_above f (fin false m e) (inf t) p q h = absurd q
div_plus_above f (fin false m e) (fin true n d) p q h = absurd q
div_plus_above f (fin false m e) (fin false n d) p q h = plus_of_round f (m * up e * down d) (n * up d * down e) (div f (fin false m e) (fin false n d)) (div_is f false m e n d q) h

pub div_plus : (f : Format) (x y : Float) → T (plus x) → T (plus y) → T (lt plus_zero y) → T (finite (div f x y)) → T (plus (div f x y))
div_plus f x y p q l h = div_plus_above f x y p (is_above y (plus_finite y q) l) h
