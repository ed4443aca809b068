-- A product, a quotient, a sum and a difference by any fractions that the operands equal: the exact result, rounded once. Assumes nothing.
use mathlib.Core.Path.{◌≡◌, refl, sym, ap, ◌∙◌, subst}
use Prim.Native.Nat.{ℕ, ◌+◌, ◌-◌, ◌*◌, ◌≤◌, ◌<◌}
use native.Mathlib.Nat.{not-le_of_lt, mul_comm, mul_assoc, mul_left_comm, mul-pos, mul-sub, mul-mul-mul_comm}
use native.Mathlib.Omega.{arith}
use mathlib.Core.Bool.{Bool, true, false, cond, true≢false}
use lib.IntN.{ℤ}
use lib.Dec.{T, ltb, eqb, ltb→lt, eqb→eq}
use lib.Ieee.{Float, nan, inf, fin, Format, up, down, unlike, round, sum, add, mul, sub, div}
use lib.Ieee.Fits.{down_pos, up_pos}
use lib.Ieee.Exact.{HasValue}
use lib.Ieee.Order.{transfer}
use lib.Ieee.Positive.{first_pos}
use lib.Ieee.Scale.{round_same}

pub mul_at : (f : Format) (x y : Float) (s t : Bool) (a c b d : ℕ) → 0 < c → 0 < d → HasValue x s a c → HasValue y t b d → mul f x y ≡ round f (unlike s t) (a * b) (c * d)
unfolding mul
mul_at f nan y s t a c b d C D h k = elim h [ ]
mul_at f (inf _) y s t a c b d C D h k = elim h [ ]
mul_at f (fin s' m e) nan s t a c b d C D h k = elim k [ ]
mul_at f (fin s' m e) (inf _) s t a c b d C D h k = elim k [ ]
mul_at f (fin s' m e) (fin t' n g) s t a c b d C D h k =
    ap (λ (u : Bool). round f (unlike u t') (m * up e * (n * up g)) (down e * down g)) h.0
    ∙ ap (λ (u : Bool). round f (unlike s u) (m * up e * (n * up g)) (down e * down g)) k.0
    ∙ round_same f (unlike s t) (m * up e * (n * up g)) (down e * down g) (a * b) (c * d) (mul-pos (down_pos e) (down_pos g)) (mul-pos C D)
    (mul-mul-mul_comm (m * up e) (n * up g) c d
    ∙ ap (λ (z : ℕ). z * (n * up g * d)) h.1
    ∙ ap (λ (z : ℕ). a * down e * z) k.1
    ∙ mul-mul-mul_comm a (down e) b (down g))

-- the numerator of a value above zero is above zero
value_num_pos : (n : ℕ) (g : ℤ) (b d : ℕ) → 0 < b → n * up g * d ≡ b * down g → 0 < n
value_num_pos n g b d B h = first_pos n (up g) (first_pos (n * up g) d (subst (λ (z : ℕ). 0 < z) (sym h) (mul-pos B (down_pos g))))

no_zero : (n : ℕ) → 0 < n → T (eqb n 0) → ⊥
no_zero n h t = let e = eqb→eq n 0 t in omega arith

pub div_at : (f : Format) (x y : Float) (s t : Bool) (a c b d : ℕ) → 0 < c → 0 < d → 0 < b → HasValue x s a c → HasValue y t b d → div f x y ≡ round f (unlike s t) (a * d) (b * c)
unfolding div
div_at f nan y s t a c b d C D B h k = elim h [ ]
div_at f (inf _) y s t a c b d C D B h k = elim h [ ]
div_at f (fin s' m e) nan s t a c b d C D B h k = elim k [ ]
div_at f (fin s' m e) (inf _) s t a c b d C D B h k = elim k [ ]
div_at f (fin s' m e) (fin t' n g) s t a c b d C D B h k =
    let N = value_num_pos n g b d B k.1 in
    ap (λ (u : Bool). cond (eqb n 0) (cond (eqb m 0) nan (inf (unlike u t'))) (round f (unlike u t') (m * up e * down g) (n * up g * down e))) h.0
    ∙ ap (λ (u : Bool). cond (eqb n 0) (cond (eqb m 0) nan (inf (unlike s u))) (round f (unlike s u) (m * up e * down g) (n * up g * down e))) k.0
    ∙ go (eqb n 0) (no_zero n N)
    ∙ round_same f (unlike s t) (m * up e * down g) (n * up g * down e) (a * d) (b * c) (mul-pos (mul-pos N (up_pos g)) (down_pos e)) (mul-pos B C) cross
  where
    go : (z : Bool) → (T z → ⊥) → cond z (cond (eqb m 0) nan (inf (unlike s t))) (round f (unlike s t) (m * up e * down g) (n * up g * down e)) ≡ round f (unlike s t) (m * up e * down g) (n * up g * down e)
    go true z = absurd (z tt)
    go false z = refl

    cross : m * up e * down g * (b * c) ≡ a * d * (n * up g * down e)
    cross =
        simp (mul_assoc, mul_comm, mul_left_comm)
        (simp (mul_assoc, mul_comm, mul_left_comm) at (ap (λ (z : ℕ). z * (b * down g)) h.1 ∙ ap (λ (z : ℕ). a * down e * z) (sym k.1)))

-- ---- the sum of two values of the same sign

pub same_is : (f : Format) (s : Bool) (a b c : ℕ) → sum f s a s b c ≡ round f s (a + b) c
unfolding sum
same_is f true a b c = refl
same_is f false a b c = refl

pub add_at : (f : Format) (x y : Float) (s : Bool) (a c b d : ℕ) → 0 < c → 0 < d → HasValue x s a c → HasValue y s b d → add f x y ≡ round f s (a * d + b * c) (c * d)
unfolding add
add_at f nan y s a c b d C D h k = elim h [ ]
add_at f (inf _) y s a c b d C D h k = elim h [ ]
add_at f (fin s' m e) nan s a c b d C D h k = elim k [ ]
add_at f (fin s' m e) (inf _) s a c b d C D h k = elim k [ ]
add_at f (fin s' m e) (fin t' n g) s a c b d C D h k =
    ap (λ (u : Bool). sum f u (m * up e * down g) t' (n * up g * down e) (down e * down g)) h.0
    ∙ ap (λ (u : Bool). sum f s (m * up e * down g) u (n * up g * down e) (down e * down g)) k.0
    ∙ same_is f s (m * up e * down g) (n * up g * down e) (down e * down g)
    ∙ round_same f s (m * up e * down g + n * up g * down e) (down e * down g) (a * d + b * c) (c * d) (mul-pos (down_pos e) (down_pos g)) (mul-pos C D) cross
  where
    left : m * up e * down g * (c * d) ≡ a * d * (down e * down g)
    left = simp (mul_assoc, mul_comm, mul_left_comm) (simp (mul_assoc, mul_comm, mul_left_comm) at (ap (λ (z : ℕ). z * (down g * d)) h.1))

    right : n * up g * down e * (c * d) ≡ b * c * (down e * down g)
    right = simp (mul_assoc, mul_comm, mul_left_comm) (simp (mul_assoc, mul_comm, mul_left_comm) at (ap (λ (z : ℕ). z * (down e * c)) k.1))

    cross : (m * up e * down g + n * up g * down e) * (c * d) ≡ (a * d + b * c) * (down e * down g)
    cross = omega (arith, left, right)

-- ---- the difference of two values that are not negative, the second no larger

pub fall_is : (f : Format) (a b c : ℕ) → b ≤ a → sum f false a true b c ≡ round f false (a - b) c
unfolding sum
fall_is f a b c h = go (ltb a b) (ltb→lt a b)
  where
    go : (t : Bool) → (T t → a < b) → cond t (round f true (b - a) c) (round f false (a - b) c) ≡ round f false (a - b) c
    go true k = absurd (not-le_of_lt (k tt) h)
    go false k = refl

opened : (f : Format) (m : ℕ) (e : ℤ) (n : ℕ) (g : ℤ) → sub f (fin false m e) (fin false n g) ≡ sum f false (m * up e * down g) true (n * up g * down e) (down e * down g)
unfolding sub
opened f m e n g = refl

minus_mul : (x y k : ℕ) → (x - y) * k ≡ x * k - y * k
minus_mul x y k = mul_comm (x - y) k ∙ mul-sub k x y ∙ ap (λ (z : ℕ). z - k * y) (mul_comm k x) ∙ ap (λ (z : ℕ). x * k - z) (mul_comm k y)

pub sub_at : (f : Format) (x y : Float) (a c b d : ℕ) → 0 < c → 0 < d → HasValue x false a c → HasValue y false b d → b * c ≤ a * d → sub f x y ≡ round f false (a * d - b * c) (c * d)
sub_at f nan y a c b d C D h k l = elim h [ ]
sub_at f (inf _) y a c b d C D h k l = elim h [ ]
sub_at f (fin false m e) nan a c b d C D h k l = elim k [ ]
sub_at f (fin false m e) (inf _) a c b d C D h k l = elim k [ ]
sub_at f (fin true m e) y a c b d C D h k l = absurd (true≢false h.0)
sub_at f (fin false m e) (fin true n g) a c b d C D h k l = absurd (true≢false k.0)
sub_at f (fin false m e) (fin false n g) a c b d C D h k l =
    opened f m e n g
    ∙ fall_is f (m * up e * down g) (n * up g * down e) (down e * down g) (transfer (n * up g) (m * up e) (down g) (down e) b a d c D C k.1 h.1 l)
    ∙ round_same f false (m * up e * down g - n * up g * down e) (down e * down g) (a * d - b * c) (c * d) (mul-pos (down_pos e) (down_pos g)) (mul-pos C D) cross
  where
    left : m * up e * down g * (c * d) ≡ a * d * (down e * down g)
    left = simp (mul_assoc, mul_comm, mul_left_comm) (simp (mul_assoc, mul_comm, mul_left_comm) at (ap (λ (z : ℕ). z * (down g * d)) h.1))

    right : n * up g * down e * (c * d) ≡ b * c * (down e * down g)
    right = simp (mul_assoc, mul_comm, mul_left_comm) (simp (mul_assoc, mul_comm, mul_left_comm) at (ap (λ (z : ℕ). z * (down e * c)) k.1))

    cross : (m * up e * down g - n * up g * down e) * (c * d) ≡ (a * d - b * c) * (down e * down g)
    cross =
        minus_mul (m * up e * down g) (n * up g * down e) (c * d)
        ∙ ap (λ (z : ℕ). z - n * up g * down e * (c * d)) left
        ∙ ap (λ (z : ℕ). a * d * (down e * down g) - z) right
        ∙ sym (minus_mul (a * d) (b * c) (down e * down g))
