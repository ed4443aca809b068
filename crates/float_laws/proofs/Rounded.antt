-- Signed rounding: `Rounded f p n c z` says that z is (p - n) / c rounded to the format f. Where p and n are equal, z is either zero. It keeps the order of the fractions.
-- Also the sign of what `round` gives. Assumes nothing.
use mathlib.Core.Path.{◌≡◌, refl, sym, ap, ◌∙◌, subst}
use mathlib.Core.Bool.{Bool, true, false, not, beq, cond}
use mathlib.Core.Logic.{inl, inr}
use Prim.Native.Nat.{ℕ, zero, suc, ◌+◌, ◌-◌, ◌*◌, ◌/◌, ◌%◌, ◌^◌, ◌≤◌, ◌<◌, zero-le, compare}
use native.Mathlib.Nat.{zero-lt-suc, eq-or-lt_of_le, mul-lt-mul_of_pos_right}
use native.Mathlib.Omega.{arith}
use lib.IntN.{pos}
use lib.Dec.{T, ltb}
use lib.Ieee.{Float, nan, inf, fin, Format, binary32, binary64, prec, emax, low, size, nearest, odd, units, round, neg, le, is_nan}
use lib.Ieee.Fits.{round_is}
use lib.Ieee.Order.{round_mono}
use lib.Ieee.Scale.{round_same, finite}
use Rattle.float_laws.proofs.Order.{plus, cross→le, neg_anti, neg_neg}

-- ---- the sign
odd_neg : (d q k l : ℕ) → odd d true q k l ≡ neg (odd d false q k l)
unfolding odd neg
odd_neg d zero k l = refl
odd_neg d (suc q) k l = refl

units_neg : (f : Format) (q k : ℕ) → units f true q k ≡ neg (units f false q k)
unfolding units
units_neg f q k = go (ltb (q * 2 ^ k) (2 ^ (low f + suc (emax f))))
  where
    go : (b : Bool) → cond b (odd (suc (prec f)) true q k (low f)) (inf true) ≡ neg (cond b (odd (suc (prec f)) false q k (low f)) (inf false))
    go true = odd_neg (suc (prec f)) q k (low f)
    go false = unfold neg in refl

pub round_neg : (f : Format) (a c : ℕ) → round f true a c ≡ neg (round f false a c)
round_neg f a c =
    let n = a * 2 ^ low f in
    let k = size (n / c) - prec f in
    let u = c * 2 ^ k in
    round_is f true a c ∙ units_neg f (nearest (n / u) (compare (n % u * 2) u)) k ∙ sym (ap neg (round_is f false a c))

-- finite or infinite, with the sign s
abbrev signed : Bool → Float → Bool
signed s nan = false
signed s (inf t) = beq s t
signed s (fin t m e) = beq s t

beq_refl : (s : Bool) → T (beq s s)
beq_refl true = tt
beq_refl false = tt

odd_signed : (d : ℕ) (s : Bool) (q k l : ℕ) → T (signed s (odd d s q k l))
unfolding odd
odd_signed d s zero k l = beq_refl s
odd_signed d s (suc q) k l = beq_refl s

units_signed : (f : Format) (s : Bool) (q k : ℕ) → T (signed s (units f s q k))
unfolding units
units_signed f s q k = go (ltb (q * 2 ^ k) (2 ^ (low f + suc (emax f))))
  where
    go : (b : Bool) → T (signed s (cond b (odd (suc (prec f)) s q k (low f)) (inf s)))
    go true = odd_signed (suc (prec f)) s q k (low f)
    go false = beq_refl s

round_signed : (f : Format) (s : Bool) (a c : ℕ) → T (signed s (round f s a c))
round_signed f s a c =
    let n = a * 2 ^ low f in
    let k = size (n / c) - prec f in
    let u = c * 2 ^ k in
    subst (λ (z : Float). T (signed s z)) (sym (round_is f s a c)) (units_signed f s (nearest (n / u) (compare (n % u * 2) u)) k)

signed_not_nan : (s : Bool) (x : Float) → T (signed s x) → T (not (is_nan x))
unfolding is_nan
signed_not_nan s nan h = absurd h
signed_not_nan s (inf t) h = tt
signed_not_nan s (fin t m e) h = tt

signed_plus : (x : Float) → T (signed false x) → T (finite x) → T (plus x)
signed_plus nan h p = absurd p
signed_plus (inf s) h p = absurd p
signed_plus (fin true m e) h p = absurd h
signed_plus (fin false m e) h p = tt

pub plus_of_round : (f : Format) (a c : ℕ) (z : Float) → z ≡ round f false a c → T (finite z) → T (plus z)
plus_of_round f a c z g h = signed_plus z (subst (λ (w : Float). T (signed false w)) (sym g) (round_signed f false a c)) h

signed_le : (x y : Float) → T (signed true x) → T (signed false y) → T (le x y)
signed_le nan y p q = absurd p
signed_le (inf false) y p q = absurd p
signed_le (inf true) nan p q = absurd q
signed_le (inf true) (inf true) p q = absurd q
signed_le (inf true) (inf false) p q = unfold le in tt
signed_le (inf true) (fin t n d) p q = unfold le in tt
signed_le (fin s m e) nan p q = absurd q
signed_le (fin s m e) (inf true) p q = absurd q
signed_le (fin s m e) (inf false) p q = unfold le in tt
signed_le (fin false m e) (fin t n d) p q = absurd p
signed_le (fin true m e) (fin true n d) p q = absurd q
signed_le (fin true m e) (fin false n d) p q = cross→le (fin true m e) (fin false n d) tt tt (omega arith)

-- ---- zero and one round to themselves
zero_is : (f : Format) (s : Bool) → round f s 0 1 ≡ fin s 0 (pos 0)
unfolding round
zero_is binary32 s = refl
zero_is binary64 s = refl

pub round_zero : (f : Format) (s : Bool) (c : ℕ) → 0 < c → round f s 0 c ≡ fin s 0 (pos 0)
round_zero f s c C = round_same f s 0 c 0 1 C (zero-lt-suc 0) (omega arith) ∙ zero_is f s

one_is : (f : Format) → round f false 1 1 ≡ fin false 1 (pos 0)
unfolding round
one_is binary32 = refl
one_is binary64 = refl

pub round_one : (f : Format) (c : ℕ) → 0 < c → round f false c c ≡ fin false 1 (pos 0)
round_one f c C = round_same f false c c 1 1 C (zero-lt-suc 0) (omega arith) ∙ one_is f

-- ---- rounding (p - n) / c
pub data Rounded (f : Format) (p n c : ℕ) (z : Float) : Type 0 where
  more : (a : ℕ) → p ≡ n + a → z ≡ round f false a c → Rounded f p n c z
  less : (a : ℕ) → n ≡ p + a → z ≡ round f true a c → Rounded f p n c z

pub rounded_not_nan : (f : Format) (p n c : ℕ) (z : Float) → Rounded f p n c z → T (not (is_nan z))
rounded_not_nan f p n c z (more a e h) = subst (λ (w : Float). T (not (is_nan w))) (sym h) (signed_not_nan false (round f false a c) (round_signed f false a c))
rounded_not_nan f p n c z (less a e h) = subst (λ (w : Float). T (not (is_nan w))) (sym h) (signed_not_nan true (round f true a c) (round_signed f true a c))

pub rounded_neg : (f : Format) (p n c : ℕ) (z : Float) → Rounded f p n c z → Rounded f n p c (neg z)
rounded_neg f p n c z (more a e h) = less a e (ap neg h ∙ sym (round_neg f a c))
rounded_neg f p n c z (less a e h) = more a e (ap neg (h ∙ round_neg f a c) ∙ neg_neg (round f false a c))

-- a / c ≤ -b / d: both are zero
none_left : (a b c d : ℕ) → 0 < d → a * d + b * c ≤ 0 → a ≡ 0
none_left a b c d D h = elim (eq-or-lt_of_le (zero-le {n = a})) [ inl p ↦ sym p | inr p ↦ absurd (omega (arith, mul-lt-mul_of_pos_right p D)) ]

zeros_le : (f : Format) (a b c d : ℕ) → 0 < c → 0 < d → a * d + b * c ≤ 0 → T (le (round f false a c) (round f true b d))
zeros_le f a b c d C D h =
    let A : a ≡ 0 = none_left a b c d D h in
    let B : b ≡ 0 = none_left b a d c C (omega arith) in
    rw (A, B, round_zero f false c C, round_zero f true d D) (cross→le (fin false 0 (pos 0)) (fin true 0 (pos 0)) tt tt (omega arith))

pub rounded_mono : (f : Format) (p n c q m d : ℕ) (x y : Float) → 0 < c → 0 < d → Rounded f p n c x → Rounded f q m d y → p * d + m * c ≤ q * c + n * d → T (le x y)
rounded_mono f p n c q m d x y C D (more a e h) (more b g k) l = rw (h, k) (round_mono f a c b d C D (omega (arith, rw (e, g) at l)))
rounded_mono f p n c q m d x y C D (more a e h) (less b g k) l = rw (h, k) (zeros_le f a b c d C D (omega (arith, rw (e, g) at l)))
rounded_mono f p n c q m d x y C D (less a e h) (more b g k) l = rw (h, k) (signed_le (round f true a c) (round f false b d) (round_signed f true a c) (round_signed f false b d))
rounded_mono f p n c q m d x y C D (less a e h) (less b g k) l =
    rw (h, k, round_neg f a c, round_neg f b d) (neg_anti (round f false b d) (round f false a c) (round_mono f b d a c D C (omega (arith, rw (e, g) at l))))
