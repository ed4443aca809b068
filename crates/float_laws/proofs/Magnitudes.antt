-- Where the number that a pattern stands for has a magnitude of at most a power of two, as a test of the pattern without its sign. Assumes nothing.
use mathlib.Core.Path.{◌≡◌, refl, sym, ap, ◌∙◌}
use mathlib.Core.Logic.{inl, inr}
use mathlib.Core.Bool.{Bool, true, false, not, ◌&&◌, cond}
use Prim.Native.Nat.{ℕ, zero, suc, ◌+◌, ◌-◌, ◌*◌, ◌/◌, ◌%◌, ◌^◌, ◌≤◌, ◌<◌}
use native.Mathlib.Nat.{eq-or-lt_of_le, le_of_mul-le-mul_right, mul-le-mul_left, mul-le-mul_right, mul-pos, div-add-mod', mod-lt, mod-mod_of_dvd, dvd-mul_right}
use native.Mathlib.Omega.{arith}
use lib.IntN.{ℤ, pos}
use lib.Dec.{T, leb, ltb, eqb, leb→le, le→leb, ltb→lt, nltb→le, eqb→eq, lit<}
use lib.Pow.{pow-add, pow_pos, pow_mono}
use lib.Ieee.{Float, nan, inf, fin, Format, binary32, prec, low, up, down, neg, le, hid, ones, top, odd, of_fields, of_bits}
use lib.Ieee.Fits.{and_l, and_r, and_i, down_pos}
use lib.Ieee.Exact.{HasValue, odd_sign}
use Rattle.float_laws.proofs.Cross.{le→cross, cross→le}

-- ---- two tests that pass in the same cases are equal
same_test : (a b : Bool) → (T a → T b) → (T b → T a) → a ≡ b
same_test true true p q = refl
same_test true false p q = absurd (p tt)
same_test false true p q = absurd (q tt)
same_test false false p q = refl

same_leb : (a b c d : ℕ) → (a ≤ b → c ≤ d) → (c ≤ d → a ≤ b) → leb a b ≡ leb c d
same_leb a b c d p q = same_test (leb a b) (leb c d) (λ t. le→leb c d (p (leb→le a b t))) (λ t. le→leb a b (q (leb→le c d t)))

not_leb : (a b : ℕ) → b < a → false ≡ leb a b
not_leb a b h = same_test false (leb a b) (λ t. absurd t) (λ t. omega (arith, leb→le a b t))

-- ---- a value between -2 ^ k and 2 ^ k, by a fraction a / c that it is in size
abbrev below_power : ℕ → Float → Bool
below_power k x = le (neg (fin false 1 (pos k))) x && le x (fin false 1 (pos k))

inside : (k : ℕ) (s : Bool) (m : ℕ) (e : ℤ) → T (below_power k (fin s m e)) → m * up e ≤ 2 ^ k * down e
unfolding neg
inside k true m e t = omega (arith, le→cross (fin true 1 (pos k)) (fin true m e) tt tt (and_l (le (fin true 1 (pos k)) (fin true m e)) (le (fin true m e) (fin false 1 (pos k))) t))
inside k false m e t = omega (arith, le→cross (fin false m e) (fin false 1 (pos k)) tt tt (and_r (le (fin true 1 (pos k)) (fin false m e)) (le (fin false m e) (fin false 1 (pos k))) t))

inside_of : (k : ℕ) (s : Bool) (m : ℕ) (e : ℤ) → m * up e ≤ 2 ^ k * down e → T (below_power k (fin s m e))
unfolding neg
inside_of k true m e h =
    and_i (le (fin true 1 (pos k)) (fin true m e)) (le (fin true m e) (fin false 1 (pos k))) (cross→le (fin true 1 (pos k)) (fin true m e) tt tt (omega arith)) (cross→le (fin true m e) (fin false 1 (pos k)) tt tt (omega arith))
inside_of k false m e h =
    and_i (le (fin true 1 (pos k)) (fin false m e)) (le (fin false m e) (fin false 1 (pos k))) (cross→le (fin true 1 (pos k)) (fin false m e) tt tt (omega arith)) (cross→le (fin false m e) (fin false 1 (pos k)) tt tt (omega arith))

-- u / d is a / c, and at most b
across : (u d a c b : ℕ) → 0 < d → u * c ≡ a * d → u ≤ b * d → a ≤ b * c
across u d a c b D v h =
    let n : a * d ≤ b * c * d = omega (arith, mul-le-mul_right c h) in
    le_of_mul-le-mul_right n D

by_size : (k : ℕ) (x : Float) (s : Bool) (a c : ℕ) → 0 < c → HasValue x s a c → below_power k x ≡ leb a (2 ^ k * c)
by_size k nan s a c C v = elim v [ ]
by_size k (inf _) s a c C v = elim v [ ]
by_size k (fin r m e) s a c C v =
    same_test (below_power k (fin r m e)) (leb a (2 ^ k * c))
    (λ t. le→leb a (2 ^ k * c) (across (m * up e) (down e) a c (2 ^ k) (down_pos e) v.1 (inside k r m e t)))
    (λ t. inside_of k r m e (across a c (m * up e) (down e) (2 ^ k) C (sym v.1) (leb→le a (2 ^ k * c) t)))

-- ---- a leading digit of weight h and the digits t below it, moved up by x places, against the leading digit alone moved up by y
module _ (h t x y : ℕ) (H : t < h) where
  lower : x < y → leb ((h + t) * 2 ^ x) (h * 2 ^ y) ≡ leb (suc x * h + t) (suc y * h)
  lower l =
      let p : 2 * 2 ^ x ≤ 2 ^ y = omega (arith, pow_mono {i = suc x} {j = y} l) in
      same_leb ((h + t) * 2 ^ x) (h * 2 ^ y) (suc x * h + t) (suc y * h)
      (λ _. omega (arith, mul-le-mul_right h l))
      (λ _. omega (arith, mul-le-mul_left h p, mul-le-mul_right {m = t} {n = h} (2 ^ x) (omega arith)))

  higher : y < x → leb ((h + t) * 2 ^ x) (h * 2 ^ y) ≡ leb (suc x * h + t) (suc y * h)
  higher l =
      let p : 2 * 2 ^ y ≤ 2 ^ x = omega (arith, pow_mono {i = suc y} {j = x} l) in
      let q : 0 < h * 2 ^ y = mul-pos {m = h} {n = 2 ^ y} (omega arith) (pow_pos y) in
      same_leb ((h + t) * 2 ^ x) (h * 2 ^ y) (suc x * h + t) (suc y * h)
      (λ g. omega (arith, mul-le-mul_left h p))
      (λ g. omega (arith, mul-le-mul_right h l))

  level : y ≡ x → leb ((h + t) * 2 ^ x) (h * 2 ^ y) ≡ leb (suc x * h + t) (suc y * h)
  level e = rw e (same_leb ((h + t) * 2 ^ x) (h * 2 ^ x) (suc x * h + t) (suc x * h) (λ g. omega (arith, mul-le-mul_left t (pow_pos x))) (λ g. let z : t ≡ 0 = omega arith in rw z (omega arith)))

  shifted : leb ((h + t) * 2 ^ x) (h * 2 ^ y) ≡ leb (suc x * h + t) (suc y * h)
  shifted = go (ltb x y) (ltb→lt x y) (nltb→le x y)
    where
      go : (b : Bool) → (T b → x < y) → (T (not b) → y ≤ x) → leb ((h + t) * 2 ^ x) (h * 2 ^ y) ≡ leb (suc x * h + t) (suc y * h)
      go true p q = lower (p tt)
      go false p q = elim (eq-or-lt_of_le (q tt)) [ inl e ↦ level e | inr l ↦ higher l ]

-- ---- the fields: suc y is the exponent's field of 2 ^ k
module _ (f : Format) (k y : ℕ) (K : k + low f ≡ prec f - 1 + y) (Y : suc y < ones f) where
  units_of : 2 ^ k * 2 ^ low f ≡ hid f * 2 ^ y
  units_of = sym (pow-add 2 k (low f)) ∙ ap (λ (z : ℕ). 2 ^ z) K ∙ pow-add 2 (prec f - 1) y

  at_odd : (s : Bool) (q j : ℕ) → below_power k (odd (prec f) s q j (low f)) ≡ leb (q * 2 ^ j) (hid f * 2 ^ y)
  at_odd s q j = by_size k (odd (prec f) s q j (low f)) s (q * 2 ^ j) (2 ^ low f) (pow_pos (low f)) (odd_sign (prec f) s q j (low f)) ∙ ap (λ (z : ℕ). leb (q * 2 ^ j) z) units_of

  at_inf : (s : Bool) → below_power k (inf s) ≡ false
  unfolding le neg
  at_inf true = refl
  at_inf false = refl

  at_nan : below_power k nan ≡ false
  unfolding le neg
  at_nan = refl

  by_fields : (s : Bool) (x t : ℕ) → t < hid f → below_power k (of_fields f s x t) ≡ leb (x * hid f + t) (suc y * hid f)
  unfolding of_fields
  by_fields s zero t H =
      at_odd s t 0
      ∙ same_leb (t * 1) (hid f * 2 ^ y) (0 * hid f + t) (suc y * hid f) (λ _. omega arith) (λ _. omega (arith, mul-le-mul_left (hid f) (pow_pos y)))
  by_fields s (suc x) t H = go (eqb (suc x) (ones f)) (eqb t 0) (eqb→eq (suc x) (ones f))
    where
      over : suc x ≡ ones f → suc y * hid f < suc x * hid f + t
      over e = let l : suc y < suc x = omega arith in omega (arith, mul-le-mul_right (hid f) l)

      go : (a b : Bool) → (T a → suc x ≡ ones f) → below_power k (cond a (cond b (inf s) nan) (odd (prec f) s (hid f + t) x (low f))) ≡ leb (suc x * hid f + t) (suc y * hid f)
      go true true e = at_inf s ∙ not_leb (suc x * hid f + t) (suc y * hid f) (over (e tt))
      go true false e = at_nan ∙ not_leb (suc x * hid f + t) (suc y * hid f) (over (e tt))
      go false b e = at_odd s (hid f + t) x ∙ shifted (hid f) t x y H

  by_bits : (n : ℕ) → below_power k (of_bits f n) ≡ leb (n % top f) (suc y * hid f)
  unfolding of_bits
  by_bits n =
      by_fields (leb (top f) n) (n % top f / hid f) (n % hid f) (mod-lt n (pow_pos (prec f - 1)))
      ∙ ap (λ (z : ℕ). leb z (suc y * hid f))
      (ap (λ (z : ℕ). n % top f / hid f * hid f + z) (sym (mod-mod_of_dvd (hid f) n (dvd-mul_right (hid f) (suc (ones f))))) ∙ div-add-mod' (n % top f) (hid f))

-- a pattern stands for a number of magnitude at most 2 ^ 16 exactly where it is, without its sign, at most that of 2 ^ 16
pub within_bits : (n : ℕ) → (le (neg (fin false 1 (pos 16))) (of_bits binary32 n) && le (of_bits binary32 n) (fin false 1 (pos 16))) ≡ leb (n % 2147483648) 1199570944
within_bits n = by_bits binary32 16 142 refl (lit< tt) n
