-- A value that a format holds is known by its sign and its size: two with the same are equal, and rounding a fraction that such a value equals gives that value.
-- A fraction q / 2 ^ w of few enough digits is such a value. Assumes nothing.
use mathlib.Core.Path.{◌≡◌, refl, sym, ap, ◌∙◌, subst}
use Prim.Native.Nat.{ℕ, zero, suc, ◌+◌, ◌-◌, ◌*◌, ◌/◌, ◌%◌, ◌^◌, ◌≤◌, ◌<◌, zero-le}
use native.Mathlib.Nat.{le_refl, le_trans, le_of_eq, le-add_left, le_of_suc-le-suc, lt_of_lt_of_le, lt_of_le_of_lt, lt_of_not-le, not-le_of_lt, lt_irrefl, lt_of_mul-lt-mul_right, zero-mul, suc-mul, mul-one, one-mul, mul_comm, mul_assoc, mul_right_comm, mul-pos, mul-lt-mul_of_pos_right, eq_of_mul-eq-mul_right, add-zero}
use native.Mathlib.Omega.{arith}
use mathlib.Core.Bool.{Bool, cond}
use lib.IntN.{ℤ, pos, negsuc}
use lib.Dec.{T, ltb, leb, eqb, ltb→lt, leb→le, eqb→eq}
use lib.Pow.{pow-add, pow_pos, pow_mono, pow-lt, shl_lt}
use lib.Ieee.{Float, fin, Format, binary32, binary64, prec, emax, low, up, down, size, round, fits, hid, top, to_bits, of_bits}
use lib.Ieee.Fits.{round-fits, down_pos}
use lib.Ieee.Exact.{HasValue, round_exact}
use lib.Ieee.Nearest.{div_same}
use lib.Ieee.Bits.{of_bits-to_bits}
use Rattle.bool_laws.proofs.Tests.{four}

-- the bits of a value of sign s that is n of the format's smallest values
bits : Format → Bool → ℕ → ℕ
bits f s n = cond s (top f) 0 + (size n - prec f) * hid f + n / 2 ^ (size n - prec f)

bits_of : (f : Format) (x : Float) (s : Bool) (a c : ℕ) → 0 < c → HasValue x s a c → to_bits f x ≡ bits f s (a * 2 ^ low f / c)
unfolding to_bits bits
bits_of f lib.Ieee.nan s a c C h = elim h [ ]
bits_of f (lib.Ieee.inf _) s a c C h = elim h [ ]
bits_of f (fin t m e) s a c C h =
    let l = 2 ^ low f in
    let v : m * up e * l * c ≡ a * l * down e = mul_right_comm (m * up e) l c ∙ ap (λ (z : ℕ). z * l) h.1 ∙ mul_right_comm a (down e) l in
    ap (λ (t : Bool). bits f t (m * up e * l / down e)) h.0 ∙ ap (λ (n : ℕ). bits f s n) (div_same (m * up e * l) (down e) (a * l) c (down_pos e) C v)

pub same_value : (f : Format) (x y : Float) (s : Bool) (a c : ℕ) → 0 < c → T (fits f x) → T (fits f y) → HasValue x s a c → HasValue y s a c → x ≡ y
same_value f x y s a c C p q h k =
    sym (of_bits-to_bits f x p) ∙ ap (of_bits f) (bits_of f x s a c C h ∙ sym (bits_of f y s a c C k)) ∙ of_bits-to_bits f y q

-- ---- a fraction q * 2 ^ i / 2 ^ w

back : (w l : ℕ) → w ≤ l → l - w + w ≡ l
back w l h = omega arith

less : (p i w x l : ℕ) → w ≤ l + i → p + i ≤ x + w → p + (l + i - w) ≤ l + x
less p i w x l g h = omega arith

pub scaled_exact : (f : Format) (s : Bool) (q i w : ℕ) → q < 2 ^ prec f → w ≤ low f + i → prec f + i ≤ suc (emax f) + w → HasValue (round f s (q * 2 ^ i) (2 ^ w)) s (q * 2 ^ i) (2 ^ w)
scaled_exact f s q i w small fine fit =
    let j = low f + i - w in
    round_exact f s (q * 2 ^ i) (2 ^ w) q j (pow_pos w) small
    (lt_of_lt_of_le (shl_lt (prec f) j small) (pow_mono (less (prec f) i w (suc (emax f)) (low f) fine fit)))
    (mul_assoc q (2 ^ i) (2 ^ low f)
    ∙ ap (λ (z : ℕ). q * z) (mul_comm (2 ^ i) (2 ^ low f) ∙ sym (pow-add 2 (low f) i) ∙ ap (λ (z : ℕ). 2 ^ z) (sym (back w (low f + i) fine)) ∙ pow-add 2 j w)
    ∙ sym (mul_assoc q (2 ^ j) (2 ^ w)))

room : (f : Format) (w : ℕ) → prec f + 0 ≤ suc (emax f) + w
room binary32 w = omega arith
room binary64 w = omega arith

pub dyadic_exact : (f : Format) (s : Bool) (q w : ℕ) → q < 2 ^ prec f → w ≤ low f → HasValue (round f s q (2 ^ w)) s q (2 ^ w)
dyadic_exact f s q w small fine =
    subst (λ (a : ℕ). HasValue (round f s a (2 ^ w)) s a (2 ^ w)) (mul-one q)
    (scaled_exact f s q 0 w small (subst (λ (l : ℕ). w ≤ l) (sym (add-zero (low f))) fine) (room f w))

-- ---- what a format's value is made of

pub fits_digits : (f : Format) (s : Bool) (m : ℕ) (e : ℤ) → T (fits f (fin s m e)) → (m < 2 ^ prec f) × (down e ≤ 2 ^ low f)
unfolding fits
fits_digits f s zero e t = (pow_pos (prec f), le_trans (flat (up e) (down e) (eqb→eq (up e * down e) 1 t)) (pow_pos (low f)))
  where
    flat : (a b : ℕ) → a * b ≡ 1 → b ≤ 1
    flat zero b h = absurd (lt_irrefl 0 (subst (λ (z : ℕ). 0 < z) (sym (sym (zero-mul b) ∙ h)) (le_refl 1)))
    flat (suc a) b h = le_trans (le-add_left b (a * b)) (le_of_eq (sym (suc-mul a b) ∙ h))
fits_digits f s (suc m) e t =
    let q = four (eqb (suc m % 2) 1) (ltb (suc m) (2 ^ prec f)) (leb (down e) (2 ^ low f)) (ltb (suc m * up e) (2 ^ suc (emax f) * down e)) t in
    (ltb→lt (suc m) (2 ^ prec f) q.1, leb→le (down e) (2 ^ low f) q.2)

-- a value below 2 ^ prec is q / 2 ^ w
pub record Dyadic (f : Format) (x : Float) (s : Bool) : Type 0 where
  pub q : ℕ
  pub w : ℕ
  pub small : q < 2 ^ prec f
  pub fine : w ≤ low f
  pub value : HasValue x s q (2 ^ w)

exponent_le : (i j : ℕ) → 2 ^ i ≤ 2 ^ j → i ≤ j
exponent_le i j h = le_of_suc-le-suc (lt_of_not-le (λ (g : suc j ≤ i). not-le_of_lt (pow-lt g) h))

pub dyadic : (f : Format) (s : Bool) (m : ℕ) (e : ℤ) → T (fits f (fin s m e)) → m * up e < 2 ^ prec f * down e → Dyadic f (fin s m e) s
dyadic f s m (pos k) t h = record { q = m * 2 ^ k; w = 0; small = subst (λ (z : ℕ). m * 2 ^ k < z) (mul-one (2 ^ prec f)) h; fine = zero-le; value = (refl, refl) }
dyadic f s m (negsuc k) t h =
    let d = fits_digits f s m (negsuc k) t in
    record { q = m; w = suc k; small = d.0; fine = exponent_le (suc k) (low f) d.1; value = (refl, ap (λ (z : ℕ). z * 2 ^ suc k) (mul-one m)) }

-- ---- rounding a fraction that a value of the format equals gives that value

-- up e * 2 ^ low is 2 ^ j * down e
shift : (f : Format) (e : ℤ) → down e ≤ 2 ^ low f → (j : ℕ) × (up e * 2 ^ low f ≡ 2 ^ j * down e)
shift f (pos k) h = (k + low f, sym (pow-add 2 k (low f)) ∙ sym (mul-one (2 ^ (k + low f))))
shift f (negsuc k) h =
    let g = exponent_le (suc k) (low f) h in
    (low f - suc k, one-mul (2 ^ low f) ∙ ap (λ (z : ℕ). 2 ^ z) (sym (back (suc k) (low f) g)) ∙ pow-add 2 (low f - suc k) (suc k))

pub fits_below : (f : Format) (s : Bool) (m : ℕ) (e : ℤ) → T (fits f (fin s m e)) → m * up e < 2 ^ suc (emax f) * down e
unfolding fits
fits_below f s zero e t = subst (λ (z : ℕ). z < 2 ^ suc (emax f) * down e) (sym (zero-mul (up e))) (mul-pos (pow_pos (suc (emax f))) (down_pos e))
fits_below f s (suc m) e t =
    ltb→lt (suc m * up e) (2 ^ suc (emax f) * down e) (four (eqb (suc m % 2) 1) (ltb (suc m) (2 ^ prec f)) (leb (down e) (2 ^ low f)) (ltb (suc m * up e) (2 ^ suc (emax f) * down e)) t).3

pub round_value : (f : Format) (x : Float) (s : Bool) (a c : ℕ) → 0 < c → T (fits f x) → HasValue x s a c → round f s a c ≡ x
round_value f lib.Ieee.nan s a c C h v = elim v [ ]
round_value f (lib.Ieee.inf _) s a c C h v = elim v [ ]
round_value f (fin t m e) s a c C h v =
    let d = fits_digits f t m e h in
    let (j, k) = shift f e d.1 in
    let D = down_pos e in
    let units : m * 2 ^ j * down e ≡ m * up e * 2 ^ low f = mul_assoc m (2 ^ j) (down e) ∙ ap (λ (z : ℕ). m * z) (sym k) ∙ sym (mul_assoc m (up e) (2 ^ low f)) in
    let below : m * 2 ^ j < 2 ^ (low f + suc (emax f)) =
    lt_of_mul-lt-mul_right (down e)
    (lt_of_le_of_lt (le_of_eq units)
    (lt_of_lt_of_le (mul-lt-mul_of_pos_right (fits_below f t m e h) (pow_pos (low f)))
    (le_of_eq (mul_right_comm (2 ^ suc (emax f)) (down e) (2 ^ low f) ∙ ap (λ (z : ℕ). z * down e) (mul_comm (2 ^ suc (emax f)) (2 ^ low f) ∙ sym (pow-add 2 (low f) (suc (emax f)))))))) in
    let exact : a * 2 ^ low f ≡ m * 2 ^ j * c =
    eq_of_mul-eq-mul_right (down e) D (a * 2 ^ low f) (m * 2 ^ j * c)
    (mul_right_comm a (2 ^ low f) (down e) ∙ ap (λ (z : ℕ). z * 2 ^ low f) (sym v.1) ∙ mul_right_comm (m * up e) c (2 ^ low f) ∙ ap (λ (z : ℕ). z * c) (sym units) ∙ mul_right_comm (m * 2 ^ j) (down e) c) in
    same_value f (round f s a c) (fin t m e) s a c C (round-fits f s a c) h (round_exact f s a c m j C d.0 below exact) v
