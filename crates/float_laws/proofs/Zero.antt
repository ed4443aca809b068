-- Sums and quotients with +0, and products with 1. Assumes nothing.
use mathlib.Core.Path.{◌≡◌, refl, ap, ◌∙◌}
use Prim.Native.Nat.{ℕ, ◌+◌, ◌*◌, ◌<◌}
use native.Mathlib.Nat.{add-zero, zero-mul, mul-pos}
use native.Mathlib.Omega.{arith}
use mathlib.Core.Bool.{true, false}
use lib.IntN.{ℤ, pos}
use lib.Dec.{T, ltb→lt, lit<}
use lib.Ieee.{Float, fin, Format, up, down, round, sum, add, mul, div, lt, fits}
use lib.Ieee.Fits.{down_pos}
use Rattle.float_laws.proofs.Order.{plus_zero, plus}
use Rattle.float_laws.proofs.Exact.{round_value}
use Rattle.float_laws.proofs.Fraction.{mul_at, div_at}
use Rattle.float_laws.proofs.Rounded.{round_zero}

-- x + (+0) is x, for a finite x whose sign bit is clear
pub add_zero_right : (f : Format) (x : Float) → T (fits f x) → T (plus x) → add f x plus_zero ≡ x
unfolding add sum
add_zero_right f lib.Ieee.nan h p = elim p [ ]
add_zero_right f (lib.Ieee.inf _) h p = elim p [ ]
add_zero_right f (fin true m e) h p = absurd p
add_zero_right f (fin false m e) h p =
    ap (λ (a : ℕ). round f false a (down e * 1)) (ap (λ (z : ℕ). m * up e * 1 + z) (zero-mul (down e)) ∙ add-zero (m * up e * 1))
    ∙ round_value f (fin false m e) false (m * up e * 1) (down e * 1) (mul-pos (down_pos e) (lit< tt)) h (refl, omega arith)

above : (n : ℕ) (d : ℤ) → T (lt plus_zero (fin false n d)) → 0 < n * up d
unfolding lt
above n d t = let l = ltb→lt (0 * down d) (n * up d * 1) t in omega arith

-- (+0) / y is +0, for a y above zero
pub zero_div : (f : Format) (y : Float) → T (plus y) → T (lt plus_zero y) → div f plus_zero y ≡ plus_zero
zero_div f lib.Ieee.nan p h = elim p [ ]
zero_div f (lib.Ieee.inf _) p h = elim p [ ]
zero_div f (fin true n d) p h = absurd p
zero_div f (fin false n d) p h =
    div_at f plus_zero (fin false n d) false false 0 1 (n * up d) (down d) (lit< tt) (down_pos d) (above n d h) (refl, refl) (refl, refl)
    ∙ ap (λ (a : ℕ). round f false a (n * up d * 1)) (zero-mul (down d))
    ∙ round_zero f false (n * up d * 1) (mul-pos (above n d h) (lit< tt))

-- x * 1 is x, for a finite x whose sign bit is clear
pub mul_one : (f : Format) (x : Float) → T (fits f x) → T (plus x) → mul f x (fin false 1 (pos 0)) ≡ x
mul_one f lib.Ieee.nan h p = elim p [ ]
mul_one f (lib.Ieee.inf _) h p = elim p [ ]
mul_one f (fin true m e) h p = absurd p
mul_one f (fin false m e) h p =
    mul_at f (fin false m e) (fin false 1 (pos 0)) false false (m * up e) (down e) 1 1 (down_pos e) (lit< tt) (refl, refl) (refl, refl)
    ∙ round_value f (fin false m e) false (m * up e * 1) (down e * 1) (mul-pos (down_pos e) (lit< tt)) h (refl, omega arith)
