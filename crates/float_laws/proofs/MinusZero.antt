-- Sums and differences with -0 on the left. Assumes nothing.
use mathlib.Core.Path.{◌≡◌, refl, ap, ◌∙◌}
use Prim.Native.Nat.{ℕ, zero, suc, ◌+◌, ◌*◌, ◌-◌}
use native.Mathlib.Nat.{zero-add, zero-mul, sub-zero, zero-lt-suc}
use native.Mathlib.Omega.{arith}
use mathlib.Core.Bool.{Bool, true, false, cond}
use lib.IntN.{ℤ, pos}
use lib.Dec.{T, ltb, lt→ltb}
use lib.Ieee.{Float, nan, inf, fin, Format, up, down, round, sum, neg, add, sub, fits}
use lib.Ieee.Bits.{is_true}
use lib.Ieee.Fits.{down_pos}
use Rattle.float_laws.proofs.Cross.{neg_neg}
use Rattle.float_laws.proofs.Exact.{round_value}

-- a / c less 0 is a / c, and +0 where a is 0
less_zero : (f : Format) (a c : ℕ) → cond (ltb 0 a) (round f false (a - 0) c) (round f (ltb a 0) (0 - a) c) ≡ round f false a c
less_zero f zero c = refl
less_zero f (suc a) c =
    λ i. cond (is_true (ltb 0 (suc a)) (lt→ltb 0 (suc a) (zero-lt-suc a)) i) (round f false (sub-zero (suc a) i) c) (round f (ltb (suc a) 0) (0 - suc a) c)

-- z's own fraction rounds to z
round_own : (f : Format) (s : Bool) (m : ℕ) (e : ℤ) → T (fits f (fin s m e)) → round f s (m * up e * 1) (1 * down e) ≡ fin s m e
round_own f s m e h = round_value f (fin s m e) s (m * up e * 1) (1 * down e) (omega (arith, down_pos e)) h (refl, omega arith)

-- (-0) + z is z
pub minus_zero_add : (f : Format) (z : Float) → T (fits f z) → add f (fin true 0 (pos 0)) z ≡ z
unfolding add sum
minus_zero_add f nan h = refl
minus_zero_add f (inf s) h = refl
minus_zero_add f (fin true m e) h =
    ap (λ (a : ℕ). round f true a (1 * down e)) (ap (λ (z : ℕ). z + m * up e * 1) (zero-mul (down e)) ∙ zero-add (m * up e * 1))
    ∙ round_own f true m e h
minus_zero_add f (fin false m e) h =
    let a = m * up e * 1 in
    let c = 1 * down e in
    ap (λ (z : ℕ). cond (ltb z a) (round f false (a - z) c) (round f (ltb a z) (z - a) c)) (zero-mul (down e))
    ∙ less_zero f a c
    ∙ round_own f false m e h

-- (-0) - (-z) is z
pub minus_zero_sub : (f : Format) (z : Float) → T (fits f z) → sub f (fin true 0 (pos 0)) (neg z) ≡ z
unfolding sub
minus_zero_sub f z h = ap (add f (fin true 0 (pos 0))) (neg_neg z) ∙ minus_zero_add f z h
