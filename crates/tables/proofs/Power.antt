-- The power table obeys its rule at each of its 256 entries, by one computed test over the whole table, and the rule leaves no other choice. Assumes nothing.
use mathlib.Core.Path.{◌≡◌}
use Prim.Native.Nat.{ℕ, ◌+◌, ◌-◌, ◌*◌, ◌^◌, ◌≤◌, ◌<◌}
use native.Mathlib.Nat.{le_antisymm, lt_trans, lt_of_not-le, not-le_of_lt, pow-le-pow_left}
use mathlib.Core.Bool.{Bool, false, not, ◌&&◌}
use lib.Dec.{T, leb, ltb, leb→le, ltb→lt}
use lib.ListN.{get_or}
use lib.Ieee.{binary32, of_bits, nan_bits}
use lib.Ieee.Exact.{HasValue}
use Rattle.bool_laws.proofs.Tests.{three, four}
use Rattle.tables.specs.Power.{PowerRule, power_bits, power_of}
use Rattle.tables.proofs.Every.{every, at, is_fraction, fraction→value, odd_order}

-- ---- the test

-- the numerator over 2 ^ 24 that the bits of a power stand for
numerator : ℕ → ℕ
numerator b = b - 0x3e800000

ruled : ℕ → ℕ → Bool
ruled f m = leb (2 ^ 23) m && leb m (2 ^ 24) && ltb ((2 * m - 1) ^ 256) (2 ^ (6400 - f)) && ltb (2 ^ (6400 - f)) ((2 * m + 1) ^ 256)

test : ℕ → ℕ → Bool
test f b = ruled f (numerator b) && is_fraction (of_bits binary32 b) (numerator b) (2 ^ 24) && not (nan_bits binary32 b)

passes : T (every test 0 power_bits)
unfolding test ruled numerator power_bits of_bits nan_bits
passes = tt

-- ---- the rule at each entry

rule : (f m : ℕ) → T (ruled f m) → PowerRule f m
unfolding ruled
rule f m t =
    let q = four (leb (2 ^ 23) m) (leb m (2 ^ 24)) (ltb ((2 * m - 1) ^ 256) (2 ^ (6400 - f))) (ltb (2 ^ (6400 - f)) ((2 * m + 1) ^ 256)) t in
    record {
      at_least = leb→le (2 ^ 23) m q.0;
      at_most = leb→le m (2 ^ 24) q.1;
      over = ltb→lt ((2 * m - 1) ^ 256) (2 ^ (6400 - f)) q.2;
      under = ltb→lt (2 ^ (6400 - f)) ((2 * m + 1) ^ 256) q.3;
    }

-- P[f] = m * 2 ^ -24, with the m of the rule
pub power_rule : (f : ℕ) → f < 256 → (m : ℕ) × HasValue (power_of f) false m (2 ^ 24) × PowerRule f m
unfolding power_of test
power_rule f h =
    let b = get_or power_bits f 0 in
    let m = numerator b in
    let q = three (ruled f m) (is_fraction (of_bits binary32 b) m (2 ^ 24)) (not (nan_bits binary32 b)) (at test power_bits passes f (unfold power_bits in h)) in
    (m, fraction→value (of_bits binary32 b) m (2 ^ 24) q.1, rule f m q.0)

pub power_not_nan : (f : ℕ) → f < 256 → T (not (nan_bits binary32 (get_or power_bits f 0)))
unfolding test
power_not_nan f h =
    let b = get_or power_bits f 0 in
    let m = numerator b in
    (three (ruled f m) (is_fraction (of_bits binary32 b) m (2 ^ 24)) (not (nan_bits binary32 b)) (at test power_bits passes f (unfold power_bits in h))).2

-- ---- no other number obeys the rule

rule_le : (f m n : ℕ) → PowerRule f m → PowerRule f n → m ≤ n
rule_le f m n p q =
    odd_order m n (lt_of_not-le (λ (g : 2 * n + 1 ≤ 2 * m - 1). not-le_of_lt (lt_trans p.over q.under) (pow-le-pow_left g 256)))

pub power_only : (f m n : ℕ) → PowerRule f m → PowerRule f n → m ≡ n
power_only f m n p q = le_antisymm (rule_le f m n p q) (rule_le f n m q p)
