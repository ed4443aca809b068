-- The house exponential E(d), which is near e ^ -d, for a d that is not below 0. Each step is one f32 operation, in the order written. Definitions only.
use Rattle.std.specs.Prelude.{List, map, ℕ, ◌*◌, ◌/◌, ◌%◌, Bool, false, ◌||◌, ◌&&◌, cond, pos, Float, Option, Some, None}
use Rattle.std.specs.Float.{nan, inf, fin, binary32}
use Rattle.std.specs.Float.Ieee.{up, down, minus, sub, mul, div, le, lt, is_nan, of_int, of_bits}
use Rattle.tables.specs.Power.{power_of}
pub use Rattle.float_laws.specs.Zero.{plus_zero}

abbrev pub one : Float
one = fin false 1 (pos 0)

-- 120, from which on E is +0
abbrev pub limit : Float
limit = fin false 15 (pos 3)

-- LOG2E, C1 and C2, by their bits
unfoldable pub log2e : Float
unfolding of_bits
log2e = of_bits binary32 0x3fb8aa3b

unfoldable pub c1 : Float
unfolding of_bits
c1 = of_bits binary32 0x3f317218

unfoldable pub c2 : Float
unfolding of_bits
c2 = of_bits binary32 0x3e75fdf0

-- n: the largest whole number not above 256 * y, for a finite y that is not below 0; 0 for -0
abbrev pub whole_part_of : Float → ℕ
whole_part_of nan = 0
whole_part_of (inf s) = 0
whole_part_of (fin s m e) = 256 * (m * up e) / down e

-- where the whole part is asked for: y from 0, -0 too, to below 120
abbrev pub in_range : Float → Bool
in_range y = le plus_zero y && lt y limit

-- r = y - n / 256
unfoldable pub rest_of : Float → Float
unfolding sub div of_int
rest_of y = sub binary32 y (div binary32 (of_int binary32 (pos (whole_part_of y))) (fin false 1 (pos 8)))

-- p = 1 - r * (C1 - r * C2)
unfoldable pub poly_of : Float → Float
unfolding sub mul c1 c2
poly_of r = sub binary32 one (mul binary32 r (sub binary32 c1 (mul binary32 r c2)))

-- 2 ^ -k
abbrev pub half_power : ℕ → Float
half_power k = fin false 1 (minus 0 k)

-- (P[f] * p) * 2 ^ -k, with k = n / 256 and f = n mod 256
unfoldable pub below_limit_of : Float → Float
unfolding mul power_of poly_of rest_of
below_limit_of y =
    mul binary32 (mul binary32 (power_of (whole_part_of y % 256)) (poly_of (rest_of y))) (half_power (whole_part_of y / 256))

-- E by y = d * LOG2E: +0 from 120 on
unfoldable pub scaled_of : Float → Float
unfolding below_limit_of le
scaled_of y = cond (le limit y) plus_zero (below_limit_of y)

-- E(d), and no value exactly where d is below 0 or not a number
unfoldable pub exp_neg_of : Float → Option Float
unfolding is_nan lt mul log2e scaled_of
exp_neg_of d = cond (is_nan d || lt d plus_zero) None (Some (scaled_of (mul binary32 d log2e)))

-- ---- over a row

-- E's value, and +0 where there is none
abbrev pub value_or_zero : Option Float → Float
value_or_zero (Some x) = x
value_or_zero None = plus_zero

-- each element s becomes E(largest - s), and +0 where that has no value
unfoldable pub exp_neg_row_of : Float → List Float → List Float
unfolding sub exp_neg_of
exp_neg_row_of largest row = map (λ s. value_or_zero (exp_neg_of (sub binary32 largest s))) row
