-- The steps of E over a block of a row, each step over all elements before the next. Definitions only.
use Rattle.std.specs.Prelude.{◌≡◌, ◌⊎◌, List, map, ℕ, ◌-◌, ◌*◌, ◌/◌, ◌%◌, ◌<◌, false, ◌&&◌, cond, T, pos, length, get_or, Float}
use Rattle.std.specs.Float.{nan, fin, binary32}
use Rattle.std.specs.Float.Ieee.{sub, mul, le, lt, of_bits}
use Rattle.tables.specs.Power.{power_of}
use Rattle.exponential.specs.ExpNeg.{plus_zero, limit, log2e, in_range, rest_of, poly_of}

-- 127, which stands for every y at which E is +0: the steps give +0 there
abbrev pub beyond : Float
beyond = fin false 127 (pos 0)

-- y = d * LOG2E where E has a value above +0, and otherwise 127
unfoldable pub exponent_of : Float → Float
unfolding mul le lt log2e
exponent_of d = cond (le plus_zero d && lt (mul binary32 d log2e) limit) (mul binary32 d log2e) beyond

-- each element s becomes the exponent of largest - s
unfoldable pub exponents_of : Float → List Float → List Float
unfolding sub exponent_of
exponents_of largest row = map (λ s. exponent_of (sub binary32 largest s)) row

-- y is in range, or 127
abbrev pub Exponent : Float → Type 0
Exponent y = (y ≡ beyond) ⊎ T (in_range y)

-- every element is in range, or 127
abbrev pub Exponents : List Float → Type 0
Exponents ys = (k : ℕ) → k < length ys → Exponent (get_or ys k nan)

-- each y becomes the polynomial at its rest
unfoldable pub polys_of : List Float → List Float
unfolding poly_of rest_of
polys_of ys = map (λ y. poly_of (rest_of y)) ys

-- (P[f] * p) * 2 ^ -k, with k = n / 256 and f = n mod 256; for n = 127 * 256 the last factor is +0
unfoldable pub times_power : ℕ → Float → Float
unfolding mul power_of of_bits
times_power n p = mul binary32 (mul binary32 (power_of (n % 256)) p) (of_bits binary32 ((127 - n / 256) * 8388608))
