-- The cap c on a score s after the mask (ONNX: softcap): s becomes c * t, where t is near tanh(s / c). Each step is one f32 operation, in the order written. Definitions only.
use Rattle.std.specs.Prelude.{cond, List, map, Float}
use Rattle.std.specs.Float.{binary32}
use Rattle.std.specs.Float.Ieee.{neg, add, sub, mul, div, lt, eq}
use Rattle.exponential.specs.ExpNeg.{plus_zero, one, exp_neg_of, value_or_zero}
use Rattle.softmax.specs.Lists.{hidden, is_hidden}

-- -z where x is below 0, and else z
abbrev pub signed_by : Float → Float → Float
signed_by x z = cond (lt x plus_zero) (neg z) z

-- a + a, where a is -x where x is below 0, and else x
unfoldable pub twice_of : Float → Float
unfolding add neg lt
twice_of x = let a = signed_by x x in add binary32 a a

-- (1 - g) / (1 + g)
unfoldable pub ratio_of : Float → Float
unfolding sub add div
ratio_of g = div binary32 (sub binary32 one g) (add binary32 one g)

-- t, near tanh(x), for x = s / c; g is E(a + a)
unfoldable pub tanh_of : Float → Float
unfolding twice_of ratio_of exp_neg_of neg lt
tanh_of x = signed_by x (ratio_of (value_or_zero (exp_neg_of (twice_of x))))

-- c * t
unfoldable pub capped_of : Float → Float → Float
unfolding mul div tanh_of
capped_of c s = mul binary32 c (tanh_of (div binary32 s c))

-- a score under the cap, where 0 of either sign is none
unfoldable pub capped_where : Float → Float → Float
unfolding eq capped_of
capped_where c s = cond (eq c plus_zero) s (capped_of c s)

-- ---- over a row of scores

-- a hidden position stays hidden
unfoldable pub capped_or_hidden : Float → Float → Float
unfolding capped_of
capped_or_hidden c s = cond (is_hidden s) hidden (capped_of c s)

unfoldable pub capped_row_of : Float → List Float → List Float
unfolding capped_or_hidden
capped_row_of c row = map (capped_or_hidden c) row

-- the row as it was where there is no cap
unfoldable pub capped_row_where : Float → List Float → List Float
unfolding eq capped_row_of
capped_row_where c row = cond (eq c plus_zero) row (capped_row_of c row)
