-- `exponential_number::below_limit` meets its contract: the steps are those of the definition, with n below 30,720 and 2 ^ -k by its bits. Assumes nothing.
use mathlib.Core.Path.{◌≡◌, sym, ap, ◌∙◌, subst}
use mathlib.Core.List.{List}
use mathlib.Core.Bool.{not}
use Prim.Native.Nat.{ℕ, ◌-◌, ◌*◌, ◌/◌, ◌%◌, ◌^◌, ◌<◌}
use native.Mathlib.Nat.{div-lt_iff_lt-mul}
use native.Mathlib.Omega.{arith}
use lib.Dec.{T, le→leb, lit<}
use lib.ListN.{get_or}
use lib.IntN.{pos}
use lib.Ieee.{Float, binary32, nan_bits, in_float, of_bits, of_int, sub, mul, div}
use denote.Floats.{passes}
use Rattle.tables.specs.Power.{power_bits, power_of}
use Rattle.tables.proofs.Power.{power_not_nan}
use Rattle.exponential.specs.ExpNeg.{whole_part_of, rest_of, poly_of, below_limit_of}
use Rattle.exponential.proofs.Whole.{cut_exact}
use Rattle.exponential.proofs.HalfPowers.{half_power_bits_lem, half_power_not_nan}
use Rattle.exponential_number.proofs.below_limit.Goals as goal
use Rattle.exponential_number.proofs.below_limit.Goals.{After-whole_part-n}

-- n is the whole part, and below 30,720
whole : (c : After-whole_part-n) → (c.whole_part-n.result ≡ whole_part_of c.args.y) × (c.whole_part-n.result < 30720)
whole c =
    let e = c.whole_part-n.ensures in
    (e, subst (λ (n : ℕ). n < 30720) (sym e) (cut_exact c.args.y (passes _ c.well_formed.1.0.1) c.requires.t).small)

pub int_to_float-rest : goal.int_to_float-rest
unfolding in_float
int_to_float-rest c = let n = whole (goal.at.int_to_float-rest c).After-whole_part-n in le→leb c.whole_part-n.result (2 ^ 24) (omega arith)

pub float_from_bits-p : goal.float_from_bits-p
unfolding nan_bits
float_from_bits-p c = tt

pub float_from_bits-p-2 : goal.float_from_bits-p-2
unfolding nan_bits
float_from_bits-p-2 c = tt

pub overflow_sub-halfpower : goal.overflow_sub-halfpower
overflow_sub-halfpower c = let n = whole (goal.at.overflow_sub-halfpower c).After-whole_part-n in omega arith

pub float_from_bits-halfpower : goal.float_from_bits-halfpower
float_from_bits-halfpower c = let n = whole (goal.at.float_from_bits-halfpower c).After-whole_part-n in half_power_not_nan (c.whole_part-n.result / 256) (omega arith)

pub float_from_bits-result : goal.float_from_bits-result
float_from_bits-result c = subst (λ (ps : List ℕ). T (not (nan_bits binary32 (get_or ps (c.whole_part-n.result % 256) 0)))) (sym c.requires.powers_value) (power_not_nan (c.whole_part-n.result % 256) (omega arith))

-- the code's steps, by the table ps and the whole part n that it reads
computed : List ℕ → ℕ → Float → Float
computed ps n y =
    let r = sub binary32 y (div binary32 (of_int binary32 (pos n)) (of_bits binary32 0x43800000)) in
    mul binary32
    (mul binary32 (of_bits binary32 (get_or ps (n % 256) 0))
    (sub binary32 (of_bits binary32 0x3f800000) (mul binary32 r (sub binary32 (of_bits binary32 0x3f317218) (mul binary32 r (of_bits binary32 0x3e75fdf0))))))
    (of_bits binary32 ((127 - n / 256) * 8388608))

computed_is : (y : Float) → whole_part_of y < 30720 → computed power_bits (whole_part_of y) y ≡ below_limit_of y
unfolding computed below_limit_of of_bits
computed_is y h = ap (λ (x : Float). mul binary32 (mul binary32 (power_of (whole_part_of y % 256)) (poly_of (rest_of y))) x) (half_power_bits_lem (whole_part_of y / 256) ((div-lt_iff_lt-mul (lit< tt)).1 h))

pub returns : goal.returns
unfolding computed
returns c =
    let w = whole (goal.at.returns c).After-whole_part-n in
    let y = c.args.y in
    ap (λ (ps : List ℕ). computed ps c.whole_part-n.result y) c.requires.powers_value
    ∙ ap (λ (n : ℕ). computed power_bits n y) w.0
    ∙ computed_is y (subst (λ (n : ℕ). n < 30720) w.0 w.1)
