-- The default-scale table obeys its rule at each head size from 1 to 256, by one computed test over the whole table, the rule leaves no other choice, and each scale is above 0 and at most 1. Assumes nothing.
use Rattle.std.specs.Prelude.{Some, None}
use mathlib.Core.Path.{◌≡◌, sym, ap, ◌∙◌, subst}
use mathlib.Core.Logic.{◌⊎◌, inl, inr}
use Prim.Native.Nat.{ℕ, suc, ◌+◌, ◌-◌, ◌*◌, ◌/◌, ◌%◌, ◌^◌, ◌≤◌, ◌<◌}
use native.Mathlib.Nat.{le_antisymm, le_trans, lt_trans, lt_of_le_of_lt, lt_of_not-le, not-le_of_lt, mul-le-mul, mul-le-mul_right, le_of_eq, le_of_suc-le-suc}
use native.Mathlib.Decide.{dec_le}
use native.Mathlib.Omega.{arith}
use mathlib.Core.Bool.{Bool, false, not, ◌&&◌, cond}
use lib.Dec.{T, leb, ltb, leb→le, le→leb, ltb→lt, not_T}
use lib.Pow.{pow-add, pow_mono, pow-lt}
use lib.ListN.{get_or}
use lib.IntN.{pos}
use lib.Ieee.{Float, fin, binary32, of_bits, nan_bits, lt, le}
use lib.Ieee.Exact.{HasValue}
use lib.Ieee.Fits.{and_i, and_l, and_r}
use lib.Ieee.Bits.{is_true, is_false}
use Rattle.bool_laws.proofs.Tests.{three, four}
use Rattle.float_laws.specs.Zero.{plus_zero}
use Rattle.tables.specs.Scale.{ScaleRule, scale_bits, default_scale_of}
use Rattle.tables.proofs.Every.{every, at, is_fraction, fraction→value, odd_order}

-- ---- the test: the bits of a scale stand for m * 2 ^ -x

significand : ℕ → ℕ
significand b = 2 ^ 23 + b % 2 ^ 23

exponent : ℕ → ℕ
exponent b = 150 - b / 2 ^ 23

ruled : ℕ → ℕ → ℕ → Bool
ruled D m x = leb (2 ^ 23) m && ltb m (2 ^ 24) && ltb ((2 * m - 1) * (2 * m - 1) * D) (2 ^ (2 * x + 2)) && ltb (2 ^ (2 * x + 2)) ((2 * m + 1) * (2 * m + 1) * D)

test : ℕ → ℕ → Bool
test i b = ruled (suc i) (significand b) (exponent b) && is_fraction (of_bits binary32 b) (significand b) (2 ^ exponent b) && not (nan_bits binary32 b)

passes : T (every test 0 scale_bits)
unfolding test ruled significand exponent scale_bits of_bits nan_bits
passes = tt

-- ---- the rule at each entry

rule : (D m x : ℕ) → T (ruled D m x) → ScaleRule D m x
unfolding ruled
rule D m x t =
    let q = four (leb (2 ^ 23) m) (ltb m (2 ^ 24)) (ltb ((2 * m - 1) * (2 * m - 1) * D) (2 ^ (2 * x + 2))) (ltb (2 ^ (2 * x + 2)) ((2 * m + 1) * (2 * m + 1) * D)) t in
    record {
      at_least = leb→le (2 ^ 23) m q.0;
      at_most = ltb→lt m (2 ^ 24) q.1;
      over = ltb→lt ((2 * m - 1) * (2 * m - 1) * D) (2 ^ (2 * x + 2)) q.2;
      under = ltb→lt (2 ^ (2 * x + 2)) ((2 * m + 1) * (2 * m + 1) * D) q.3;
    }

-- the entry at i, for the head size i + 1, is m * 2 ^ -x, with the m and the x of the rule
pub scale_rule : (i : ℕ) → i < 256 → (m : ℕ) × (x : ℕ) × HasValue (of_bits binary32 (get_or scale_bits i 0)) false m (2 ^ x) × ScaleRule (suc i) m x
unfolding test
scale_rule i h =
    let b = get_or scale_bits i 0 in
    let m = significand b in
    let x = exponent b in
    let q = three (ruled (suc i) m x) (is_fraction (of_bits binary32 b) m (2 ^ x)) (not (nan_bits binary32 b)) (at test scale_bits passes i (unfold scale_bits in h)) in
    (m, x, fraction→value (of_bits binary32 b) m (2 ^ x) q.1, rule (suc i) m x q.0)

pub scale_not_nan : (i : ℕ) → i < 256 → T (not (nan_bits binary32 (get_or scale_bits i 0)))
unfolding test
scale_not_nan i h =
    let b = get_or scale_bits i 0 in
    let m = significand b in
    let x = exponent b in
    (three (ruled (suc i) m x) (is_fraction (of_bits binary32 b) m (2 ^ x)) (not (nan_bits binary32 b)) (at test scale_bits passes i (unfold scale_bits in h))).2

-- ---- no other pair obeys the rule

root_lt : (a b D : ℕ) → a * a * D < b * b * D → a < b
root_lt a b D h = lt_of_not-le (λ (g : b ≤ a). not-le_of_lt h (mul-le-mul_right D (mul-le-mul g g)))

-- where the exponents agree
same_exponent : (D m n x : ℕ) → ScaleRule D m x → ScaleRule D n x → m ≤ n
same_exponent D m n x p q = odd_order m n (root_lt (2 * m - 1) (2 * n + 1) D (lt_trans p.over q.under))

-- where x is the smaller exponent: only m = 2 ^ 23 beside n = 2 ^ 24 - 1 could both obey the rule, and z = 2 ^ (2x + 2) would lie between two numbers that no such power lies between
smallest : (m n : ℕ) → 2 ^ 23 ≤ m → n < 2 ^ 24 → 2 * (2 * m - 1) < 2 * n + 1 → (m ≡ 2 ^ 23) × (n ≡ 2 ^ 24 - 1)
smallest m n a b h = (omega arith, omega arith)

doubled : (a D z : ℕ) → a * a * D < z → 2 * a * (2 * a) * D < 4 * z
doubled a D z h = omega arith

four_fold : (x y : ℕ) → x < y → 4 * 2 ^ (2 * x + 2) ≤ 2 ^ (2 * y + 2)
four_fold x y h = le_trans (le_of_eq (sym (pow-add 2 2 (2 * x + 2)))) (pow_mono (omega arith))

no_gap : (D z : ℕ) → 1 ≤ D → D ≤ 256 → (2 ^ 24 - 1) * (2 ^ 24 - 1) * D < z → 4 * z < (2 ^ 25 - 1) * (2 ^ 25 - 1) * D → (u : ℕ) → 4 * z ≡ 2 ^ 35 * u → ⊥
no_gap D z a b h k u e =
    let l : u < 32768 * D = omega arith in
    omega arith

low_power : (D z : ℕ) → 1 ≤ D → (2 ^ 24 - 1) * (2 ^ 24 - 1) * D < z → 4 * z < 2 ^ 35 → ⊥
low_power D z a h k = omega arith

exponents : (D m x n y : ℕ) → 1 ≤ D → D ≤ 256 → ScaleRule D m x → ScaleRule D n y → x < y → ⊥
exponents D m x n y a b p q l =
    let z = 2 ^ (2 * x + 2) in
    let k : 4 * z < (2 * n + 1) * (2 * n + 1) * D = lt_of_le_of_lt (four_fold x y l) q.under in
    let s = smallest m n p.at_least q.at_most (root_lt (2 * (2 * m - 1)) (2 * n + 1) D (lt_trans (doubled (2 * m - 1) D z p.over) k)) in
    let h' : (2 ^ 24 - 1) * (2 ^ 24 - 1) * D < z = subst (λ (m : ℕ). (2 * m - 1) * (2 * m - 1) * D < z) s.0 p.over in
    let k' : 4 * z < (2 ^ 25 - 1) * (2 ^ 25 - 1) * D = subst (λ (n : ℕ). 4 * z < (2 * n + 1) * (2 * n + 1) * D) s.1 k in
    elim (dec_le 35 (2 * x + 4)) [
      | yes g ↦
          no_gap D z a b h' k' (2 ^ (2 * x + 4 - 35))
          (sym (pow-add 2 2 (2 * x + 2)) ∙ ap (λ (i : ℕ). 2 ^ i) (parts x g) ∙ pow-add 2 35 (2 * x + 4 - 35))
      | no g ↦ low_power D z a h' (lt_of_le_of_lt (le_of_eq (sym (pow-add 2 2 (2 * x + 2)))) (pow-lt (short x g)))
    ]
  where
    parts : (x : ℕ) → 35 ≤ 2 * x + 4 → 2 + (2 * x + 2) ≡ 35 + (2 * x + 4 - 35)
    parts x g = omega arith

    short : (x : ℕ) → ¬ (35 ≤ 2 * x + 4) → 2 + (2 * x + 2) < 35
    short x g = omega arith

pub scale_only : (D m x n y : ℕ) → 1 ≤ D → D ≤ 256 → ScaleRule D m x → ScaleRule D n y → (m ≡ n) × (x ≡ y)
scale_only D m x n y a b p q =
    let e : x ≡ y = le_antisymm (le_of_suc-le-suc (lt_of_not-le (λ (g : suc y ≤ x). exponents D n y m x a b q p g))) (le_of_suc-le-suc (lt_of_not-le (λ (g : suc x ≤ y). exponents D m x n y a b p q g))) in
    let p' : ScaleRule D m y = subst (λ (i : ℕ). ScaleRule D m i) e p in
    (le_antisymm (same_exponent D m n y p' q) (same_exponent D n m y q p'), e)

-- ---- where there is a scale, and where there is none

pub scale_where_lem : (D : ℕ) → 1 ≤ D → D ≤ 256 → default_scale_of D ≡ Some (of_bits binary32 (get_or scale_bits (D - 1) 0))
unfolding default_scale_of
scale_where_lem D a b =
    ap (λ (t : Bool). cond t (Some (of_bits binary32 (get_or scale_bits (D - 1) 0))) None)
    (is_true (leb 1 D && leb D 256) (and_i (leb 1 D) (leb D 256) (le→leb 1 D a) (le→leb D 256 b)))

pub no_scale_where : (D : ℕ) → (D < 1) ⊎ (256 < D) → default_scale_of D ≡ None
unfolding default_scale_of
no_scale_where D h =
    ap (λ (t : Bool). cond t (Some (of_bits binary32 (get_or scale_bits (D - 1) 0))) None)
    (is_false (leb 1 D && leb D 256) (not_T (leb 1 D && leb D 256) (λ t. outside h (leb→le 1 D (and_l (leb 1 D) (leb D 256) t)) (leb→le D 256 (and_r (leb 1 D) (leb D 256) t)))))
  where
    outside : (D < 1) ⊎ (256 < D) → 1 ≤ D → D ≤ 256 → ⊥
    outside (inl h) a b = omega arith
    outside (inr h) a b = omega arith

-- the default scale of a head size from 1 to 256 is m * 2 ^ -x, with the m and the x of the rule
pub default_scale : (D : ℕ) → 1 ≤ D → D ≤ 256 → (s : Float) × (m : ℕ) × (x : ℕ) × (default_scale_of D ≡ Some s) × HasValue s false m (2 ^ x) × ScaleRule D m x
default_scale D a b =
    let i = D - 1 in
    let r = scale_rule i (before D a b) in
    (of_bits binary32 (get_or scale_bits i 0), r.0, r.1, scale_where_lem D a b, r.2, subst (λ (k : ℕ). ScaleRule k r.0 r.1) (back D a) r.3)
  where
    before : (D : ℕ) → 1 ≤ D → D ≤ 256 → D - 1 < 256
    before D a b = omega arith

    back : (D : ℕ) → 1 ≤ D → suc (D - 1) ≡ D
    back D a = omega arith

-- ---- the size of a scale

abbrev one : Float
one = fin false 1 (pos 0)

between : ℕ → ℕ → Bool
between i b = lt plus_zero (of_bits binary32 b) && le (of_bits binary32 b) one

all_between : T (every between 0 scale_bits)
unfolding between scale_bits of_bits lt le
all_between = tt

-- the default scale of a head size from 1 to 256 is above 0 and at most 1
pub default_scale_bounds : (D : ℕ) → 1 ≤ D → D ≤ 256 → (s : Float) × (default_scale_of D ≡ Some s) × T (lt plus_zero s) × T (le s one)
unfolding between
default_scale_bounds D a b =
    let s = of_bits binary32 (get_or scale_bits (D - 1) 0) in
    let t : T (lt plus_zero s && le s one) = at between scale_bits all_between (D - 1) (unfold scale_bits in before D a b) in
    (s, scale_where_lem D a b, and_l (lt plus_zero s) (le s one) t, and_r (lt plus_zero s) (le s one) t)
  where
    before : (D : ℕ) → 1 ≤ D → D ≤ 256 → D - 1 < 256
    before D a b = omega arith
