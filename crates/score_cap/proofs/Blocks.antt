-- The steps of the cap over a block of scores, taken together, give the cap at each of them. Assumes nothing.
use mathlib.Core.Path.{◌≡◌, refl, sym, ap, ◌∙◌, subst}
use mathlib.Core.Bool.{cond}
use mathlib.Core.List.{List, map}
use Prim.Native.Nat.{ℕ, ◌<◌}
use lib.Dec.{T}
use lib.ListN.{length, length-map, get_or-map}
use lib.Ieee.{Float, nan, binary32, neg, sub, mul, div, fits}
use lib.Ieee.Fits.{add-fits}
use Rattle.float_laws.specs.Zero.{minus_zero}
use Rattle.float_laws.proofs.MinusZero.{minus_zero_sub}
use Rattle.tensor_laws.specs.Layout.{tabulate}
use Rattle.tensor_laws.proofs.Tabulate.{tabulate_ext, map_elements}
use Rattle.exponential.specs.ExpNeg.{exp_neg_of, value_or_zero, exp_neg_row_of}
use Rattle.exponential.proofs.Laws.{get_or_row}
use Rattle.softmax.specs.Lists.{element_of, hidden, is_hidden}
use Rattle.softmax.specs.Cap.{signed_by, twice_of, ratio_of, capped_or_hidden, capped_row_of}

-- ---- the steps

-- x = s / c of each score s
abbrev pub quotients_of : Float → List Float → List Float
quotients_of c row = map (λ s. div binary32 s c) row

-- -(a + a) of each x, where a is -x where x is below 0, and else x
abbrev pub terms_of : List Float → List Float
terms_of xs = map (λ x. neg (twice_of x)) xs

-- g = E(a + a) of each score
abbrev pub exponentials_of : Float → List Float → List Float
exponentials_of c row = exp_neg_row_of minus_zero (terms_of (quotients_of c row))

length_terms : (c : Float) (row : List Float) → length (terms_of (quotients_of c row)) ≡ length row
length_terms c row = length-map (quotients_of c row) (λ x. neg (twice_of x)) ∙ length-map row (λ s. div binary32 s c)

quotient_at : (c : Float) (row : List Float) (j : ℕ) → element_of (quotients_of c row) j ≡ div binary32 (element_of row j) c
unfolding div
quotient_at c row j = get_or-map (λ s. div binary32 s c) row j nan

term_at_lem : (xs : List Float) (j : ℕ) → element_of (terms_of xs) j ≡ neg (twice_of (element_of xs j))
unfolding twice_of neg
term_at_lem xs j = get_or-map (λ x. neg (twice_of x)) xs j nan

twice_fits : (x : Float) → T (fits binary32 (twice_of x))
unfolding twice_of
twice_fits x = let a = signed_by x x in add-fits binary32 a a

exponential_at_lem : (c : Float) (row : List Float) (j : ℕ) → j < length row → element_of (exponentials_of c row) j ≡ value_or_zero (exp_neg_of (twice_of (div binary32 (element_of row j) c)))
exponential_at_lem c row j h =
    let xs = quotients_of c row in
    let x = element_of xs j in
    get_or_row minus_zero (terms_of xs) j nan (subst (λ (n : ℕ). j < n) (sym (length_terms c row)) h)
    ∙ ap (λ (t : Float). value_or_zero (exp_neg_of (sub binary32 minus_zero t))) (term_at_lem xs j)
    ∙ ap (λ (d : Float). value_or_zero (exp_neg_of d)) (minus_zero_sub binary32 (twice_of x) (twice_fits x))
    ∙ ap (λ (y : Float). value_or_zero (exp_neg_of (twice_of y))) (quotient_at c row j)

-- ---- all of them

-- a score under the cap, by its x and its g
abbrev pub capped_by : Float → Float → Float → Float → Float
capped_by c s x g = cond (is_hidden s) hidden (mul binary32 c (signed_by x (ratio_of g)))

by_definition : (c s : Float) → let x = div binary32 s c in capped_by c s x (value_or_zero (exp_neg_of (twice_of x))) ≡ capped_or_hidden c s
unfolding capped_or_hidden
by_definition c s = refl

-- the scores under the cap, by their x and their g
abbrev pub capped_row_by : Float → List Float → List Float → List Float → List Float
capped_row_by c row xs gs = tabulate (length row) (λ j. capped_by c (element_of row j) (element_of xs j) (element_of gs j))

together : (c : Float) (row : List Float) → capped_row_by c row (quotients_of c row) (exponentials_of c row) ≡ capped_row_of c row
unfolding capped_row_of
together c row =
    tabulate_ext (length row) (λ j. capped_by c (element_of row j) (element_of (quotients_of c row) j) (element_of (exponentials_of c row) j)) (λ j. capped_or_hidden c (element_of row j))
    (λ j h. (λ i. capped_by c (element_of row j) (quotient_at c row j i) (exponential_at_lem c row j h i)) ∙ by_definition c (element_of row j))
    ∙ sym (map_elements (capped_or_hidden c) nan row)

-- the steps one after the other give the cap at each score
pub all_steps : (c : Float) (row xs gs out : List Float) → xs ≡ quotients_of c row → gs ≡ exponentials_of c row → out ≡ capped_row_by c row xs gs → out ≡ capped_row_of c row
all_steps c row xs gs out p q r = r ∙ (λ i. capped_row_by c row (p i) (q i)) ∙ together c row
