-- How many numbers pass a test: one by one, in two runs one after the other, by tests that agree, at most, and none. Assumes nothing.
use mathlib.Core.Path.{◌≡◌, refl, sym, ap, ◌∙◌}
use mathlib.Core.Bool.{Bool, true, false}
use Prim.Native.Nat.{ℕ, zero, suc, ◌+◌, ◌≤◌, ◌<◌}
use native.Mathlib.Nat.{le_refl, add-zero, add-suc, add_assoc}
use native.Mathlib.Numerals.{add-one}
use native.Mathlib.Omega.{arith}
use lib.Dec.{lit≤}
use Rattle.bool_laws.specs.Counts.{tally, count_where}

-- none of no numbers
pub count_start : (test : ℕ → Bool) → count_where 0 test ≡ 0
unfolding count_where
count_start test = refl

-- one number more
pub count_next : (n : ℕ) (test : ℕ → Bool) → count_where (n + 1) test ≡ count_where n test + tally (test n)
unfolding count_where
count_next n test = ap (λ (m : ℕ). count_where m test) (add-one n)

-- the first a numbers, and those from a on
pub count_runs : (a n : ℕ) (test : ℕ → Bool) → count_where (a + n) test ≡ count_where a test + count_where n (λ i. test (a + i))
unfolding count_where
count_runs a zero test = ap (λ (m : ℕ). count_where m test) (add-zero a) ∙ sym (add-zero (count_where a test))
count_runs a (suc n) test =
    ap (λ (m : ℕ). count_where m test) (add-suc a n)
    ∙ ap (λ (m : ℕ). m + tally (test (a + n))) (count_runs a n test)
    ∙ add_assoc (count_where a test) (count_where n (λ i. test (a + i))) (tally (test (a + n)))

-- tests that agree
pub count_agree : (n : ℕ) (test test' : ℕ → Bool) → ((i : ℕ) → i < n → test i ≡ test' i) → count_where n test ≡ count_where n test'
unfolding count_where
count_agree zero test test' e = refl
count_agree (suc n) test test' e = (λ i. count_agree n test test' (λ k l. e k (omega arith)) i + tally (e n (le_refl (suc n)) i))

-- what one test counts
pub tally_some : (b : Bool) → (tally b ≡ 0 → ⊥) → b ≡ true
tally_some true h = refl
tally_some false h = absurd (h refl)

pub tally_none : (b : Bool) → tally b ≡ 0 → b ≡ false
tally_none true h = absurd (omega arith)
tally_none false h = refl

pub tally_le : (t : Bool) → tally t ≤ 1
tally_le true = lit≤ tt
tally_le false = lit≤ tt

-- no more pass than there are
pub count_le : (n : ℕ) (test : ℕ → Bool) → count_where n test ≤ n
unfolding count_where
count_le zero test = lit≤ tt
count_le (suc n) test = omega (arith, count_le n test, tally_le (test n))

-- where no number below n passes the test, none is counted
pub count_none : (n : ℕ) (test : ℕ → Bool) → ((k : ℕ) → k < n → test k ≡ false) → count_where n test ≡ 0
unfolding count_where
count_none zero test e = refl
count_none (suc n) test e = ap (λ t. count_where n test + tally t) (e n (omega arith)) ∙ ap (λ m. m + 0) (count_none n test (λ k l. e k (omega arith)))
