-- Tests over the numbers below n, and lists that are made in turn. Definitions only.
use Rattle.std.specs.Prelude.{Bool, cond, List, [], ◌++◌, ℕ, zero, suc, ltb, Option, Some, None}
use Rattle.bool_laws.specs.Counts.{count_where}

-- one of 0 .. n - 1 passes the test
abbrev pub any_below : (ℕ → Bool) → ℕ → Bool
any_below test n = ltb 0 (count_where n test)

-- the least from i on, of n numbers, that does
unfoldable pub least_from : (ℕ → Bool) → (n i : ℕ) → Option ℕ
least_from test zero i = None
least_from test (suc n) i = let later = least_from test n (suc i) in cond (test i) (Some i) later

-- f 0, f 1, .. f (n - 1), one after the other
unfoldable pub joined : {A : Type 0} → (ℕ → List A) → ℕ → List A
joined f zero = []
joined f (suc n) = joined f n ++ f n
