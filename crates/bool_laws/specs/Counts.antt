-- How many numbers pass a test. Definitions only.
use Rattle.std.specs.Prelude.{Bool, true, false, ℕ, zero, suc, ◌+◌}

abbrev pub tally : Bool → ℕ
tally true = 1
tally false = 0

-- how many of the first n numbers pass the test
unfoldable pub count_where : ℕ → (ℕ → Bool) → ℕ
count_where zero test = 0
count_where (suc n) test = count_where n test + tally (test n)
