-- A test that passes at every entry of a table, which antt computes once, passes at each of them; and what the parts of such a test say. Assumes nothing.
use mathlib.Core.Path.{refl, ◌∙◌, subst, sym}
use mathlib.Core.Bool.{Bool, true, false, ◌&&◌}
use mathlib.Core.List.{List, [], ◌∷◌}
use Prim.Native.Nat.{ℕ, zero, suc, ◌+◌, ◌-◌, ◌*◌, ◌≤◌, ◌<◌}
use native.Mathlib.Nat.{add-zero, zero-add, add-suc, suc-add, le_of_suc-le-suc, not-suc-le-zero}
use native.Mathlib.Omega.{arith}
use lib.Dec.{T, eqb, eqb→eq}
use lib.Ieee.Exact.{HasValue}
use lib.Ieee.{Float, nan, inf, fin, up, down}
use lib.Ieee.Fits.{and_l, and_r}
use lib.ListN.{length, get_or}

-- the test holds at each entry and its place, counted from i
abbrev pub every : (ℕ → ℕ → Bool) → ℕ → List ℕ → Bool
every test i [] = true
every test i (x ∷ xs) = test i x && every test (suc i) xs

from : (test : ℕ → ℕ → Bool) (xs : List ℕ) (i : ℕ) → T (every test i xs) → (k : ℕ) → k < length xs → T (test (i + k) (get_or xs k 0))
from test [] i t k h = absurd (not-suc-le-zero h)
from test (x ∷ xs) i t zero h = subst (λ (m : ℕ). T (test m x)) (sym (add-zero i)) (and_l (test i x) (every test (suc i) xs) t)
from test (x ∷ xs) i t (suc k) h =
    subst (λ (m : ℕ). T (test m (get_or xs k 0))) (suc-add i k ∙ sym (add-suc i k))
    (from test xs (suc i) (and_r (test i x) (every test (suc i) xs) t) k (le_of_suc-le-suc h))

pub at : (test : ℕ → ℕ → Bool) (xs : List ℕ) → T (every test 0 xs) → (k : ℕ) → k < length xs → T (test k (get_or xs k 0))
at test xs t k h = subst (λ (m : ℕ). T (test m (get_or xs k 0))) (zero-add k) (from test xs 0 t k h)

-- x is m / c
abbrev pub is_fraction : Float → ℕ → ℕ → Bool
is_fraction nan m c = false
is_fraction (inf s) m c = false
is_fraction (fin true n e) m c = false
is_fraction (fin false n e) m c = eqb (n * up e * c) (m * down e)

pub fraction→value : (x : Float) (m c : ℕ) → T (is_fraction x m c) → HasValue x false m c
fraction→value nan m c t = elim t [ ]
fraction→value (inf _) m c t = elim t [ ]
fraction→value (fin true n e) m c t = elim t [ ]
fraction→value (fin false n e) m c t = (refl, eqb→eq (n * up e * c) (m * down e) t)

-- ---- the next odd numbers

pub odd_order : (m n : ℕ) → 2 * m - 1 < 2 * n + 1 → m ≤ n
odd_order m n h = omega arith
