-- A row of scores: its elements are finite scores or marks of hidden positions, and what one more of them makes of the largest score. Assumes nothing.
use mathlib.Core.Path.{◌≡◌, refl}
use mathlib.Core.Bool.{Bool, true, false, not, ◌||◌}
use mathlib.Core.List.{List, [], ◌∷◌}
use Prim.Native.Nat.{ℕ, zero, suc, ◌<◌}
use native.Mathlib.Nat.{le_of_suc-le-suc, not-suc-le-zero}
use lib.Dec.{T}
use lib.ListN.{length}
use lib.Ieee.{Float, nan, inf, fin, lt}
use lib.Ieee.Scale.{finite}
use mir.Facts.{and_yes}
use Rattle.softmax.specs.Row.{Largest, none_seen, largest, greater, largest_with}
use Rattle.softmax.specs.Lists.{element_of, is_hidden, is_score_row, score_or_hidden}

-- a score or the mark of a hidden position
abbrev pub is_score : Float → Bool
is_score x = finite x || is_hidden x

-- an element of a row of scores
pub score_at_lem : (row : List Float) → T (is_score_row row) → (i : ℕ) → i < length row → T (is_score (element_of row i))
unfolding is_score_row
score_at_lem [] t i h = absurd (not-suc-le-zero h)
score_at_lem (x ∷ row) t zero h = (and_yes (is_score x) (is_score_row row) t).0
score_at_lem (x ∷ row) t (suc i) h = score_at_lem row (and_yes (is_score x) (is_score_row row) t).1 i (le_of_suc-le-suc h)

-- the largest score, where there is one, is finite
abbrev pub is_finite_or_none : Largest → Bool
is_finite_or_none none_seen = true
is_finite_or_none (largest m) = finite m

greater_finite : (b : Bool) (m s : Float) → T (finite m) → T (finite s) → T (finite (greater b m s))
greater_finite true m s p q = q
greater_finite false m s p q = p

-- one more element: it is taken where it is strictly greater than what there is, minus infinity counting as none
pub next_largest : (l : Largest) (x : Float) → T (is_finite_or_none l) → T (is_score x) → greater (lt (score_or_hidden l) x) (score_or_hidden l) x ≡ score_or_hidden (largest_with (not (is_hidden x)) l x)
unfolding lt
next_largest none_seen nan p q = absurd q
next_largest none_seen (inf true) p q = refl
next_largest none_seen (inf false) p q = absurd q
next_largest none_seen (fin t n d) p q = refl
next_largest (largest nan) x p q = absurd p
next_largest (largest (inf s)) x p q = absurd p
next_largest (largest (fin s m e)) nan p q = absurd q
next_largest (largest (fin s m e)) (inf true) p q = refl
next_largest (largest (fin s m e)) (inf false) p q = absurd q
next_largest (largest (fin s m e)) (fin t n d) p q = refl

pub next_finite : (l : Largest) (x : Float) → T (is_finite_or_none l) → T (is_score x) → T (is_finite_or_none (largest_with (not (is_hidden x)) l x))
next_finite l nan p q = absurd q
next_finite l (inf true) p q = p
next_finite l (inf false) p q = absurd q
next_finite none_seen (fin t n d) p q = tt
next_finite (largest m) (fin t n d) p q = greater_finite (lt m (fin t n d)) m (fin t n d) p tt
