-- `softmax_row::largest` meets its contract. The loop's invariant: m is the largest of the first elements, minus infinity where all of them are hidden, and finite otherwise. Assumes nothing.
use mathlib.Core.Path.{◌≡◌}
use Prim.Native.Nat.{ℕ}
use mathlib.Core.List.{List}
use lib.Dec.{T}
use lib.Ieee.{Float}
use Rattle.softmax.specs.Row.{Largest, largest_of}
use Rattle.softmax.specs.Lists.{element_of, sees_of, score_or_hidden}
use Rattle.softmax.proofs.Scores.{is_finite_or_none}
use Rattle.softmax_row.proofs.largest.Given as goal

-- the largest of the first n elements
abbrev pub firsts_of : List Float → ℕ → Largest
firsts_of row n = largest_of n (sees_of row) (element_of row)

abbrev pub invariant-loop-x : goal.invariant-loop-x
invariant-loop-x l = (l.m ≡ score_or_hidden (firsts_of l.row l.x-index)) × T (is_finite_or_none (firsts_of l.row l.x-index))
