-- `exponential_steps::exponents` meets its contract. The loop's invariant: the elements before the index are mapped, the others are as they were. Assumes nothing.
use Rattle.std.proofs.Common.{◌≡◌, ℕ, ◌≤◌, map, take, get_or}
use lib.Ieee.{binary32, sub, nan}
use Rattle.exponential.specs.Blocks.{exponent_of}
use Rattle.exponential_steps.proofs.exponents.Given as goal

abbrev pub invariant-loop-x : goal.invariant-loop-x
invariant-loop-x l = (take l.x-index l.row ≡ map (λ s. exponent_of (sub binary32 l.largest s)) (take l.x-index l.initial.row)) × ((k : ℕ) → l.x-index ≤ k → get_or l.row k nan ≡ get_or l.initial.row k nan)
