use Rattle.std.proofs.Common.{◌≡◌, ℕ, List}
use lib.Ieee.{Float, binary32, add, mul}
use Rattle.tensor_laws.proofs.InPlace.{indexed_to}
use Rattle.softmax.specs.Lists.{element_of}
use Rattle.softmax_sum.proofs.accumulate.Given as goal

-- what the element of a column becomes
abbrev pub each_of : Float → List Float → ℕ → Float → Float
each_of weight value c x = add binary32 x (mul binary32 weight (element_of value c))

abbrev pub invariant-loop-c : goal.invariant-loop-c
invariant-loop-c l = l.out ≡ indexed_to (each_of l.weight l.value) l.c l.initial.out
