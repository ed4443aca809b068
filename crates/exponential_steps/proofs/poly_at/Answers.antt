-- `exponential_steps::poly_at` meets its contract: the steps are those of the definition, at the whole part n, which is below 2 ^ 15. Assumes nothing.
use mathlib.Core.Path.{ap, ◌∙◌}
use Prim.Native.Nat.{ℕ, ◌%◌, ◌^◌, ◌≤◌}
use native.Mathlib.Nat.{mod-le, mod-eq_of_lt, lt_of_le_of_lt}
use native.Mathlib.Omega.{arith}
use lib.Dec.{T, leb, le→leb, lit<}
use lib.IntN.{pos}
use lib.Ieee.{binary32, in_float, of_bits, of_int, sub, div}
use Rattle.exponential.specs.ExpNeg.{rest_of, poly_of, c1, c2}
use Rattle.exponential_steps.proofs.poly_at.Goals as goal

exact : (m n : ℕ) → n ≤ 32512 → T (leb (n % m) (2 ^ 24))
exact m n h = le→leb (n % m) (2 ^ 24) (omega (arith, mod-le n m))

pub int_to_float-r : goal.int_to_float-r
unfolding in_float
int_to_float-r c = exact _ c.args.n c.requires.n_bound

pub returns : goal.returns
unfolding poly_of rest_of c1 c2 of_bits
returns c = ap (λ (n : ℕ). poly_of (sub binary32 c.args.y (div binary32 (of_int binary32 (pos n)) (of_bits binary32 0x43800000)))) (mod-eq_of_lt (lt_of_le_of_lt c.requires.n_bound (lit< tt)) ∙ c.requires.n_value)
