-- What a contract over `told` settles: both numbers. At six arguments they are computed, so that a program that tells another entry, another scale or another E, or a value where there is none, meets no such contract. Assumes nothing.
use mathlib.Core.Path.{◌≡◌, ap}
use mathlib.Core.Bool.{true, false}
use Prim.Native.Nat.{ℕ}
use lib.IntN.{pos, negsuc}
use lib.Ieee.{Float, fin, of_bits}
use Rattle.tables.specs.Power.{power_entry_of}
use Rattle.tables.specs.Scale.{default_scale_of}
use Rattle.exponential.specs.ExpNeg.{plus_zero, one, exp_neg_of}
use Rattle.interface.specs.Returned.{Told, told, exponential_told, power_told, scale_told}

-- what is told is told as r and v
abbrev Tells : ℕ → Float → Told → Type 0
Tells r v t = told r v ≡ t

pub told_both : (r s : ℕ) (v w : Float) → Tells r v (told s w) → (r ≡ s) × (v ≡ w)
told_both r s v w e = (ap (λ (t : Told). t.valued) e, ap (λ (t : Told). t.value) e)

-- of every r and v that are told, what they are
pub record ToldExamples (r : ℕ) (v : Float) : Type 0 where
  pub value : Tells r v (exponential_told (exp_neg_of plus_zero)) → (r ≡ 1) × (v ≡ one)
  pub no_value : Tells r v (exponential_told (exp_neg_of (fin true 1 (pos 0)))) → (r ≡ 0) × (v ≡ plus_zero)
  pub entry : Tells r v (power_told (power_entry_of 0)) → (r ≡ 1) × (v ≡ one)
  pub no_entry : Tells r v (power_told (power_entry_of 256)) → (r ≡ 0) × (v ≡ plus_zero)
  pub scale : Tells r v (scale_told (default_scale_of 4)) → (r ≡ 1) × (v ≡ fin false 1 (negsuc 0))
  pub no_scale : Tells r v (scale_told (default_scale_of 257)) → (r ≡ 0) × (v ≡ plus_zero)

pub told_examples : (r : ℕ) (v : Float) → ToldExamples r v
unfolding exp_neg_of power_entry_of default_scale_of of_bits
told_examples r v = record {
  value = told_both r 1 v one;
  no_value = told_both r 0 v plus_zero;
  entry = told_both r 1 v one;
  no_entry = told_both r 0 v plus_zero;
  scale = told_both r 1 v (fin false 1 (negsuc 0));
  no_scale = told_both r 0 v plus_zero;
}
