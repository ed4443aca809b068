-- Records that stand for no call are refused. At the general entry one that has not 18 numbers is refusal 1, and one with a code that names nothing is 1, 2 or 3, whichever comes first. At the step entry the first is 10, and so is a code that names no form or no mask kind; one that names no scale kind is as at the general entry, since the scale is free in the step profile. Assumes nothing.
use Rattle.std.specs.Prelude.{Err}
use mathlib.Core.Path.{◌≡◌, refl}
use mathlib.Core.List.{List}
use Prim.Native.Nat.{ℕ, ◌<◌}
use native.Mathlib.Omega.{arith}
use mathlib.Core.Bool.{Bool, true, false, and-false}
use lib.ListN.{length}
use lib.Ieee.{Float}
use borrow.Author.Tests.{ne_eqb}
use Rattle.exponential.specs.ExpNeg.{plus_zero}
use Rattle.call.specs.declared.Call.{Call}
use Rattle.call.specs.declared.Scale.TheVariants.{Given}
use Rattle.call.specs.declared.Refusal.TheVariants.{Limits, HeadGroups, Settings, MaskShape, Profile}
use Rattle.call.specs.Refusals.{Verdict}
use Rattle.call.specs.Limits.{limits_hold, groups_hold, settings_hold, mask_shape_holds}
use Rattle.call.specs.Profile.{profile_holds}
use Rattle.call.specs.Refusals.{unless, ◌then◌, record_verdict, lengths_verdict, cells_verdict, elements_verdict, verdict_of}
use Rattle.call.specs.Tensors.{Inputs, Outputs}
use Rattle.attention.specs.Outcomes.{outcome_of}
use Rattle.attention.specs.Entries.{step_of}
use Rattle.attention.proofs.Entries.{step_other}
use Rattle.interface.specs.Record.{number_at, scale_of, codes_named, rank_of, call_of}

-- a record that has not 18 numbers is refusal 1, whatever is lent
pub wrong_length_refused : (numbers : List ℕ) (scale softcap : Float) (x : Inputs) (y : Outputs) → (length numbers ≡ 18 → ⊥) → verdict_of (call_of numbers scale softcap) x y ≡ Err Limits
unfolding verdict_of record_verdict limits_hold call_of number_at
wrong_length_refused numbers scale softcap x y h = rw (ne_eqb _ 18 h)

refused_by_third : (a b : Bool) (v w : Verdict) → (unless a Limits then unless b HeadGroups then Err Settings then v) then w ≡ unless a Limits then unless b HeadGroups then Err Settings
refused_by_third true true v w = refl
refused_by_third true false v w = refl
refused_by_third false b v w = refl

module _ (numbers : List ℕ) (scale softcap : Float) where
  -- where a code names no form or no mask kind the rank is 0
  unnamed_rank : codes_named (number_at numbers 0) (number_at numbers 1) ≡ false → (call_of numbers scale softcap).rank ≡ 0
  unfolding call_of rank_of
  unnamed_rank h = rw h

  -- where one names no scale kind the scale is a given 0
  unnamed_scale : 1 < number_at numbers 2 → (call_of numbers scale softcap).scale ≡ Given plus_zero
  unfolding call_of scale_of
  unnamed_scale h = rw (ne_eqb (number_at numbers 2) 0 (λ e. omega arith), ne_eqb (number_at numbers 2) 1 (λ e. omega arith))

  -- where a code names nothing the settings do not hold
  rank_fails : codes_named (number_at numbers 0) (number_at numbers 1) ≡ false → settings_hold (call_of numbers scale softcap) ≡ false
  unfolding settings_hold
  rank_fails h = rw (unnamed_rank h)

  scale_fails : 1 < number_at numbers 2 → settings_hold (call_of numbers scale softcap) ≡ false
  unfolding settings_hold
  scale_fails h = rw (unnamed_scale h, and-false)

-- a record that has not 18 numbers, or with such a code, is not of the step profile
wrong_length_profile : (numbers : List ℕ) (scale softcap : Float) → (length numbers ≡ 18 → ⊥) → profile_holds (call_of numbers scale softcap) ≡ false
unfolding profile_holds call_of number_at
wrong_length_profile numbers scale softcap h = rw (ne_eqb _ 18 h)

unnamed_profile : (numbers : List ℕ) (scale softcap : Float) → codes_named (number_at numbers 0) (number_at numbers 1) ≡ false → profile_holds (call_of numbers scale softcap) ≡ false
unfolding profile_holds
unnamed_profile numbers scale softcap h = rw (unnamed_rank numbers scale softcap h, and-false)

-- settings that do not hold are refusal 3 where neither 1 nor 2 applies
refused_by_settings : (c : Call) (x : Inputs) (y : Outputs) → settings_hold c ≡ false → verdict_of c x y ≡ unless (limits_hold c) Limits then unless (groups_hold c) HeadGroups then Err Settings
unfolding verdict_of record_verdict
refused_by_settings c x y h = rw h (refused_by_third (limits_hold c) (groups_hold c) (unless (mask_shape_holds c) MaskShape) (lengths_verdict c x y then cells_verdict c x then elements_verdict c x))

-- what is refused by 3 where neither 1 nor 2 applies
abbrev pub ByThird : List ℕ → (scale softcap : Float) → Inputs → Outputs → Type 0
ByThird numbers scale softcap x y = verdict_of (call_of numbers scale softcap) x y ≡ unless (limits_hold (call_of numbers scale softcap)) Limits then unless (groups_hold (call_of numbers scale softcap)) HeadGroups then Err Settings

module _ (numbers : List ℕ) (scale softcap : Float) (x : Inputs) (y : Outputs) where
  -- a code that names no form, no mask kind or no scale kind is refusal 3 where neither 1 nor 2 applies, whatever is lent
  pub unnamed_refused : codes_named (number_at numbers 0) (number_at numbers 1) ≡ false → ByThird numbers scale softcap x y
  unnamed_refused h = refused_by_settings (call_of numbers scale softcap) x y (rank_fails numbers scale softcap h)

  pub unnamed_scale_refused : 1 < number_at numbers 2 → ByThird numbers scale softcap x y
  unnamed_scale_refused h = refused_by_settings (call_of numbers scale softcap) x y (scale_fails numbers scale softcap h)

  -- at the step entry a record that has not 18 numbers, or a code that names no form or no mask kind, is refusal 10
  pub wrong_length_other : (length numbers ≡ 18 → ⊥) → step_of (call_of numbers scale softcap) x y ≡ outcome_of (Err Profile) y
  wrong_length_other h = step_other (call_of numbers scale softcap) x y (wrong_length_profile numbers scale softcap h)

  pub unnamed_other : codes_named (number_at numbers 0) (number_at numbers 1) ≡ false → step_of (call_of numbers scale softcap) x y ≡ outcome_of (Err Profile) y
  unnamed_other h = step_other (call_of numbers scale softcap) x y (unnamed_profile numbers scale softcap h)
