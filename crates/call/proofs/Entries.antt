-- The ten refusals at each entry: a record that the entry does not take is refusal 10, and of one that it takes the nine others apply. Assumes nothing.
use Rattle.std.specs.Prelude.{Err}
use mathlib.Core.Path.{◌≡◌, refl, sym}
use mathlib.Core.List.{[], ◌∷◌, map}
use mathlib.Core.Bool.{true, false, true≢false}
use Rattle.call.specs.declared.Call.{Call}
use Rattle.call.specs.declared.Refusal.TheVariants.{Profile}
use Rattle.call.specs.Tensors.{Inputs, Outputs}
use Rattle.call.specs.Refusals.{link_number, first_of, links_of, verdict_of}
use Rattle.call.specs.Profile.{Entry, general, step, takes}
use Rattle.call.proofs.FirstLink.{general_links_lem}

-- the nine of a record that the entry takes
pub taken_links : (e : Entry) (c : Call) (x : Inputs) (y : Outputs) → takes e c ≡ true → first_of (links_of e c x y) ≡ verdict_of c x y
unfolding first_of
taken_links general c x y t = sym (general_links_lem c x y)
taken_links step c x y t = rw t (sym (general_links_lem c x y))

-- and 10 of one that it does not take
pub other_links : (e : Entry) (c : Call) (x : Inputs) (y : Outputs) → takes e c ≡ false → first_of (links_of e c x y) ≡ Err Profile
unfolding first_of
other_links general c x y t = absurd (true≢false t)
other_links step c x y t = rw t

-- the order of the numbers: 8 is tested twice, and 9 five times
pub step_numbers : (c : Call) (x : Inputs) (y : Outputs) → map link_number (links_of step c x y) ≡ 10 ∷ 1 ∷ 2 ∷ 3 ∷ 4 ∷ 5 ∷ 6 ∷ 7 ∷ 8 ∷ 8 ∷ 9 ∷ 9 ∷ 9 ∷ 9 ∷ 9 ∷ []
step_numbers c x y = refl
