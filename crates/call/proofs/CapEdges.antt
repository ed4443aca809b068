-- The cap at its edges, by computation: which caps refusal 3 allows, and its place among the refusals; and no cap is part of the step profile. Assumes nothing.
use Rattle.std.specs.Prelude.{Ok, Err}
use mathlib.Core.Path.{◌≡◌, refl}
use mathlib.Core.List.{[], ◌∷◌}
use mathlib.Core.Bool.{true, false}
use lib.IntN.{pos, negsuc}
use lib.Ieee.{Float, nan, inf, fin}
use Rattle.call.specs.declared.Call.{Call}
use Rattle.call.specs.declared.Form.TheVariants.{Plain}
use Rattle.call.specs.declared.Scale.TheVariants.{Absent}
use Rattle.call.specs.declared.Refusal.TheVariants.{Limits, HeadGroups, Settings}
use Rattle.call.specs.Parts.{call_with}
use Rattle.call.specs.Limits.{cap_allowed}
use Rattle.call.specs.Refusals.{verdict_of}
use Rattle.call.specs.Profile.{profile_holds}
use Rattle.call.proofs.Edges.{zero, one, call, lending, writing}

-- the record with that cap
abbrev pub with_cap : Float → Call → Call
with_cap cap c = call_with c.form c.mask c.scale cap c.mode c.rank c.causal c.batches c.qheads c.kvheads c.qlen c.klen c.past c.size c.vsize c.maskb c.maskh c.maskq c.maskk

-- the step profile takes any cap
pub profile_any_cap : (c : Call) (cap : Float) → profile_holds (with_cap cap c) ≡ profile_holds c
unfolding profile_holds
profile_any_cap c cap = refl

pub record CapEdgesHold : Type 0 where
  -- none, by 0 of either sign; the least f32 above 0, and 65,536
  pub plus_zero_is : cap_allowed zero ≡ true
  pub minus_zero_is : cap_allowed (fin true 0 (pos 0)) ≡ true
  pub least : cap_allowed (fin false 1 (negsuc 148)) ≡ true
  pub largest : cap_allowed (fin false 1 (pos 16)) ≡ true
  -- the next f32, the infinities, numbers below 0, and NaN
  pub too_large : cap_allowed (fin false 8388609 (negsuc 6)) ≡ false
  pub plus_infinity : cap_allowed (inf false) ≡ false
  pub minus_infinity : cap_allowed (inf true) ≡ false
  pub below_zero : cap_allowed (fin true 1 (negsuc 148)) ≡ false
  pub not_a_number : cap_allowed nan ≡ false
  -- a cap is accepted in a call; a bad one is refusal 3, after 1 and 2 and before the lengths
  pub accepted : verdict_of (with_cap (fin false 15 (pos 1)) (call Plain Absent 1 1 1)) (lending (one ∷ []) (one ∷ []) (one ∷ []) []) (writing (one ∷ []) (one ∷ [])) ≡ Ok tt
  pub refused : verdict_of (with_cap (inf false) (call Plain Absent 1 1 1)) (lending (one ∷ []) (one ∷ []) (one ∷ []) []) (writing (one ∷ []) (one ∷ [])) ≡ Err Settings
  pub limits_first : verdict_of (with_cap nan (call Plain Absent 4 3 2049)) (lending [] [] [] []) (writing [] []) ≡ Err Limits
  pub groups_first : verdict_of (with_cap nan (call Plain Absent 4 3 1)) (lending [] [] [] []) (writing [] []) ≡ Err HeadGroups
  pub before_lengths : verdict_of (with_cap nan (call Plain Absent 1 1 1)) (lending [] [] [] []) (writing [] []) ≡ Err Settings

pub cap_edges_hold : CapEdgesHold
unfolding verdict_of
cap_edges_hold = record {
  plus_zero_is = refl;
  minus_zero_is = refl;
  least = refl;
  largest = refl;
  too_large = refl;
  plus_infinity = refl;
  minus_infinity = refl;
  below_zero = refl;
  not_a_number = refl;
  accepted = refl;
  refused = refl;
  limits_first = refl;
  groups_first = refl;
  before_lengths = refl;
}
