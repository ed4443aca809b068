-- The step profile at its edges, by computation: a record of the profile, records that differ from one in each of its eight conditions, and what is free. Assumes nothing.
use Rattle.std.specs.Prelude.{Option, Some, None, Err}
use mathlib.Core.Path.{◌≡◌, refl}
use Prim.Native.Nat.{ℕ}
use mathlib.Core.Bool.{true, false}
use lib.Ieee.{Float, nan}
use Rattle.call.specs.declared.Call.{Call}
use Rattle.call.specs.declared.Form.{Form}
use Rattle.call.specs.declared.Form.TheVariants.{Plain, Cached, Counted}
use Rattle.call.specs.declared.MaskKind.{MaskKind}
use Rattle.call.specs.declared.MaskKind.TheVariants.{NoMask, Boolean, FloatMask}
use Rattle.call.specs.declared.Scale.{Scale}
use Rattle.call.specs.declared.Scale.TheVariants.{Absent, Given}
use Rattle.call.specs.declared.Refusal.TheVariants.{Profile}
use Rattle.call.specs.Parts.{call_with}
use Rattle.call.specs.Answers.{report_of}
use Rattle.call.specs.Profile.{general, profile_holds, takes}
use Rattle.call.proofs.Edges.{zero}

-- the eight that the profile looks at, with a scale, a cap and one number for all that it does not
abbrev pub decode : Form → MaskKind → Option ℕ → (rank causal batches qlen klen : ℕ) → Scale → (cap : Float) → (free : ℕ) → Call
decode form mask mode rank causal batches qlen klen scale cap free = call_with form mask scale cap mode rank causal batches free free qlen klen free free free free free free free

pub record ProfileEdgesHold : Type 0 where
  -- a decode step; what the profile does not look at may be anything
  pub decode_step : profile_holds (decode Cached NoMask None 4 1 1 1 1 Absent zero 1) ≡ true
  pub anything_free : profile_holds (decode Cached NoMask None 4 1 1 1 1 (Given nan) nan 0) ≡ true
  pub large_free : profile_holds (decode Cached NoMask None 4 1 1 1 1 Absent zero 18446744073709551615) ≡ true
  -- each of the eight conditions is needed
  pub plain : profile_holds (decode Plain NoMask None 4 1 1 1 1 Absent zero 1) ≡ false
  pub counted : profile_holds (decode Counted NoMask None 4 1 1 1 1 Absent zero 1) ≡ false
  pub boolean_mask : profile_holds (decode Cached Boolean None 4 1 1 1 1 Absent zero 1) ≡ false
  pub float_mask_is : profile_holds (decode Cached FloatMask None 4 1 1 1 1 Absent zero 1) ≡ false
  pub scores_shown : profile_holds (decode Cached NoMask (Some 0) 4 1 1 1 1 Absent zero 1) ≡ false
  pub mode_255 : profile_holds (decode Cached NoMask (Some 255) 4 1 1 1 1 Absent zero 1) ≡ false
  pub rank_3 : profile_holds (decode Cached NoMask None 3 1 1 1 1 Absent zero 1) ≡ false
  pub rank_7 : profile_holds (decode Cached NoMask None 7 1 1 1 1 Absent zero 1) ≡ false
  pub not_causal : profile_holds (decode Cached NoMask None 4 0 1 1 1 Absent zero 1) ≡ false
  pub causal_2 : profile_holds (decode Cached NoMask None 4 2 1 1 1 Absent zero 1) ≡ false
  pub no_batch : profile_holds (decode Cached NoMask None 4 1 0 1 1 Absent zero 1) ≡ false
  pub two_batches : profile_holds (decode Cached NoMask None 4 1 2 1 1 Absent zero 1) ≡ false
  pub no_query : profile_holds (decode Cached NoMask None 4 1 1 0 1 Absent zero 1) ≡ false
  pub queries_3000 : profile_holds (decode Cached NoMask None 4 1 1 3000 1 Absent zero 1) ≡ false
  pub no_key : profile_holds (decode Cached NoMask None 4 1 1 1 0 Absent zero 1) ≡ false
  pub two_keys : profile_holds (decode Cached NoMask None 4 1 1 1 2 Absent zero 1) ≡ false
  -- the general entry takes any record
  pub general_takes : takes general (decode Plain Boolean (Some 9) 7 2 0 3000 0 (Given nan) nan 0) ≡ true
  -- refusal 10 has no place
  pub profile_report : report_of (Err Profile) ≡ record { number = 10; tensor = 0; index = 0; total = 0; masked = 0 }

pub profile_edges_hold : ProfileEdgesHold
unfolding profile_holds
profile_edges_hold = record {
  decode_step = refl;
  anything_free = refl;
  large_free = refl;
  plain = refl;
  counted = refl;
  boolean_mask = refl;
  float_mask_is = refl;
  scores_shown = refl;
  mode_255 = refl;
  rank_3 = refl;
  rank_7 = refl;
  not_causal = refl;
  causal_2 = refl;
  no_batch = refl;
  two_batches = refl;
  no_query = refl;
  queries_3000 = refl;
  no_key = refl;
  two_keys = refl;
  general_takes = refl;
  profile_report = refl;
}
