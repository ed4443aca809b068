-- The refusals in their order, as a list of links: the first that refuses gives the answer, and a call is accepted where none does. Definitions only.
use Rattle.std.specs.Prelude.{◌≡◌, List, [], ◌∷◌, ◌++◌, ℕ, ◌<◌, Bool, true, false, Option, Some, None, Result, Ok, Err}
use Rattle.call.specs.declared.Call.{Call}
use Rattle.call.specs.declared.Refusal.{Refusal}
use Rattle.call.specs.declared.Refusal.TheVariants.{Limits, HeadGroups, Settings, MaskShape, InputLength, OutputLength, LiveCount, MaskCell, Element, Profile}
use Rattle.call.specs.Answers.{number_of}
use Rattle.call.specs.Tensors.{Inputs, Outputs}
use Rattle.call.specs.Limits.{limits_hold, groups_hold, settings_hold, mask_shape_holds}
use Rattle.call.specs.Lengths.{inputs_fit, outputs_fit}
use Rattle.call.specs.Contents.{live_fault, byte_mask_fault, float_mask_fault, tensor_fault, incoming_fault}
use Rattle.call.specs.Profile.{Entry, general, step, profile_holds}

-- what a check tells: accepted, or refused with a refusal
abbrev pub Verdict : Type 0
Verdict = Result (Unit {0}) Refusal

-- accepted where the test holds, and refused otherwise
abbrev pub unless : Bool → Refusal → Verdict
unless true r = Ok tt
unless false r = Err r

-- accepted where nothing is found, and refused for the index otherwise
abbrev pub where_found : Option ℕ → (ℕ → Refusal) → Verdict
where_found None r = Ok tt
where_found (Some i) r = Err (r i)

-- the first refusal of two
infixr 20 ◌then◌
abbrev pub ◌then◌ : Verdict → Verdict → Verdict
(Ok u) then v = v
Err r then v = Err r

-- ---- a link: a refusal with its test, or with its search and a place

pub data Link : Type 0 where
  -- given where the test fails
  test : Refusal → Bool → Link
  -- given for the first index found
  scan : (ℕ → Refusal) → Option ℕ → Link

abbrev pub verdict_by : Link → Verdict
verdict_by (test r holds) = unless holds r
verdict_by (scan r found) = where_found found r

-- the first refusal of a list
unfoldable pub first_of : List Link → Verdict
first_of [] = Ok tt
first_of (l ∷ ls) = verdict_by l then first_of ls

-- the link refuses nothing
abbrev pub Passes : Link → Type 0
Passes (test r holds) = holds ≡ true
Passes (scan r found) = found ≡ None

-- the link gives that refusal: its test fails, or its search found an index, which the refusal names
abbrev pub Gives : Link → Refusal → Type 0
Gives (test r holds) a = (holds ≡ false) × (a ≡ r)
Gives (scan r found) a = (i : ℕ) × (found ≡ Some i) × (a ≡ r i)

-- no link refuses
abbrev pub Clear : List Link → Type 0
Clear [] = Unit {0}
Clear (l ∷ ls) = Passes l × Clear ls

-- the refusal is given by a link before which none refuses
pub record GivenFirst (ls : List Link) (r : Refusal) : Type 0 where
  pub before : List Link
  pub link : Link
  pub after : List Link
  pub order : ls ≡ before ++ (link ∷ after)
  pub clear : Clear before
  pub given : Gives link r

-- ---- the links of a call

-- 1 to 4
abbrev pub record_links : Call → List Link
record_links c =
    test Limits (limits_hold c)
    ∷ test HeadGroups (groups_hold c)
    ∷ test Settings (settings_hold c)
    ∷ test MaskShape (mask_shape_holds c)
    ∷ []

-- 5 and 6
abbrev pub length_links : Call → Inputs → Outputs → List Link
length_links c x y = test InputLength (inputs_fit c x) ∷ test OutputLength (outputs_fit c y) ∷ []

-- 7 and 8
abbrev pub cell_links : Call → Inputs → List Link
cell_links c x =
    scan LiveCount (live_fault c x.live)
    ∷ scan MaskCell (byte_mask_fault x.bool_mask)
    ∷ scan MaskCell (float_mask_fault x.float_mask)
    ∷ []

-- 9
abbrev pub element_links : Call → Inputs → List Link
element_links c x =
    scan (Element 0) (tensor_fault x.query)
    ∷ scan (Element 1) (tensor_fault x.past_key)
    ∷ scan (Element 2) (incoming_fault c x.live c.size x.key)
    ∷ scan (Element 3) (tensor_fault x.past_value)
    ∷ scan (Element 4) (incoming_fault c x.live c.vsize x.value)
    ∷ []

abbrev pub general_links : Call → Inputs → Outputs → List Link
general_links c x y = record_links c ++ (length_links c x y ++ (cell_links c x ++ element_links c x))

-- those of an entry: 10 comes first
abbrev pub links_of : Entry → Call → Inputs → Outputs → List Link
links_of general c x y = general_links c x y
links_of step c x y = test Profile (profile_holds c) ∷ general_links c x y

-- ---- the verdicts of the code's functions

unfoldable pub record_verdict : Call → Verdict
unfolding first_of limits_hold groups_hold settings_hold mask_shape_holds
record_verdict c = first_of (record_links c)

unfoldable pub lengths_verdict : Call → Inputs → Outputs → Verdict
unfolding first_of inputs_fit outputs_fit
lengths_verdict c x y = first_of (length_links c x y)

unfoldable pub cells_verdict : Call → Inputs → Verdict
unfolding first_of live_fault byte_mask_fault float_mask_fault
cells_verdict c x = first_of (cell_links c x)

unfoldable pub elements_verdict : Call → Inputs → Verdict
unfolding first_of tensor_fault incoming_fault
elements_verdict c x = first_of (element_links c x)

-- all nine
unfoldable pub verdict_of : Call → Inputs → Outputs → Verdict
unfolding record_verdict lengths_verdict cells_verdict elements_verdict
verdict_of c x y = record_verdict c then lengths_verdict c x y then cells_verdict c x then elements_verdict c x

-- the number of a link's refusals
abbrev pub link_number : Link → ℕ
link_number (test r holds) = number_of r
link_number (scan r found) = number_of (r 0)

-- no link with a number below n refuses
abbrev pub PassesBelow : ℕ → List Link → Type 0
PassesBelow n [] = Unit {0}
PassesBelow n (l ∷ ls) = (link_number l < n → Passes l) × PassesBelow n ls
