-- The verdicts of the worked examples K, L and M at the edges of the refusals, of other calls at the edges, and of calls to which two refusals apply, by computation. Assumes nothing.
use Rattle.std.specs.Prelude.{Option, Some, None, Ok, Err}
use mathlib.Core.Path.{◌≡◌, refl}
use mathlib.Core.List.{List, [], ◌∷◌}
use Prim.Native.Nat.{ℕ}
use mathlib.Core.Bool.{false, true}
use lib.IntN.{ℤ, pos, negsuc}
use lib.Ieee.{Float, nan, inf, fin}
use Rattle.call.specs.declared.Call.{Call}
use Rattle.call.specs.declared.Form.{Form}
use Rattle.call.specs.declared.Form.TheVariants.{Plain, Cached, Counted}
use Rattle.call.specs.declared.MaskKind.{MaskKind}
use Rattle.call.specs.declared.MaskKind.TheVariants.{NoMask, Boolean, FloatMask}
use Rattle.call.specs.declared.Scale.{Scale}
use Rattle.call.specs.declared.Scale.TheVariants.{Absent, Given}
use Rattle.call.specs.declared.Refusal.TheVariants.{Limits, HeadGroups, Settings, MaskShape, InputLength, OutputLength, LiveCount, MaskCell, Element, Position, Record, Room}
use Rattle.call.specs.Parts.{call_with}
use Rattle.call.specs.Answers.{report_of, done_of}
use Rattle.call.specs.Tensors.{Inputs, Outputs}
use Rattle.call.specs.Refusals.{verdict_of}

abbrev pub zero : Float
zero = fin false 0 (pos 0)

abbrev pub one : Float
one = fin false 1 (pos 0)

-- one batch, D = Dv = 1, rank 4, no mask, one query
abbrev pub call : Form → Scale → (qheads kvheads klen : ℕ) → Call
call form scale qheads kvheads klen = call_with form NoMask scale zero None 4 0 1 qheads kvheads 1 klen 0 1 1 0 0 0 0

-- one head, one key and no mask: the form and P
abbrev pub with_past : Form → ℕ → Call
with_past form past = call_with form NoMask Absent zero None 4 0 1 1 1 1 1 past 1 1 0 0 0 0

-- one head, two keys: the mask's kind, and its dimensions (1, 1, 1, maskk)
abbrev pub masked : MaskKind → ℕ → Call
masked kind maskk = call_with Plain kind Absent zero None 4 0 1 1 1 1 2 0 1 1 1 1 1 maskk

-- one head, one key and no mask: the mode, the rank and the causal flag
abbrev pub setting : Option ℕ → (rank causal : ℕ) → Call
setting mode rank causal = call_with Plain NoMask Absent zero mode rank causal 1 1 1 1 1 0 1 1 0 0 0 0

abbrev pub lending : List Float → List Float → List Float → List ℤ → Inputs
lending query key value live = record { query = query; key = key; value = value; bool_mask = []; float_mask = []; past_key = []; past_value = []; live = live }

-- one past position and one that comes in
abbrev pub lending_past : (past_key past_value key value : Float) → Inputs
lending_past past_key past_value key value = record { query = one ∷ []; key = key ∷ []; value = value ∷ []; bool_mask = []; float_mask = []; past_key = past_key ∷ []; past_value = past_value ∷ []; live = [] }

-- a query that is NaN and two keys, with either mask
abbrev pub lending_mask : List ℕ → List Float → Inputs
lending_mask bytes cells = record { query = nan ∷ []; key = one ∷ one ∷ []; value = one ∷ one ∷ []; bool_mask = bytes; float_mask = cells; past_key = []; past_value = []; live = [] }

abbrev pub writing : List Float → List Float → Outputs
writing output work = record { output = output; present_key = []; present_value = []; scores = []; work = work }

abbrev pub lent : Outputs
lent = writing (one ∷ []) (one ∷ one ∷ [])

abbrev pub lent_past : Outputs
lent_past = record { output = one ∷ []; present_key = one ∷ one ∷ []; present_value = one ∷ one ∷ []; scores = []; work = one ∷ one ∷ [] }

pub record EdgesHold : Type 0 where
  -- K: 65,536 is accepted, the next f32 is refused 9, and a NaN key in a padded position is accepted
  pub largest : verdict_of (call Plain Absent 1 1 1) (lending (fin true 1 (pos 16) ∷ []) (fin false 1 (pos 16) ∷ []) (one ∷ []) []) (writing (one ∷ []) (one ∷ [])) ≡ Ok tt
  pub too_large : verdict_of (call Plain Absent 1 1 1) (lending (one ∷ []) (one ∷ []) (fin false 8388609 (negsuc 6) ∷ []) []) (writing (one ∷ []) (one ∷ [])) ≡ Err (Element 4 0)
  pub padded : verdict_of (call Counted Absent 1 1 2) (lending (one ∷ []) (one ∷ nan ∷ []) (one ∷ nan ∷ []) (pos 1 ∷ [])) lent ≡ Ok tt
  pub live : verdict_of (call Counted Absent 1 1 2) (lending (one ∷ []) (one ∷ nan ∷ []) (one ∷ nan ∷ []) (pos 2 ∷ [])) lent ≡ Err (Element 2 1)
  -- L: T 2,049 with Hq 4 and Hkv 3 is refusal 1; with T 2,048 it is refusal 2
  pub too_long : verdict_of (call Plain Absent 4 3 2049) (lending [] [] [] []) lent ≡ Err Limits
  pub long : verdict_of (call Plain Absent 4 3 2048) (lending [] [] [] []) lent ≡ Err HeadGroups
  -- M: a live count of 0 is accepted; T + 1 and a negative one are refusal 7
  pub none_live : verdict_of (call Counted Absent 1 1 2) (lending (one ∷ []) (nan ∷ nan ∷ []) (nan ∷ nan ∷ []) (pos 0 ∷ [])) lent ≡ Ok tt
  pub too_many : verdict_of (call Counted Absent 1 1 2) (lending (one ∷ []) (one ∷ one ∷ []) (one ∷ one ∷ []) (pos 3 ∷ [])) lent ≡ Err (LiveCount 0)
  pub negative : verdict_of (call Counted Absent 1 1 2) (lending (one ∷ []) (one ∷ one ∷ []) (one ∷ one ∷ []) (negsuc 0 ∷ [])) lent ≡ Err (LiveCount 0)
  -- a scale of -0 is refusal 3, before the lengths; a wrong K is refusal 5, before the work row's 6
  pub no_scale : verdict_of (call Plain (Given (fin true 0 (pos 0))) 1 1 1) (lending [] [] [] []) lent ≡ Err Settings
  pub input_first : verdict_of (call Plain Absent 1 1 1) (lending (one ∷ []) [] (one ∷ []) []) lent ≡ Err InputLength
  pub output_last : verdict_of (call Plain Absent 1 1 1) (lending (nan ∷ []) (one ∷ []) (one ∷ []) []) lent ≡ Err OutputLength
  -- a shorter work row is refusal 6 too; a mask that the call does not use is refusal 5
  pub short_work : verdict_of (call Plain Absent 1 1 2) (lending (one ∷ []) (one ∷ one ∷ []) (one ∷ one ∷ []) []) (writing (one ∷ []) (one ∷ [])) ≡ Err OutputLength
  pub unused_mask : verdict_of (masked NoMask 2) (lending_mask [] (one ∷ one ∷ [])) lent ≡ Err InputLength
  -- a past outside the cached form is refusal 1, and so is a past with which T is 2,049
  pub past_in_plain : verdict_of (with_past Plain 1) (lending_past one one one one) lent_past ≡ Err Limits
  pub past_in_counted : verdict_of (with_past Counted 1) (lending_past one one one one) lent_past ≡ Err Limits
  pub past_in_cached : verdict_of (with_past Cached 1) (lending_past one one one one) lent_past ≡ Ok tt
  pub past_too_long : verdict_of (with_past Cached 2048) (lending_past one one one one) lent_past ≡ Err Limits
  -- a rank of 5, a causal flag of 2 and a mode of 4 are refusal 3
  pub rank_five : verdict_of (setting None 5 0) (lending [] [] [] []) lent ≡ Err Settings
  pub causal_two : verdict_of (setting None 4 2) (lending [] [] [] []) lent ≡ Err Settings
  pub mode_four : verdict_of (setting (Some 4) 4 0) (lending [] [] [] []) lent ≡ Err Settings
  -- a scale of 1,024 is accepted, and the next f32 is refusal 3
  pub scale_largest : verdict_of (call Plain (Given (fin false 1 (pos 10))) 1 1 1) (lending (one ∷ []) (one ∷ []) (one ∷ []) []) (writing (one ∷ []) (one ∷ [])) ≡ Ok tt
  pub scale_too_large : verdict_of (call Plain (Given (fin false 8388609 (negsuc 12))) 1 1 1) (lending (one ∷ []) (one ∷ []) (one ∷ []) []) (writing (one ∷ []) (one ∷ [])) ≡ Err Settings
  -- a mask dimension of 3 where T is 2 is refusal 4; without a mask the dimensions may be anything
  pub mask_too_wide : verdict_of (masked Boolean 3) (lending_mask (1 ∷ 1 ∷ 1 ∷ []) []) lent ≡ Err MaskShape
  pub no_mask_any_shape : verdict_of (masked NoMask 3) (lending (one ∷ []) (one ∷ one ∷ []) (one ∷ one ∷ []) []) lent ≡ Ok tt
  -- a mask byte of 2, and a cell that is plus infinity or NaN, are refusal 8, before the query's 9; minus infinity is none
  pub byte_two : verdict_of (masked Boolean 2) (lending_mask (1 ∷ 2 ∷ []) []) lent ≡ Err (MaskCell 1)
  pub bytes_right : verdict_of (masked Boolean 2) (lending_mask (1 ∷ 0 ∷ []) []) lent ≡ Err (Element 0 0)
  pub cell_plus_infinity : verdict_of (masked FloatMask 2) (lending_mask [] (inf true ∷ inf false ∷ [])) lent ≡ Err (MaskCell 1)
  pub cell_nan : verdict_of (masked FloatMask 2) (lending_mask [] (nan ∷ nan ∷ [])) lent ≡ Err (MaskCell 0)
  pub cells_right : verdict_of (masked FloatMask 2) (lending_mask [] (inf true ∷ one ∷ [])) lent ≡ Err (Element 0 0)
  -- the first element at fault of the first tensor at fault: Q, past key, K, past value, V
  pub two_faults : verdict_of (call Plain Absent 1 1 2) (lending (one ∷ []) (nan ∷ nan ∷ []) (one ∷ one ∷ []) []) lent ≡ Err (Element 2 0)
  pub query_first : verdict_of (call Plain Absent 1 1 2) (lending (nan ∷ []) (nan ∷ nan ∷ []) (nan ∷ nan ∷ []) []) lent ≡ Err (Element 0 0)
  pub past_key_next : verdict_of (with_past Cached 1) (lending_past nan nan nan nan) lent_past ≡ Err (Element 1 0)
  pub key_next : verdict_of (with_past Cached 1) (lending_past one nan nan nan) lent_past ≡ Err (Element 2 0)
  pub past_value_next : verdict_of (with_past Cached 1) (lending_past one nan one nan) lent_past ≡ Err (Element 3 0)
  pub value_last : verdict_of (with_past Cached 1) (lending_past one one one nan) lent_past ≡ Err (Element 4 0)
  -- what an answer reports
  pub done_report : report_of (done_of 5 2) ≡ record { number = 0; tensor = 0; index = 0; total = 5; masked = 2 }
  pub live_report : report_of (Err (LiveCount 6)) ≡ record { number = 7; tensor = 0; index = 6; total = 0; masked = 0 }
  pub cell_report : report_of (Err (MaskCell 6)) ≡ record { number = 8; tensor = 0; index = 6; total = 0; masked = 0 }
  pub element_report : report_of (Err (Element 3 6)) ≡ record { number = 9; tensor = 3; index = 6; total = 0; masked = 0 }
  -- and of a file
  pub position_report : report_of (Err (Position 6)) ≡ record { number = 9; tensor = 0; index = 6; total = 0; masked = 0 }
  pub record_report : report_of (Err (Record 6)) ≡ record { number = 11; tensor = 0; index = 6; total = 0; masked = 0 }
  pub room_report : report_of (Err Room) ≡ record { number = 16; tensor = 0; index = 0; total = 0; masked = 0 }

pub edges_hold : EdgesHold
unfolding verdict_of
edges_hold = record {
  largest = refl;
  too_large = refl;
  padded = refl;
  live = refl;
  too_long = refl;
  long = refl;
  none_live = refl;
  too_many = refl;
  negative = refl;
  no_scale = refl;
  input_first = refl;
  output_last = refl;
  short_work = refl;
  unused_mask = refl;
  past_in_plain = refl;
  past_in_counted = refl;
  past_in_cached = refl;
  past_too_long = refl;
  rank_five = refl;
  causal_two = refl;
  mode_four = refl;
  scale_largest = refl;
  scale_too_large = refl;
  mask_too_wide = refl;
  no_mask_any_shape = refl;
  byte_two = refl;
  bytes_right = refl;
  cell_plus_infinity = refl;
  cell_nan = refl;
  cells_right = refl;
  two_faults = refl;
  query_first = refl;
  past_key_next = refl;
  key_next = refl;
  past_value_next = refl;
  value_last = refl;
  done_report = refl;
  live_report = refl;
  cell_report = refl;
  element_report = refl;
  position_report = refl;
  record_report = refl;
  room_report = refl;
}
