-- The refusals as numbers, and what an answer reports: the number of the refusal (0 for done), the tensor and the index of the fault, and the total length and the number of fully masked rows (blind rows) of a call that is done.
-- Definitions only.
use Rattle.std.specs.Prelude.{ℕ, Result, Ok, Err}
use Rattle.call.specs.declared.Refusal.{Refusal}
use Rattle.call.specs.declared.Refusal.TheVariants.{Limits, HeadGroups, Settings, MaskShape, InputLength, OutputLength, LiveCount, MaskCell, Element, Position, Profile, Record, Room}
use Rattle.call.specs.declared.Done.{Done}

abbrev pub number_of : Refusal → ℕ
number_of Limits = 1
number_of HeadGroups = 2
number_of Settings = 3
number_of MaskShape = 4
number_of InputLength = 5
number_of OutputLength = 6
number_of (LiveCount i) = 7
number_of (MaskCell i) = 8
number_of (Element t i) = 9
number_of (Position p) = 9
number_of Profile = 10
number_of (Record b) = 11
number_of Room = 16

-- the tensor that the index is one of: of a call's 9 alone
abbrev pub fault_tensor_of : Refusal → ℕ
fault_tensor_of Limits = 0
fault_tensor_of HeadGroups = 0
fault_tensor_of Settings = 0
fault_tensor_of MaskShape = 0
fault_tensor_of InputLength = 0
fault_tensor_of OutputLength = 0
fault_tensor_of (LiveCount i) = 0
fault_tensor_of (MaskCell i) = 0
fault_tensor_of (Element t i) = t
fault_tensor_of (Position p) = 0
fault_tensor_of Profile = 0
fault_tensor_of (Record b) = 0
fault_tensor_of Room = 0

-- the index at fault, or of a file the position or the byte; 0 where there is no place
abbrev pub place_of : Refusal → ℕ
place_of Limits = 0
place_of HeadGroups = 0
place_of Settings = 0
place_of MaskShape = 0
place_of InputLength = 0
place_of OutputLength = 0
place_of (LiveCount i) = i
place_of (MaskCell i) = i
place_of (Element t i) = i
place_of (Position p) = p
place_of Profile = 0
place_of (Record b) = b
place_of Room = 0

-- ---- an answer

-- done, or the refusal
abbrev pub Answer : Type 0
Answer = Result Done Refusal

abbrev pub done_of : (total masked : ℕ) → Answer
done_of total masked = Ok (record { total = total; masked = masked })

pub record Report : Type 0 where
  pub number : ℕ
  pub tensor : ℕ
  pub index : ℕ
  pub total : ℕ
  pub masked : ℕ

abbrev pub report_of : Answer → Report
report_of (Ok d) = record { number = 0; tensor = 0; index = 0; total = d.total; masked = d.masked }
report_of (Err r) = record { number = number_of r; tensor = fault_tensor_of r; index = place_of r; total = 0; masked = 0 }
