-- What the exported functions give back: numbers behind references, with the tensors of a call or with one value. Definitions only.
use Rattle.std.specs.Prelude.{ℕ, Float, Option, Some, None}
use Rattle.call.specs.Answers.{Report, report_of}
use Rattle.call.specs.Tensors.{Outputs}
use Rattle.call.specs.Lent.{LentNumber}
use Rattle.attention.specs.Outcomes.{Outcome}
use Rattle.exponential.specs.ExpNeg.{plus_zero}

-- ---- a call

-- the report of the answer, and the tensors as they go out
pub record Returned : Type 0 where
  pub report : Report
  pub tensors : Outputs

abbrev pub reported : (number tensor index total masked : ℕ) → Report
reported number tensor index total masked = record { number = number; tensor = tensor; index = index; total = total; masked = masked }

abbrev pub returned : (number tensor index total masked : ℕ) → Outputs → Returned
returned number tensor index total masked tensors = record { report = reported number tensor index total masked; tensors = tensors }

-- the same, as an `ensures` names the numbers behind references
abbrev pub reported_by : ℕ → (tensor index total masked : LentNumber) → Report
reported_by number tensor index total masked = reported number tensor.exit.now index.exit.now total.exit.now masked.exit.now

abbrev pub returned_by : ℕ → (tensor index total masked : LentNumber) → Outputs → Returned
returned_by number tensor index total masked tensors = returned number tensor.exit.now index.exit.now total.exit.now masked.exit.now tensors

abbrev pub returned_of : Outcome → Returned
returned_of o = record { report = report_of o.answer; tensors = o.tensors }

-- ---- one value

-- 1 and the value, or 0 and +0 where there is none
pub record Told : Type 0 where
  pub valued : ℕ
  pub value : Float

abbrev pub told : ℕ → Float → Told
told valued value = record { valued = valued; value = value }

abbrev pub value_told : Option Float → Told
value_told (Some x) = told 1 x
value_told None = told 0 plus_zero

-- of E, of the power table and of the default scale
abbrev pub exponential_told : Option Float → Told
exponential_told value = value_told value

abbrev pub power_told : Option Float → Told
power_told entry = value_told entry

abbrev pub scale_told : Option Float → Told
scale_told scale = value_told scale
