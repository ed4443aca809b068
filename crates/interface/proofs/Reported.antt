-- What the exported entries give back is the report of the answer with the tensors of its outcome; and a contract over it settles every number and every tensor. Assumes nothing.
use mathlib.Core.Path.{◌≡◌, ap, ◌∙◌}
use Prim.Native.Nat.{ℕ}
use Rattle.call.specs.Answers.{Answer}
use Rattle.call.specs.Answers.{Report, report_of}
use Rattle.call.specs.Tensors.{Outputs}
use Rattle.attention.specs.Outcomes.{Outcome, outcome_of}
use Rattle.interface.specs.Returned.{Returned, returned, returned_of}

-- the report of the answer and the tensors of an outcome are what is returned
pub returned_is : (n : Report) (a : Answer) (t : Outputs) (o : Outcome) → n ≡ report_of a → outcome_of a t ≡ o → returned n.number n.tensor n.index n.total n.masked t ≡ returned_of o
returned_is n a t o p q = ap (λ (r : Report). record { report = r; tensors = t }) p ∙ ap returned_of q

-- a contract over what is returned settles each number and the tensors, so a program that exchanges two numbers, or leaves a tensor, does not meet it where they differ
pub returned_settles : (number tensor index total masked : ℕ) (t : Outputs) (o : Outcome) → returned number tensor index total masked t ≡ returned_of o → let r = report_of o.answer in (number ≡ r.number) × (tensor ≡ r.tensor) × (index ≡ r.index) × (total ≡ r.total) × (masked ≡ r.masked) × (t ≡ o.tensors)
returned_settles number tensor index total masked t o e = (
  ap (λ (r : Returned). r.report.number) e,
  ap (λ (r : Returned). r.report.tensor) e,
  ap (λ (r : Returned). r.report.index) e,
  ap (λ (r : Returned). r.report.total) e,
  ap (λ (r : Returned). r.report.masked) e,
  ap (λ (r : Returned). r.tensors) e,
)
