-- What a call leaves. Refused, it answers its refusal, and every tensor lent for writing goes out as it came in. Accepted, it answers done, T and the number of fully masked rows, its output cells are the formula's, and its presents are the keys and the values. Assumes nothing.
use Rattle.std.specs.Prelude.{Ok, Err}
use mathlib.Core.Path.{◌≡◌, refl, ap, ◌∙◌}
use Prim.Native.Nat.{ℕ, ◌<◌}
use lib.Ieee.{Float, nan}
use Rattle.tensor_laws.specs.Layout.{tensor_of}
use Rattle.tensor_laws.proofs.Cells.{get_or_tensor_of, tensor_of_ext}
use Rattle.call.specs.declared.Call.{Call}
use Rattle.call.specs.declared.Form.{Form}
use Rattle.call.specs.declared.Form.TheVariants.{Cached}
use Rattle.call.specs.declared.Refusal.{Refusal}
use Rattle.call.specs.Refusals.{Verdict}
use Rattle.call.specs.Limits.{total_of}
use Rattle.call.specs.Tensors.{Inputs, Outputs}
use Rattle.call.specs.Refusals.{verdict_of}
use Rattle.attention.specs.Elements.{cell_at, key_at, value_at}
use Rattle.attention.specs.Formula.{attention_output}
use Rattle.attention.specs.Outcomes.{where_cached, output_tensor, present_key_tensor, present_value_tensor, masked_rows_of, accepted_of, outcome_where, attention_of}
use Rattle.call.specs.Answers.{done_of}

-- ---- by the verdict

-- a refused call answers its refusal, and every tensor lent for writing goes out as it came in
pub refused_outcome : (c : Call) (x : Inputs) (y : Outputs) (r : Refusal) → verdict_of c x y ≡ Err r → attention_of c x y ≡ record { answer = Err r; tensors = y }
unfolding attention_of outcome_where
refused_outcome c x y r e = ap (λ (v : Verdict). outcome_where v c x y) e

-- the outcome of an accepted call looks at the tensors that are read alone
pub accepted_outcome : (c : Call) (x : Inputs) (y : Outputs) → verdict_of c x y ≡ Ok tt → attention_of c x y ≡ accepted_of c x
unfolding attention_of outcome_where
accepted_outcome c x y e = ap (λ (v : Verdict). outcome_where v c x y) e

-- ---- of an accepted call

module _ (c : Call) (x : Inputs) where
  -- it answers done, T and the number of fully masked rows
  pub accepted_answer : (accepted_of c x).answer ≡ done_of (total_of c) (masked_rows_of c x)
  unfolding accepted_of
  accepted_answer = refl

  -- a cell of its output is the formula's
  pub accepted_output : (b h i k : ℕ) → b < c.batches → h < c.qheads → i < c.qlen → k < c.vsize
      → cell_at (accepted_of c x).tensors.output c.rank c.qheads c.qlen c.vsize b h i k ≡ attention_output c x b h i k
  unfolding accepted_of output_tensor
  accepted_output b h i k = get_or_tensor_of c.rank c.batches c.qheads c.qlen c.vsize (attention_output c x) b h i k nan

  -- in the cached form its presents are the tensors of any cells that are its keys and its values
  pub accepted_present_key : c.form ≡ Cached → (cell : (b g j k : ℕ) → Float)
      → ((b g j k : ℕ) → b < c.batches → g < c.kvheads → j < total_of c → k < c.size → key_at c x b g j k ≡ cell b g j k)
      → (accepted_of c x).tensors.present_key ≡ tensor_of 4 c.batches c.kvheads (total_of c) c.size cell
  unfolding accepted_of present_key_tensor
  accepted_present_key cached cell same =
      ap (λ (m : Form). where_cached m (tensor_of 4 c.batches c.kvheads (total_of c) c.size (key_at c x))) cached
      ∙ tensor_of_ext 4 c.batches c.kvheads (total_of c) c.size (key_at c x) cell same

  pub accepted_present_value : c.form ≡ Cached → (cell : (b g j k : ℕ) → Float)
      → ((b g j k : ℕ) → b < c.batches → g < c.kvheads → j < total_of c → k < c.vsize → value_at c x b g j k ≡ cell b g j k)
      → (accepted_of c x).tensors.present_value ≡ tensor_of 4 c.batches c.kvheads (total_of c) c.vsize cell
  unfolding accepted_of present_value_tensor
  accepted_present_value cached cell same =
      ap (λ (m : Form). where_cached m (tensor_of 4 c.batches c.kvheads (total_of c) c.vsize (value_at c x))) cached
      ∙ tensor_of_ext 4 c.batches c.kvheads (total_of c) c.vsize (value_at c x) cell same
