-- What the check is lent of the tensors that are written: their lengths. Definitions only.
use Rattle.std.specs.Prelude.{◌≡◌, ℕ, length}
use Rattle.call.specs.Tensors.{Outputs}

-- the tensors that are written have those lengths
pub record WrittenLengths (y : Outputs) (output present_key present_value scores work : ℕ) : Type 0 where
  pub output_length_is : length y.output ≡ output
  pub present_key_length : length y.present_key ≡ present_key
  pub present_value_length : length y.present_value ≡ present_value
  pub scores_length_is : length y.scores ≡ scores
  pub work_length : length y.work ≡ work
