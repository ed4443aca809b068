-- There are tensors of any lengths. Assumes nothing.
use Prim.Native.Nat.{ℕ}
use lib.ListN.{replicate, length-replicate}
use lib.Ieee.{nan}
use Rattle.call.specs.Tensors.{Outputs}
use Rattle.shapes.specs.Lent.{WrittenLengths}

module _ (output present_key present_value scores work : ℕ) where
  unfoldable pub written : Outputs
  written = record {
    output = replicate output nan;
    present_key = replicate present_key nan;
    present_value = replicate present_value nan;
    scores = replicate scores nan;
    work = replicate work nan;
  }

  pub written_lengths : WrittenLengths written output present_key present_value scores work
  unfolding written
  written_lengths = record {
    output_length_is = length-replicate output nan;
    present_key_length = length-replicate present_key nan;
    present_value_length = length-replicate present_value nan;
    scores_length_is = length-replicate scores nan;
    work_length = length-replicate work nan;
  }
