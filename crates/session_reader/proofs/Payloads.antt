-- The payload of a position as a part of the file: its elements at fault are those of the file from there on. Assumes nothing.
use mathlib.Core.Path.{◌≡◌, ap, ◌∙◌}
use mathlib.Core.List.{List}
use Prim.Native.Nat.{ℕ, ◌+◌, ◌*◌, ◌/◌, ◌≤◌}
use native.Mathlib.Omega.{arith}
use lib.ListN.{length, take, drop}
use Rattle.bool_laws.specs.Counts.{count_where}
use Rattle.bool_laws.proofs.Counts.{count_agree}
use Rattle.tensor_laws.proofs.Parts.{length_part}
use Rattle.call.specs.Contents.{element_fault}
use Rattle.records.specs.Numbers.{f32_at}
use Rattle.records.proofs.Places.{f32_at_take, f32_at_drop}
use Rattle.session_file.specs.Reader.{payload_fault}

module _ (from k n : ℕ) (file : List ℕ) (inside : from + k ≤ length file) (long : k ≡ n * 4) where
  place : (i : ℕ) → from + (0 + i * 4) ≡ from + i * 4
  place i = omega arith

  pub part_number : count_where (length (take k (drop from file)) / 4) (payload_fault (take k (drop from file)) 0) ≡ count_where n (payload_fault file from)
  part_number =
      let m : length (take k (drop from file)) / 4 ≡ n = omega (arith, length_part from k file inside) in
      ap (λ (i : ℕ). count_where i (payload_fault (take k (drop from file)) 0)) m
      ∙ count_agree n (payload_fault (take k (drop from file)) 0) (payload_fault file from)
      (λ i l. ap element_fault (f32_at_take k (0 + i * 4) (drop from file) (omega arith) ∙ f32_at_drop from (0 + i * 4) file ∙ ap (f32_at file) (place i)))
