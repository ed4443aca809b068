-- `session_positions::write_pair` meets its contract. Assumes nothing.
use mathlib.Core.Path.{◌≡◌, ap, ◌∙◌}
use Prim.Native.Nat.{◌*◌, ◌≤◌}
use native.Mathlib.Omega.{arith}
use lib.ListN.{length, take}
use lib.Seq.{length-take-le}
use Rattle.tensor_laws.proofs.Tails.{length_second}
use Rattle.records.proofs.Numbers.{length_row_bytes}
use Rattle.session_writer.proofs.Rows.{row_numbers}
use Rattle.session_positions.proofs.write_pair.Goals as goal
use Rattle.session_positions.proofs.write_pair.Goals.{Start}

-- the first part has the length of the key's bytes
first_long : (c : Start) → length (take (length c.args.key.now * 4) c.args.bytes.now) ≡ length c.args.key.now * 4
first_long c = length-take-le (length c.args.key.now * 4) c.args.bytes.now (omega (arith, c.requires.bytes_len))

pub write_row-requires : goal.write_row-requires
write_row-requires c =
    record {
      bytes_len = first_long (goal.at.write_row-requires c).Start;
      by_index = row_numbers c.args.key.now c.requires.key_value.0;
    }

pub write_row-requires-2 : goal.write_row-requires-2
write_row-requires-2 c =
    let cut = length c.args.key.now * 4 in
    let l : cut ≤ length c.args.bytes.now = omega (arith, c.requires.bytes_len) in
    let e : length c.write_row.new.bytes ≡ cut = ap length c.write_row.ensures ∙ length_row_bytes c.args.key.now in
    record {
      bytes_len = length_second cut c.args.bytes.now c.write_row.new.bytes e l ∙ omega (arith, c.requires.bytes_len);
      by_index = row_numbers c.args.value.now c.requires.key_value.1;
    }
