-- The numbers that a reading and a saving are given back as, as reports; and what is known of a reading. Definitions only.
use Rattle.std.specs.Prelude.{◌≡◌, true, ◌≤◌, Ok, Err}
use Rattle.session_file.specs.Reader.{Reading}
use Rattle.session_file.specs.Sizes.{sizes_hold, most_positions}
use Rattle.session_file.specs.Numbers.{ReadingReport, SavingReport}
use Rattle.session_interface.specs.declared.ReadingNumbers.{ReadingNumbers}
use Rattle.session_interface.specs.declared.SavingNumbers.{SavingNumbers}

-- the sizes are within their limits, and so is the number of positions
abbrev pub ReadingHolds : Reading → Type 0
ReadingHolds (Ok s) = (sizes_hold s.sizes ≡ true) × (s.positions ≤ most_positions)
ReadingHolds (Err r) = Unit {0}

abbrev pub reading_in : ReadingNumbers → ReadingReport
reading_in n = record {
  number = n.number;
  batches = n.batches;
  kvheads = n.kvheads;
  size = n.size;
  vsize = n.vsize;
  positions = n.positions;
  used = n.used;
  place = n.place;
}

abbrev pub saving_in : SavingNumbers → SavingReport
saving_in n = record { number = n.number; positions = n.positions; used = n.used; place = n.place }
