-- What is reported of a reading and of a saving. Definitions only.
use Rattle.std.specs.Prelude.{ℕ, Ok, Err}
use Rattle.call.specs.Answers.{number_of, place_of}
use Rattle.session_file.specs.Reader.{Reading}
use Rattle.session_file.specs.Writer.{Saving}
use Rattle.session_file.specs.Sizes.{record_start}

-- a file of those sizes and positions, and the byte at which its last whole record ends; or a refusal with its place
pub record ReadingReport : Type 0 where
  pub number : ℕ
  pub batches : ℕ
  pub kvheads : ℕ
  pub size : ℕ
  pub vsize : ℕ
  pub positions : ℕ
  pub used : ℕ
  pub place : ℕ

abbrev pub reading_report : Reading → ReadingReport
reading_report (Ok s) = record {
  number = 0;
  batches = s.sizes.batches;
  kvheads = s.sizes.kvheads;
  size = s.sizes.size;
  vsize = s.sizes.vsize;
  positions = s.positions;
  used = record_start s.sizes s.positions;
  place = 0;
}
reading_report (Err r) = record { number = number_of r; batches = 0; kvheads = 0; size = 0; vsize = 0; positions = 0; used = 0; place = place_of r }

pub record SavingReport : Type 0 where
  pub number : ℕ
  pub positions : ℕ
  pub used : ℕ
  pub place : ℕ

abbrev pub saving_report : Saving → SavingReport
saving_report (Ok s) = record { number = 0; positions = s.positions; used = s.used; place = 0 }
saving_report (Err r) = record { number = number_of r; positions = 0; used = 0; place = place_of r }
