-- What the exported functions of saved sessions give back: numbers behind references, with the lent caches or the buffer. Definitions only.
use Rattle.std.specs.Prelude.{List, ℕ, Float}
use Rattle.call.specs.Lent.{LentMut, LentNumber}
use Rattle.session_file.specs.declared.Sizes.{Sizes}
use Rattle.session_file.specs.Reader.{Loaded}
use Rattle.session_file.specs.Writer.{Written}
use Rattle.session_file.specs.Numbers.{ReadingReport, reading_report, SavingReport, saving_report}

abbrev pub sizes_of : (batches kvheads size vsize : ℕ) → Sizes
sizes_of batches kvheads size vsize = record { batches = batches; kvheads = kvheads; size = size; vsize = vsize }

-- ---- a reading

abbrev pub reading_of : (number batches kvheads size vsize positions used place : ℕ) → ReadingReport
reading_of number batches kvheads size vsize positions used place = record {
  number = number;
  batches = batches;
  kvheads = kvheads;
  size = size;
  vsize = vsize;
  positions = positions;
  used = used;
  place = place;
}

-- the same, as an `ensures` names the numbers behind references
abbrev pub reading_by : ℕ → (batches kvheads size vsize positions used place : LentNumber) → ReadingReport
reading_by number batches kvheads size vsize positions used place =
    reading_of number batches.exit.now kvheads.exit.now size.exit.now vsize.exit.now positions.exit.now used.exit.now place.exit.now

pub record LoadedReport : Type 0 where
  pub report : ReadingReport
  pub keys : List Float
  pub values : List Float

abbrev pub loaded_with : ReadingReport → (keys values : List Float) → LoadedReport
loaded_with report keys values = record { report = report; keys = keys; values = values }

abbrev pub loaded_report : Loaded → LoadedReport
loaded_report l = loaded_with (reading_report l.reading) l.keys l.values

-- ---- a saving

pub record SavedReport : Type 0 where
  pub report : SavingReport
  pub buffer : List ℕ

abbrev pub saving_of : (number positions used place : ℕ) → SavingReport
saving_of number positions used place = record { number = number; positions = positions; used = used; place = place }

abbrev pub saved_with : (number positions used place : ℕ) → List ℕ → SavedReport
saved_with number positions used place buffer = record { report = saving_of number positions used place; buffer = buffer }

-- the same, as an `ensures` names the numbers behind references and the lent buffer
abbrev pub saving_by : ℕ → (positions used place : LentNumber) → SavingReport
saving_by number positions used place = saving_of number positions.exit.now used.exit.now place.exit.now

abbrev pub saved_by : ℕ → (positions used place : LentNumber) → (buffer : LentMut ℕ) → SavedReport
saved_by number positions used place buffer = saved_with number positions.exit.now used.exit.now place.exit.now buffer.exit.now

abbrev pub saved_report : Written → SavedReport
saved_report w = record { report = saving_report w.answer; buffer = w.buffer }
