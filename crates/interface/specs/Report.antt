-- The numbers that an answer is given back as, as a report. Definitions only.
use Rattle.call.specs.Answers.{Report}
use Rattle.interface.specs.declared.Numbers.{Numbers}

abbrev pub report_in : Numbers → Report
report_in n = record { number = n.number; tensor = n.tensor; index = n.index; total = n.total; masked = n.masked }
