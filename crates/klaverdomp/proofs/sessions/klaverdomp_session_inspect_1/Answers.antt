-- `klaverdomp::sessions::klaverdomp_session_inspect_1` meets its contract: the reading, reported. Assumes nothing.
use mathlib.Core.Path.{ap, ◌∙◌}
use Rattle.session_file.specs.Numbers.{reading_report}
use Rattle.session_interface.proofs.Readings.{read→holds}
use Rattle.klaverdomp.proofs.sessions.klaverdomp_session_inspect_1.Goals as goal

pub tell_reading-requires : goal.tell_reading-requires
tell_reading-requires c = read→holds c.args.file.now c.inspect-reading.result c.inspect-reading.ensures

pub returns : goal.returns
returns c = c.tell_reading.ensures ∙ ap reading_report c.inspect-reading.ensures
