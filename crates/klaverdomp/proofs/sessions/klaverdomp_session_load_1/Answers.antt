-- `klaverdomp::sessions::klaverdomp_session_load_1` meets its contract: the reading, reported with the caches. Assumes nothing.
use Rattle.session_interface.proofs.Readings.{load→holds}
use Rattle.session_interface.proofs.Savings.{loaded_is}
use Rattle.klaverdomp.proofs.sessions.klaverdomp_session_load_1.Goals as goal

pub tell_reading-requires : goal.tell_reading-requires
tell_reading-requires c = load→holds _ _ _ c.load-reading.result _ _ c.load-reading.ensures

pub returns : goal.returns
returns c = loaded_is _ c.load-reading.result _ _ _ c.tell_reading.ensures c.load-reading.ensures
