-- `klaverdomp::sessions::klaverdomp_session_append_1` meets its contract: the saving of the writer that adds, reported with the buffer. Assumes nothing.
use Rattle.session_interface.proofs.Savings.{saved_is}
use Rattle.klaverdomp.proofs.sessions.klaverdomp_session_append_1.Goals as goal

pub returns : goal.returns
returns c = saved_is _ c.append-saving.result _ _ c.tell_saving.ensures c.append-saving.ensures
