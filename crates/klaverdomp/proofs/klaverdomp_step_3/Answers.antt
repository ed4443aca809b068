-- `klaverdomp::klaverdomp_step_3` meets its contract: the decoded call, the outcome of the step entry, and the report of its answer. Assumes nothing.
use Rattle.interface.proofs.Reported.{returned_is}
use Rattle.klaverdomp.proofs.klaverdomp_step_3.Goals as goal

pub returns : goal.returns
returns c = returned_is _ c.step-stepped.result _ _ c.tell_answer.ensures (rw c.decode-call.ensures at c.step-stepped.ensures)
