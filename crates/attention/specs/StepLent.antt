-- The lent tensors of the step entry as an `ensures` names them: those that are read, and those that are written, as they came in and as they go out. Definitions only.
use Rattle.std.specs.Prelude.{Float}
use Rattle.call.specs.Tensors.{Inputs, Outputs}
use Rattle.call.specs.Lent.{Lent, LentMut}
use Rattle.attention.specs.Entries.{step_inputs, step_outputs}

abbrev pub step_given : (query key value past_key past_value : Lent Float) → Inputs
step_given query key value past_key past_value = step_inputs query.entry.now key.entry.now value.entry.now past_key.entry.now past_value.entry.now

abbrev pub step_before : (output present_key present_value work : LentMut Float) → Outputs
step_before output present_key present_value work = step_outputs output.entry.now present_key.entry.now present_value.entry.now work.entry.now

abbrev pub step_after : (output present_key present_value work : LentMut Float) → Outputs
step_after output present_key present_value work = step_outputs output.exit.now present_key.exit.now present_value.exit.now work.exit.now
