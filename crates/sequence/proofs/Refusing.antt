-- An answer that is not done leaves the state. Assumes nothing.
use Rattle.std.specs.Prelude.{Ok, Err}
use mathlib.Core.Path.{◌≡◌, refl}
use mathlib.Core.Bool.{false, true≢false}
use Rattle.call.specs.Answers.{Answer}
use Rattle.call.specs.Tensors.{Outputs}
use Rattle.sequence.specs.Chunks.{State, next_state, is_done}

pub state_stays : (a : Answer) (st : State) (y : Outputs) → is_done a ≡ false → next_state a st y ≡ st
state_stays (Ok d) st y e = absurd (true≢false e)
state_stays (Err r) st y e = refl
