-- Demand 3 is of the run that it names: one that is never done does not meet it. Assumes nothing.
use mathlib.Core.Path.{◌≡◌, refl, sym, ◌∙◌}
use mathlib.Core.List.{[], ◌∷◌}
use mathlib.Core.Bool.{false, true≢false}
use Rattle.call.specs.Profile.{Entry, step}
use Rattle.call.specs.declared.Call.{Call}
use Rattle.call.specs.Tensors.{Inputs, Outputs}
use Rattle.attention.specs.Table.{call_e}
use Rattle.sequence.specs.Chunks.{Run, chunk_outcome, is_done, state_after, history_after}
use Rattle.sequence.specs.Demand.{Demand3}
use Rattle.sequence.proofs.Lent.{masked, mask_lent}

pub refuses_all : (run : Run) → ((e : Entry) (c : Call) (x : Inputs) (y : Outputs) → is_done (run e c x y).answer ≡ false) → Demand3 run call_e (masked step ∷ []) → ⊥
unfolding chunk_outcome state_after history_after
refuses_all run never d = true≢false (sym mask_lent.taken ∙ sym (d.each [] (masked step) [] refl).accepted ∙ never _ _ _ _)
