-- The calls of a sequence have its settings: scale, cap, mode, rank, heads and sizes. So what demand 3 says, it says of those settings. Assumes nothing.
use mathlib.Core.Path.{◌≡◌, refl}
use Prim.Native.Nat.{ℕ}
use Rattle.call.specs.declared.Call.{Call}
use Rattle.call.specs.declared.Form.{Form}
use Rattle.sequence.specs.Positions.{causal_call}

pub record SameSettings (s c : Call) : Type 0 where
  pub scale : c.scale ≡ s.scale
  pub softcap : c.softcap ≡ s.softcap
  pub mode : c.mode ≡ s.mode
  pub rank : c.rank ≡ s.rank
  pub batches : c.batches ≡ s.batches
  pub qheads : c.qheads ≡ s.qheads
  pub kvheads : c.kvheads ≡ s.kvheads
  pub size : c.size ≡ s.size
  pub vsize : c.vsize ≡ s.vsize

-- of the plain call over all positions and of each chunk's call
pub settings_handed_on : (s : Call) (form : Form) (past n : ℕ) → SameSettings s (causal_call s form past n n)
settings_handed_on s form past n = record { scale = refl; softcap = refl; mode = refl; rank = refl; batches = refl; qheads = refl; kvheads = refl; size = refl; vsize = refl }
