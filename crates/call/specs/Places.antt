-- Where the fault of a refused call is: what the place in a refusal says. Definitions only.
use Rattle.std.specs.Prelude.{◌≡◌, ◌⊎◌, List, ℕ, zero, suc, ◌<◌, Bool, true, false, ◌&&◌, pos, length, get_or, Float}
use Rattle.std.specs.Float.{nan}
use Rattle.call.specs.declared.Call.{Call}
use Rattle.call.specs.declared.Refusal.{Refusal}
use Rattle.call.specs.declared.Refusal.TheVariants.{Limits, HeadGroups, Settings, MaskShape, InputLength, OutputLength, LiveCount, MaskCell, Element, Position, Profile, Record, Room}
use Rattle.call.specs.Tensors.{Inputs}
use Rattle.call.specs.Limits.{total_of}
use Rattle.call.specs.Contents.{count_fault, byte_fault, cell_fault, element_fault, looked_at}

-- i is the first index of the list whose element is at fault
pub record First {A : Type 0} (fault : ℕ → A → Bool) (d : A) (xs : List A) (i : ℕ) : Type 0 where
  pub inside : i < length xs
  pub faulty : fault i (get_or xs i d) ≡ true
  pub before : (j : ℕ) → j < i → fault j (get_or xs j d) ≡ false

-- no element of the list is at fault
abbrev pub NoFault : {A : Type 0} → (ℕ → A → Bool) → A → List A → Type 0
NoFault fault d xs = (k : ℕ) → k < length xs → fault k (get_or xs k d) ≡ false

-- ---- 9: a whole tensor, and K or V, where the elements that are looked at count

abbrev pub TensorFirst : List Float → ℕ → Type 0
TensorFirst t i = First (λ k z. element_fault z) nan t i

abbrev pub TensorClear : List Float → Type 0
TensorClear t = NoFault (λ k z. element_fault z) nan t

abbrev pub IncomingFirst : Call → Inputs → ℕ → List Float → ℕ → Type 0
IncomingFirst c x size t i = First (λ k z. looked_at c x.live size k && element_fault z) nan t i

abbrev pub IncomingClear : Call → Inputs → ℕ → List Float → Type 0
IncomingClear c x size t = NoFault (λ k z. looked_at c x.live size k && element_fault z) nan t

-- ---- the place that a call's refusal names: the first index at fault, and no element of what is searched earlier under that number is at fault

abbrev pub AtFirst : Call → Inputs → Refusal → Type 0
AtFirst c x Limits = Unit {0}
AtFirst c x HeadGroups = Unit {0}
AtFirst c x Settings = Unit {0}
AtFirst c x MaskShape = Unit {0}
AtFirst c x InputLength = Unit {0}
AtFirst c x OutputLength = Unit {0}
AtFirst c x (LiveCount i) = First (λ k n. count_fault (total_of c) n) (pos 0) x.live i
AtFirst c x (MaskCell i) = First (λ k n. byte_fault n) 0 x.bool_mask i ⊎ (NoFault (λ k n. byte_fault n) 0 x.bool_mask × First (λ k z. cell_fault z) nan x.float_mask i)
AtFirst c x (Element zero i) = TensorFirst x.query i
AtFirst c x (Element (suc zero) i) = TensorClear x.query × TensorFirst x.past_key i
AtFirst c x (Element (suc (suc zero)) i) = TensorClear x.query × TensorClear x.past_key × IncomingFirst c x c.size x.key i
AtFirst c x (Element (suc (suc (suc zero))) i) = TensorClear x.query × TensorClear x.past_key × IncomingClear c x c.size x.key × TensorFirst x.past_value i
AtFirst c x (Element (suc (suc (suc (suc zero)))) i) = TensorClear x.query × TensorClear x.past_key × IncomingClear c x c.size x.key × TensorClear x.past_value × IncomingFirst c x c.vsize x.value i
AtFirst c x (Element (suc (suc (suc (suc (suc t))))) i) = ⊥
AtFirst c x Profile = Unit {0}
-- a call gives none of a file's
AtFirst c x (Position p) = ⊥
AtFirst c x (Record b) = ⊥
AtFirst c x Room = ⊥
