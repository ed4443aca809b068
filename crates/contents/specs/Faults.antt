-- What the searches of refusal 9 count and look at: faults by number, and the prefix of each group. Definitions only.
use Rattle.std.specs.Prelude.{Bool, ◌&&◌, List, [], ◌∷◌, ℕ, ◌+◌, ◌*◌, ◌/◌, ◌%◌, ltb, ℤ, Float, Option}
use Rattle.bool_laws.specs.Counts.{tally}
use Rattle.call.specs.declared.Call.{Call}
use Rattle.call.specs.Contents.{first_fault, element_fault, live_of}

-- how many elements are at fault
unfoldable pub fault_count : List Float → ℕ
unfolding element_fault
fault_count [] = 0
fault_count (x ∷ xs) = tally (element_fault x) + fault_count xs

-- Of groups of Sk * unit elements, `heads` of them to a batch, index i is looked at where it is among the first L * unit of its group.
abbrev pub in_prefix : Call → List ℤ → ℕ → ℕ → ℕ → Bool
in_prefix c live heads unit i = ltb (i % (c.klen * unit)) (live_of c live (i / (c.klen * unit) / heads) * unit)

-- the first element at fault of those that are looked at
unfoldable pub prefix_fault : Call → List ℤ → ℕ → ℕ → List Float → Option ℕ
unfolding first_fault element_fault
prefix_fault c live heads unit t = first_fault (λ i x. in_prefix c live heads unit i && element_fault x) t
