-- Refusals 7 to 9: the live counts, the mask's cells and the elements, each searched from its start. Definitions only.
use Rattle.std.specs.Prelude.{List, [], ◌∷◌, ℕ, suc, ◌+◌, ◌/◌, Bool, true, false, not, ◌&&◌, cond, ℤ, pos, negsuc, ltb, get_or, Float, Option, Some, None}
use Rattle.std.specs.Float.{nan, inf, fin}
use Rattle.std.specs.Float.Ieee.{le, neg}
use Rattle.tensor_laws.specs.Layout.{batch_at, position_at}
use Rattle.call.specs.declared.Call.{Call}
use Rattle.call.specs.declared.Form.{Form}
use Rattle.call.specs.declared.Form.TheVariants.{Plain, Cached, Counted}
use Rattle.call.specs.Limits.{total_of}

-- ---- a search

-- the first index, counted from i, whose element is at fault, or none
unfoldable pub first_from : {A : Type 0} → (ℕ → A → Bool) → ℕ → List A → Option ℕ
first_from fault i [] = None
first_from fault i (x ∷ xs) = let later = first_from fault (suc i) xs in cond (fault i x) (Some i) later

-- the first index whose element is at fault
unfoldable pub first_fault : {A : Type 0} → (ℕ → A → Bool) → List A → Option ℕ
unfolding first_from
first_fault fault xs = first_from fault 0 xs

-- ---- 7: a live count below 0 or above T

abbrev pub count_fault : ℕ → ℤ → Bool
count_fault total (pos n) = ltb total n
count_fault total (negsuc n) = true

unfoldable pub live_fault : Call → List ℤ → Option ℕ
unfolding first_fault
live_fault c live = first_fault (λ i n. count_fault (total_of c) n) live

-- ---- 8: a mask byte above 1, a float mask cell that is NaN or plus infinity

abbrev pub byte_fault : ℕ → Bool
byte_fault x = ltb 1 x

abbrev pub cell_fault : Float → Bool
cell_fault nan = true
cell_fault (inf s) = not s
cell_fault (fin s m e) = false

unfoldable pub byte_mask_fault : List ℕ → Option ℕ
unfolding first_fault
byte_mask_fault mask = first_fault (λ i x. byte_fault x) mask

unfoldable pub float_mask_fault : List Float → Option ℕ
unfolding first_fault
float_mask_fault mask = first_fault (λ i x. cell_fault x) mask

-- ---- 9: an element that is not a number of magnitude at most 65,536

abbrev pub element_bound : Float
element_bound = fin false 1 (pos 16)

unfoldable pub element_fault : Float → Bool
unfolding le neg
element_fault x = not (le (neg element_bound) x && le x element_bound)

-- L of batch b: the live count in the counted form, T in any other
abbrev pub count_of : ℤ → ℕ
count_of (pos n) = n
count_of (negsuc n) = 0

abbrev pub live_in : Form → ℕ → List ℤ → ℕ → ℕ
live_in Plain total live b = total
live_in Cached total live b = total
live_in Counted total live b = count_of (get_or live b (pos 0))

abbrev pub live_of : Call → List ℤ → ℕ → ℕ
live_of c live b = live_in c.form (total_of c) live b

-- the first element at fault of a whole tensor
unfoldable pub tensor_fault : List Float → Option ℕ
unfolding first_fault element_fault
tensor_fault t = first_fault (λ i x. element_fault x) t

-- Index i of K or V, whose rows have that size, stands at position P + s of its batch. It is looked at below the live count of that batch; a position at or past it is padded.
abbrev pub looked_at : Call → List ℤ → ℕ → ℕ → Bool
looked_at c live size i =
    let n = i / size in
    ltb (c.past + position_at c.rank c.kvheads c.klen n) (live_of c live (batch_at c.kvheads c.klen n))

-- the first element at fault of K or V, padded positions not looked at
unfoldable pub incoming_fault : Call → List ℤ → ℕ → List Float → Option ℕ
unfolding first_fault element_fault
incoming_fault c live size t = first_fault (λ i x. looked_at c live size i && element_fault x) t
