-- The searches of the refusals 7 to 9: where one finds nothing no element that it looks at is at fault, and the converse; the first index at fault is what it finds; in an empty list each finds nothing. An element that is not at fault is within 65,536. Assumes nothing.
use Rattle.std.specs.Prelude.{Some, None}
use mathlib.Core.Path.{◌≡◌, refl, sym, subst}
use mathlib.Core.List.{List, []}
use mathlib.Core.Bool.{Bool, true, false, ◌&&◌, true≢false}
use Prim.Native.Nat.{ℕ, ◌≤◌, ◌<◌}
use lib.IntN.{ℤ, pos, negsuc}
use lib.Dec.{T}
use lib.ListN.{length, get_or}
use lib.Ieee.{Float, nan, le, neg}
use Rattle.std.specs.List.{position}
use borrow.Author.Tests.{not-false, ltb-false}
use Rattle.call.specs.declared.Call.{Call}
use Rattle.call.specs.Limits.{total_of}
use Rattle.call.specs.Contents.{count_of, count_fault, live_fault, byte_fault, byte_mask_fault, cell_fault, float_mask_fault, element_bound, element_fault, tensor_fault, looked_at, incoming_fault}
use Rattle.call.specs.Places.{TensorFirst, TensorClear}
use Rattle.call.proofs.Search.{nothing→clear, clear→nothing, found→first, first→found, search_position}

-- ---- 7: live counts

-- a live count that is not at fault is at most the total
pub count_most : (total : ℕ) (z : ℤ) → count_fault total z ≡ false → count_of z ≤ total
count_most total (pos n) e = ltb-false total n e
count_most total (negsuc n) e = absurd (true≢false e)

-- nothing is found exactly where no live count is at fault
pub live→clear : (c : Call) (live : List ℤ) → live_fault c live ≡ None → (k : ℕ) → k < length live → count_fault (total_of c) (get_or live k (pos 0)) ≡ false
unfolding live_fault
live→clear c live e = nothing→clear (λ k n. count_fault (total_of c) n) (pos 0) live e

pub clear→live : (c : Call) (live : List ℤ) → ((k : ℕ) → k < length live → count_fault (total_of c) (get_or live k (pos 0)) ≡ false) → live_fault c live ≡ None
unfolding live_fault
clear→live c live h = clear→nothing (λ k n. count_fault (total_of c) n) (pos 0) live h

-- the first live count at fault is found
pub first→live : (c : Call) (live : List ℤ) (n : ℕ) → n < length live → count_fault (total_of c) (get_or live n (pos 0)) ≡ true → ((k : ℕ) → k < n → count_fault (total_of c) (get_or live k (pos 0)) ≡ false) → live_fault c live ≡ Some n
unfolding live_fault
first→live c live n h f b = first→found (λ k z. count_fault (total_of c) z) (pos 0) live n h f b

-- nothing is found among no live counts
pub no_live : (c : Call) → live_fault c [] ≡ None
unfolding live_fault
no_live c = refl

-- ---- 8: the mask's cells

-- nothing is found exactly where no byte is at fault
pub bytes→clear : (mask : List ℕ) → byte_mask_fault mask ≡ None → (k : ℕ) → k < length mask → byte_fault (get_or mask k 0) ≡ false
unfolding byte_mask_fault
bytes→clear mask e = nothing→clear (λ k n. byte_fault n) 0 mask e

pub clear→bytes : (mask : List ℕ) → ((k : ℕ) → k < length mask → byte_fault (get_or mask k 0) ≡ false) → byte_mask_fault mask ≡ None
unfolding byte_mask_fault
clear→bytes mask h = clear→nothing (λ k n. byte_fault n) 0 mask h

-- the first byte at fault is found
pub first→bytes : (mask : List ℕ) (n : ℕ) → n < length mask → byte_fault (get_or mask n 0) ≡ true → ((k : ℕ) → k < n → byte_fault (get_or mask k 0) ≡ false) → byte_mask_fault mask ≡ Some n
unfolding byte_mask_fault
first→bytes mask n h f b = first→found (λ k x. byte_fault x) 0 mask n h f b

-- nothing is found among no bytes
pub no_bytes : byte_mask_fault [] ≡ None
unfolding byte_mask_fault
no_bytes = refl

-- nothing is found exactly where no cell is at fault
pub cells→clear : (mask : List Float) → float_mask_fault mask ≡ None → (k : ℕ) → k < length mask → cell_fault (get_or mask k nan) ≡ false
unfolding float_mask_fault
cells→clear mask e = nothing→clear (λ k z. cell_fault z) nan mask e

pub clear→cells : (mask : List Float) → ((k : ℕ) → k < length mask → cell_fault (get_or mask k nan) ≡ false) → float_mask_fault mask ≡ None
unfolding float_mask_fault
clear→cells mask h = clear→nothing (λ k z. cell_fault z) nan mask h

-- the first cell at fault is found
pub first→cells : (mask : List Float) (n : ℕ) → n < length mask → cell_fault (get_or mask n nan) ≡ true → ((k : ℕ) → k < n → cell_fault (get_or mask k nan) ≡ false) → float_mask_fault mask ≡ Some n
unfolding float_mask_fault
first→cells mask n h f b = first→found (λ k z. cell_fault z) nan mask n h f b

-- nothing is found among no cells
pub no_cells : float_mask_fault [] ≡ None
unfolding float_mask_fault
no_cells = refl

-- ---- 9: elements

-- an element that is not at fault is a number of magnitude at most 65,536
pub element→bounded : (x : Float) → element_fault x ≡ false → T (le (neg element_bound) x && le x element_bound)
unfolding element_fault
element→bounded x e = subst T (sym (not-false (le (neg element_bound) x && le x element_bound) e)) tt

-- nothing is found in a tensor exactly where no element is at fault
pub tensor→clear : (t : List Float) → tensor_fault t ≡ None → TensorClear t
unfolding tensor_fault
tensor→clear t e = nothing→clear (λ k z. element_fault z) nan t e

pub clear→tensor : (t : List Float) → TensorClear t → tensor_fault t ≡ None
unfolding tensor_fault
clear→tensor t h = clear→nothing (λ k z. element_fault z) nan t h

-- what is found is the first element at fault
pub tensor→first : (t : List Float) (i : ℕ) → tensor_fault t ≡ Some i → TensorFirst t i
unfolding tensor_fault
tensor→first t i e = found→first (λ k z. element_fault z) nan t i e

pub first→tensor : (t : List Float) (n : ℕ) → n < length t → element_fault (get_or t n nan) ≡ true → ((k : ℕ) → k < n → element_fault (get_or t k nan) ≡ false) → tensor_fault t ≡ Some n
unfolding tensor_fault
first→tensor t n h f b = first→found (λ k z. element_fault z) nan t n h f b

-- nothing is found in an empty tensor
pub no_elements : tensor_fault [] ≡ None
unfolding tensor_fault
no_elements = refl

second_false : (a b : Bool) → a ≡ true → (a && b) ≡ false → b ≡ false
second_false true b p e = e
second_false false b p e = absurd (true≢false (sym p))

false_where : (a b : Bool) → (a ≡ true → b ≡ false) → (a && b) ≡ false
false_where true b f = f refl
false_where false b f = refl

module _ (c : Call) (live : List ℤ) (size : ℕ) (t : List Float) where
  -- where nothing is found in K or V, no index is both looked at and at fault
  pub incoming→clear : incoming_fault c live size t ≡ None → (k : ℕ) → k < length t → (looked_at c live size k && element_fault (get_or t k nan)) ≡ false
  unfolding incoming_fault
  incoming→clear e = nothing→clear (λ k z. looked_at c live size k && element_fault z) nan t e

  -- nothing is found in K or V exactly where no element that is looked at is at fault
  pub incoming→looked : incoming_fault c live size t ≡ None → (k : ℕ) → k < length t → looked_at c live size k ≡ true → element_fault (get_or t k nan) ≡ false
  incoming→looked e k h l = second_false (looked_at c live size k) (element_fault (get_or t k nan)) l (incoming→clear e k h)

  pub looked→incoming : ((k : ℕ) → k < length t → looked_at c live size k ≡ true → element_fault (get_or t k nan) ≡ false) → incoming_fault c live size t ≡ None
  unfolding incoming_fault
  looked→incoming f =
      clear→nothing (λ k z. looked_at c live size k && element_fault z) nan t
      (λ k h. false_where (looked_at c live size k) (element_fault (get_or t k nan)) (f k h))

  -- what is found in K or V is an index of it
  pub incoming→inside : (i : ℕ) → incoming_fault c live size t ≡ Some i → i < length t
  unfolding incoming_fault
  incoming→inside i e = (found→first (λ k z. looked_at c live size k && element_fault z) nan t i e).inside

-- ---- what is found, as a position

pub live_position : (c : Call) (live : List ℤ) → live_fault c live ≡ position (λ n. count_fault (total_of c) n) live
unfolding live_fault
live_position c live = search_position (λ n. count_fault (total_of c) n) (pos 0) live

pub bytes_position : (mask : List ℕ) → byte_mask_fault mask ≡ position (λ x. byte_fault x) mask
unfolding byte_mask_fault
bytes_position mask = search_position (λ x. byte_fault x) 0 mask

pub cells_position : (mask : List Float) → float_mask_fault mask ≡ position (λ x. cell_fault x) mask
unfolding float_mask_fault
cells_position mask = search_position (λ x. cell_fault x) nan mask

pub tensor_position : (t : List Float) → tensor_fault t ≡ position (λ x. element_fault x) t
unfolding tensor_fault
tensor_position t = search_position (λ x. element_fault x) nan t
