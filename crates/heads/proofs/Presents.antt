-- The key heads of a call one after the other: the rows of the present cache that are written before a head, after one more and after all, and the query heads that use them. Assumes nothing.
use mathlib.Core.Path.{◌≡◌, sym, ap, ◌∙◌}
use mathlib.Core.Bool.{true}
use mathlib.Core.List.{List}
use Prim.Native.Nat.{ℕ, ◌+◌, ◌*◌, ◌/◌, ◌%◌, ◌≤◌, ◌<◌}
use native.Mathlib.Nat.{div-add-mod', mul_assoc, mul_comm, suc-mul, mul-le-mul, le_refl}
use native.Mathlib.Numerals.{add-one}
use native.Mathlib.Omega.{arith}
use lib.ListN.{length}
use lib.Ieee.{Float, nan}
use Rattle.tensor_laws.specs.Layout.{tensor_of, written_of}
use Rattle.tensor_laws.proofs.Written.{length_written, written_none, written_all, written_again}
use Rattle.call.specs.declared.Call.{Call}
use Rattle.call.specs.Limits.{total_of, groups_hold}
use Rattle.call.proofs.Facts.{groups→multiple}
use Rattle.attention.specs.Elements.{position_cell}
use Rattle.caches.specs.Rows.{in_head, heads_before}
use Rattle.caches.proofs.Heads.{heads_none, heads_all, heads_next}

-- the present cache with the rows of the key heads before number n written
abbrev pub present_to : Call → (past incoming : List Float) → (size n : ℕ) → List Float → List Float
present_to c past incoming size n out = written_of 4 c.batches c.kvheads (total_of c) size (heads_before c.kvheads n) (position_cell c past incoming size) nan out

module _ (c : Call) (past incoming : List Float) (size : ℕ) (out : List Float) where
  -- before the first
  pub present_begun : length out ≡ c.batches * c.kvheads * total_of c * size → out ≡ present_to c past incoming size 0 out
  present_begun l =
      sym (written_none 4 c.batches c.kvheads (total_of c) size (heads_before c.kvheads 0) (position_cell c past incoming size) nan out l (λ b h j hb hh hj. heads_none c.kvheads b h j))

  -- one more
  pub present_more : (n : ℕ) (t : List Float) → t ≡ present_to c past incoming size n out
      → written_of 4 c.batches c.kvheads (total_of c) size (in_head (n / c.kvheads) (n % c.kvheads)) (position_cell c past incoming size) nan t ≡ present_to c past incoming size (n + 1) out
  present_more n t e =
      ap (written_of 4 c.batches c.kvheads (total_of c) size (in_head (n / c.kvheads) (n % c.kvheads)) (position_cell c past incoming size) nan) e
      ∙ written_again 4 c.batches c.kvheads (total_of c) size (position_cell c past incoming size) nan out (heads_before c.kvheads n) (in_head (n / c.kvheads) (n % c.kvheads)) (heads_before c.kvheads (n + 1))
      (λ b h j hb hh hj. heads_next c.kvheads n b h j hh)

  -- all
  pub present_all : present_to c past incoming size (c.batches * c.kvheads) out ≡ tensor_of 4 c.batches c.kvheads (total_of c) size (position_cell c past incoming size)
  present_all =
      written_all 4 c.batches c.kvheads (total_of c) size (heads_before c.kvheads (c.batches * c.kvheads)) (position_cell c past incoming size) nan out
      (λ b h j hb hh hj. heads_all c.kvheads c.batches b h j hb hh)

  pub present_long : (n : ℕ) → length (present_to c past incoming size n out) ≡ c.batches * c.kvheads * total_of c * size
  present_long n = length_written 4 c.batches c.kvheads (total_of c) size (heads_before c.kvheads n) (position_cell c past incoming size) nan out

-- ---- the query heads of a key head
module _ (c : Call) (groups : groups_hold c ≡ true) where
  -- they are a group of the query heads
  pub all_groups : c.batches * c.kvheads * (c.qheads / c.kvheads) ≡ c.batches * c.qheads
  all_groups =
      let e : c.qheads / c.kvheads * c.kvheads ≡ c.qheads = omega (arith, div-add-mod' c.qheads c.kvheads, groups→multiple c groups) in
      mul_assoc c.batches c.kvheads (c.qheads / c.kvheads) ∙ ap (λ (m : ℕ). c.batches * m) (mul_comm c.kvheads (c.qheads / c.kvheads) ∙ e)

  -- those of key head n are within all of them
  pub group_inside : (n : ℕ) → n < c.batches * c.kvheads → n * (c.qheads / c.kvheads) + c.qheads / c.kvheads ≤ c.batches * c.qheads
  group_inside n h =
      omega (arith, suc-mul n (c.qheads / c.kvheads), mul-le-mul {n₂ = c.batches * c.kvheads} {m₂ = c.qheads / c.kvheads} h (le_refl (c.qheads / c.kvheads)), all_groups)

  -- one key head more
  pub group_next : (n : ℕ) → n * (c.qheads / c.kvheads) + c.qheads / c.kvheads ≡ (n + 1) * (c.qheads / c.kvheads)
  group_next n = sym (ap (λ (m : ℕ). m * (c.qheads / c.kvheads)) (add-one n) ∙ suc-mul n (c.qheads / c.kvheads))
