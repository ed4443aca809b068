-- K and V of a counted call as groups of which a prefix is looked at: which indices of a group are looked at, and that they are the positions below the live count, at either rank. Assumes nothing.
use Rattle.std.specs.Prelude.{Some, None}
use mathlib.Core.Path.{◌≡◌, refl, sym, ap, ◌∙◌}
use mathlib.Core.Bool.{Bool, true, false, ◌&&◌, cond, and-false}
use mathlib.Core.List.{List}
use Prim.Native.Nat.{ℕ, ◌+◌, ◌*◌, ◌-◌, ◌/◌, ◌%◌, ◌≤◌, ◌<◌}
use native.Mathlib.Nat.{add-mul, one-mul, mul_comm, mul-le-mul_right, div-div-eq-div-mul, div-one, mod-lt, mul-pos}
use native.Mathlib.Omega.{arith}
use borrow.Author.Tests.{ltb-true, ltb-false, lt-ltb, le-ltb, eq-eqb, ne_eqb}
use lib.Dec.{ltb}
use lib.IntN.{ℤ}
use lib.Arith.{digits_lt, digits_div, digits_mod, mod-mul}
use lib.ListN.{length, get_or}
use lib.Ieee.{Float, nan}
use Rattle.tensor_laws.specs.Layout.{batch_at, position_at}
use Rattle.tensor_laws.proofs.Slots.{position_lt}
use Rattle.call.specs.declared.Call.{Call}
use Rattle.call.specs.declared.Form.{Form}
use Rattle.call.specs.declared.Form.TheVariants.{Plain, Cached}
use Rattle.call.specs.Limits.{total_of}
use Rattle.call.specs.Contents.{element_fault, tensor_fault, live_in, live_of, looked_at, incoming_fault}
use Rattle.call.proofs.Search.{clear→nothing, first→found, fault_same}
use Rattle.contents.specs.Faults.{in_prefix, prefix_fault}

-- ---- one group

-- an index of group g, of which l positions are looked at
module _ (c : Call) (live : List ℤ) (heads unit g l : ℕ) (count : l ≡ live_of c live (g / heads)) where
  in_group : (k : ℕ) → g * (c.klen * unit) ≤ k → k < g * (c.klen * unit) + c.klen * unit → in_prefix c live heads unit k ≡ ltb (k - g * (c.klen * unit)) (l * unit)
  in_group k low high =
      let span = c.klen * unit in
      let r = k - g * span in
      let e : k ≡ g * span + r = omega arith in
      let h : r < span = omega arith in
      let d : k / span ≡ g = ap (λ (n : ℕ). n / span) e ∙ digits_div g h in
      let m : k % span ≡ r = ap (λ (n : ℕ). n % span) e ∙ digits_mod g h in
      (λ i. ltb (m i) (live_of c live (d i / heads) * unit)) ∙ ap (λ (n : ℕ). ltb r (n * unit)) (sym count)

  -- it is looked at where it is below the end of the prefix
  pub in_prefix_lem : (k : ℕ) → g * (c.klen * unit) ≤ k → k < g * (c.klen * unit) + c.klen * unit → k < g * (c.klen * unit) + l * unit → in_prefix c live heads unit k ≡ true
  in_prefix_lem k low high h = in_group k low high ∙ lt-ltb (k - g * (c.klen * unit)) (l * unit) (omega arith)

  -- where no element of the prefix is at fault, nothing in the group is both looked at and at fault
  pub group_clear : (t : List Float) → ((k : ℕ) → g * (c.klen * unit) ≤ k → k < g * (c.klen * unit) + l * unit → element_fault (get_or t k nan) ≡ false)
      → (k : ℕ) → g * (c.klen * unit) ≤ k → k < g * (c.klen * unit) + c.klen * unit → (in_prefix c live heads unit k && element_fault (get_or t k nan)) ≡ false
  group_clear t clear k low high = by_test (ltb k (g * (c.klen * unit) + l * unit)) refl
    where
      by_test : (b : Bool) → ltb k (g * (c.klen * unit) + l * unit) ≡ b → (in_prefix c live heads unit k && element_fault (get_or t k nan)) ≡ false
      by_test true p = rw (clear k low (ltb-true _ _ p)) (and-false (in_prefix c live heads unit k))
      by_test false p = rw (in_group k low high, le-ltb (k - g * (c.klen * unit)) (l * unit) (let q = ltb-false k (g * (c.klen * unit) + l * unit) p in omega arith))

-- ---- all groups

-- the next group starts where this one ends
pub next_group : (g span : ℕ) → (g + 1) * span ≡ g * span + span
next_group g span = add-mul g 1 span ∙ ap (λ (n : ℕ). g * span + n) (one-mul span)

-- a group is inside the tensor
pub group_inside : {g groups : ℕ} (span : ℕ) → g < groups → g * span + span ≤ groups * span
group_inside {g} {groups} span h = let m : (g + 1) * span ≤ groups * span = mul-le-mul_right span (omega arith) in omega (arith, next_group g span)

module _ (c : Call) (live : List ℤ) (heads unit : ℕ) (t : List Float) where
  -- nothing is found where nothing is both looked at and at fault, and otherwise the first such index
  pub clear→prefix : ((k : ℕ) → k < length t → (in_prefix c live heads unit k && element_fault (get_or t k nan)) ≡ false) → prefix_fault c live heads unit t ≡ None
  unfolding prefix_fault
  clear→prefix h = clear→nothing (λ k z. in_prefix c live heads unit k && element_fault z) nan t h

  pub first→prefix : (n : ℕ) → n < length t → (in_prefix c live heads unit n && element_fault (get_or t n nan)) ≡ true
      → ((k : ℕ) → k < n → (in_prefix c live heads unit k && element_fault (get_or t k nan)) ≡ false) → prefix_fault c live heads unit t ≡ Some n
  unfolding prefix_fault
  first→prefix n h f b = first→found (λ k z. in_prefix c live heads unit k && element_fault z) nan t n h f b

-- ---- positions

-- position p is below l where an element of its unit is among the first l units
below_unit : (p r l unit : ℕ) → r < unit → ltb (p * unit + r) (l * unit) ≡ ltb p l
below_unit p r l unit h = by_test (ltb p l) refl
  where
    by_test : (b : Bool) → ltb p l ≡ b → ltb (p * unit + r) (l * unit) ≡ ltb p l
    by_test true e = lt-ltb _ _ (digits_lt (ltb-true p l e) h) ∙ sym e
    by_test false e = le-ltb (p * unit + r) (l * unit) (let q = mul-le-mul_right unit (ltb-false p l e) in omega arith) ∙ sym e

-- what is looked at, by units and positions
prefix_position : (c : Call) (live : List ℤ) (heads unit i : ℕ) → 0 < c.klen → 0 < unit → in_prefix c live heads unit i ≡ ltb (i / unit % c.klen) (live_of c live (i / unit / c.klen / heads))
prefix_position c live heads unit i s u =
    let l : ℕ → ℕ = λ n. live_of c live (n / heads) in
    (λ j. ltb (mod-mul i s u j) (l (i / (mul_comm c.klen unit j)) * unit))
    ∙ ap (λ (n : ℕ). ltb (i / unit % c.klen * unit + i % unit) (l n * unit)) (sym (div-div-eq-div-mul i unit c.klen))
    ∙ below_unit (i / unit % c.klen) (i % unit) (l (i / unit / c.klen)) unit (mod-lt i u)

-- the same by the layout, q being the test of the rank
module _ (c : Call) (live : List ℤ) (size i : ℕ) where
  abbrev looked_by : Bool → Bool
  looked_by q = ltb (c.past + cond q (i / size % c.klen) (i / size / c.kvheads % c.klen)) (live_of c live (i / size / (c.kvheads * c.klen)))

  no_past : (n : ℕ) → c.past ≡ 0 → c.past + n ≡ n
  no_past n p = omega arith

  looked_rank4 : c.past ≡ 0 → 0 < c.klen → 0 < size → looked_by true ≡ in_prefix c live c.kvheads size i
  looked_rank4 p s u =
      rw (no_past (i / size % c.klen) p, mul_comm c.kvheads c.klen, ← div-div-eq-div-mul (i / size) c.klen c.kvheads)
      (sym (prefix_position c live c.kvheads size i s u))

  looked_rank3 : c.past ≡ 0 → 0 < c.klen → 0 < c.kvheads * size → looked_by false ≡ in_prefix c live 1 (c.kvheads * size) i
  looked_rank3 p s u =
      rw (no_past (i / size / c.kvheads % c.klen) p, ← div-div-eq-div-mul (i / size) c.kvheads c.klen, div-div-eq-div-mul i size c.kvheads, mul_comm size c.kvheads)
      (ap (λ (n : ℕ). ltb (i / (c.kvheads * size) % c.klen) (live_of c live n)) (sym (div-one (i / (c.kvheads * size) / c.klen)))
      ∙ sym (prefix_position c live 1 (c.kvheads * size) i s u))

-- ---- the search

same_search : (c : Call) (live : List ℤ) (size heads unit : ℕ) (t : List Float) → ((i : ℕ) → looked_at c live size i ≡ in_prefix c live heads unit i) → incoming_fault c live size t ≡ prefix_fault c live heads unit t
unfolding incoming_fault prefix_fault
same_search c live size heads unit t e =
    fault_same (λ i x. looked_at c live size i && element_fault x) (λ i x. in_prefix c live heads unit i && element_fault x) nan t
    (λ k h. ap (λ (b : Bool). b && element_fault (get_or t k nan)) (e k))

module _ (c : Call) (live : List ℤ) (size : ℕ) (t : List Float) (past : c.past ≡ 0) (some : 0 < c.klen) (sized : 0 < size) where
  -- at rank 4 a group is the rows of a batch and key head
  pub search_rank4 : c.rank ≡ 4 → incoming_fault c live size t ≡ prefix_fault c live c.kvheads size t
  search_rank4 r =
      same_search c live size c.kvheads size t
      (λ i. ap (looked_by c live size i) (eq-eqb c.rank 4 r) ∙ looked_rank4 c live size i past some sized)

  -- at any other a group is the rows of a batch, and a unit those of a position
  pub search_rank3 : (c.rank ≡ 4 → ⊥) → 0 < c.kvheads → incoming_fault c live size t ≡ prefix_fault c live 1 (c.kvheads * size) t
  search_rank3 r h =
      same_search c live size 1 (c.kvheads * size) t
      (λ i. ap (looked_by c live size i) (ne_eqb c.rank 4 r) ∙ looked_rank3 c live size i past some (mul-pos h sized))

-- ---- a call that is not counted

-- every position is looked at
whole_search : (c : Call) (live : List ℤ) (size : ℕ) (t : List Float) → 0 < c.klen → ((b : ℕ) → live_of c live b ≡ total_of c) → incoming_fault c live size t ≡ tensor_fault t
unfolding incoming_fault tensor_fault
whole_search c live size t s l =
    fault_same (λ i x. looked_at c live size i && element_fault x) (λ i x. element_fault x) nan t
    (λ k h. ap (λ (b : Bool). b && element_fault (get_or t k nan)) (all k))
  where
    all : (i : ℕ) → looked_at c live size i ≡ true
    all i =
        let n = i / size in
        let p = position_lt c.rank c.kvheads c.klen n s in
        ap (λ (m : ℕ). ltb (c.past + position_at c.rank c.kvheads c.klen n) m) (l (batch_at c.kvheads c.klen n))
        ∙ lt-ltb (c.past + position_at c.rank c.kvheads c.klen n) (total_of c) (omega arith)

pub search_plain : (c : Call) (live : List ℤ) (size : ℕ) (t : List Float) → 0 < c.klen → c.form ≡ Plain → incoming_fault c live size t ≡ tensor_fault t
search_plain c live size t s f = whole_search c live size t s (λ b. ap (λ (m : Form). live_in m (total_of c) live b) f)

pub search_cached : (c : Call) (live : List ℤ) (size : ℕ) (t : List Float) → 0 < c.klen → c.form ≡ Cached → incoming_fault c live size t ≡ tensor_fault t
search_cached c live size t s f = whole_search c live size t s (λ b. ap (λ (m : Form). live_in m (total_of c) live b) f)
