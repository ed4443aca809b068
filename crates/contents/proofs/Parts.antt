-- A part of a tensor, from index a to index e: what a search of the part says of the tensor. Assumes nothing.
use Rattle.std.specs.Prelude.{Option, Some, None}
use mathlib.Core.Path.{◌≡◌, refl, sym, ap, ◌∙◌}
use mathlib.Core.Bool.{Bool, true, false}
use mathlib.Core.List.{List}
use Prim.Native.Nat.{ℕ, ◌+◌, ◌-◌, ◌≤◌, ◌<◌}
use native.Mathlib.Omega.{arith}
use borrow.Author.Tests.{ltb-true, ltb-false}
use lib.Dec.{ltb}
use lib.ListN.{length, get_or, take, drop, length-take, length-drop}
use lib.Seq.{get_or-take, get_or-drop}
use lib.Ieee.{Float, nan}
use Rattle.std.specs.Option.{option_map}
use Rattle.call.specs.Contents.{element_fault, tensor_fault}
use Rattle.call.specs.Places.{TensorClear}
use Rattle.call.proofs.Clear.{tensor→clear, clear→tensor, tensor→first, first→tensor}

-- ---- parts

abbrev pub part : ℕ → ℕ → List Float → List Float
part a e t = take (e - a) (drop a t)

-- what holds below a and from a to e holds below e
pub below_both : (P : ℕ → Type 0) (a e : ℕ) → ((k : ℕ) → k < a → P k) → ((k : ℕ) → a ≤ k → k < e → P k) → (k : ℕ) → k < e → P k
below_both P a e low high k h = by_test (ltb k a) refl
  where
    by_test : (b : Bool) → ltb k a ≡ b → P k
    by_test true p = low k (ltb-true k a p)
    by_test false p = high k (ltb-false k a p) h

module _ (a e : ℕ) (t : List Float) (start : a ≤ e) (end : e ≤ length t) where
  pub length_part : length (part a e t) ≡ e - a
  length_part = simp (length-take, length-drop) (omega arith)

  element_part : (k : ℕ) → a ≤ k → k < e → get_or (part a e t) (k - a) nan ≡ get_or t k nan
  element_part k l h =
      get_or-take (e - a) (drop a t) (k - a) nan (omega arith)
      ∙ get_or-drop a t (k - a) nan
      ∙ ap (λ (n : ℕ). get_or t n nan) (omega arith)

  -- a part without a fault
  pub part_clear : TensorClear (part a e t) → (k : ℕ) → a ≤ k → k < e → element_fault (get_or t k nan) ≡ false
  part_clear c k l h = ap element_fault (sym (element_part k l h)) ∙ c (k - a) (omega (arith, length_part))

  -- the first fault of a part
  pub record FirstFrom (j : ℕ) : Type 0 where
    pub inside : a + j < e
    pub faulty : element_fault (get_or t (a + j) nan) ≡ true
    pub before : (k : ℕ) → a ≤ k → k < a + j → element_fault (get_or t k nan) ≡ false

  pub part_first : (j : ℕ) → tensor_fault (part a e t) ≡ Some j → FirstFrom j
  part_first j p =
      let f = tensor→first (part a e t) j p in
      let n = length_part in
      let i : a + j < e = omega (arith, f.inside) in
      record {
        inside = i;
        faulty = ap element_fault (sym (element_part (a + j) (omega arith) i) ∙ ap (λ (k : ℕ). get_or (part a e t) k nan) (omega arith)) ∙ f.faulty;
        before = λ k l h. ap element_fault (sym (element_part k l (omega arith))) ∙ f.before (k - a) (omega arith);
      }

-- where nothing before a is at fault, the search goes on from there
pub rest_found : (a : ℕ) (t : List Float) → a ≤ length t → ((k : ℕ) → k < a → element_fault (get_or t k nan) ≡ false)
    → option_map (λ (j : ℕ). a + j) (tensor_fault (part a (length t) t)) ≡ tensor_fault t
rest_found a t start clear = by_found (tensor_fault (part a (length t) t)) refl
  where
    by_found : (f : Option ℕ) → tensor_fault (part a (length t) t) ≡ f → option_map (λ (j : ℕ). a + j) f ≡ tensor_fault t
    by_found None p =
        let all = below_both (λ k. element_fault (get_or t k nan) ≡ false) a (length t) clear (part_clear a (length t) t start (omega arith) (tensor→clear _ p)) in
        sym (clear→tensor t all)
    by_found (Some j) p =
        let f = part_first a (length t) t start (omega arith) j p in
        sym (first→tensor t (a + j) f.inside f.faulty (below_both (λ k. element_fault (get_or t k nan) ≡ false) a (a + j) clear f.before))
