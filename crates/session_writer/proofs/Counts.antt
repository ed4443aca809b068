-- Tests over the numbers below n, one number after the other: when one passes, and the least that does. Assumes nothing.
use Rattle.std.specs.Prelude.{Some, None}
use mathlib.Core.Path.{◌≡◌, refl, sym, ap, ◌∙◌, subst}
use native.Mathlib.Nat.{zero-add}
use mathlib.Core.Bool.{Bool, true, false, cond, true≢false}
use Prim.Native.Nat.{ℕ, zero, suc, ◌+◌, ◌≤◌, ◌<◌}
use native.Mathlib.Decide.{dec_lt}
use native.Mathlib.Omega.{arith}
use Rattle.session_file.specs.Below.{any_below, least_from}
use Rattle.session_file.proofs.Below.{none→each, least_none→each}

module _ (test : ℕ → Bool) where
  -- one below the bound passes
  pub any_some : (n k : ℕ) → k < n → test k ≡ true → any_below test n ≡ true
  any_some n k h e = by (any_below test n) refl
    where
      by : (b : Bool) → any_below test n ≡ b → b ≡ true
      by true f = refl
      by false f = absurd (true≢false (sym e ∙ none→each test n f k h))

-- ---- the least that passes

module _ (test : ℕ → Bool) where
  -- none was found
  pub least_none : (n i : ℕ) → ((k : ℕ) → i ≤ k → k < i + n → test k ≡ false) → least_from test n i ≡ None
  unfolding least_from
  least_none zero i h = refl
  least_none (suc n) i h =
      ap (λ (b : Bool). cond b (Some i) (least_from test n (suc i))) (h i (omega arith) (omega arith))
      ∙ least_none n (suc i) (λ k l m. h k (omega arith) (omega arith))

  -- that one was found
  pub least_at : (n i p : ℕ) → i ≤ p → p < i + n → test p ≡ true → ((k : ℕ) → i ≤ k → k < p → test k ≡ false) → least_from test n i ≡ Some p
  unfolding least_from
  least_at zero i p l m e h = absurd (omega arith)
  least_at (suc n) i p l m e h = go (λ a. least_at n (suc i) p a (omega arith) e (λ k b d. h k (omega arith) d)) (dec_lt i p)
    where
      go : (i < p → least_from test n (suc i) ≡ Some p) → Dec (i < p) → cond (test i) (Some i) (least_from test n (suc i)) ≡ Some p
      go later (yes a) = ap (λ (b : Bool). cond b (Some i) (least_from test n (suc i))) (h i (omega arith) a) ∙ later a
      go later (no a) =
          let s : i ≡ p = omega arith in
          ap (λ (b : Bool). cond b (Some i) (least_from test n (suc i))) (subst (λ (j : ℕ). test j ≡ true) (sym s) e) ∙ ap Some s

  pub found_below : (n i p : ℕ) → least_from test n i ≡ Some p → p < i + n
  unfolding least_from
  found_below zero i p e = let z : ◌≡◌ {A = ℕ} 0 1 = cc in absurd (omega arith)
  found_below (suc n) i p e = by (found_below n (suc i) p) (test i) e
    where
      by : (least_from test n (suc i) ≡ Some p → p < suc i + n) → (b : Bool) → cond b (Some i) (least_from test n (suc i)) ≡ Some p → p < i + suc n
      by later true g = let s : i ≡ p = cc in omega arith
      by later false g = omega (arith, later g)

-- none was found: none passes
pub none_clear : (test : ℕ → Bool) (n : ℕ) → least_from test n 0 ≡ None → (k : ℕ) → k < n → test k ≡ false
none_clear test n e k l = ap test (sym (zero-add k)) ∙ least_none→each test n 0 e k l
