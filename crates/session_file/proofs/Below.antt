-- Tests over the numbers below n: where none passes each fails, and the other way; where no least is found each fails. Assumes nothing.
use Rattle.std.specs.Prelude.{Some, None}
use mathlib.Core.Path.{◌≡◌, refl, sym, ap, ◌∙◌, subst}
use mathlib.Core.Bool.{Bool, true, false, cond}
use Prim.Native.Nat.{ℕ, zero, suc, ◌+◌, ◌≤◌, ◌<◌}
use native.Mathlib.Nat.{not-suc-le-zero, add-zero, add-suc, suc-add}
use native.Mathlib.Decide.{dec_lt}
use native.Mathlib.Omega.{arith}
use borrow.Author.Tests.{ltb-false, le-ltb}
use Rattle.call.proofs.Search.{no_index}
use Rattle.bool_laws.proofs.Counts.{count_none, tally_none}
use Rattle.bool_laws.specs.Counts.{tally, count_where}
use Rattle.session_file.specs.Below.{any_below, least_from}

module _ (test : ℕ → Bool) where
  next : (n : ℕ) → count_where (suc n) test ≡ count_where n test + tally (test n)
  unfolding count_where
  next n = refl

  zero→each : (n : ℕ) → count_where n test ≤ 0 → (k : ℕ) → k < n → test k ≡ false
  zero→each zero h k l = absurd (not-suc-le-zero l)
  zero→each (suc n) h k l = go (λ m. zero→each n (omega (arith, next n)) k m) (dec_lt k n)
    where
      go : (k < n → test k ≡ false) → Dec (k < n) → test k ≡ false
      go before (yes m) = before m
      go before (no m) = let e : n ≡ k = omega arith in subst (λ (i : ℕ). test i ≡ false) e (tally_none (test n) (omega (arith, next n)))

  -- where none passes, each fails
  pub none→each : (n : ℕ) → any_below test n ≡ false → (k : ℕ) → k < n → test k ≡ false
  none→each n e = zero→each n (ltb-false 0 (count_where n test) e)

  -- where each fails, none passes
  pub each→none : (n : ℕ) → ((k : ℕ) → k < n → test k ≡ false) → any_below test n ≡ false
  each→none n each = le-ltb 0 (count_where n test) (omega (arith, count_none n test each))

-- ---- the least that passes

-- where nothing is found each fails
pub least_none→each : (test : ℕ → Bool) (n i : ℕ) → least_from test n i ≡ None → (k : ℕ) → k < n → test (i + k) ≡ false
unfolding least_from
least_none→each test zero i e k h = absurd (not-suc-le-zero h)
least_none→each test (suc n) i e k h = go (test i) refl (least_none→each test n (suc i)) e k h
  where
    go : (b : Bool) → test i ≡ b → (least_from test n (suc i) ≡ None → (j : ℕ) → j < n → test (suc i + j) ≡ false) → cond b (Some i) (least_from test n (suc i)) ≡ None
        → (k : ℕ) → k < suc n → test (i + k) ≡ false
    go true t rest f k h = absurd (no_index i f)
    go false t rest f zero h = ap test (add-zero i) ∙ t
    go false t rest f (suc j) h = ap test (add-suc i j ∙ sym (suc-add i j)) ∙ rest f j (omega arith)
