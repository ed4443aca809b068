-- Lists that are joined in turn: their length where all have one length, and one of them where it stands. Assumes nothing.
use mathlib.Core.Path.{◌≡◌, refl, sym, ap, ◌∙◌}
use mathlib.Core.List.{List, [], ◌++◌, append-nil, append_assoc}
use Prim.Native.Nat.{ℕ, zero, suc, ◌*◌, ◌<◌}
use native.Mathlib.Nat.{not-suc-le-zero, suc-mul, zero-mul}
use native.Mathlib.Decide.{dec_lt}
use native.Mathlib.Omega.{arith}
use lib.ListN.{length, length-append}
use Rattle.session_file.specs.Below.{joined}

module _ {A : Type 0} (f : ℕ → List A) where
  pub length_joined : (w n : ℕ) → ((i : ℕ) → i < n → length (f i) ≡ w) → length (joined f n) ≡ n * w
  unfolding joined
  length_joined w zero e = sym (zero-mul w)
  length_joined w (suc n) e = omega (arith, length-append (joined f n) (f n), length_joined w n (λ i l. e i (omega arith)), e n (omega arith), suc-mul n w)

  -- what stands behind list i of n
  abbrev pub Split : ℕ → ℕ → Type 0
  Split n i = (q : List A) × (joined f n ≡ joined f i ++ (f i ++ q))

  pub joined_split : (n i : ℕ) → i < n → Split n i
  unfolding joined
  joined_split zero i l = absurd (not-suc-le-zero l)
  joined_split (suc n) i l = go (joined_split n i) (dec_lt i n)
    where
      go : (i < n → Split n i) → Dec (i < n) → Split (suc n) i
      go before (yes m) =
          let s = before m in
          (s.0 ++ f n, ap (λ (r : List A). r ++ f n) s.1 ∙ append_assoc (joined f i) (f i ++ s.0) (f n) ∙ ap (λ (r : List A). joined f i ++ r) (append_assoc (f i) s.0 (f n)))
      go before (no m) = let e : n ≡ i = omega arith in ([], (λ j. joined f (e j) ++ f (e j)) ∙ ap (λ (r : List A). joined f i ++ r) (sym (append-nil (f i))))

-- equal lists are joined alike
pub joined_ext : {A : Type 0} (f g : ℕ → List A) (n : ℕ) → ((i : ℕ) → i < n → f i ≡ g i) → joined f n ≡ joined g n
unfolding joined
joined_ext f g zero e = refl
joined_ext f g (suc n) e = λ j. joined_ext f g n (λ i l. e i (omega arith)) j ++ e n (omega arith) j
