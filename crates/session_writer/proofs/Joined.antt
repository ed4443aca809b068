-- Lists f 0, f 1, .. joined one after the other: none, and one more. Assumes nothing.
use mathlib.Core.Path.{◌≡◌, refl, sym, ap}
use mathlib.Core.List.{List, [], ◌++◌}
use Prim.Native.Nat.{ℕ, ◌+◌}
use native.Mathlib.Numerals.{add-one}
use Rattle.session_file.specs.Below.{joined}

module _ {A : Type 0} (f : ℕ → List A) where
  pub joined_none : joined f 0 ≡ []
  unfolding joined
  joined_none = refl

  pub joined_more : (n : ℕ) → joined f n ++ f n ≡ joined f (n + 1)
  unfolding joined
  joined_more n = ap (joined f) (sym (add-one n))
