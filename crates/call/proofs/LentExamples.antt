-- The lent tensors of a contract by computation: each is the one that was lent in its place, before the call as it came in and after it as it goes out. Assumes nothing.
use mathlib.Core.Path.{◌≡◌, refl}
use mathlib.Core.Bool.{false}
use mathlib.Core.List.{[], ◌∷◌}
use Prim.Native.Nat.{ℕ, ◌+◌}
use lib.IntN.{pos}
use lib.Ieee.{Float, fin}
use Rattle.call.specs.declared.LentInputs.{LentInputs}
use Rattle.call.specs.Tensors.{inputs_of, outputs_of}
use Rattle.call.specs.Lent.{Slice, Lent, SliceMut, LentMut, inputs_given, lent_given, outputs_before, outputs_after}

-- a slice of one element
abbrev slice_of : {A : Type 0} → A → Slice A
slice_of x = record { ref_ptr = (0, 0); now = x ∷ [] }

-- one that came in with the first element and goes out with the second
abbrev pub lent : {A : Type 0} → A → A → Lent A
lent x y = record { entry = slice_of x; exit = slice_of y }

-- the same of a slice that is written
abbrev slice_mut_of : {A : Type 0} → A → SliceMut A
slice_mut_of x = record { ref_ptr = (0, 0); ghost_name = 0; now = x ∷ [] }

abbrev pub lent_mut : {A : Type 0} → A → A → LentMut A
lent_mut x y = record { entry = slice_mut_of x; exit = slice_mut_of y }

abbrev pub number : ℕ → Float
number n = fin false n (pos 0)

-- tensors that are lent together, each of one element, numbered from n on
abbrev pub together : ℕ → LentInputs
together n = record {
  query = slice_of (number n);
  key = slice_of (number (n + 1));
  value = slice_of (number (n + 2));
  boolmask = slice_of (n + 3);
  floatmask = slice_of (number (n + 4));
  pastkey = slice_of (number (n + 5));
  pastvalue = slice_of (number (n + 6));
  live = slice_of (pos (n + 7));
}

pub record LentExamplesHold : Type 0 where
  pub given : inputs_given (lent (number 1) (number 11)) (lent (number 2) (number 12)) (lent (number 3) (number 13)) (lent 4 14) (lent (number 5) (number 15)) (lent (number 6) (number 16)) (lent (number 7) (number 17)) (lent (pos 8) (pos 18))
      ≡ inputs_of (number 1 ∷ []) (number 2 ∷ []) (number 3 ∷ []) (4 ∷ []) (number 5 ∷ []) (number 6 ∷ []) (number 7 ∷ []) (pos 8 ∷ [])
  pub together_given : lent_given (record { entry = together 1; exit = together 11 })
      ≡ inputs_of (number 1 ∷ []) (number 2 ∷ []) (number 3 ∷ []) (4 ∷ []) (number 5 ∷ []) (number 6 ∷ []) (number 7 ∷ []) (pos 8 ∷ [])
  pub before : outputs_before (lent_mut (number 1) (number 11)) (lent_mut (number 2) (number 12)) (lent_mut (number 3) (number 13)) (lent_mut (number 4) (number 14)) (lent_mut (number 5) (number 15))
      ≡ outputs_of (number 1 ∷ []) (number 2 ∷ []) (number 3 ∷ []) (number 4 ∷ []) (number 5 ∷ [])
  pub after : outputs_after (lent_mut (number 1) (number 11)) (lent_mut (number 2) (number 12)) (lent_mut (number 3) (number 13)) (lent_mut (number 4) (number 14)) (lent_mut (number 5) (number 15))
      ≡ outputs_of (number 11 ∷ []) (number 12 ∷ []) (number 13 ∷ []) (number 14 ∷ []) (number 15 ∷ [])

pub lent_examples_hold : LentExamplesHold
lent_examples_hold = record { given = refl; together_given = refl; before = refl; after = refl }
