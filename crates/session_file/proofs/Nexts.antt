-- What stands where a record would begin, from the tests that tell it, and the walk by one position. Assumes nothing.
use mathlib.Core.Path.{◌≡◌, refl, sym, ap, ◌∙◌}
use mathlib.Core.Bool.{true, false}
use mathlib.Core.List.{List}
use Prim.Native.Nat.{ℕ, suc, ◌+◌, ◌-◌, ◌≤◌, ◌<◌}
use native.Mathlib.Numerals.{add-one}
use native.Mathlib.Omega.{arith}
use borrow.Author.Tests.{lt-ltb, le-ltb}
use lib.ListN.{length}
use Rattle.records.specs.Records.{head_is}
use Rattle.session_file.specs.declared.Sizes.{Sizes}
use Rattle.session_file.specs.declared.Next.TheVariants.{Ended, Wrong, Cut, Whole}
use Rattle.session_file.specs.Sizes.{payload_length, record_length, record_start}
use Rattle.session_file.specs.Reader.{next_of, position_fault, at_most, onward, walk_from}

module _ (z : Sizes) (file : List ℕ) (p : ℕ) where
  pub next_ended : length file < record_start z p + 6 → next_of z file p ≡ Ended
  unfolding next_of
  next_ended h = rw (lt-ltb (length file) (record_start z p + 6) h)

  pub next_wrong : record_start z p + 6 ≤ length file → head_is file (record_start z p) (payload_length z) 2 ≡ false → next_of z file p ≡ Wrong
  unfolding next_of
  next_wrong h e = rw (le-ltb (length file) (record_start z p + 6) h, e)

  pub next_cut : record_start z p + 6 ≤ length file → head_is file (record_start z p) (payload_length z) 2 ≡ true → length file < record_start z p + record_length z → next_of z file p ≡ Cut
  unfolding next_of
  next_cut h e l = rw (le-ltb (length file) (record_start z p + 6) h, e, lt-ltb (length file) (record_start z p + record_length z) l)

  pub next_whole : record_start z p + 6 ≤ length file → head_is file (record_start z p) (payload_length z) 2 ≡ true → record_start z p + record_length z ≤ length file → next_of z file p ≡ Whole
  unfolding next_of
  next_whole h e l = rw (le-ltb (length file) (record_start z p + 6) h, e, le-ltb (length file) (record_start z p + record_length z) l)

  -- ---- the walk

  pub walk_end : walk_from z file 0 p ≡ at_most z p (next_of z file p)
  unfolding walk_from
  walk_end = refl

  pub walk_on : p < 2048 → walk_from z file (2048 - p) p ≡ onward z p (next_of z file p) (position_fault z file p) (walk_from z file (2048 - (p + 1)) (p + 1))
  unfolding walk_from
  walk_on l =
      let m : 2048 - p ≡ suc (2048 - (p + 1)) = omega arith in
      ap (λ (n : ℕ). walk_from z file n p) m
      ∙ ap (λ (q : ℕ). onward z p (next_of z file p) (position_fault z file p) (walk_from z file (2048 - (p + 1)) q)) (sym (add-one p))
