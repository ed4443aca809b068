-- A mode that shows something has as much room for a row as there are positions. Assumes nothing.
use Rattle.std.specs.Prelude.{Option, Some, None}
use mathlib.Core.Path.{◌≡◌, refl, sym}
use mathlib.Core.Bool.{true, true≢false}
use Prim.Native.Nat.{ℕ}
use Rattle.call.specs.Lengths.{in_scores}
use Rattle.row_steps.specs.Steps.{shows_of}

pub shows_room : (mode : Option ℕ) (low high n : ℕ) → shows_of mode low high ≡ true → in_scores mode n ≡ n
shows_room None low high n e = absurd (true≢false (sym e))
shows_room (Some m) low high n e = refl
