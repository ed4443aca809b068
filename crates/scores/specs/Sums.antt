-- What the lanes of keys are joined to, and how many keys a block has. Definitions only.
use Rattle.std.specs.Prelude.{ℕ, ◌+◌, ◌*◌, ◌/◌, Bool, true, false, List, ltb, Float}
use Rattle.std.specs.Float.{binary32}
use Rattle.std.specs.Float.Ieee.{add, mul}
use Rattle.softmax.specs.Lists.{element_of}

-- the lanes of key j joined, and scaled
abbrev pub joined_at : List Float → Float → ℕ → Float
joined_at lanes scale j =
    mul binary32 (add binary32 (add binary32 (element_of lanes (j * 4)) (element_of lanes (j * 4 + 1))) (add binary32 (element_of lanes (j * 4 + 2)) (element_of lanes (j * 4 + 3)))) scale

-- the keys of the next block, of those that are left: as many fours as there are, sixteen at most
abbrev pub fours_or_sixteen : Bool → ℕ → ℕ
fours_or_sixteen true left = left / 4 * 4
fours_or_sixteen false left = 16

abbrev pub block_of : ℕ → ℕ
block_of left = fours_or_sixteen (ltb left 16) left
