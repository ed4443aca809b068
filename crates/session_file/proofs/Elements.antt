-- An element without fault is a number. Assumes nothing.
use mathlib.Core.Path.{◌≡◌}
use mathlib.Core.Bool.{false, not, true≢false}
use lib.Dec.{T}
use lib.Ieee.{Float, nan, inf, fin, is_nan, le}
use Rattle.call.specs.Contents.{element_fault}

pub sound→number : (x : Float) → element_fault x ≡ false → T (not (is_nan x))
unfolding element_fault le is_nan
sound→number nan e = absurd (true≢false e)
sound→number (inf s) e = tt
sound→number (fin s m k) e = tt
