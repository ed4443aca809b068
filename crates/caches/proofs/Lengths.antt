-- The length of the past cache is the product of its dimensions in every form, since P is 0 outside the cached form. Assumes nothing.
use mathlib.Core.Path.{◌≡◌, refl}
use mathlib.Core.Bool.{true}
use Prim.Native.Nat.{ℕ, ◌*◌}
use native.Mathlib.Nat.{mul-zero, zero-mul}
use lib.Dec.{T, eqb→eq}
use Rattle.call.specs.declared.Call.{Call}
use Rattle.call.specs.declared.Form.{Form}
use Rattle.call.specs.declared.Form.TheVariants.{Plain, Cached, Counted}
use Rattle.call.specs.Limits.{past_allowed, limits_hold}
use Rattle.call.specs.Lengths.{in_cached}
use Rattle.call.proofs.Facts.{past_allowed_lem}

in_form : (f : Form) (heads past size : ℕ) → T (past_allowed f past) → in_cached f (heads * past * size) ≡ heads * past * size
in_form Plain heads past size t = rw (eqb→eq past 0 t, mul-zero heads, zero-mul size)
in_form Cached heads past size t = refl
in_form Counted heads past size t = rw (eqb→eq past 0 t, mul-zero heads, zero-mul size)

pub past_length_is : (c : Call) (size : ℕ) → limits_hold c ≡ true → in_cached c.form (c.batches * c.kvheads * c.past * size) ≡ c.batches * c.kvheads * c.past * size
past_length_is c size e = in_form c.form (c.batches * c.kvheads) c.past size (past_allowed_lem c e)
