-- A counted call to which refusals 1 and 7 do not apply: its past is 0, and no live count is above Sk. The length of K or V by its groups. Assumes nothing.
use Rattle.std.specs.Prelude.{None}
use mathlib.Core.Path.{◌≡◌, ap, ◌∙◌, subst}
use mathlib.Core.Bool.{true}
use mathlib.Core.List.{List}
use Prim.Native.Nat.{ℕ, ◌*◌, ◌≤◌, ◌<◌}
use native.Mathlib.Nat.{mul-one, mul_assoc, mul_right_comm}
use native.Mathlib.Omega.{arith}
use lib.Dec.{T, eqb→eq}
use lib.IntN.{ℤ, pos}
use lib.ListN.{length, get_or}
use Rattle.call.specs.declared.Call.{Call}
use Rattle.call.specs.declared.Form.{Form}
use Rattle.call.specs.declared.Form.TheVariants.{Counted}
use Rattle.call.specs.Limits.{total_of, past_allowed, limits_hold}
use Rattle.call.specs.Lengths.{in_counted, live_length}
use Rattle.call.specs.Contents.{count_of, live_in, live_of, live_fault}
use Rattle.call.proofs.Facts.{past_allowed_lem}
use Rattle.call.proofs.Clear.{count_most, live→clear}

module _ (c : Call) (limits : limits_hold c ≡ true) (counted : c.form ≡ Counted) where
  pub no_past : c.past ≡ 0
  no_past = eqb→eq c.past 0 (subst (λ (f : Form). T (past_allowed f c.past)) counted (past_allowed_lem c limits))

  pub live_most : (live : List ℤ) → length live ≡ live_length c → live_fault c live ≡ None → (b : ℕ) → b < c.batches → live_of c live b ≤ c.klen
  live_most live n e b h =
      let p = no_past in
      let m : length live ≡ c.batches = n ∙ ap (λ (f : Form). in_counted f c.batches) counted in
      let l = count_most (total_of c) (get_or live b (pos 0)) (live→clear c live e b (omega arith)) in
      let q : live_of c live b ≡ count_of (get_or live b (pos 0)) = ap (λ (f : Form). live_in f (total_of c) live b) counted in
      omega arith

-- the elements of a batch and key head, and those of a batch, together
pub length_rank4 : (b h s d : ℕ) → b * h * s * d ≡ b * h * (s * d)
length_rank4 b h s d = mul_assoc (b * h) s d

pub length_rank3 : (b h s d : ℕ) → b * h * s * d ≡ b * 1 * (s * (h * d))
length_rank3 b h s d = rw (mul_right_comm b h s, mul_assoc (b * s) h d, mul_assoc b s (h * d), mul-one b)
