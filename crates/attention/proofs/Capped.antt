-- The cap of an accepted call: a score under it never exceeds it in magnitude, E is asked only where it has a value, and a cap of 0 of either sign is allowed and leaves every score. Assumes nothing.
use Rattle.std.specs.Prelude.{Ok}
use mathlib.Core.Path.{◌≡◌, subst, sym}
use Prim.Native.Nat.{ℕ, ◌<◌}
use mathlib.Core.Bool.{true, false}
use lib.Dec.{T}
use lib.Ieee.{Float, fin, binary32, div, le, lt, eq, fits}
use lib.Ieee.Fits.{and_i}
use lib.Ieee.Bits.{is_true}
use lib.Ieee.Scale.{finite}
use Rattle.float_laws.proofs.Order.{plus, le_trans, above_zero, zero_not_below, zero_not_above, finite_between}
use Rattle.exponential.specs.ExpNeg.{plus_zero}
use Rattle.exponential.proofs.Laws.{fails, has_value}
use Rattle.softmax.specs.Cap.{twice_of}
use Rattle.softmax.proofs.Bounds.{bounded, element_bound}
use Rattle.softmax.proofs.Cap.{capped_bounded, with_cap_lem, no_cap, cap_asked_where_valued}
use Rattle.call.specs.declared.Call.{Call}
use Rattle.call.specs.Limits.{cap_allowed}
use Rattle.call.specs.Tensors.{Inputs, Outputs}
use Rattle.call.specs.Refusals.{verdict_of}
use Rattle.call.proofs.Accepted.{Accepts, verdict→accepts}
use Rattle.attention.specs.Admission.{admits}
use Rattle.attention.specs.Formula.{masked_score, capped_score}
use Rattle.attention.proofs.Facts.{cap_within}
use Rattle.attention.proofs.Bounded.{MaskFits, admitted_finite}

-- ---- a call with a cap

above_plus : (x : Float) → T (finite x) → T (lt plus_zero x) → T (plus x)
above_plus lib.Ieee.nan f h = elim f [ ]
above_plus (lib.Ieee.inf _) f h = elim f [ ]
above_plus (fin true m e) f h = absurd (unfold lt in h)
above_plus (fin false m e) f h = tt

module _ (c : Call) (x : Inputs) (y : Outputs) (accepted : verdict_of c x y ≡ Ok tt) (capped : eq c.softcap plus_zero ≡ false) where
  a : Accepts c x y
  a = verdict→accepts c x y accepted

  cap_above : T (lt plus_zero c.softcap)
  cap_above = above_zero c.softcap (cap_within a).0 (fails (eq c.softcap plus_zero) capped)

  cap_finite : T (finite c.softcap)
  cap_finite = finite_between plus_zero c.softcap element_bound tt tt (cap_within a).0 (cap_within a).1

  -- a score under the cap is a number, and never exceeds the cap in magnitude; the cap is an f32, as the record's is
  pub capped_score_within : T (fits binary32 c.softcap) → (b h i j : ℕ) → T (bounded c.softcap (capped_score c x b h i j))
  unfolding capped_score
  capped_score_within fit b h i j =
      subst (λ (s : Float). T (bounded c.softcap s)) (sym (with_cap_lem c.softcap (masked_score c x b h i j) capped))
      (capped_bounded c.softcap (masked_score c x b h i j) fit (above_plus c.softcap cap_finite cap_above))

  -- the cap never asks E below 0 or at NaN
  pub cap_asks_where_valued : MaskFits x → (b h i j : ℕ) → b < c.batches → h < c.qheads → i < c.qlen → admits c x b h i j ≡ true → T (has_value (twice_of (div binary32 (masked_score c x b h i j) c.softcap)))
  cap_asks_where_valued fit b h i j hb hh hi e = cap_asked_where_valued c.softcap (masked_score c x b h i j) (admitted_finite a b h i hb hh hi fit j e) cap_finite cap_above

-- ---- a call without one

-- 0 of either sign is an allowed cap
pub zero_allowed : (z : Float) → eq z plus_zero ≡ true → cap_allowed z ≡ true
zero_allowed z e =
    let h : T (eq z plus_zero) = subst T (sym e) tt in
    is_true (cap_allowed z) (and_i (le plus_zero z) (le z element_bound) (zero_not_below z h) (le_trans z plus_zero element_bound (zero_not_above z h) (unfold le in tt)))

-- and leaves every score as the mask does
pub uncapped_score : (c : Call) (x : Inputs) → eq c.softcap plus_zero ≡ true → (b h i j : ℕ) → capped_score c x b h i j ≡ masked_score c x b h i j
unfolding capped_score
uncapped_score c x none b h i j = no_cap c.softcap (masked_score c x b h i j) none
