-- Calls with a cap of 2, by computation: what each mode shows, with a hidden key and with a float mask. The bits that are not worked out by hand are those that a reference written from the rules gives. Assumes nothing.
use Rattle.std.specs.Prelude.{Some}
use mathlib.Core.Path.{◌≡◌, refl}
use mathlib.Core.List.{[], ◌∷◌}
use Prim.Native.Nat.{ℕ}
use lib.Ieee.{Float, binary32, of_bits}
use Rattle.exponential.specs.ExpNeg.{plus_zero, one}
use Rattle.softmax.specs.Lists.{hidden}
use Rattle.call.specs.declared.Call.{Call}
use Rattle.call.specs.declared.Form.TheVariants.{Plain}
use Rattle.call.specs.declared.MaskKind.TheVariants.{Boolean, FloatMask}
use Rattle.call.specs.Tensors.{Inputs, Outputs, inputs_of}
use Rattle.call.proofs.CapEdges.{with_cap}
use Rattle.attention.specs.Outcomes.{Outcome, attention_of}
use Rattle.attention.specs.Calls.{small, lending, tensors, zeros, done}
use Rattle.attention.proofs.LayoutCalls.{two, three, four}

-- q 1, keys 3 1, values 2 4: the second key is hidden
abbrev pub masked : ℕ → Call
masked mode = with_cap two (small Plain Boolean (Some mode) 0 0 1 2)

abbrev pub masked_inputs : Inputs
masked_inputs = lending (one ∷ []) (three ∷ one ∷ []) (two ∷ four ∷ []) (1 ∷ 0 ∷ [])

-- the same with the cells -4 and 1: the scores after the mask are -1 and 2
abbrev pub added : ℕ → Call
added mode = with_cap two (small Plain FloatMask (Some mode) 0 0 1 2)

abbrev pub added_inputs : Float → Inputs
added_inputs cell = inputs_of (one ∷ []) (three ∷ one ∷ []) (two ∷ four ∷ []) [] (cell ∷ one ∷ []) [] [] []

abbrev pub room : Outputs
room = tensors (zeros 1) [] [] (zeros 2) (zeros 2)

-- the output 2, and the weights 1 and +0
abbrev pub alone : (first second : Float) → Outcome
alone first second = done 2 0 (tensors (two ∷ []) [] [] (first ∷ second ∷ []) (one ∷ plus_zero ∷ []))

-- the output and the weights of both
unfoldable pub both : (first second : Float) → Outcome
unfolding of_bits
both first second = done 2 0 (tensors (of_bits binary32 0x4075cec7 ∷ []) [] [] (first ∷ second ∷ []) (of_bits binary32 0x3da3139c ∷ of_bits binary32 0x3f6b9d8d ∷ []))

pub record CapCallsHold : Type 0 where
  -- mode 1 before the cap, mode 2 after it; minus infinity and +0 at the hidden key
  pub masked_0 : attention_of (masked 0) masked_inputs room ≡ alone three one
  pub masked_1 : attention_of (masked 1) masked_inputs room ≡ alone three hidden
  pub masked_2 : attention_of (masked 2) masked_inputs room ≡ alone (of_bits binary32 0x3fe7b7cc) hidden
  pub masked_3 : attention_of (masked 3) masked_inputs room ≡ alone one plus_zero
  -- the cap comes after the mask
  pub added_0 : attention_of (added 0) (added_inputs (of_bits binary32 0xc0800000)) room ≡ both three one
  pub added_1 : attention_of (added 1) (added_inputs (of_bits binary32 0xc0800000)) room ≡ both (of_bits binary32 0xbf800000) two
  pub added_2 : attention_of (added 2) (added_inputs (of_bits binary32 0xc0800000)) room ≡ both (of_bits binary32 0xbf6c9a9f) (of_bits binary32 0x3fc2f7d5)
  pub added_3 : attention_of (added 3) (added_inputs (of_bits binary32 0xc0800000)) room ≡ both (of_bits binary32 0x3da3139c) (of_bits binary32 0x3f6b9d8d)

pub cap_calls_hold : CapCallsHold
unfolding attention_of both
cap_calls_hold = record {
  masked_0 = refl;
  masked_1 = refl;
  masked_2 = refl;
  masked_3 = refl;
  added_0 = refl;
  added_1 = refl;
  added_2 = refl;
  added_3 = refl;
}
