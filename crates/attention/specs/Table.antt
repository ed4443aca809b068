-- What an example says of the formulas, and the starred examples A to I as one table of such claims. Definitions only.
use Rattle.std.specs.Prelude.{◌≡◌, List, [], ◌∷◌, ℕ, false, negsuc, Float, Option, Some, None}
use Rattle.std.specs.Float.{fin, binary32}
use Rattle.std.specs.Float.Ieee.{mul, of_bits}
use Rattle.tables.specs.Scale.{default_scale_of}
use Rattle.exponential.specs.ExpNeg.{plus_zero, one, limit, log2e, whole_part_of, scaled_of, exp_neg_of}
use Rattle.softmax.specs.Cap.{capped_where}
use Rattle.call.specs.declared.Call.{Call}
use Rattle.call.specs.declared.Form.TheVariants.{Plain, Cached}
use Rattle.call.specs.declared.MaskKind.TheVariants.{NoMask, Boolean}
use Rattle.call.specs.declared.Scale.TheVariants.{Absent}
use Rattle.call.specs.Parts.{call_with}
use Rattle.call.specs.Tensors.{Inputs, Outputs}
use Rattle.attention.specs.Elements.{key_head_of}
use Rattle.attention.specs.Outcomes.{Outcome, attention_of}
use Rattle.attention.specs.Calls.{number, small, lending, lending_past, tensors, zeros, done}

-- what an example says
pub data Claim : Type 0 where
  -- the call, with these tensors, has this outcome
  outcome : Call → Inputs → Outputs → Outcome → Claim
  -- E by y, as it stands after the product with LOG2E
  exponential_at : Float → Float → Claim
  -- E of d
  exponential_of : Float → Option Float → Claim
  -- n of d
  whole_part : Float → ℕ → Claim
  -- the default scale of a head size
  scale_of : ℕ → Option Float → Claim
  -- the key head of a query head
  key_head : Call → ℕ → ℕ → Claim
  -- under a cap a score becomes this
  under_cap : Float → Float → Float → Claim

abbrev pub ClaimHolds : Claim → Type 0
ClaimHolds (outcome c x y o) = attention_of c x y ≡ o
ClaimHolds (exponential_at y e) = scaled_of y ≡ e
ClaimHolds (exponential_of d e) = exp_neg_of d ≡ e
ClaimHolds (whole_part d n) = whole_part_of (mul binary32 d log2e) ≡ n
ClaimHolds (scale_of D s) = default_scale_of D ≡ s
ClaimHolds (key_head c h g) = key_head_of c h ≡ g
ClaimHolds (under_cap c s e) = capped_where c s ≡ e

abbrev pub AllHold : List Claim → Type 0
AllHold [] = Unit {0}
AllHold (claim ∷ claims) = ClaimHolds claim × AllHold claims

-- 0.5
abbrev pub half : Float
half = fin false 1 (negsuc 0)

-- four query heads and two key heads
abbrev pub grouped : Call
grouped = call_with Plain NoMask Absent plus_zero None 4 0 1 4 2 1 1 0 1 1 1 1 1 1

-- ---- A to F: the calls, what they lend, and their outcomes

-- A: q 2, k 3, v 5: s 6, weight 1, output 5
abbrev pub inputs_a : Inputs
inputs_a = lending (number 1 1 ∷ []) (number 3 0 ∷ []) (number 5 0 ∷ []) []

abbrev pub lent_a : Outputs
lent_a = tensors (zeros 1) [] [] (zeros 1) (zeros 1)

abbrev pub outcome_a : Float → Outcome
outcome_a score = done 1 0 (tensors (number 5 0 ∷ []) [] [] (score ∷ []) (one ∷ []))

-- B: q 1, keys 3 3, values 2 4: weights 0.5 0.5, output 3
abbrev pub inputs_b : List ℕ → Inputs
inputs_b mask = lending (one ∷ []) (number 3 0 ∷ number 3 0 ∷ []) (number 1 1 ∷ number 1 2 ∷ []) mask

abbrev pub lent_b : Outputs
lent_b = tensors (zeros 1) [] [] [] (zeros 2)

abbrev pub outcome_b : Outcome
outcome_b = done 2 0 (tensors (number 3 0 ∷ []) [] [] [] (half ∷ half ∷ []))

-- C: as B, with the boolean mask 0 0: output +0 and one fully masked row; with the mask 1 0: output 2
abbrev pub call_c : Call
call_c = small Plain Boolean None 0 0 1 2

abbrev pub outcome_c : Outcome
outcome_c = done 2 1 (tensors (plus_zero ∷ []) [] [] [] (plus_zero ∷ plus_zero ∷ []))

-- D: q 1 1, keys 1 1, values 6 12, plain causal: outputs 6 and 9
abbrev pub inputs_d : Inputs
inputs_d = lending (one ∷ one ∷ []) (one ∷ one ∷ []) (number 3 1 ∷ number 3 2 ∷ []) []

abbrev pub outcome_d : Outcome
outcome_d = done 2 0 (tensors (number 3 1 ∷ number 9 0 ∷ []) [] [] [] (half ∷ half ∷ []))

-- E: past key 1 and value 6, then query 1, key 1, value 12, cached causal: output 9, presents 1 1 and 6 12
abbrev pub call_e : Call
call_e = small Cached NoMask None 1 1 1 1

abbrev pub inputs_e : Inputs
inputs_e = lending_past (one ∷ []) (one ∷ []) (number 3 2 ∷ []) (one ∷ []) (number 3 1 ∷ [])

abbrev pub lent_e : Outputs
lent_e = tensors (zeros 1) (zeros 2) (zeros 2) [] (zeros 2)

abbrev pub outcome_e : Outcome
outcome_e = done 2 0 (tensors (number 9 0 ∷ []) (one ∷ one ∷ []) (number 3 1 ∷ number 3 2 ∷ []) [] (half ∷ half ∷ []))

-- F: q 1, keys 100 0, values 8 9: output 8, second weight +0
abbrev pub inputs_f : Inputs
inputs_f = lending (one ∷ []) (number 25 2 ∷ plus_zero ∷ []) (number 1 3 ∷ number 9 0 ∷ []) []

abbrev pub outcome_f : Outcome
outcome_f = done 2 0 (tensors (number 1 3 ∷ []) [] [] [] (one ∷ plus_zero ∷ []))

-- ---- the table

unfoldable pub starred_table : List Claim
unfolding of_bits
starred_table =
    -- A, in the modes that show s, and in the one that shows the weight
    outcome (small Plain NoMask (Some 0) 0 0 1 1) inputs_a lent_a (outcome_a (number 3 1))
    ∷ outcome (small Plain NoMask (Some 1) 0 0 1 1) inputs_a lent_a (outcome_a (number 3 1))
    ∷ outcome (small Plain NoMask (Some 2) 0 0 1 1) inputs_a lent_a (outcome_a (number 3 1))
    ∷ outcome (small Plain NoMask (Some 3) 0 0 1 1) inputs_a lent_a (outcome_a one)
    -- B
    ∷ outcome (small Plain NoMask None 0 0 1 2) (inputs_b []) lent_b outcome_b
    -- C
    ∷ outcome call_c (inputs_b (0 ∷ 0 ∷ [])) lent_b outcome_c
    ∷ outcome call_c (inputs_b (1 ∷ 0 ∷ [])) lent_b (done 2 0 (tensors (number 1 1 ∷ []) [] [] [] (one ∷ plus_zero ∷ [])))
    -- D
    ∷ outcome (small Plain NoMask None 1 0 2 2) inputs_d (tensors (zeros 2) [] [] [] (zeros 2)) outcome_d
    -- E
    ∷ outcome call_e inputs_e lent_e outcome_e
    -- F; with keys 83 0 n is 30,654, and E isn't zero
    ∷ outcome (small Plain NoMask None 0 0 1 2) inputs_f lent_b outcome_f
    ∷ whole_part (number 83 0) 30654
    ∷ exponential_of (number 83 0) (Some (of_bits binary32 0x0398e2bc))
    -- G: y 0, 0.5, 1 and 120
    ∷ exponential_at plus_zero one
    ∷ exponential_at half (of_bits binary32 0x3f3504f3)
    ∷ exponential_at one half
    ∷ exponential_at limit plus_zero
    -- H: D 4, 16, 64, 256 and 2
    ∷ scale_of 4 (Some half)
    ∷ scale_of 16 (Some (fin false 1 (negsuc 1)))
    ∷ scale_of 64 (Some (fin false 1 (negsuc 2)))
    ∷ scale_of 256 (Some (fin false 1 (negsuc 3)))
    ∷ scale_of 2 (Some (of_bits binary32 0x3f3504f3))
    -- I: heads 0 and 1 use 0, heads 2 and 3 use 1
    ∷ key_head grouped 0 0
    ∷ key_head grouped 1 0
    ∷ key_head grouped 2 1
    ∷ key_head grouped 3 1
    ∷ []
