-- Numbers, calls and tensors of the further examples. Assumes nothing.
use Rattle.std.specs.Prelude.{Option, None}
use mathlib.Core.List.{List, [], ◌∷◌}
use Prim.Native.Nat.{ℕ}
use mathlib.Core.Bool.{true, false}
use lib.IntN.{ℤ, pos, negsuc}
use lib.Ieee.{Float, nan, fin}
use Rattle.exponential.specs.ExpNeg.{plus_zero, one}
use Rattle.call.specs.declared.Call.{Call}
use Rattle.call.specs.declared.Form.{Form}
use Rattle.call.specs.declared.Form.TheVariants.{Plain, Counted}
use Rattle.call.specs.declared.MaskKind.{MaskKind}
use Rattle.call.specs.declared.MaskKind.TheVariants.{NoMask}
use Rattle.call.specs.declared.Scale.{Scale}
use Rattle.call.specs.declared.Scale.TheVariants.{Given}
use Rattle.call.specs.Parts.{call_with}
use Rattle.call.specs.Tensors.{Inputs, Outputs}
use Rattle.attention.specs.Outcomes.{Outcome}
use Rattle.attention.specs.Calls.{number, lending, lending_past, tensors, zeros, done}

-- ---- numbers

-- whole numbers
abbrev pub two : Float
two = number 1 1

abbrev pub three : Float
three = number 3 0

abbrev pub four : Float
four = number 1 2

abbrev pub five : Float
five = number 5 0

abbrev pub six : Float
six = number 3 1

abbrev pub seven : Float
seven = number 7 0

abbrev pub eight : Float
eight = number 1 3

abbrev pub nine : Float
nine = number 9 0

abbrev pub eleven : Float
eleven = number 11 0

abbrev pub twelve : Float
twelve = number 3 2

abbrev pub thirteen : Float
thirteen = number 13 0

abbrev pub fourteen : Float
fourteen = number 7 1

abbrev pub fifteen : Float
fifteen = number 15 0

abbrev pub sixteen : Float
sixteen = number 1 4

abbrev pub seventeen : Float
seventeen = number 17 0

abbrev pub eighteen : Float
eighteen = number 9 1

abbrev pub thirty : Float
thirty = number 15 1

abbrev pub hundred : Float
hundred = number 25 2

abbrev pub hundred_three : Float
hundred_three = number 103 0

abbrev pub minus_one : Float
minus_one = fin true 1 (pos 0)

-- the finite f32 furthest below 0: -(2 ^ 24 - 1) * 2 ^ 104
abbrev pub least : Float
least = fin true 16777215 (pos 104)

-- the f32 nearest to 0 above it, 2 ^ -149, and the one below
abbrev pub tiny : Float
tiny = fin false 1 (negsuc 148)

abbrev pub minus_tiny : Float
minus_tiny = fin true 1 (negsuc 148)

-- ---- calls

-- one batch without a mask, D = 1, scale 1: the form, the mode, the rank, the causal flag, Hq, Hkv, Sq, Sk, P and Dv
abbrev pub heads : Form → Option ℕ → (rank causal qheads kvheads qlen klen past vsize : ℕ) → Call
heads form mode rank causal qheads kvheads qlen klen past vsize = call_with form NoMask (Given one) plus_zero mode rank causal 1 qheads kvheads qlen klen past 1 vsize 1 1 1 1

-- two query heads over one key head, two queries and two keys, D = Dv = 1, scale 1: the batches, and the mask's kind and dimensions
abbrev pub masked : MaskKind → (batches maskb maskh maskq maskk : ℕ) → Call
masked kind batches maskb maskh maskq maskk = call_with Plain kind (Given one) plus_zero None 4 0 batches 2 1 2 2 0 1 1 maskb maskh maskq maskk

-- one query and one key, rank 4, Dv = 1: the mask kind, the scale, the mode and D
abbrev pub scaled : MaskKind → Scale → Option ℕ → ℕ → Call
scaled kind scale mode size = call_with Plain kind scale plus_zero mode 4 0 1 1 1 1 1 0 size 1 1 1 1 1

-- two batches of two queries and one key, counted
abbrev pub batched : Call
batched = call_with Counted NoMask (Given one) plus_zero None 4 0 2 1 1 2 1 0 1 1 1 1 1 1

-- ---- what is lent

-- Q, K, V and a float mask
abbrev pub lending_float : (query key value mask : List Float) → Inputs
lending_float query key value mask = record {
  query = query;
  key = key;
  value = value;
  bool_mask = [];
  float_mask = mask;
  past_key = [];
  past_value = [];
  live = [];
}

-- Q, K, V and the live counts
abbrev pub lending_live : (query key value : List Float) → List ℤ → Inputs
lending_live query key value live = record {
  query = query;
  key = key;
  value = value;
  bool_mask = [];
  float_mask = [];
  past_key = [];
  past_value = [];
  live = live;
}

-- an outcome without presents and without scores, and with scores
abbrev pub gives : (total masked : ℕ) → (output work : List Float) → Outcome
gives total masked output work = done total masked (tensors output [] [] [] work)

abbrev pub shows : (total masked : ℕ) → (output scores work : List Float) → Outcome
shows total masked output scores work = done total masked (tensors output [] [] scores work)

-- zeros to be written over: as many as Y, the scores and the work row have
abbrev pub room : (output scores work : ℕ) → Outputs
room output scores work = tensors (zeros output) [] [] (zeros scores) (zeros work)

-- ---- the lists of the examples

-- Read at rank 3, head 0 has the queries 1 1, the keys 0 100 and the values 2 6, and head 1 has -1 -1, 0 100 and 4 8: they give 6 and 4. Read at rank 4, head 0 has the keys 0 0 and the values 2 4, and head 1 has 100 100 and 6 8: 3 and 7.
abbrev pub two_heads : Inputs
two_heads = lending (one ∷ minus_one ∷ one ∷ minus_one ∷ []) (plus_zero ∷ plus_zero ∷ hundred ∷ hundred ∷ []) (two ∷ four ∷ six ∷ eight ∷ []) []

-- the same queries over one key head with the keys 0 100 and the values 2 4
abbrev pub shared_head : Inputs
shared_head = lending (one ∷ minus_one ∷ one ∷ minus_one ∷ []) (plus_zero ∷ hundred ∷ []) (two ∷ four ∷ []) []

-- q 100 and -100. The past, of rank 4, has the keys 1 2 of head 0 and 3 4 of head 1; what comes in, of rank 3, the keys 5 7 and 6 8. The values are the keys plus 10.
abbrev pub two_past : Inputs
two_past = lending_past (hundred ∷ fin true 25 (pos 2) ∷ []) (five ∷ six ∷ seven ∷ eight ∷ []) (fifteen ∷ sixteen ∷ seventeen ∷ eighteen ∷ []) (one ∷ two ∷ three ∷ four ∷ []) (eleven ∷ twelve ∷ thirteen ∷ fourteen ∷ [])

-- q 1 -1 1 -1. Key head 0 has the keys 0 100 and the values (2, 3) and (4, 5), and key head 1 has 100 0, (6, 7) and (8, 9).
abbrev pub four_heads : Inputs
four_heads = lending (one ∷ minus_one ∷ one ∷ minus_one ∷ []) (plus_zero ∷ hundred ∷ hundred ∷ plus_zero ∷ []) (two ∷ three ∷ four ∷ five ∷ six ∷ seven ∷ eight ∷ nine ∷ []) []

-- q 1, keys 3 3 and values 2 4, with a float mask; the scores are 3 and 3
abbrev pub float_masked : List Float → Inputs
float_masked mask = lending_float (one ∷ []) (three ∷ three ∷ []) (two ∷ four ∷ []) mask

-- q 2, keys 3 and NaN, values 5 and NaN, with one live position
abbrev pub one_live : Inputs
one_live = lending_live (two ∷ []) (three ∷ nan ∷ []) (five ∷ nan ∷ []) (pos 1 ∷ [])

-- q 1 2, keys 3 3, values 6 12: the scores are 3 3 and 6 6
abbrev pub causal_pair : Inputs
causal_pair = lending (one ∷ two ∷ []) (three ∷ three ∷ []) (six ∷ twelve ∷ []) []
