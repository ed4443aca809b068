-- Further examples, by computation: the two ranks, the presents, grouped heads, masks of every kind and shape, live counts, the causal diagonal, the modes and the scale.
-- Where no other way is said, an outcome is worked out by hand: two equal scores have the weights 0.5 and 0.5, and a score that is 100 or more below another has the weight +0 beside it. Assumes nothing.
use Rattle.std.specs.Prelude.{Some, None, Err}
use mathlib.Core.Path.{◌≡◌, refl}
use mathlib.Core.List.{[], ◌∷◌}
use lib.IntN.{pos}
use lib.ListN.{replicate}
use lib.Ieee.{nan, binary32, of_bits}
use Rattle.float_laws.specs.Zero.{minus_zero}
use Rattle.exponential.specs.ExpNeg.{plus_zero, one}
use Rattle.softmax.specs.Lists.{hidden}
use Rattle.call.specs.declared.Form.TheVariants.{Plain, Cached, Counted}
use Rattle.call.specs.declared.MaskKind.TheVariants.{NoMask, Boolean, FloatMask}
use Rattle.call.specs.declared.Scale.TheVariants.{Absent, Given}
use Rattle.call.specs.declared.Refusal.TheVariants.{Element}
use Rattle.attention.specs.Outcomes.{attention_of}
use Rattle.attention.specs.Calls.{small, lending, tensors, zeros, done}
use Rattle.attention.specs.Table.{half}
use Rattle.attention.proofs.LayoutCalls.{two, three, four, five, six, seven, eight, nine, eleven, twelve, thirteen, fourteen, fifteen, sixteen, seventeen, eighteen, thirty, hundred, hundred_three, least, tiny, minus_tiny, heads, masked, scaled, batched, lending_float, lending_live, gives, shows, room, two_heads, shared_head, two_past, four_heads, float_masked, one_live, causal_pair}

-- ---- the ranks and the presents

pub record RanksHold : Type 0 where
  -- the same lists at the two ranks, with the weights; the scores are of rank 4 in both, and the work row is that of the last row
  pub rank3 : attention_of (heads Plain (Some 3) 3 0 2 2 2 2 0 1) two_heads (room 4 8 2) ≡ shows 2 0 (six ∷ four ∷ six ∷ four ∷ []) (plus_zero ∷ one ∷ plus_zero ∷ one ∷ one ∷ plus_zero ∷ one ∷ plus_zero ∷ []) (one ∷ plus_zero ∷ [])
  pub rank4 : attention_of (heads Plain (Some 3) 4 0 2 2 2 2 0 1) two_heads (room 4 8 2) ≡ shows 2 0 (three ∷ three ∷ seven ∷ seven ∷ []) (replicate 8 half) (half ∷ half ∷ [])
  -- one key head, causal: at rank 3 the second query of head 0 is 1, and at rank 4 it is -1
  pub shared3 : attention_of (heads Plain None 3 1 2 1 2 2 0 1) shared_head (room 4 0 2) ≡ gives 2 0 (two ∷ two ∷ four ∷ two ∷ []) (one ∷ plus_zero ∷ [])
  pub shared4 : attention_of (heads Plain None 4 1 2 1 2 2 0 1) shared_head (room 4 0 2) ≡ gives 2 0 (two ∷ two ∷ two ∷ two ∷ []) (one ∷ plus_zero ∷ [])
  -- cached and causal at rank 3: the one query sees positions 0 to 2, the presents are of rank 4
  pub cached3 : attention_of (heads Cached None 3 1 2 2 1 2 2 1) two_past (tensors (zeros 2) (zeros 8) (zeros 8) [] (zeros 4)) ≡ done 4 0 (tensors (fifteen ∷ thirteen ∷ []) (one ∷ two ∷ five ∷ seven ∷ three ∷ four ∷ six ∷ eight ∷ []) (eleven ∷ twelve ∷ fifteen ∷ seventeen ∷ thirteen ∷ fourteen ∷ sixteen ∷ eighteen ∷ []) [] (one ∷ plus_zero ∷ plus_zero ∷ plus_zero ∷ []))

pub ranks_hold : RanksHold
unfolding attention_of
ranks_hold = record {
  rank3 = refl;
  rank4 = refl;
  shared3 = refl;
  shared4 = refl;
  cached3 = refl;
}

-- ---- grouped heads

pub record GroupsHold : Type 0 where
  -- Hq 4, Hkv 2, Dv 2: heads 0 and 1 read key head 0, heads 2 and 3 read key head 1
  pub grouped : attention_of (heads Plain None 4 0 4 2 1 2 0 2) four_heads (room 8 0 2) ≡ gives 2 0 (four ∷ five ∷ two ∷ three ∷ six ∷ seven ∷ eight ∷ nine ∷ []) (plus_zero ∷ one ∷ [])

pub groups_hold_lem : GroupsHold
unfolding attention_of
groups_hold_lem = record {
  grouped = refl;
}

-- ---- float mask cells

pub record CellsHold : Type 0 where
  -- J: minus infinity hides; the least finite number does not, and two of them are equal scores
  pub cells_hidden : attention_of (small Plain FloatMask (Some 1) 0 0 1 2) (float_masked (hidden ∷ hidden ∷ [])) (room 1 2 2) ≡ shows 2 1 (plus_zero ∷ []) (hidden ∷ hidden ∷ []) (plus_zero ∷ plus_zero ∷ [])
  pub cell_least : attention_of (small Plain FloatMask (Some 1) 0 0 1 2) (float_masked (least ∷ hidden ∷ [])) (room 1 2 2) ≡ shows 2 0 (two ∷ []) (least ∷ hidden ∷ []) (one ∷ plus_zero ∷ [])
  pub cells_least : attention_of (small Plain FloatMask (Some 2) 0 0 1 2) (float_masked (least ∷ least ∷ [])) (room 1 2 2) ≡ shows 2 0 (three ∷ []) (least ∷ least ∷ []) (half ∷ half ∷ [])
  -- a float mask is added: 3 and 103 in mode 2, and 3 and 3 in mode 0
  pub cell_added : attention_of (small Plain FloatMask (Some 2) 0 0 1 2) (float_masked (plus_zero ∷ hundred ∷ [])) (room 1 2 2) ≡ shows 2 0 (four ∷ []) (three ∷ hundred_three ∷ []) (plus_zero ∷ one ∷ [])
  pub cell_not_shown : attention_of (small Plain FloatMask (Some 0) 0 0 1 2) (float_masked (hundred ∷ hidden ∷ [])) (room 1 2 2) ≡ shows 2 0 (two ∷ []) (three ∷ three ∷ []) (one ∷ plus_zero ∷ [])
  -- q -2 ^ -149, k 1 and the scale 0.5 have the score -0; the cell +0 makes it +0, and the cell -0 leaves it
  pub minus_zero_is : attention_of (scaled FloatMask (Given half) (Some 0) 1) (lending_float (minus_tiny ∷ []) (one ∷ []) (one ∷ []) (plus_zero ∷ [])) (room 1 1 1) ≡ shows 1 0 (one ∷ []) (minus_zero ∷ []) (one ∷ [])
  pub plus_zero_added : attention_of (scaled FloatMask (Given half) (Some 1) 1) (lending_float (minus_tiny ∷ []) (one ∷ []) (one ∷ []) (plus_zero ∷ [])) (room 1 1 1) ≡ shows 1 0 (one ∷ []) (plus_zero ∷ []) (one ∷ [])
  pub minus_zero_added : attention_of (scaled FloatMask (Given half) (Some 1) 1) (lending_float (minus_tiny ∷ []) (one ∷ []) (one ∷ []) (minus_zero ∷ [])) (room 1 1 1) ≡ shows 1 0 (one ∷ []) (minus_zero ∷ []) (one ∷ [])

pub cells_hold : CellsHold
unfolding attention_of
cells_hold = record {
  cells_hidden = refl;
  cell_least = refl;
  cells_least = refl;
  cell_added = refl;
  cell_not_shown = refl;
  minus_zero_is = refl;
  plus_zero_added = refl;
  minus_zero_added = refl;
}

-- ---- repeated masks

pub record MasksHold : Type 0 where
  -- masks that are repeated: (1, 1, Sq, T) over the heads, (1, Hq, 1, 1) over the rows and keys, and (B, 1, 1, T) over the heads and rows
  pub mask_rows : attention_of (masked Boolean 1 1 1 2 2) (lending (replicate 4 one) (three ∷ three ∷ []) (two ∷ four ∷ []) (1 ∷ 0 ∷ 1 ∷ 1 ∷ [])) (room 4 0 2) ≡ gives 2 0 (two ∷ three ∷ two ∷ three ∷ []) (half ∷ half ∷ [])
  pub mask_heads : attention_of (masked FloatMask 1 1 2 1 1) (lending_float (replicate 4 one) (three ∷ three ∷ []) (two ∷ four ∷ []) (plus_zero ∷ hidden ∷ [])) (room 4 0 2) ≡ gives 2 2 (three ∷ three ∷ plus_zero ∷ plus_zero ∷ []) (plus_zero ∷ plus_zero ∷ [])
  pub mask_batches : attention_of (masked Boolean 2 2 1 1 2) (lending (replicate 8 one) (three ∷ three ∷ three ∷ three ∷ []) (two ∷ four ∷ six ∷ eight ∷ []) (1 ∷ 0 ∷ 0 ∷ 1 ∷ [])) (room 8 0 2) ≡ gives 2 0 (two ∷ two ∷ two ∷ two ∷ eight ∷ eight ∷ eight ∷ eight ∷ []) (plus_zero ∷ one ∷ [])

pub masks_hold : MasksHold
unfolding attention_of
masks_hold = record {
  mask_rows = refl;
  mask_heads = refl;
  mask_batches = refl;
}

-- ---- live counts

pub record CountsHold : Type 0 where
  -- K: a NaN in a padded position is not read: +0 in mode 0, minus infinity in modes 1 and 2, +0 in mode 3
  pub padded0 : attention_of (small Counted NoMask (Some 0) 0 0 1 2) one_live (room 1 2 2) ≡ shows 2 0 (five ∷ []) (six ∷ plus_zero ∷ []) (one ∷ plus_zero ∷ [])
  pub padded1 : attention_of (small Counted NoMask (Some 1) 0 0 1 2) one_live (room 1 2 2) ≡ shows 2 0 (five ∷ []) (six ∷ hidden ∷ []) (one ∷ plus_zero ∷ [])
  pub padded2 : attention_of (small Counted NoMask (Some 2) 0 0 1 2) one_live (room 1 2 2) ≡ shows 2 0 (five ∷ []) (six ∷ hidden ∷ []) (one ∷ plus_zero ∷ [])
  pub padded3 : attention_of (small Counted NoMask (Some 3) 0 0 1 2) one_live (room 1 2 2) ≡ shows 2 0 (five ∷ []) (one ∷ plus_zero ∷ []) (one ∷ plus_zero ∷ [])
  -- M: one live position in batch 0, and none in batch 1, whose two rows are masked
  pub none_live : attention_of batched (lending_live (replicate 4 one) (one ∷ nan ∷ []) (five ∷ nan ∷ []) (pos 1 ∷ pos 0 ∷ [])) (room 4 0 1) ≡ gives 1 2 (five ∷ five ∷ plus_zero ∷ plus_zero ∷ []) (plus_zero ∷ [])

pub counts_hold : CountsHold
unfolding attention_of
counts_hold = record {
  padded0 = refl;
  padded1 = refl;
  padded2 = refl;
  padded3 = refl;
  none_live = refl;
}

-- ---- the causal diagonal

pub record CausalHold : Type 0 where
  -- plain causal with Sq 2 and Sk 3, where no row sees the last key, and with Sq 3 and Sk 2
  pub causal_wide : attention_of (small Plain NoMask None 1 0 2 3) (lending (replicate 2 one) (replicate 3 one) (six ∷ twelve ∷ thirty ∷ []) []) (room 2 0 3) ≡ gives 3 0 (six ∷ nine ∷ []) (half ∷ half ∷ plus_zero ∷ [])
  pub causal_tall : attention_of (small Plain NoMask None 1 0 3 2) (lending (replicate 3 one) (replicate 2 one) (six ∷ twelve ∷ []) []) (room 3 0 2) ≡ gives 2 0 (six ∷ nine ∷ nine ∷ []) (half ∷ half ∷ [])
  -- causal in every mode: mode 0 shows the score of a key that is not admitted
  pub causal0 : attention_of (small Plain NoMask (Some 0) 1 0 2 2) causal_pair (room 2 4 2) ≡ shows 2 0 (six ∷ nine ∷ []) (three ∷ three ∷ six ∷ six ∷ []) (half ∷ half ∷ [])
  pub causal1 : attention_of (small Plain NoMask (Some 1) 1 0 2 2) causal_pair (room 2 4 2) ≡ shows 2 0 (six ∷ nine ∷ []) (three ∷ hidden ∷ six ∷ six ∷ []) (half ∷ half ∷ [])
  pub causal2 : attention_of (small Plain NoMask (Some 2) 1 0 2 2) causal_pair (room 2 4 2) ≡ shows 2 0 (six ∷ nine ∷ []) (three ∷ hidden ∷ six ∷ six ∷ []) (half ∷ half ∷ [])
  pub causal3 : attention_of (small Plain NoMask (Some 3) 1 0 2 2) causal_pair (room 2 4 2) ≡ shows 2 0 (six ∷ nine ∷ []) (one ∷ plus_zero ∷ half ∷ half ∷ []) (half ∷ half ∷ [])

pub causal_hold : CausalHold
unfolding attention_of
causal_hold = record {
  causal_wide = refl;
  causal_tall = refl;
  causal0 = refl;
  causal1 = refl;
  causal2 = refl;
  causal3 = refl;
}

-- ---- the scale, and uneven weights

pub record ScalesHold : Type 0 where
  -- the scale: (1 * 3 + 1 * 5) * 0.5 is 4; with D 4 the default is 0.5, and (1 + 2 + 3 + 4) * 0.5 is 5; the finished dot product is scaled, so 2 ^ -149 * 2 * 0.5 is 2 ^ -149
  pub scale_given : attention_of (scaled NoMask (Given half) (Some 0) 2) (lending (one ∷ one ∷ []) (three ∷ five ∷ []) (one ∷ []) []) (room 1 1 1) ≡ shows 1 0 (one ∷ []) (four ∷ []) (one ∷ [])
  pub scale_default : attention_of (scaled NoMask Absent (Some 0) 4) (lending (replicate 4 one) (one ∷ two ∷ three ∷ four ∷ []) (one ∷ []) []) (room 1 1 1) ≡ shows 1 0 (one ∷ []) (five ∷ []) (one ∷ [])
  pub scale_last : attention_of (scaled NoMask (Given half) (Some 0) 1) (lending (tiny ∷ []) (two ∷ []) (one ∷ []) []) (room 1 1 1) ≡ shows 1 0 (one ∷ []) (tiny ∷ []) (one ∷ [])
  -- scores 1 and 0, values 1 and 0: the weights' bits by a separate computation of the five steps with f32 operations
  pub uneven : attention_of (small Plain NoMask None 0 0 1 2) (lending (one ∷ []) (one ∷ plus_zero ∷ []) (one ∷ plus_zero ∷ []) []) (room 1 0 2) ≡ gives 2 0 (of_bits binary32 0x3f3b26a8 ∷ []) (of_bits binary32 0x3f3b26a8 ∷ of_bits binary32 0x3e89b2b1 ∷ [])

pub scales_hold : ScalesHold
unfolding attention_of of_bits
scales_hold = record {
  scale_given = refl;
  scale_default = refl;
  scale_last = refl;
  uneven = refl;
}

-- ---- a refused call

pub record KeptHold : Type 0 where
  -- a refused call, of a query that is NaN, leaves every tensor as it came in
  pub refused : attention_of (small Plain NoMask (Some 0) 0 0 1 1) (lending (nan ∷ []) (one ∷ []) (one ∷ []) []) (tensors (seven ∷ []) [] [] (nan ∷ []) (eight ∷ [])) ≡ record { answer = Err (Element 0 0); tensors = tensors (seven ∷ []) [] [] (nan ∷ []) (eight ∷ []) }

pub kept_hold : KeptHold
unfolding attention_of
kept_hold = record {
  refused = refl;
}
