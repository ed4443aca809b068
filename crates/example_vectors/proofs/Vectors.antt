-- Tiny random calls, accepted and refused, without a cap and with one, and scores under each cap: the definitions give them the outcomes of a reference written from the rules. Floats are f32 bits.
-- Made by `python3 tools/vectors.py vectors`. Assumes nothing.
use mathlib.Core.Path.{refl}
use mathlib.Core.List.{List, [], ◌∷◌}
use Prim.Native.Nat.{ℕ}
use mathlib.Core.Bool.{true, false}
use lib.IntN.{ℤ, pos, negsuc}
use lib.ListN.{replicate}
use lib.Ieee.{Float, nan, inf, fin, binary32, of_bits}
use Rattle.std.specs.Prelude.{Option, Some, None, Err}
use Rattle.exponential.specs.ExpNeg.{one}
use Rattle.softmax.specs.Cap.{capped_where}
use Rattle.call.specs.declared.Call.{Call}
use Rattle.call.specs.declared.Form.{Form}
use Rattle.call.specs.declared.Form.TheVariants.{Plain, Cached, Counted}
use Rattle.call.specs.declared.MaskKind.{MaskKind}
use Rattle.call.specs.declared.MaskKind.TheVariants.{NoMask, Boolean, FloatMask}
use Rattle.call.specs.declared.Scale.{Scale}
use Rattle.call.specs.declared.Scale.TheVariants.{Absent, Given}
use Rattle.call.specs.declared.Refusal.{Refusal}
use Rattle.call.specs.declared.Refusal.TheVariants.{Limits, HeadGroups, Settings, MaskShape, InputLength, OutputLength, LiveCount, MaskCell, Element}
use Rattle.call.specs.Parts.{call_with}
use Rattle.call.specs.Tensors.{Inputs, Outputs}
use Rattle.attention.specs.Outcomes.{attention_of}
use Rattle.attention.specs.Calls.{tensors, done}
use Rattle.attention.specs.Table.{Claim, outcome, under_cap, AllHold}

-- the cap's bits; rank and causal flag; B, Hq, Hkv; Sq, Sk, P; D, Dv; the mask's dimensions
unfoldable call : Form → MaskKind → Scale → Option ℕ → (softcap rank causal batches qheads kvheads qlen klen past size vsize maskb maskh maskq maskk : ℕ) → Call
unfolding of_bits
call form mask scale mode softcap rank causal batches qheads kvheads qlen klen past size vsize maskb maskh maskq maskk = call_with form mask scale (of_bits binary32 softcap) mode rank causal batches qheads kvheads qlen klen past size vsize maskb maskh maskq maskk

unfoldable given : ℕ → Scale
unfolding of_bits
given bits = Given (of_bits binary32 bits)

unfoldable floats : List ℕ → List Float
unfolding of_bits
floats [] = []
floats (bits ∷ rest) = of_bits binary32 bits ∷ floats rest

unfoldable reading : (query key value bool_mask float_mask past_key past_value : List ℕ) → List ℤ → Inputs
unfolding floats
reading query key value bool_mask float_mask past_key past_value live = record {
  query = floats query;
  key = floats key;
  value = floats value;
  bool_mask = bool_mask;
  float_mask = floats float_mask;
  past_key = floats past_key;
  past_value = floats past_value;
  live = live;
}

-- tensors of these lengths, each filled with a value of its own
abbrev lent : (output present_key present_value scores work : ℕ) → Outputs
lent output present_key present_value scores work = tensors (replicate output nan) (replicate present_key (inf false)) (replicate present_value (inf true)) (replicate scores (fin true 0 (pos 0))) (replicate work one)

-- the call is accepted with T, the number of fully masked rows, and the five tensors
unfoldable accepted : Call → Inputs → Outputs → (total masked : ℕ) → (output present_key present_value scores work : List ℕ) → Claim
unfolding floats
accepted c x y total masked output present_key present_value scores work =
    outcome c x y (done total masked (tensors (floats output) (floats present_key) (floats present_value) (floats scores) (floats work)))

-- the call is refused, and the tensors stay as they were lent
abbrev refused : Call → Inputs → Outputs → Refusal → Claim
refused c x y r = outcome c x y (record { answer = Err r; tensors = y })

unfoldable pub vector_table : List Claim
unfolding call given reading accepted
vector_table =
    -- plain
    accepted (call Plain NoMask Absent None 0x00000000 3 1 1 2 1 3 2 0 3 2 6 1 9 2)
    (reading (0xbe801288 ∷ 0xbf800000 ∷ 0x3f13d979 ∷ 0x47800000 ∷ 0xbfc00000 ∷ 0x47800000 ∷ 0xc1000000 ∷ 0xbfb171c4 ∷ 0x40000000 ∷ 0xc0800000 ∷ 0x3faad506 ∷
    0x401e4865 ∷ 0x3e800000 ∷ 0x4031883b ∷ 0xbfc00000 ∷ 0xbfc86662 ∷ 0xbfe00000 ∷ 0xc0a00000 ∷ [])
    (0xbfaa387e ∷ 0x3f800000 ∷ 0xbf414494 ∷ 0xbf400000 ∷ 0x3fe00000 ∷ 0x40c00000 ∷ []) (0x3e8bb631 ∷ 0xc7800000 ∷ 0xc0317e23 ∷ 0xbfc2619a ∷ []) [] [] [] [] [])
    (lent 12 0 0 0 2) 2 0 (0x3e8bb631 ∷ 0xc7800000 ∷ 0x3e8bb631 ∷ 0xc7800000 ∷ 0xc02f654f ∷ 0xc4309ad6 ∷ 0xc0317739 ∷ 0xc12994a9 ∷ 0x3e774a3c ∷ 0xc77d5ce7 ∷
    0x3e8bb631 ∷ 0xc7800000 ∷ []) [] [] [] (0x3f800000 ∷ 0x3081a0df ∷ [])
    ∷ accepted (call Plain Boolean (given 0x44800000) (Some 2) 0x00000000 3 1 2 2 2 1 3 0 1 1 2 1 1 3)
    (reading (0xc0000000 ∷ 0xbfc09129 ∷ 0xc0000000 ∷ 0x00000001 ∷ []) (0x3e8c189c ∷ 0x3fa00000 ∷ 0xbf400000 ∷ 0x803d05d6 ∷ 0x3fa46730 ∷ 0x00000001 ∷ 0xbf800000
    ∷ 0x3d977a9d ∷ 0x3fc00000 ∷ 0x47800000 ∷ 0xbe800000 ∷ 0xbfe45ddb ∷ []) (0xbe800000 ∷ 0x3fd52699 ∷ 0x00000000 ∷ 0x47800000 ∷ 0xc024c301 ∷ 0xc0c00000 ∷
    0xbfb7e53d ∷ 0x00000001 ∷ 0x3fc00000 ∷ 0xbf56ba9b ∷ 0xc01f8c19 ∷ 0x3f843ef4 ∷ []) (0 ∷ 0 ∷ 1 ∷ 1 ∷ 1 ∷ 1 ∷ []) [] [] [] [])
    (lent 4 0 0 12 3) 3 2 (0x00000000 ∷ 0x00000000 ∷ 0xbfb7e53d ∷ 0x00000001 ∷ []) [] [] (0xff800000 ∷ 0xff800000 ∷ 0xff800000 ∷ 0xff800000 ∷ 0xff800000 ∷
    0xff800000 ∷ 0x45000000 ∷ 0xff800000 ∷ 0xff800000 ∷ 0x00000000 ∷ 0xff800000 ∷ 0xff800000 ∷ []) (0x3f800000 ∷ 0x00000000 ∷ 0x00000000 ∷ [])
    ∷ accepted (call Plain FloatMask (given 0x3f000000) None 0x00000000 4 0 1 2 1 2 2 0 3 1 1 1 2 1)
    (reading (0x3fe00000 ∷ 0xc024f20c ∷ 0x80000000 ∷ 0xc0e00000 ∷ 0x005887ae ∷ 0xbe800000 ∷ 0xc02feb39 ∷ 0x4010f75f ∷ 0x80000000 ∷ 0x3f7ab329 ∷ 0x40e00000 ∷
    0x80000000 ∷ []) (0x3f800000 ∷ 0xc014281d ∷ 0x3f000000 ∷ 0x3fc00000 ∷ 0x40400000 ∷ 0xbf800000 ∷ []) (0xbf400000 ∷ 0xbfa00000 ∷ []) []
    (0x7f7fffff ∷ 0xff800000 ∷ []) [] [] [])
    (lent 4 0 0 0 2) 2 2 (0xbf800000 ∷ 0x00000000 ∷ 0xbf800000 ∷ 0x00000000 ∷ []) [] [] [] (0x00000000 ∷ 0x00000000 ∷ [])
    ∷ accepted (call Plain NoMask (given 0x44800000) (Some 3) 0x00000000 3 0 1 2 1 1 3 0 2 1 7 5 6 9)
    (reading (0xc1000000 ∷ 0xc0000000 ∷ 0x00000000 ∷ 0xbf2c3611 ∷ []) (0x40c00000 ∷ 0x401c6cdb ∷ 0x40000000 ∷ 0xbf400000 ∷ 0x3e27e46e ∷ 0x3f000000 ∷ [])
    (0xbf68c83b ∷ 0x3e046d6a ∷ 0x3e4aebd0 ∷ []) [] [] [] [] [])
    (lent 2 0 0 6 3) 3 0 (0x3e4aebd0 ∷ 0x3e046d6a ∷ []) [] [] (0x00000000 ∷ 0x00000000 ∷ 0x3f800000 ∷ 0x00000000 ∷ 0x3f800000 ∷ 0x00000000 ∷ [])
    (0x00000000 ∷ 0x3f800000 ∷ 0x00000000 ∷ [])
    ∷ accepted (call Plain Boolean (given 0x3f000000) (Some 2) 0x00000000 4 0 2 1 1 1 3 0 1 2 1 1 1 3)
    (reading (0x3fe00000 ∷ 0x403bc39c ∷ []) (0xbf6d9ad6 ∷ 0xc01cfdd7 ∷ 0x4032ce79 ∷ 0xbf000000 ∷ 0x3ce87893 ∷ 0xbeb7f17a ∷ []) (0xc0400000 ∷ 0xc0120860 ∷
    0xc0000000 ∷ 0xc0400000 ∷ 0xbfd155e5 ∷ 0xbf4925fe ∷ 0xbeb12a56 ∷ 0x41000000 ∷ 0x3e800000 ∷ 0xc0195f88 ∷ 0x3f000000 ∷ 0xbfe00000 ∷ []) (1 ∷ 0 ∷ 1 ∷ []) [] []
    [] [])
    (lent 4 0 0 6 3) 3 0 (0xbfd7d020 ∷ 0xbf5759f4 ∷ 0x3df6c742 ∷ 0x4027e885 ∷ []) [] []
    (0xbf4fe77b ∷ 0xff800000 ∷ 0x401c74aa ∷ 0xbf3bc39c ∷ 0xff800000 ∷ 0xbf06e9f1 ∷ []) (0x3ee5ab18 ∷ 0x00000000 ∷ 0x3f0d2a74 ∷ [])
    ∷ accepted (call Plain FloatMask (given 0x00000001) (Some 0) 0x00000000 3 0 1 4 2 1 2 0 2 1 1 1 1 1)
    (reading (0x3e09317b ∷ 0x80512686 ∷ 0xc00b7600 ∷ 0xc0295f09 ∷ 0x00641203 ∷ 0x40800000 ∷ 0xbe478d3d ∷ 0x3f067c12 ∷ [])
    (0x3f400000 ∷ 0x80000000 ∷ 0xbde9f971 ∷ 0x00000000 ∷ 0x00000000 ∷ 0x403e4a7e ∷ 0x40000000 ∷ 0x3fa00000 ∷ [])
    (0x40275f41 ∷ 0x006d50fc ∷ 0x40e00000 ∷ 0xc0270181 ∷ []) [] (0xff800000 ∷ []) [] [] [])
    (lent 4 0 0 8 2) 2 4 (0x00000000 ∷ 0x00000000 ∷ 0x00000000 ∷ 0x00000000 ∷ []) [] []
    (0x00000000 ∷ 0x80000000 ∷ 0x80000002 ∷ 0x80000008 ∷ 0x80000000 ∷ 0x00000005 ∷ 0x00000000 ∷ 0x00000000 ∷ []) (0x00000000 ∷ 0x00000000 ∷ [])
    ∷ accepted (call Plain NoMask (given 0x3f000000) (Some 1) 0x00000000 4 1 2 1 1 2 3 0 3 1 7 6 9 2)
    (reading (0x40057535 ∷ 0xc0304a55 ∷ 0xc0a00000 ∷ 0x3f800000 ∷ 0x3e800000 ∷ 0x40000000 ∷ 0xc03a6a4b ∷ 0xbf000000 ∷ 0x00000000 ∷ 0x3fbb5c52 ∷ 0xbf400000 ∷
    0x403025eb ∷ []) (0xc02c54f6 ∷ 0xbf400000 ∷ 0xbf000000 ∷ 0x80000001 ∷ 0xbee291e6 ∷ 0xbfec90ff ∷ 0x3e5052aa ∷ 0xc0000000 ∷ 0x3f800000 ∷ 0x40a00000 ∷
    0x3fc00000 ∷ 0x3fdbcca8 ∷ 0xbf5d9c99 ∷ 0x40e00000 ∷ 0x3f058c68 ∷ 0x001a3adb ∷ 0xbff54ba9 ∷ 0x3fd4a225 ∷ [])
    (0xbf966031 ∷ 0xbf800000 ∷ 0x3e800000 ∷ 0xbf800000 ∷ 0x3fe00000 ∷ 0x00000000 ∷ []) [] [] [] [] [])
    (lent 4 0 0 12 3) 3 0 (0xbf966031 ∷ 0xbf8afbaf ∷ 0xbf800000 ∷ 0xbf7fc39b ∷ []) [] [] (0xbf0648d4 ∷ 0xff800000 ∷ 0xff800000 ∷ 0xbff854f6 ∷ 0xbff3a58e ∷
    0xff800000 ∷ 0xc0f504de ∷ 0xff800000 ∷ 0xff800000 ∷ 0x40aeb854 ∷ 0xc0229a2c ∷ 0xff800000 ∷ []) (0x3f7fea0a ∷ 0x39afb435 ∷ 0x00000000 ∷ [])
    ∷ accepted (call Plain Boolean Absent (Some 3) 0x00000000 4 1 1 2 2 1 2 0 3 1 1 2 1 2)
    (reading (0x3f000000 ∷ 0xc0400000 ∷ 0xbf000000 ∷ 0x3f000000 ∷ 0xbfe00000 ∷ 0xbfa00000 ∷ []) (0x3fa00000 ∷ 0x80000000 ∷ 0x4026088c ∷ 0x80000000 ∷ 0x80000000
    ∷ 0x3e800000 ∷ 0x40000000 ∷ 0xbfb3fb37 ∷ 0xc0e00000 ∷ 0x8042f2ba ∷ 0xc0e00000 ∷ 0xbf000000 ∷ []) (0xbe55797e ∷ 0x3f800000 ∷ 0xc0800000 ∷ 0xc022c32d ∷ [])
    (1 ∷ 1 ∷ 0 ∷ 1 ∷ []) [] [] [] [])
    (lent 2 0 0 4 2) 2 1 (0xbe55797e ∷ 0x00000000 ∷ []) [] [] (0x3f800000 ∷ 0x00000000 ∷ 0x00000000 ∷ 0x00000000 ∷ []) (0x00000000 ∷ 0x00000000 ∷ [])
    ∷ accepted (call Plain FloatMask (given 0x3f000000) (Some 3) 0x00000000 4 0 1 4 2 1 3 0 2 1 1 4 1 3)
    (reading (0x40a00000 ∷ 0x40a00000 ∷ 0x3e800000 ∷ 0x3f4c5a65 ∷ 0xc1000000 ∷ 0x00000000 ∷ 0x00000000 ∷ 0xbfe9d535 ∷ []) (0xbfad4762 ∷ 0xbe800000 ∷ 0xbf000000
    ∷ 0x8065d216 ∷ 0xbbe21b74 ∷ 0x3e800000 ∷ 0x00000000 ∷ 0xbf400000 ∷ 0xbfd3f1e9 ∷ 0xbe651f3f ∷ 0x00000000 ∷ 0xc7800000 ∷ [])
    (0xbf400000 ∷ 0x0033f94c ∷ 0xc0c00000 ∷ 0x80000001 ∷ 0x00000001 ∷ 0x3f800000 ∷ []) [] (0xff800000 ∷ 0xc0000000 ∷ 0x47800000 ∷ 0x00000000 ∷ 0x7f7fffff ∷
    0x3f000000 ∷ 0xff800000 ∷ 0xbf000000 ∷ 0x80000000 ∷ 0x80000000 ∷ 0x40400000 ∷ 0x00000000 ∷ []) [] [] [])
    (lent 4 0 0 12 3) 3 0 (0xc0c00000 ∷ 0x0033f94c ∷ 0x3b0f4ad0 ∷ 0x3f800000 ∷ []) [] [] (0x00000000 ∷ 0x00000000 ∷ 0x3f800000 ∷ 0x00000000 ∷ 0x3f800000 ∷
    0x00000000 ∷ 0x00000000 ∷ 0x3f7f70b4 ∷ 0x3b0f4ad0 ∷ 0x00000000 ∷ 0x00000000 ∷ 0x3f800000 ∷ []) (0x00000000 ∷ 0x00000000 ∷ 0x3f800000 ∷ [])
    -- cached
    ∷ accepted (call Cached NoMask (given 0x00000001) (Some 3) 0x00000000 3 0 1 4 2 1 1 2 1 1 4 7 0 8)
    (reading (0x41000000 ∷ 0xbf4d69ec ∷ 0x3fc00000 ∷ 0x3f824b9b ∷ []) (0xbf400000 ∷ 0x3f2ff41f ∷ []) (0xbf340c10 ∷ 0xbfa00000 ∷ []) [] []
    (0x3f6c9890 ∷ 0x3feed697 ∷ 0x47800000 ∷ 0x3ee983fd ∷ []) (0x4036564f ∷ 0xbe800000 ∷ 0xc0a00000 ∷ 0x3f400000 ∷ []) [])
    (lent 4 6 6 12 3) 3 0 (0x3f21c464 ∷ 0x3f21c464 ∷ 0xbfeaaaac ∷ 0xbfeaaaac ∷ [])
    (0x3f6c9890 ∷ 0x3feed697 ∷ 0xbf400000 ∷ 0x47800000 ∷ 0x3ee983fd ∷ 0x3f2ff41f ∷ [])
    (0x4036564f ∷ 0xbe800000 ∷ 0xbf340c10 ∷ 0xc0a00000 ∷ 0x3f400000 ∷ 0xbfa00000 ∷ []) (0x3eaaaaab ∷ 0x3eaaaaab ∷ 0x3eaaaaab ∷ 0x3eaaaaab ∷ 0x3eaaaaab ∷
    0x3eaaaaab ∷ 0x3eaaaaab ∷ 0x3eaaaaab ∷ 0x3eaaaaab ∷ 0x3eaaaaab ∷ 0x3eaaaaab ∷ 0x3eaaaaab ∷ []) (0x3eaaaaab ∷ 0x3eaaaaab ∷ 0x3eaaaaab ∷ [])
    ∷ accepted (call Cached Boolean (given 0x3f000000) (Some 1) 0x00000000 3 1 1 4 2 1 1 2 2 1 1 4 1 1)
    (reading (0x40000000 ∷ 0xc0e00000 ∷ 0x3e800000 ∷ 0x00000000 ∷ 0xc0124eee ∷ 0x3fb9d150 ∷ 0x004eb470 ∷ 0x3fc00000 ∷ [])
    (0x40e00000 ∷ 0xbd2dbe3e ∷ 0x00000001 ∷ 0x41000000 ∷ []) (0xc0000000 ∷ 0x3e800000 ∷ []) (1 ∷ 1 ∷ 1 ∷ 0 ∷ []) []
    (0x3f400000 ∷ 0xbf68edba ∷ 0xc7800000 ∷ 0xbf000000 ∷ 0x3faad83d ∷ 0x3f8cb023 ∷ 0x40e00000 ∷ 0x00000000 ∷ [])
    (0xbf41b306 ∷ 0xc1000000 ∷ 0x3e800000 ∷ 0xbf000000 ∷ []) [])
    (lent 4 12 6 12 3) 3 1 (0xbff9d974 ∷ 0xbfce04cc ∷ 0x3e7fffcd ∷ 0x00000000 ∷ []) (0x3f400000 ∷ 0xbf68edba ∷ 0xc7800000 ∷ 0xbf000000 ∷ 0x40e00000 ∷ 0xbd2dbe3e
    ∷ 0x3faad83d ∷ 0x3f8cb023 ∷ 0x40e00000 ∷ 0x00000000 ∷ 0x00000001 ∷ 0x41000000 ∷ [])
    (0xbf41b306 ∷ 0xc1000000 ∷ 0xc0000000 ∷ 0x3e800000 ∷ 0xbf000000 ∷ 0x3e800000 ∷ []) (0x407bd003 ∷ 0xc77ffe40 ∷ 0x40e4c034 ∷ 0x3dc00000 ∷ 0xc6000000 ∷
    0x3f600000 ∷ 0xbf3a535c ∷ 0xc1000510 ∷ 0x40b9d150 ∷ 0xff800000 ∷ 0xff800000 ∷ 0xff800000 ∷ []) (0x00000000 ∷ 0x00000000 ∷ 0x00000000 ∷ [])
    ∷ accepted (call Cached FloatMask (given 0x3e67bb58) (Some 1) 0x00000000 4 0 1 2 1 2 2 1 3 2 1 1 1 1)
    (reading (0x40000000 ∷ 0xbe800000 ∷ 0xc0000000 ∷ 0xbfad5025 ∷ 0x40000000 ∷ 0xbfe00000 ∷ 0x3fc00000 ∷ 0x40000000 ∷ 0x80000001 ∷ 0x3f788363 ∷ 0x80000001 ∷
    0x400f9777 ∷ []) (0xbf800000 ∷ 0xc0e00000 ∷ 0xbf272165 ∷ 0x00000001 ∷ 0x47800000 ∷ 0x80000001 ∷ []) (0x00000000 ∷ 0x40330a77 ∷ 0x3fe00000 ∷ 0x47800000 ∷ [])
    [] (0x80000000 ∷ []) (0x3e800000 ∷ 0xc0000000 ∷ 0x47800000 ∷ []) (0x403fa458 ∷ 0xbfbd135e ∷ []) [])
    (lent 8 9 6 12 3) 3 0 (0x00000000 ∷ 0x40330a77 ∷ 0x3fe00000 ∷ 0x47800000 ∷ 0x3fe00000 ∷ 0x47800000 ∷ 0x403fa458 ∷ 0xbfbd135e ∷ [])
    (0x3e800000 ∷ 0xc0000000 ∷ 0x47800000 ∷ 0xbf800000 ∷ 0xc0e00000 ∷ 0xbf272165 ∷ 0x00000001 ∷ 0x47800000 ∷ 0x80000001 ∷ [])
    (0x403fa458 ∷ 0xbfbd135e ∷ 0x00000000 ∷ 0x40330a77 ∷ 0x3fe00000 ∷ 0x47800000 ∷ []) (0xc6e7bae4 ∷ 0x3e74a40c ∷ 0xc567bb58 ∷ 0xc6cac5e3 ∷ 0xc0269ba0 ∷
    0x46e7bb58 ∷ 0xbf5201c8 ∷ 0xc0607d7d ∷ 0x46e7bb58 ∷ 0x4701fad0 ∷ 0xbf0d18a4 ∷ 0x800039ef ∷ []) (0x3f800000 ∷ 0x00000000 ∷ 0x00000000 ∷ [])
    ∷ accepted (call Cached NoMask Absent (Some 2) 0x00000000 4 0 2 2 1 1 2 0 1 2 8 6 2 9)
    (reading (0x3f800000 ∷ 0x3fde3072 ∷ 0xbe97dbec ∷ 0x40a00000 ∷ []) (0xbfe992e2 ∷ 0x3f0520ab ∷ 0x403cb56d ∷ 0x0045a10d ∷ [])
    (0xbfa00000 ∷ 0x3fa00000 ∷ 0x3fecd031 ∷ 0x3fd51c61 ∷ 0x40000000 ∷ 0xc0000000 ∷ 0x3eee9463 ∷ 0x3fc00000 ∷ []) [] [] [] [] [])
    (lent 8 4 8 8 2) 2 0 (0x3fca19cf ∷ 0x3fd076fe ∷ 0x3fe626fa ∷ 0x3fd43825 ∷ 0x3f6ade37 ∷ 0x3ef0990c ∷ 0x3ffffffc ∷ 0xbffffff5 ∷ [])
    (0xbfe992e2 ∷ 0x3f0520ab ∷ 0x403cb56d ∷ 0x0045a10d ∷ [])
    (0xbfa00000 ∷ 0x3fa00000 ∷ 0x3fecd031 ∷ 0x3fd51c61 ∷ 0x40000000 ∷ 0xc0000000 ∷ 0x3eee9463 ∷ 0x3fc00000 ∷ [])
    (0xbfe992e2 ∷ 0x3f0520ab ∷ 0xc04ab994 ∷ 0x3f67170b ∷ 0xbf5fe241 ∷ 0x8014a6e8 ∷ 0x416be2c8 ∷ 0x012e12a0 ∷ []) (0x3f7ffffa ∷ 0x34d46297 ∷ [])
    ∷ accepted (call Cached Boolean (given 0x44800000) None 0x00000000 4 1 1 2 2 2 1 3 1 1 1 1 2 4)
    (reading (0x40000000 ∷ 0x3f9224a5 ∷ 0x47800000 ∷ 0x80074efe ∷ []) (0x4001d199 ∷ 0xbfcf9daa ∷ []) (0xc7800000 ∷ 0xc0800000 ∷ [])
    (1 ∷ 1 ∷ 0 ∷ 1 ∷ 0 ∷ 0 ∷ 0 ∷ 1 ∷ []) [] (0x00000000 ∷ 0x004770b4 ∷ 0x3e08f30a ∷ 0x00000000 ∷ 0x40e00000 ∷ 0xbfe00000 ∷ [])
    (0x3f800000 ∷ 0x00000000 ∷ 0x3f400000 ∷ 0xc0400000 ∷ 0xc03b8306 ∷ 0x40400000 ∷ []) [])
    (lent 4 8 8 0 4) 4 0 (0xc7800000 ∷ 0xc7800000 ∷ 0xc03b8306 ∷ 0xc0800000 ∷ [])
    (0x00000000 ∷ 0x004770b4 ∷ 0x3e08f30a ∷ 0x4001d199 ∷ 0x00000000 ∷ 0x40e00000 ∷ 0xbfe00000 ∷ 0xbfcf9daa ∷ [])
    (0x3f800000 ∷ 0x00000000 ∷ 0x3f400000 ∷ 0xc7800000 ∷ 0xc0400000 ∷ 0xc03b8306 ∷ 0x40400000 ∷ 0xc0800000 ∷ []) []
    (0x00000000 ∷ 0x00000000 ∷ 0x00000000 ∷ 0x3f800000 ∷ [])
    ∷ accepted (call Cached FloatMask (given 0x3f22060a) (Some 0) 0x00000000 4 0 1 2 2 2 2 0 3 1 1 2 2 2)
    (reading (0xc7800000 ∷ 0x80484ba4 ∷ 0x3e800000 ∷ 0x4003bcd0 ∷ 0x3ff3ce10 ∷ 0x00000000 ∷ 0xbf000000 ∷ 0xc0c00000 ∷ 0x401bae7f ∷ 0xbf62869b ∷ 0xbd1b2494 ∷
    0xbf400000 ∷ []) (0xbf384cb9 ∷ 0x3f000000 ∷ 0x40a00000 ∷ 0x00000001 ∷ 0x400d2d2f ∷ 0xc1000000 ∷ 0xbf0d6bf9 ∷ 0xc0c00000 ∷ 0x3cff8cc1 ∷ 0xbfa00000 ∷
    0x3fc00000 ∷ 0x40177128 ∷ []) (0x00000000 ∷ 0xc00833df ∷ 0xc0400000 ∷ 0x3fc00000 ∷ []) []
    (0x7f7fffff ∷ 0xc0162d7b ∷ 0xff800000 ∷ 0x007e0261 ∷ 0xbfb6888d ∷ 0xff7fffff ∷ 0xff800000 ∷ 0x00000000 ∷ []) [] [] [])
    (lent 4 12 4 8 2) 2 0 (0x00000000 ∷ 0xc00833df ∷ 0xc0400000 ∷ 0x3fc00000 ∷ []) (0xbf384cb9 ∷ 0x3f000000 ∷ 0x40a00000 ∷ 0x00000001 ∷ 0x400d2d2f ∷ 0xc1000000
    ∷ 0xbf0d6bf9 ∷ 0xc0c00000 ∷ 0x3cff8cc1 ∷ 0xbfa00000 ∷ 0x3fc00000 ∷ 0x40177128 ∷ []) (0x00000000 ∷ 0xc00833df ∷ 0xc0400000 ∷ 0x3fc00000 ∷ [])
    (0x46e94b61 ∷ 0xbfa2060a ∷ 0xbeab9701 ∷ 0x402a308f ∷ 0x41b80f2d ∷ 0xbfd42aa9 ∷ 0x3ee076cd ∷ 0xbeeb13eb ∷ []) (0x00000000 ∷ 0x3f800000 ∷ [])
    ∷ accepted (call Cached NoMask (given 0x00000001) (Some 3) 0x00000000 4 1 2 1 1 3 3 0 3 2 2 2 2 5)
    (reading (0xc1000000 ∷ 0x3fc00000 ∷ 0xc001daa7 ∷ 0x00000000 ∷ 0x80000000 ∷ 0x3f000000 ∷ 0xbfc00000 ∷ 0x3ff3c068 ∷ 0x40000000 ∷ 0x3f400000 ∷ 0x80000001 ∷
    0x40a00000 ∷ 0x3f000000 ∷ 0x00000001 ∷ 0x00000000 ∷ 0x3f400000 ∷ 0x3f800000 ∷ 0x00000001 ∷ []) (0xc0000000 ∷ 0x3f800000 ∷ 0xbfa00000 ∷ 0xbff43e21 ∷
    0x00000000 ∷ 0x40a00000 ∷ 0xbf800000 ∷ 0x3fd73750 ∷ 0x00000001 ∷ 0x3f800000 ∷ 0x00000000 ∷ 0x40e00000 ∷ 0xbfdc36dc ∷ 0xc01578e3 ∷ 0x3fd4103b ∷ 0x3f9d6f59 ∷
    0x80000001 ∷ 0xc02c9377 ∷ []) (0x3fd4e5ce ∷ 0x3f863aac ∷ 0xbf947a69 ∷ 0xbfa00000 ∷ 0x3fc014ed ∷ 0x40c00000 ∷ 0xbe0e6ea5 ∷ 0xbe800000 ∷ 0xbe6c1969 ∷
    0x00422d30 ∷ 0xbfa00000 ∷ 0x4035688b ∷ []) [] [] [] [] [])
    (lent 12 18 12 18 3) 3 0 (0x3fd4e5ce ∷ 0x3f863aac ∷ 0x3e80d6ca ∷ 0xbdce2aa0 ∷ 0x3f2b0038 ∷ 0x3ff768e4 ∷ 0xbe0e6ea5 ∷ 0xbe800000 ∷ 0xbe3d4407 ∷ 0xbe000000 ∷
    0xbf0a3602 ∷ 0x3f5c8b65 ∷ []) (0xc0000000 ∷ 0x3f800000 ∷ 0xbfa00000 ∷ 0xbff43e21 ∷ 0x00000000 ∷ 0x40a00000 ∷ 0xbf800000 ∷ 0x3fd73750 ∷ 0x00000001 ∷
    0x3f800000 ∷ 0x00000000 ∷ 0x40e00000 ∷ 0xbfdc36dc ∷ 0xc01578e3 ∷ 0x3fd4103b ∷ 0x3f9d6f59 ∷ 0x80000001 ∷ 0xc02c9377 ∷ []) (0x3fd4e5ce ∷ 0x3f863aac ∷
    0xbf947a69 ∷ 0xbfa00000 ∷ 0x3fc014ed ∷ 0x40c00000 ∷ 0xbe0e6ea5 ∷ 0xbe800000 ∷ 0xbe6c1969 ∷ 0x00422d30 ∷ 0xbfa00000 ∷ 0x4035688b ∷ []) (0x3f800000 ∷
    0x00000000 ∷ 0x00000000 ∷ 0x3f000000 ∷ 0x3f000000 ∷ 0x00000000 ∷ 0x3eaaaaab ∷ 0x3eaaaaab ∷ 0x3eaaaaab ∷ 0x3f800000 ∷ 0x00000000 ∷ 0x00000000 ∷ 0x3f000000 ∷
    0x3f000000 ∷ 0x00000000 ∷ 0x3eaaaaab ∷ 0x3eaaaaab ∷ 0x3eaaaaab ∷ []) (0x3eaaaaab ∷ 0x3eaaaaab ∷ 0x3eaaaaab ∷ [])
    ∷ accepted (call Cached Boolean Absent None 0x00000000 3 1 2 2 1 2 2 2 2 2 2 2 1 4)
    (reading (0xc0400000 ∷ 0xbf800000 ∷ 0xbe3f175b ∷ 0xc0000000 ∷ 0x3fad4871 ∷ 0x47800000 ∷ 0xbfdd6ed9 ∷ 0x401c2ea2 ∷ 0x3f4e0dbe ∷ 0xbf800000 ∷ 0x80000000 ∷
    0x40000000 ∷ 0xc0224ec0 ∷ 0x00000000 ∷ 0x3fc00000 ∷ 0x40c00000 ∷ [])
    (0x3f4cd203 ∷ 0x00000000 ∷ 0xbfb7cfad ∷ 0xbfe00000 ∷ 0x00000001 ∷ 0xbfa00000 ∷ 0xc01eb066 ∷ 0x00000000 ∷ [])
    (0xbe800000 ∷ 0x3fcd960f ∷ 0xbfc00000 ∷ 0x40a00000 ∷ 0xbe800000 ∷ 0xc0a00000 ∷ 0xbea7838f ∷ 0x3fb3113b ∷ [])
    (0 ∷ 1 ∷ 0 ∷ 1 ∷ 1 ∷ 0 ∷ 1 ∷ 1 ∷ 1 ∷ 1 ∷ 0 ∷ 1 ∷ 1 ∷ 0 ∷ 1 ∷ 0 ∷ []) []
    (0x3f8e5edc ∷ 0x402c8aaa ∷ 0x3fe00000 ∷ 0x40800000 ∷ 0xbf800000 ∷ 0x3fe00000 ∷ 0x00000000 ∷ 0xc02361e5 ∷ [])
    (0x3fc00000 ∷ 0x00000000 ∷ 0xbf7010ae ∷ 0xc0c00000 ∷ 0x3e800000 ∷ 0x3fcb4a5f ∷ 0x3fa00000 ∷ 0x00000000 ∷ []) [])
    (lent 16 16 16 0 4) 4 0 (0xbf7010ae ∷ 0xc0c00000 ∷ 0xbe5acd60 ∷ 0x3fc95195 ∷ 0xbf7010ae ∷ 0xc0c00000 ∷ 0x3fb90058 ∷ 0x3d960296 ∷ 0x3f9ca25c ∷ 0x3d2b0ed5 ∷
    0x3e78bf3a ∷ 0x3fbf582c ∷ 0xbe8b8910 ∷ 0x3fb2b452 ∷ 0x3e7ffee0 ∷ 0x3fcb4886 ∷ []) (0x3f8e5edc ∷ 0x402c8aaa ∷ 0x3fe00000 ∷ 0x40800000 ∷ 0x3f4cd203 ∷
    0x00000000 ∷ 0xbfb7cfad ∷ 0xbfe00000 ∷ 0xbf800000 ∷ 0x3fe00000 ∷ 0x00000000 ∷ 0xc02361e5 ∷ 0x00000001 ∷ 0xbfa00000 ∷ 0xc01eb066 ∷ 0x00000000 ∷ [])
    (0x3fc00000 ∷ 0x00000000 ∷ 0xbf7010ae ∷ 0xc0c00000 ∷ 0xbe800000 ∷ 0x3fcd960f ∷ 0xbfc00000 ∷ 0x40a00000 ∷ 0x3e800000 ∷ 0x3fcb4a5f ∷ 0x3fa00000 ∷ 0x00000000 ∷
    0xbe800000 ∷ 0xc0a00000 ∷ 0xbea7838f ∷ 0x3fb3113b ∷ []) [] (0x3f7fff70 ∷ 0x00000000 ∷ 0x370fc6de ∷ 0x00000000 ∷ [])
    ∷ accepted (call Cached FloatMask (given 0x3f92680b) (Some 2) 0x00000000 4 1 2 1 1 3 3 0 2 2 2 1 1 1)
    (reading (0xc02165a0 ∷ 0xc0400000 ∷ 0x40800000 ∷ 0x40000000 ∷ 0xbf9d2ced ∷ 0x40299033 ∷ 0xc006bcdc ∷ 0x3e6911ca ∷ 0x3fe00000 ∷ 0x80000000 ∷ 0x3fcf340d ∷
    0x3fa4c5d7 ∷ []) (0xbff35027 ∷ 0x00000001 ∷ 0xc0000000 ∷ 0xbf400000 ∷ 0xbfc00000 ∷ 0x40a00000 ∷ 0xc0000000 ∷ 0x3f098168 ∷ 0xbf800000 ∷ 0xbfc00000 ∷
    0x3f400000 ∷ 0x41000000 ∷ []) (0xbfe00000 ∷ 0x40000000 ∷ 0x40c00000 ∷ 0x3e800000 ∷ 0xbfda0ce9 ∷ 0x40201471 ∷ 0x4015b191 ∷ 0xbd913bee ∷ 0xbfc00000 ∷
    0xc7800000 ∷ 0xc010b522 ∷ 0x80000000 ∷ []) [] (0xff800000 ∷ 0x00000000 ∷ []) [] [] [])
    (lent 12 12 12 18 3) 3 3 (0x00000000 ∷ 0x00000000 ∷ 0x00000000 ∷ 0x00000000 ∷ 0x00000000 ∷ 0x00000000 ∷ 0x4015b191 ∷ 0xbd913bee ∷ 0xbf8582a2 ∷ 0xc7618745 ∷
    0xc010b520 ∷ 0xbb0d8e45 ∷ []) (0xbff35027 ∷ 0x00000001 ∷ 0xc0000000 ∷ 0xbf400000 ∷ 0xbfc00000 ∷ 0x40a00000 ∷ 0xc0000000 ∷ 0x3f098168 ∷ 0xbf800000 ∷
    0xbfc00000 ∷ 0x3f400000 ∷ 0x41000000 ∷ []) (0xbfe00000 ∷ 0x40000000 ∷ 0x40c00000 ∷ 0x3e800000 ∷ 0xbfda0ce9 ∷ 0x40201471 ∷ 0x4015b191 ∷ 0xbd913bee ∷
    0xbfc00000 ∷ 0xc7800000 ∷ 0xc010b522 ∷ 0x80000000 ∷ []) (0xff800000 ∷ 0xff800000 ∷ 0xff800000 ∷ 0xff800000 ∷ 0xff800000 ∷ 0xff800000 ∷ 0xff800000 ∷
    0xff800000 ∷ 0xff800000 ∷ 0x409e9677 ∷ 0xff800000 ∷ 0xff800000 ∷ 0xc0801b0a ∷ 0xc0001b0a ∷ 0xff800000 ∷ 0xc03a6229 ∷ 0xc081eccc ∷ 0x4152af93 ∷ [])
    (0x33df1035 ∷ 0x330d8e25 ∷ 0x3f7ffffe ∷ [])
    -- counted
    ∷ accepted (call Counted NoMask Absent (Some 1) 0x00000000 3 1 1 1 1 3 3 0 1 2 0 4 0 0)
    (reading (0x400a75c3 ∷ 0x80000001 ∷ 0x3f000000 ∷ []) (0x40000000 ∷ 0x00000001 ∷ 0x7fc00000 ∷ [])
    (0xc7800000 ∷ 0xc02ea755 ∷ 0x7f800000 ∷ 0x40a00000 ∷ 0xff800000 ∷ 0xc0400000 ∷ []) [] [] [] [] (pos 1 ∷ []))
    (lent 6 0 0 9 3) 3 0 (0xc7800000 ∷ 0xc02ea755 ∷ 0xc7800000 ∷ 0xc02ea755 ∷ 0xc7800000 ∷ 0xc02ea755 ∷ []) [] []
    (0x408a75c3 ∷ 0xff800000 ∷ 0xff800000 ∷ 0x80000002 ∷ 0xff800000 ∷ 0xff800000 ∷ 0x3f800000 ∷ 0xff800000 ∷ 0xff800000 ∷ [])
    (0x3f800000 ∷ 0x00000000 ∷ 0x00000000 ∷ [])
    ∷ accepted (call Counted Boolean (given 0x3f014d7a) (Some 0) 0x00000000 3 0 2 1 1 3 3 0 1 1 1 1 1 3)
    (reading (0xbfc00000 ∷ 0xc0000000 ∷ 0x80000000 ∷ 0x3f000000 ∷ 0x0076ff75 ∷ 0xbe800000 ∷ [])
    (0x7fc00000 ∷ 0xff800000 ∷ 0x7fc00000 ∷ 0xbf800000 ∷ 0x80076319 ∷ 0x00000001 ∷ [])
    (0x3fe00000 ∷ 0x7f800000 ∷ 0x7fc00000 ∷ 0xbf0163d4 ∷ 0xbfc00000 ∷ 0xbfc00000 ∷ []) (1 ∷ 1 ∷ 1 ∷ []) [] [] [] (pos 0 ∷ pos 3 ∷ []))
    (lent 6 0 0 18 3) 3 3 (0x00000000 ∷ 0x00000000 ∷ 0x00000000 ∷ 0xbf9c62db ∷ 0xbf9590a4 ∷ 0xbf91ebc0 ∷ []) [] [] (0x00000000 ∷ 0x00000000 ∷ 0x00000000 ∷
    0x00000000 ∷ 0x00000000 ∷ 0x00000000 ∷ 0x00000000 ∷ 0x00000000 ∷ 0x00000000 ∷ 0xbe814d7a ∷ 0x8001dd96 ∷ 0x00000000 ∷ 0x803c1abe ∷ 0x00000000 ∷ 0x00000000 ∷
    0x3e014d7a ∷ 0x0000eecb ∷ 0x00000000 ∷ []) (0x3eb95295 ∷ 0x3ea356b5 ∷ 0x3ea356b5 ∷ [])
    ∷ accepted (call Counted FloatMask (given 0x3f000000) (Some 0) 0x00000000 3 1 1 4 2 2 1 0 1 2 1 1 2 1)
    (reading (0x0034d893 ∷ 0x40000000 ∷ 0xbede83b3 ∷ 0x3f8c7c34 ∷ 0xc7800000 ∷ 0x3f800000 ∷ 0x00000000 ∷ 0x40310213 ∷ []) (0x47800080 ∷ 0xbf6fb9e8 ∷ [])
    (0x7fc00000 ∷ 0x7f800000 ∷ 0x40e00000 ∷ 0xc0400000 ∷ []) [] (0xbf800000 ∷ 0xff800000 ∷ []) [] [] (pos 0 ∷ []))
    (lent 16 0 0 8 1) 1 8 (0x00000000 ∷ 0x00000000 ∷ 0x00000000 ∷ 0x00000000 ∷ 0x00000000 ∷ 0x00000000 ∷ 0x00000000 ∷ 0x00000000 ∷ 0x00000000 ∷ 0x00000000 ∷
    0x00000000 ∷ 0x00000000 ∷ 0x00000000 ∷ 0x00000000 ∷ 0x00000000 ∷ 0x00000000 ∷ []) [] []
    (0x00000000 ∷ 0x00000000 ∷ 0x00000000 ∷ 0x00000000 ∷ 0x00000000 ∷ 0x00000000 ∷ 0x00000000 ∷ 0x00000000 ∷ []) (0x00000000 ∷ [])
    ∷ accepted (call Counted NoMask (given 0x3f000000) (Some 1) 0x00000000 4 1 1 2 2 3 2 0 1 2 4 1 2 7)
    (reading (0xbf400000 ∷ 0x80000001 ∷ 0x3f000000 ∷ 0x47800000 ∷ 0xbfe00000 ∷ 0xbf000000 ∷ []) (0xc0088380 ∷ 0x7f800000 ∷ 0xc0800000 ∷ 0xff800000 ∷ [])
    (0xff800000 ∷ 0xbf400000 ∷ 0x47800080 ∷ 0x7fc00000 ∷ 0x3f800000 ∷ 0x7f800000 ∷ 0xbf2642d5 ∷ 0x7fc00000 ∷ []) [] [] [] [] (pos 0 ∷ []))
    (lent 12 0 0 12 2) 2 6 (0x00000000 ∷ 0x00000000 ∷ 0x00000000 ∷ 0x00000000 ∷ 0x00000000 ∷ 0x00000000 ∷ 0x00000000 ∷ 0x00000000 ∷ 0x00000000 ∷ 0x00000000 ∷
    0x00000000 ∷ 0x00000000 ∷ []) [] [] (0xff800000 ∷ 0xff800000 ∷ 0xff800000 ∷ 0xff800000 ∷ 0xff800000 ∷ 0xff800000 ∷ 0xff800000 ∷ 0xff800000 ∷ 0xff800000 ∷
    0xff800000 ∷ 0xff800000 ∷ 0xff800000 ∷ []) (0x00000000 ∷ 0x00000000 ∷ [])
    ∷ accepted (call Counted Boolean (given 0x44800000) (Some 2) 0x00000000 3 0 2 2 2 1 2 0 2 1 2 2 1 2)
    (reading (0xbf000000 ∷ 0x3fc00000 ∷ 0x40400000 ∷ 0x3f000000 ∷ 0xbfe00000 ∷ 0x3f2477c2 ∷ 0x403dc669 ∷ 0x400f6284 ∷ []) (0xc0000000 ∷ 0x3fa00000 ∷ 0x7fc00000
    ∷ 0x00000001 ∷ 0x3fe3e70a ∷ 0x403114aa ∷ 0x002de40d ∷ 0x7f800000 ∷ 0xbfbb57c7 ∷ 0xbe800000 ∷ 0x7fc00000 ∷ 0xff800000 ∷ 0xff800000 ∷ 0x47800080 ∷ 0x3f800000
    ∷ 0x47800080 ∷ []) (0x3f87f4a7 ∷ 0x7fc00000 ∷ 0x47800080 ∷ 0x3fc18b70 ∷ 0x47800000 ∷ 0xff800000 ∷ 0x3fbc33a1 ∷ 0xff800000 ∷ [])
    (1 ∷ 1 ∷ 0 ∷ 0 ∷ 1 ∷ 0 ∷ 0 ∷ 1 ∷ []) [] [] [] (pos 0 ∷ pos 0 ∷ []))
    (lent 4 0 0 8 2) 2 4 (0x00000000 ∷ 0x00000000 ∷ 0x00000000 ∷ 0x00000000 ∷ []) [] []
    (0xff800000 ∷ 0xff800000 ∷ 0xff800000 ∷ 0xff800000 ∷ 0xff800000 ∷ 0xff800000 ∷ 0xff800000 ∷ 0xff800000 ∷ []) (0x00000000 ∷ 0x00000000 ∷ [])
    ∷ accepted (call Counted FloatMask (given 0x00000001) (Some 0) 0x00000000 3 0 1 4 2 1 3 0 3 2 1 4 1 3)
    (reading (0xbf000000 ∷ 0xbf98f18a ∷ 0x3f000000 ∷ 0xc009590c ∷ 0xbf800000 ∷ 0xbffa519e ∷ 0xbfc00000 ∷ 0xbfc00000 ∷ 0xbf400000 ∷ 0xc0000000 ∷ 0x80000000 ∷
    0x41000000 ∷ []) (0x3f000000 ∷ 0xbf800000 ∷ 0xc7800000 ∷ 0x400187de ∷ 0x00000000 ∷ 0x3e800000 ∷ 0x00000001 ∷ 0xc03ca8e0 ∷ 0x4000bc20 ∷ 0x40800000 ∷
    0x40800000 ∷ 0x3f800000 ∷ 0xff800000 ∷ 0x47800080 ∷ 0x40000000 ∷ 0xff800000 ∷ 0xff800000 ∷ 0x47800080 ∷ []) (0x40400000 ∷ 0xbff7bec9 ∷ 0x80000000 ∷
    0x3e800000 ∷ 0x800218f7 ∷ 0x3e800000 ∷ 0x40000000 ∷ 0x3e800000 ∷ 0xff800000 ∷ 0x3fe00000 ∷ 0xbf9365b4 ∷ 0xbfc00000 ∷ []) [] (0x00000000 ∷ 0xff7fffff ∷
    0xff800000 ∷ 0x00000000 ∷ 0xff7fffff ∷ 0x00000000 ∷ 0xff800000 ∷ 0x00000000 ∷ 0x3ecebb04 ∷ 0x80000000 ∷ 0xff800000 ∷ 0x00000000 ∷ []) [] [] (pos 2 ∷ []))
    (lent 8 0 0 12 3) 3 0 (0x40400000 ∷ 0xbff7bec9 ∷ 0x40400000 ∷ 0xbff7bec9 ∷ 0x40000000 ∷ 0x3e800000 ∷ 0x00000000 ∷ 0x3e800000 ∷ []) [] [] (0x80007fff ∷
    0x00000005 ∷ 0x00000000 ∷ 0x0001f4a3 ∷ 0x80000001 ∷ 0x00000000 ∷ 0x80000003 ∷ 0x8000000d ∷ 0x00000000 ∷ 0x80000002 ∷ 0x00000000 ∷ 0x00000000 ∷ [])
    (0x3f800000 ∷ 0x00000000 ∷ 0x00000000 ∷ [])
    ∷ accepted (call Counted NoMask Absent None 0x00000000 4 0 2 2 2 2 2 0 2 2 1 3 9 1)
    (reading (0x47800000 ∷ 0xbf000000 ∷ 0xc0c00000 ∷ 0xc1000000 ∷ 0xbfa00000 ∷ 0x40400000 ∷ 0x3f400000 ∷ 0xbfe00000 ∷ 0xbfa00000 ∷ 0x4029232d ∷ 0xbfc00000 ∷
    0x3fe00000 ∷ 0x3f000000 ∷ 0xbf891808 ∷ 0xbfe00000 ∷ 0xbfa00000 ∷ []) (0xbf815308 ∷ 0x3fc00000 ∷ 0xbf800000 ∷ 0xc1000000 ∷ 0xbfc00000 ∷ 0xbf21e507 ∷
    0x3d6a501b ∷ 0xc01fb507 ∷ 0x3f31f31f ∷ 0x00614ccf ∷ 0x3e800000 ∷ 0x80000000 ∷ 0xbfe00000 ∷ 0xbf800000 ∷ 0x80000000 ∷ 0x3f400000 ∷ []) (0x00000000 ∷
    0x3f400000 ∷ 0xbfabbdb1 ∷ 0x40400000 ∷ 0x47800000 ∷ 0xbf400000 ∷ 0xc0400000 ∷ 0xc0c00000 ∷ 0x00000000 ∷ 0xc00bc6e0 ∷ 0xbf800000 ∷ 0x40000000 ∷ 0x80748b07 ∷
    0x3fac68f9 ∷ 0xbf3903d0 ∷ 0x7f800000 ∷ []) [] [] [] [] (pos 2 ∷ pos 1 ∷ []))
    (lent 16 0 0 0 2) 2 0 (0xbfabbdb1 ∷ 0x40400000 ∷ 0xbfabbdb1 ∷ 0x40400000 ∷ 0x477ec391 ∷ 0xbf467d2f ∷ 0x452b3094 ∷ 0xc0b8f8a0 ∷ 0x00000000 ∷ 0xc00bc6e0 ∷
    0x00000000 ∷ 0xc00bc6e0 ∷ 0x80748b07 ∷ 0x3fac68f9 ∷ 0x80748b07 ∷ 0x3fac68f9 ∷ []) [] [] [] (0x3f800000 ∷ 0x00000000 ∷ [])
    ∷ accepted (call Counted Boolean (given 0x3f73af02) (Some 0) 0x00000000 3 0 1 2 1 1 2 0 3 2 1 1 1 2)
    (reading (0x00000000 ∷ 0x3fde7b47 ∷ 0x00000001 ∷ 0x3f800000 ∷ 0x41000000 ∷ 0x3f9eafdb ∷ [])
    (0x47800080 ∷ 0x402d94c2 ∷ 0x807a3df3 ∷ 0x7fc00000 ∷ 0xff800000 ∷ 0x7fc00000 ∷ []) (0x7f800000 ∷ 0x7f800000 ∷ 0xff800000 ∷ 0xbf800000 ∷ []) (1 ∷ 0 ∷ []) []
    [] [] (pos 0 ∷ []))
    (lent 4 0 0 4 2) 2 2 (0x00000000 ∷ 0x00000000 ∷ 0x00000000 ∷ 0x00000000 ∷ []) [] [] (0x00000000 ∷ 0x00000000 ∷ 0x00000000 ∷ 0x00000000 ∷ [])
    (0x00000000 ∷ 0x00000000 ∷ [])
    ∷ accepted (call Counted FloatMask (given 0x3fbb824b) None 0x00000000 3 1 1 1 1 1 3 0 2 1 1 1 1 1)
    (reading (0xbf8a2a88 ∷ 0xbff907c0 ∷ []) (0x3fdcdff4 ∷ 0x8003e844 ∷ 0xc00797f9 ∷ 0xbeed74c6 ∷ 0x807f2005 ∷ 0x00000000 ∷ [])
    (0x3fd1c3a9 ∷ 0xbff0aa0a ∷ 0x3f02aa08 ∷ []) [] (0x00000000 ∷ []) [] [] (pos 3 ∷ []))
    (lent 1 0 0 0 3) 3 0 (0x3fd1c3a9 ∷ []) [] [] [] (0x3f800000 ∷ 0x00000000 ∷ 0x00000000 ∷ [])
    -- refusal 1
    ∷ refused (call Plain NoMask (given 0x3f000000) (Some 1) 0x00000000 3 1 0 1 1 1 2 0 2 1 8 1 2 7)
    (reading (0xc02ade5a ∷ 0x3f800000 ∷ []) (0xbd99622d ∷ 0xc0a00000 ∷ 0xc0122d8a ∷ 0xc7800000 ∷ []) (0x803b7a1d ∷ 0x3f000000 ∷ []) [] [] [] [] [])
    (lent 1 0 0 2 2) Limits
    ∷ refused (call Counted FloatMask (given 0x44800000) (Some 0) 0x00000000 4 1 9 1 1 3 2 0 1 2 1 1 3 2)
    (reading (0x80000000 ∷ 0xbfdc0899 ∷ 0x40000000 ∷ []) (0xbf000000 ∷ 0x80000001 ∷ []) (0x3f8de8d4 ∷ 0x40a00000 ∷ 0x7f800000 ∷ 0xc1000000 ∷ []) []
    (0xff800000 ∷ 0x7f7fffff ∷ 0xbef44925 ∷ 0xff800000 ∷ 0x7f7fffff ∷ 0xc0e00000 ∷ []) [] [] (pos 1 ∷ []))
    (lent 6 0 0 6 2) Limits
    -- refusal 1, beside a fault of 6
    ∷ refused (call Cached NoMask Absent None 0x00000000 4 0 1 33 1 3 3 0 2 2 9 6 2 4)
    (reading (0x80000000 ∷ 0xc026c9cc ∷ 0x3f000000 ∷ 0xc1000000 ∷ 0xc0096e48 ∷ 0xbf000000 ∷ [])
    (0xbea324ae ∷ 0xbf294256 ∷ 0xbf400000 ∷ 0xbfc00000 ∷ 0x3f800000 ∷ 0x00000000 ∷ [])
    (0xc0e00000 ∷ 0x00000000 ∷ 0x80000001 ∷ 0xc0a00000 ∷ 0xbf61ce2e ∷ 0x3fe00000 ∷ []) [] [] [] [] [])
    (lent 6 6 7 0 3) Limits
    -- refusal 1
    ∷ refused (call Plain NoMask Absent None 0x00000000 3 0 2 2 0 1 1 0 1 1 6 1 6 9)
    (reading (0x3e800000 ∷ 0xbe800000 ∷ 0xbfa00000 ∷ 0x40a00000 ∷ []) (0x3fc00000 ∷ 0x80000000 ∷ []) (0x47800000 ∷ 0xbf800000 ∷ []) [] [] [] [] [])
    (lent 4 0 0 0 1) Limits
    ∷ refused (call Counted FloatMask (given 0x3ee11699) (Some 1) 0x00000000 3 1 1 1 1 2049 1 0 1 2 1 1 2 1)
    (reading (0xc0000000 ∷ 0x3ff4324a ∷ []) (0x00000000 ∷ []) (0x00000001 ∷ 0xbff9ac34 ∷ []) [] (0xc1000000 ∷ 0xff800000 ∷ []) [] [] (pos 1 ∷ []))
    (lent 4 0 0 2 1) Limits
    -- refusal 1, beside a fault of 3
    ∷ refused (call Plain FloatMask (given 0x00000001) (Some 3) 0x00000000 2 1 1 1 1 3 0 0 1 1 1 1 3 1)
    (reading (0x80000001 ∷ 0x3dfbf912 ∷ 0x3fc00000 ∷ []) (0x400f9f59 ∷ []) (0x3fa00000 ∷ []) [] (0x80000000 ∷ 0xff7fffff ∷ 0xff800000 ∷ []) [] [] [])
    (lent 3 0 0 3 1) Limits
    -- refusal 1
    ∷ refused (call Plain FloatMask (given 0x00000001) None 0x00000000 4 0 1 1 1 2 2 0 257 1 1 1 2 1)
    (reading (0xbf400000 ∷ 0x3f0a6242 ∷ 0xbf956a4b ∷ 0xc0184745 ∷ []) (0xc0400000 ∷ 0x40000000 ∷ 0x47800000 ∷ 0xbfd204ce ∷ []) (0xbfcc880e ∷ 0x3f863933 ∷ []) []
    (0x80000000 ∷ 0xc0000000 ∷ []) [] [] [])
    (lent 2 0 0 0 2) Limits
    ∷ refused (call Counted FloatMask (given 0x3f5c72b8) (Some 0) 0x00000000 3 0 1 1 1 1 3 0 1 0 1 1 1 3)
    (reading (0x00000000 ∷ []) (0x7f800000 ∷ 0x47800080 ∷ 0x40a00000 ∷ []) (0xff800000 ∷ 0x7f800000 ∷ 0x7fc00000 ∷ []) []
    (0x80000000 ∷ 0xff800000 ∷ 0x00000000 ∷ []) [] [] (pos 0 ∷ []))
    (lent 1 0 0 3 3) Limits
    -- refusal 1, beside a fault of 7
    ∷ refused (call Plain Boolean (given 0x44800000) None 0x00000000 4 1 1 1 1 2 3 1 2 1 1 1 1 3)
    (reading (0x3f800000 ∷ 0x80000001 ∷ 0x3fe00000 ∷ 0xc0000000 ∷ []) (0xc03f5070 ∷ 0x3f000000 ∷ 0x3f39881b ∷ 0x00000000 ∷ 0x4015c795 ∷ 0x40000000 ∷ [])
    (0xc01b3d7b ∷ 0xbf400000 ∷ 0x47800080 ∷ []) (1 ∷ 1 ∷ 1 ∷ []) [] [] [] (negsuc 0 ∷ []))
    (lent 2 0 0 0 3) Limits
    -- refusal 1
    ∷ refused (call Counted NoMask (given 0x00000001) None 0x00000000 3 1 1 2 1 1 3 1 2 1 3 4 1 9)
    (reading (0x80000000 ∷ 0x47800000 ∷ 0xc0e00000 ∷ 0xc0a00000 ∷ []) (0x3f8ac3b7 ∷ 0x3ee172b4 ∷ 0x3ff42302 ∷ 0x3f360c8d ∷ 0xbe800000 ∷ 0x3e97fcfa ∷ [])
    (0x3fa00000 ∷ 0xbfa00000 ∷ 0xc0000000 ∷ []) [] [] [] [] [])
    (lent 2 6 3 0 3) Limits
    ∷ refused (call Cached FloatMask (given 0x3f000000) (Some 3) 0x00000000 3 0 1 1 1 1 2 2047 2 1 1 1 1 1)
    (reading (0x80000000 ∷ 0x40000000 ∷ []) (0x47800000 ∷ 0xbf000000 ∷ 0xbe880030 ∷ 0xff800000 ∷ 0xff800000 ∷ 0x7f800000 ∷ [])
    (0x40800000 ∷ 0xc0000000 ∷ 0xbf800000 ∷ []) [] (0xff800000 ∷ []) [] [] (pos 1 ∷ []))
    (lent 1 0 0 3 3) Limits
    -- refusal 1, beside a fault of 7
    ∷ refused (call Cached FloatMask Absent (Some 1) 0x00000000 3 0 1 1 1 2 1 18446744073709551615 2 1 1 1 1 3)
    (reading (0x3fa00000 ∷ 0xbf400000 ∷ 0xc0800000 ∷ 0xc0097208 ∷ []) (0x47800000 ∷ 0xc0391caa ∷ 0x7fc00000 ∷ 0xff800000 ∷ 0xff800000 ∷ 0xbfe06c2d ∷ [])
    (0xbf400000 ∷ 0x7f800000 ∷ 0xc7800000 ∷ []) [] (0xff800000 ∷ 0x3f400000 ∷ 0xff7fffff ∷ []) [] [] (pos 9223372036854775807 ∷ []))
    (lent 2 0 0 6 3) Limits
    -- refusal 2
    ∷ refused (call Counted FloatMask Absent None 0x00000000 4 1 1 1 2 3 3 0 1 1 1 1 3 1)
    (reading (0x3fe00000 ∷ 0x3fa00000 ∷ 0xbfbd34dd ∷ 0xbf000000 ∷ 0x00000001 ∷ 0x40000000 ∷ []) (0xbf53bc4d ∷ 0x00000000 ∷ 0x3fe00000 ∷ [])
    (0x40000000 ∷ 0xc0216db6 ∷ 0xbf3e1639 ∷ []) [] (0xff7fffff ∷ 0xff800000 ∷ 0xff7fffff ∷ []) [] [] (pos 3 ∷ []))
    (lent 6 0 0 0 3) HeadGroups
    ∷ refused (call Plain NoMask Absent (Some 0) 0x00000000 3 0 1 3 2 2 2 0 1 1 5 6 5 0)
    (reading (0x00000001 ∷ 0x3fa00000 ∷ []) (0xbff36ce8 ∷ 0x007e9b97 ∷ []) (0xc0c00000 ∷ 0x3fc00000 ∷ []) [] [] [] [] [])
    (lent 2 0 0 4 2) HeadGroups
    -- refusal 2, beside a fault of 8
    ∷ refused (call Counted FloatMask Absent (Some 1) 0x00000000 3 0 1 4 3 1 3 0 1 2 1 1 1 3)
    (reading (0xc0400000 ∷ 0x40169e06 ∷ []) (0x3ed92e2a ∷ 0x47800000 ∷ 0xbffce49b ∷ [])
    (0x3f000000 ∷ 0xbf800000 ∷ 0x3f400000 ∷ 0x00000000 ∷ 0xbfe00000 ∷ 0x7f800000 ∷ []) [] (0xff800000 ∷ 0x7fc00000 ∷ 0xbfa61797 ∷ []) [] [] (pos 2 ∷ []))
    (lent 4 0 0 6 3) HeadGroups
    -- refusal 3
    ∷ refused (call Plain FloatMask (given 0x3f5e023a) (Some 0) 0x00000000 2 0 1 1 1 1 2 0 1 2 1 1 1 2)
    (reading (0xbf800000 ∷ []) (0x00000000 ∷ 0xbea10081 ∷ []) (0xc0e00000 ∷ 0xbf000000 ∷ 0x40356941 ∷ 0xbf000000 ∷ []) [] (0x3f800000 ∷ 0xff800000 ∷ []) [] []
    [])
    (lent 2 0 0 2 2) Settings
    ∷ refused (call Plain FloatMask (given 0x44800000) None 0x00000000 5 1 1 2 2 3 3 0 1 1 1 2 1 3)
    (reading (0x80000000 ∷ 0x401f2797 ∷ 0x3f400000 ∷ 0x40e00000 ∷ 0x0058195f ∷ 0xc0400000 ∷ [])
    (0x401c8474 ∷ 0xc7800000 ∷ 0x3f400000 ∷ 0xbf7bbd87 ∷ 0x41000000 ∷ 0x80000001 ∷ [])
    (0x3fa00000 ∷ 0xbfe00000 ∷ 0x80000000 ∷ 0x007cb37a ∷ 0xbfc00000 ∷ 0x00380397 ∷ []) []
    (0xff800000 ∷ 0xff800000 ∷ 0x00000000 ∷ 0x80000000 ∷ 0x401720f8 ∷ 0x7f7fffff ∷ []) [] [] [])
    (lent 6 0 0 0 3) Settings
    -- refusal 3, beside a fault of 6
    ∷ refused (call Counted Boolean Absent (Some 2) 0x00000000 4 2 1 1 1 3 2 0 2 2 1 1 1 2)
    (reading (0x3f1e2f70 ∷ 0x40e00000 ∷ 0x3fe00000 ∷ 0x40000000 ∷ 0xbf400000 ∷ 0xbff1f89c ∷ []) (0x3fbd2227 ∷ 0x3ed6b70f ∷ 0x47800080 ∷ 0x47800080 ∷ [])
    (0x3fa00000 ∷ 0xbe800000 ∷ 0x47800080 ∷ 0x80000000 ∷ []) (1 ∷ 1 ∷ []) [] [] [] (pos 1 ∷ []))
    (lent 6 0 0 5 2) Settings
    -- refusal 3
    ∷ refused (call Plain NoMask (given 0x3fbc9b03) (Some 4) 0x00000000 4 1 1 2 1 1 3 0 1 1 5 9 1 9)
    (reading (0x80000000 ∷ 0x3fd46ee3 ∷ []) (0x40288836 ∷ 0x806913a0 ∷ 0x80000001 ∷ []) (0x40000000 ∷ 0xbfcb9a87 ∷ 0x3e9ba9f5 ∷ []) [] [] [] [] [])
    (lent 2 0 0 0 3) Settings
    ∷ refused (call Counted Boolean (given 0x00000000) None 0x00000000 3 0 2 2 1 1 1 0 1 1 2 2 1 1)
    (reading (0x3f400000 ∷ 0x40800000 ∷ 0xc0c00000 ∷ 0x3fec24b2 ∷ []) (0xff800000 ∷ 0xbfa00000 ∷ []) (0x3f42b992 ∷ 0xbfe00000 ∷ []) (1 ∷ 1 ∷ 1 ∷ 1 ∷ []) [] []
    [] (pos 0 ∷ pos 1 ∷ []))
    (lent 4 0 0 0 1) Settings
    -- refusal 3, beside a fault of 5
    ∷ refused (call Plain Boolean (given 0x80000000) (Some 3) 0x00000000 3 0 1 1 1 2 3 0 2 2 1 1 1 3)
    (reading (0x3f000000 ∷ 0x3f800000 ∷ 0x80000001 ∷ 0xbfe00000 ∷ []) (0x3ec01efb ∷ 0xbeb625c7 ∷ 0xc02814af ∷ 0xbfe00000 ∷ 0x40400000 ∷ 0xbf400000 ∷ [])
    (0x401c5104 ∷ 0x40c00000 ∷ 0x41000000 ∷ 0x3ee6b365 ∷ 0xc00c8099 ∷ []) (0 ∷ 1 ∷ 1 ∷ []) [] [] [] [])
    (lent 4 0 0 6 3) Settings
    -- refusal 3
    ∷ refused (call Plain NoMask (given 0x80000001) (Some 2) 0x00000000 4 1 1 1 1 2 3 0 1 1 1 3 5 9)
    (reading (0xbfb1cca9 ∷ 0x401e37c1 ∷ []) (0x4003d2ee ∷ 0x40800000 ∷ 0xc031b535 ∷ []) (0x80000000 ∷ 0x40e00000 ∷ 0x00000000 ∷ []) [] [] [] [] [])
    (lent 2 0 0 6 3) Settings
    ∷ refused (call Plain FloatMask (given 0x7fc00000) (Some 0) 0x00000000 3 1 1 2 1 3 1 0 1 1 1 2 3 1)
    (reading (0x8031de42 ∷ 0x00000000 ∷ 0x3f7268f3 ∷ 0xc7800000 ∷ 0xbfc00000 ∷ 0x80017c0f ∷ []) (0x3d8ac347 ∷ []) (0x3ffd990b ∷ []) []
    (0x802b9329 ∷ 0x7f7fffff ∷ 0xff800000 ∷ 0x7f7fffff ∷ 0xff800000 ∷ 0x7f7fffff ∷ []) [] [] [])
    (lent 6 0 0 6 1) Settings
    -- refusal 3, beside a fault of 6
    ∷ refused (call Plain FloatMask (given 0x7f800000) (Some 3) 0x00000000 3 1 1 1 1 1 3 0 2 1 1 1 1 3)
    (reading (0x3f000000 ∷ 0x41000000 ∷ []) (0xc1000000 ∷ 0x3fbb25a3 ∷ 0xbfc00000 ∷ 0x40000000 ∷ 0x80000001 ∷ 0x00231d8a ∷ [])
    (0x3fa00000 ∷ 0x80000000 ∷ 0xc0296550 ∷ []) [] (0x3fc00000 ∷ 0xff800000 ∷ 0xff800000 ∷ []) [] [] [])
    (lent 1 0 0 3 4) Settings
    -- refusal 3
    ∷ refused (call Cached FloatMask (given 0x44800001) (Some 0) 0x00000000 3 1 1 1 1 1 1 1 2 1 1 1 1 2)
    (reading (0xc1000000 ∷ 0x3fa00000 ∷ []) (0x40000000 ∷ 0x40138190 ∷ []) (0x3f400000 ∷ []) [] (0x7f7fffff ∷ 0xff7fffff ∷ []) (0x80000001 ∷ 0xc7800000 ∷ [])
    (0xc016d9e7 ∷ []) [])
    (lent 1 4 2 2 2) Settings
    -- refusal 4
    ∷ refused (call Plain Boolean (given 0x00000001) None 0x00000000 4 1 2 2 1 1 1 0 1 1 3 1 1 1)
    (reading (0x40a00000 ∷ 0x80000000 ∷ 0x40400000 ∷ 0x00000000 ∷ []) (0xbe800000 ∷ 0x00000001 ∷ []) (0xc0800000 ∷ 0x40c00000 ∷ []) (1 ∷ 1 ∷ []) [] [] [] [])
    (lent 4 0 0 0 1) MaskShape
    ∷ refused (call Counted Boolean (given 0x3ff5e67f) None 0x00000000 3 1 1 2 2 1 1 0 1 1 1 0 1 1)
    (reading (0x00000000 ∷ 0xc0280dcc ∷ []) (0x7fc00000 ∷ 0x40a00000 ∷ []) (0x47800000 ∷ 0x47800080 ∷ []) (0 ∷ []) [] [] [] (pos 0 ∷ []))
    (lent 2 0 0 0 1) MaskShape
    -- refusal 4, beside a fault of 5
    ∷ refused (call Plain Boolean (given 0x3e67b00b) (Some 0) 0x00000000 4 0 1 1 1 1 3 0 2 1 1 1 0 3)
    (reading (0xbf3d76cd ∷ 0xbeeec507 ∷ 0x3f800000 ∷ []) (0xbf400000 ∷ 0x3fc00000 ∷ 0xc0a00000 ∷ 0xc0a00000 ∷ 0x3eb50ecb ∷ 0x40000000 ∷ [])
    (0x3feddb5f ∷ 0xc0400000 ∷ 0xbf800000 ∷ []) (0 ∷ 1 ∷ 0 ∷ []) [] [] [] [])
    (lent 1 0 0 3 3) MaskShape
    -- refusal 4
    ∷ refused (call Counted FloatMask (given 0x3ea954cf) (Some 1) 0x00000000 3 0 2 1 1 1 3 0 1 1 2 1 1 0)
    (reading (0xbfc00000 ∷ 0x00000000 ∷ []) (0x3f070322 ∷ 0xc0000000 ∷ 0x00000001 ∷ 0xbf979c17 ∷ 0xc00253ff ∷ 0x41000000 ∷ [])
    (0x47800000 ∷ 0x3fef62ff ∷ 0x47800080 ∷ 0x40365e0e ∷ 0x80302699 ∷ 0x7fc00000 ∷ []) [] (0xff800000 ∷ 0xc0000000 ∷ []) [] [] (pos 1 ∷ pos 2 ∷ []))
    (lent 2 0 0 6 3) MaskShape
    -- refusal 5
    ∷ refused (call Cached FloatMask (given 0x3f000000) (Some 0) 0x00000000 3 0 1 1 1 3 1 1 1 1 1 1 3 1)
    (reading (0xc0077484 ∷ 0xbf000000 ∷ []) (0x00000000 ∷ []) (0xbfc00000 ∷ []) [] (0xc0e00000 ∷ 0x00000000 ∷ 0x40c00000 ∷ []) (0x3ffc2148 ∷ [])
    (0x00000000 ∷ []) [])
    (lent 3 2 2 6 2) InputLength
    ∷ refused (call Cached NoMask (given 0x44800000) (Some 2) 0x00000000 4 0 1 1 1 2 2 1 2 1 0 4 7 4)
    (reading (0x80000001 ∷ 0x40000000 ∷ 0xbfce1b03 ∷ 0x40800000 ∷ []) (0x004e67a2 ∷ 0x3f000000 ∷ 0xc0083615 ∷ []) (0xbf9ffec4 ∷ 0xbfa00000 ∷ []) [] []
    (0x402044df ∷ 0xbffd5a7b ∷ []) (0x3fc00000 ∷ []) [])
    (lent 2 6 3 6 3) InputLength
    -- refusal 5, beside a fault of 8
    ∷ refused (call Plain FloatMask Absent (Some 0) 0x00000000 3 0 1 1 1 3 1 0 1 2 1 1 3 1)
    (reading (0xc0000000 ∷ 0xbe800000 ∷ 0x40800000 ∷ []) (0x00000001 ∷ []) (0x3fe3903e ∷ []) [] (0xff7fffff ∷ 0x7fc00000 ∷ 0x3f400000 ∷ []) [] [] [])
    (lent 6 0 0 3 1) InputLength
    -- refusal 5
    ∷ refused (call Counted FloatMask (given 0x3f000000) (Some 3) 0x00000000 3 1 1 1 1 2 2 0 1 1 1 1 2 1)
    (reading (0xbfd44d97 ∷ 0x3ec238fe ∷ []) (0x3e800000 ∷ 0x7fc00000 ∷ []) (0xbfaa1bd0 ∷ 0x47800080 ∷ []) (1 ∷ []) (0xff800000 ∷ 0x7f7fffff ∷ []) [] []
    (pos 1 ∷ []))
    (lent 2 0 0 4 2) InputLength
    ∷ refused (call Counted NoMask Absent (Some 3) 0x00000000 3 0 1 2 1 1 3 0 1 1 0 3 0 1)
    (reading (0x3e800000 ∷ 0x00000000 ∷ []) (0x3e800000 ∷ 0x8001ba03 ∷ 0x3fb35701 ∷ []) (0xbf27bcc4 ∷ 0xbe56f33e ∷ 0x3f8e9d6d ∷ []) [] (0x3f800000 ∷ []) [] []
    (pos 2 ∷ []))
    (lent 2 0 0 6 3) InputLength
    -- refusal 5, beside a fault of 7
    ∷ refused (call Counted NoMask (given 0x00000001) (Some 1) 0x00000000 3 1 1 1 1 1 1 0 2 2 3 0 6 9)
    (reading (0x800b3af1 ∷ 0xbed9c3c2 ∷ []) (0x801dc687 ∷ 0x3e1abbd7 ∷ []) (0x3e800000 ∷ 0xc1000000 ∷ []) [] [] (0x3f800000 ∷ []) []
    (negsuc 9223372036854775807 ∷ []))
    (lent 2 0 0 1 1) InputLength
    -- refusal 5
    ∷ refused (call Plain Boolean Absent None 0x00000000 4 0 1 1 1 3 1 0 1 1 1 1 1 1)
    (reading (0xc0e00000 ∷ 0xc0a00000 ∷ 0x00000000 ∷ []) (0x3fac7801 ∷ []) (0xc0c00000 ∷ []) (1 ∷ []) [] [] (0x3f800000 ∷ []) [])
    (lent 3 0 0 0 1) InputLength
    ∷ refused (call Counted FloatMask Absent (Some 0) 0x00000000 3 0 1 2 2 1 1 0 1 1 1 2 1 1)
    (reading (0xbf000000 ∷ 0x00000000 ∷ []) (0x40e00000 ∷ 0x3fe00000 ∷ []) (0x3fa00000 ∷ 0xc7800000 ∷ []) [] (0xff800000 ∷ 0x00000000 ∷ []) [] []
    (pos 1 ∷ pos 1 ∷ []))
    (lent 2 0 0 2 1) InputLength
    -- refusal 6
    ∷ refused (call Counted FloatMask Absent (Some 0) 0x00000000 4 0 1 1 1 1 3 0 2 1 1 1 1 3)
    (reading (0xbfc00000 ∷ 0x3fa00000 ∷ []) (0xbfc00000 ∷ 0x403e46a5 ∷ 0xc0000000 ∷ 0x47800000 ∷ 0x00000000 ∷ 0x3fa5fc7b ∷ [])
    (0xbf000000 ∷ 0x00000000 ∷ 0xc0000000 ∷ []) [] (0xff800000 ∷ 0xff800000 ∷ 0xff800000 ∷ []) [] [] (pos 3 ∷ []))
    (lent 2 0 0 3 3) OutputLength
    ∷ refused (call Plain Boolean Absent (Some 3) 0x00000000 4 1 2 1 1 3 1 0 1 1 2 1 3 1)
    (reading (0xbf800000 ∷ 0x3fc00000 ∷ 0x80000000 ∷ 0xbfc9bb33 ∷ 0xbf400000 ∷ 0x40000000 ∷ []) (0x40400000 ∷ 0xc0a00000 ∷ []) (0x3fa00000 ∷ 0x47800000 ∷ [])
    (1 ∷ 0 ∷ 1 ∷ 0 ∷ 1 ∷ 1 ∷ []) [] [] [] [])
    (lent 6 1 0 6 1) OutputLength
    -- refusal 6, beside a fault of 8
    ∷ refused (call Plain FloatMask (given 0x3fa6755d) (Some 2) 0x00000000 4 1 2 1 1 1 1 0 2 2 2 1 1 1)
    (reading (0xbf02c50b ∷ 0x3f000000 ∷ 0xbf000000 ∷ 0xbfa89def ∷ []) (0xbe800000 ∷ 0x3f000000 ∷ 0x4034dec4 ∷ 0xbe800000 ∷ [])
    (0x3fdd626b ∷ 0xc0e00000 ∷ 0x00000001 ∷ 0xbfb5f30b ∷ []) [] (0x7fc00000 ∷ 0xff800000 ∷ []) [] [] [])
    (lent 4 0 1 2 1) OutputLength
    -- refusal 6
    ∷ refused (call Cached Boolean (given 0x44800000) (Some 1) 0x00000000 3 1 1 1 1 3 1 0 2 1 1 1 3 1)
    (reading (0x40400000 ∷ 0x47800000 ∷ 0xbf400000 ∷ 0x47800000 ∷ 0x3f000000 ∷ 0xbd9e6f54 ∷ []) (0x00000000 ∷ 0x00000000 ∷ []) (0xc0400000 ∷ [])
    (1 ∷ 1 ∷ 0 ∷ []) [] [] [] [])
    (lent 3 2 1 4 1) OutputLength
    ∷ refused (call Plain NoMask Absent (Some 2) 0x00000000 3 1 2 1 1 1 3 0 1 1 5 6 6 5)
    (reading (0x41000000 ∷ 0xbf000000 ∷ []) (0x40a00000 ∷ 0x3f83eff2 ∷ 0x40c00000 ∷ 0xbba9a5bb ∷ 0x41000000 ∷ 0xbff45ea2 ∷ [])
    (0x3fefec64 ∷ 0x3e800000 ∷ 0x47800000 ∷ 0x8068357b ∷ 0xbf800000 ∷ 0x00000001 ∷ []) [] [] [] [] [])
    (lent 2 0 0 6 2) OutputLength
    -- refusal 7
    ∷ refused (call Counted NoMask (given 0x3f000000) (Some 0) 0x00000000 3 0 2 1 1 1 3 0 1 1 2 4 5 7)
    (reading (0x00000000 ∷ 0x8065054d ∷ []) (0xc00e3f4c ∷ 0x3e800000 ∷ 0x7fc00000 ∷ 0x47800000 ∷ 0xbf000000 ∷ 0xff800000 ∷ [])
    (0xff800000 ∷ 0x00000001 ∷ 0x47800000 ∷ 0x3f8f1383 ∷ 0x7fc00000 ∷ 0xc02a60a7 ∷ []) [] [] [] [] (pos 0 ∷ negsuc 9223372036854775807 ∷ []))
    (lent 2 0 0 6 3) (LiveCount 1)
    ∷ refused (call Counted NoMask Absent (Some 3) 0x00000000 4 0 2 1 1 1 2 0 1 1 4 0 6 2)
    (reading (0x3e9e56b5 ∷ 0x40800000 ∷ []) (0x7f800000 ∷ 0x7f800000 ∷ 0x47800080 ∷ 0x47800080 ∷ []) (0x7f800000 ∷ 0x40c00000 ∷ 0x40000000 ∷ 0xff800000 ∷ []) []
    [] [] [] (pos 3 ∷ pos 0 ∷ []))
    (lent 2 0 0 4 2) (LiveCount 0)
    -- refusal 7, beside a fault of 8
    ∷ refused (call Counted FloatMask (given 0x3f000000) (Some 0) 0x00000000 4 1 1 2 1 1 3 0 2 1 1 2 1 1)
    (reading (0x802facff ∷ 0x80000000 ∷ 0x3e3a3d6a ∷ 0xc0000000 ∷ []) (0xc1000000 ∷ 0x3e800000 ∷ 0x7fc00000 ∷ 0xff800000 ∷ 0xff800000 ∷ 0xc00143ce ∷ [])
    (0xc00365b0 ∷ 0x3fc00000 ∷ 0xbe8b74db ∷ []) [] (0xff800000 ∷ 0x7f800000 ∷ []) [] [] (pos 9223372036854775807 ∷ []))
    (lent 2 0 0 6 3) (LiveCount 0)
    -- refusal 8
    ∷ refused (call Plain Boolean (given 0x3fc662d9) (Some 1) 0x00000000 4 1 1 2 1 1 3 0 1 2 1 2 1 3)
    (reading (0x007cbf6c ∷ 0x3f400000 ∷ []) (0x3fc00000 ∷ 0xbf6f797a ∷ 0x3f800000 ∷ [])
    (0xbf800000 ∷ 0x3e800000 ∷ 0x3f6f563c ∷ 0xbfa00000 ∷ 0x3e800000 ∷ 0x40a00000 ∷ []) (1 ∷ 1 ∷ 1 ∷ 2 ∷ 0 ∷ 0 ∷ []) [] [] [] [])
    (lent 4 0 0 6 3) (MaskCell 3)
    ∷ refused (call Plain FloatMask Absent (Some 1) 0x00000000 3 1 1 1 1 2 3 0 2 1 1 1 1 1)
    (reading (0xc0000000 ∷ 0x00000000 ∷ 0x3fc00000 ∷ 0xc0000000 ∷ []) (0x80000000 ∷ 0x3f000000 ∷ 0x3ea841da ∷ 0x3fc00000 ∷ 0x40000000 ∷ 0xbf400000 ∷ [])
    (0xbee01ecc ∷ 0x40c00000 ∷ 0xc0800000 ∷ []) [] (0x7fc00000 ∷ []) [] [] [])
    (lent 2 0 0 6 3) (MaskCell 0)
    -- refusal 8, beside a fault of 9
    ∷ refused (call Plain FloatMask (given 0x3f0d1538) None 0x00000000 3 0 1 1 1 3 2 0 2 1 1 1 1 2)
    (reading (0xbfc00000 ∷ 0xbf800000 ∷ 0x00000000 ∷ 0x3ed309ac ∷ 0x3fe00000 ∷ 0x3fc00000 ∷ []) (0x3fb884dc ∷ 0x80000000 ∷ 0xbf400000 ∷ 0x47800000 ∷ [])
    (0x00000000 ∷ 0x7fc00000 ∷ []) [] (0x00000000 ∷ 0x7f800000 ∷ []) [] [] [])
    (lent 3 0 0 0 2) (MaskCell 1)
    -- refusal 9
    ∷ refused (call Plain NoMask (given 0x3f000000) (Some 0) 0x00000000 4 0 1 1 1 1 3 0 1 2 1 3 1 0)
    (reading (0x7fc00000 ∷ []) (0xc0e00000 ∷ 0x3d62ca94 ∷ 0xbfe00000 ∷ []) (0xbf400000 ∷ 0x00000001 ∷ 0x3fc00000 ∷ 0x40c00000 ∷ 0xbf000000 ∷ 0x3f000000 ∷ []) []
    [] [] [] [])
    (lent 2 0 0 3 3) (Element 0 0)
    ∷ refused (call Cached NoMask (given 0x3fcd664a) (Some 1) 0x00000000 4 1 1 2 2 1 2 1 1 1 6 7 8 5)
    (reading (0xbfe00000 ∷ 0x3f400000 ∷ []) (0x401ebd4d ∷ 0x403f7824 ∷ 0xbfa00000 ∷ 0x40000000 ∷ []) (0xbf1976e9 ∷ 0x402d33ef ∷ 0x3f9c305f ∷ 0xc7800000 ∷ []) []
    [] (0x7fc00000 ∷ 0xbf60f78b ∷ []) (0x3f9e06cc ∷ 0x4005f254 ∷ []) [])
    (lent 2 6 6 6 3) (Element 1 0)
    -- refusal 9, beside a fault of 9
    ∷ refused (call Plain FloatMask (given 0x00000001) (Some 2) 0x00000000 3 1 2 1 1 1 1 0 2 2 2 1 1 1)
    (reading (0x00000001 ∷ 0xc1000000 ∷ 0x3e489747 ∷ 0xc013f837 ∷ []) (0x40800000 ∷ 0x80000001 ∷ 0x7f800000 ∷ 0x41000000 ∷ [])
    (0x80000000 ∷ 0x00000001 ∷ 0x7fc00000 ∷ 0xc1000000 ∷ []) [] (0x80000000 ∷ 0xff7fffff ∷ []) [] [] [])
    (lent 4 0 0 2 1) (Element 2 2)
    -- refusal 9
    ∷ refused (call Cached FloatMask Absent (Some 2) 0x00000000 3 0 1 1 1 1 3 2 1 1 1 1 1 5)
    (reading (0x3fb5c6d5 ∷ []) (0xbfe00000 ∷ 0xc0400000 ∷ 0x47800000 ∷ []) (0xbfe785de ∷ 0xc0800000 ∷ 0xc0a00000 ∷ []) []
    (0xbf374dff ∷ 0xff800000 ∷ 0x40000000 ∷ 0xff800000 ∷ 0x00000000 ∷ []) (0x40400000 ∷ 0xc0000000 ∷ []) (0x80000000 ∷ 0x7f7fffff ∷ []) [])
    (lent 1 5 5 5 5) (Element 3 1)
    ∷ refused (call Plain Boolean (given 0x44800000) (Some 1) 0x00000000 4 1 1 1 1 1 1 0 1 1 1 1 1 1)
    (reading (0x3fe00000 ∷ []) (0x40e00000 ∷ []) (0x47800001 ∷ []) (0 ∷ []) [] [] [] [])
    (lent 1 0 0 1 1) (Element 4 0)
    ∷ []

-- every claim of the table holds
pub vectors : AllHold vector_table
unfolding vector_table attention_of
vectors = (refl, (refl, (refl, (refl, (refl, (refl, (refl, (refl, (refl, (refl, (refl, (refl, (refl, (refl, (refl, (refl, (refl, (refl, (refl, (refl, (refl, (refl, (refl, (refl, (refl, (refl, (refl, (refl, (refl, (refl, (refl, (refl, (refl, (refl, (refl, (refl, (refl, (refl, (refl, (refl, (refl, (refl, (refl, (refl, (refl, (refl, (refl, (refl, (refl, (refl, (refl, (refl, (refl, (refl, (refl, (refl, (refl, (refl, (refl, (refl, (refl, (refl, (refl, (refl, (refl, (refl, (refl, (refl, (refl, (refl, (refl, (refl, (refl, (refl, (refl, (refl, (refl, (refl, (refl, (refl, tt))))))))))))))))))))))))))))))))))))))))))))))))))))))))))))))))))))))))))))))))

-- under a cap, by its bits, the second score becomes the third
unfoldable under : (cap score capped : ℕ) → Claim
unfolding of_bits
under cap score capped = under_cap (of_bits binary32 cap) (of_bits binary32 score) (of_bits binary32 capped)

unfoldable pub cap_table : List Claim
unfolding under
cap_table =
    under 0x00000001 0x00000000 0x00000000
    ∷ under 0x00000001 0x80000000 0x00000000
    ∷ under 0x00000001 0x00000080 0x00000001
    ∷ under 0x00000001 0x80000080 0x80000001
    ∷ under 0x00000001 0x30800000 0x00000001
    ∷ under 0x00000001 0xb0800000 0x80000001
    ∷ under 0x00000001 0x3f200000 0x00000001
    ∷ under 0x00000001 0xbf200000 0x80000001
    ∷ under 0x00000001 0x41f00000 0x00000001
    ∷ under 0x00000001 0xc1f00000 0x80000001
    ∷ under 0x00000001 0x46800000 0x00000001
    ∷ under 0x00000001 0xc6800000 0x80000001
    ∷ under 0x35800000 0x00000000 0x00000000
    ∷ under 0x35800000 0x80000000 0x00000000
    ∷ under 0x35800000 0x00000080 0x00000000
    ∷ under 0x35800000 0x80000080 0x80000000
    ∷ under 0x35800000 0x30800000 0x307ffff0
    ∷ under 0x35800000 0xb0800000 0xb07ffff0
    ∷ under 0x35800000 0x3f200000 0x35800000
    ∷ under 0x35800000 0xbf200000 0xb5800000
    ∷ under 0x35800000 0x41f00000 0x35800000
    ∷ under 0x35800000 0xc1f00000 0xb5800000
    ∷ under 0x35800000 0x46800000 0x35800000
    ∷ under 0x35800000 0xc6800000 0xb5800000
    ∷ under 0x3f000000 0x00000000 0x00000000
    ∷ under 0x3f000000 0x80000000 0x00000000
    ∷ under 0x3f000000 0x00000080 0x00000000
    ∷ under 0x3f000000 0x80000080 0x80000000
    ∷ under 0x3f000000 0x30800000 0x00000000
    ∷ under 0x3f000000 0xb0800000 0x80000000
    ∷ under 0x3f000000 0x3f200000 0x3ed9291d
    ∷ under 0x3f000000 0xbf200000 0xbed9291d
    ∷ under 0x3f000000 0x41f00000 0x3f000000
    ∷ under 0x3f000000 0xc1f00000 0xbf000000
    ∷ under 0x3f000000 0x46800000 0x3f000000
    ∷ under 0x3f000000 0xc6800000 0xbf000000
    ∷ under 0x41f00000 0x00000000 0x00000000
    ∷ under 0x41f00000 0x80000000 0x00000000
    ∷ under 0x41f00000 0x00000080 0x00000000
    ∷ under 0x41f00000 0x80000080 0x80000000
    ∷ under 0x41f00000 0x30800000 0x00000000
    ∷ under 0x41f00000 0xb0800000 0x80000000
    ∷ under 0x41f00000 0x3f200000 0x3f1ffa1f
    ∷ under 0x41f00000 0xbf200000 0xbf1ffa1f
    ∷ under 0x41f00000 0x41f00000 0x41b6c858
    ∷ under 0x41f00000 0xc1f00000 0xc1b6c858
    ∷ under 0x41f00000 0x46800000 0x41f00000
    ∷ under 0x41f00000 0xc6800000 0xc1f00000
    ∷ under 0x42480000 0x00000000 0x00000000
    ∷ under 0x42480000 0x80000000 0x00000000
    ∷ under 0x42480000 0x00000080 0x00000000
    ∷ under 0x42480000 0x80000080 0x80000000
    ∷ under 0x42480000 0x30800000 0x00000000
    ∷ under 0x42480000 0xb0800000 0x80000000
    ∷ under 0x42480000 0x3f200000 0x3f1ffde0
    ∷ under 0x42480000 0xbf200000 0xbf1ffde0
    ∷ under 0x42480000 0x41f00000 0x41d6d1e1
    ∷ under 0x42480000 0xc1f00000 0xc1d6d1e1
    ∷ under 0x42480000 0x46800000 0x42480000
    ∷ under 0x42480000 0xc6800000 0xc2480000
    ∷ under 0x47800000 0x00000000 0x00000000
    ∷ under 0x47800000 0x80000000 0x00000000
    ∷ under 0x47800000 0x00000080 0x00000000
    ∷ under 0x47800000 0x80000080 0x00000000
    ∷ under 0x47800000 0x30800000 0x00000000
    ∷ under 0x47800000 0xb0800000 0x80000000
    ∷ under 0x47800000 0x3f200000 0x3f200064
    ∷ under 0x47800000 0xbf200000 0xbf200064
    ∷ under 0x47800000 0x41f00000 0x41f0001c
    ∷ under 0x47800000 0xc1f00000 0xc1f0001c
    ∷ under 0x47800000 0x46800000 0x467acbf2
    ∷ under 0x47800000 0xc6800000 0xc67acbf2
    ∷ under 0x00000000 0x00000000 0x00000000
    ∷ under 0x00000000 0x80000000 0x80000000
    ∷ under 0x00000000 0x00000080 0x00000080
    ∷ under 0x00000000 0x80000080 0x80000080
    ∷ under 0x00000000 0x30800000 0x30800000
    ∷ under 0x00000000 0xb0800000 0xb0800000
    ∷ under 0x00000000 0x3f200000 0x3f200000
    ∷ under 0x00000000 0xbf200000 0xbf200000
    ∷ under 0x00000000 0x41f00000 0x41f00000
    ∷ under 0x00000000 0xc1f00000 0xc1f00000
    ∷ under 0x00000000 0x46800000 0x46800000
    ∷ under 0x00000000 0xc6800000 0xc6800000
    ∷ under 0x80000000 0x00000000 0x00000000
    ∷ under 0x80000000 0x80000000 0x80000000
    ∷ under 0x80000000 0x00000080 0x00000080
    ∷ under 0x80000000 0x80000080 0x80000080
    ∷ under 0x80000000 0x30800000 0x30800000
    ∷ under 0x80000000 0xb0800000 0xb0800000
    ∷ under 0x80000000 0x3f200000 0x3f200000
    ∷ under 0x80000000 0xbf200000 0xbf200000
    ∷ under 0x80000000 0x41f00000 0x41f00000
    ∷ under 0x80000000 0xc1f00000 0xc1f00000
    ∷ under 0x80000000 0x46800000 0x46800000
    ∷ under 0x80000000 0xc6800000 0xc6800000
    ∷ []

-- every claim of the table holds
pub caps : AllHold cap_table
unfolding cap_table capped_where
caps = (refl, (refl, (refl, (refl, (refl, (refl, (refl, (refl, (refl, (refl, (refl, (refl, (refl, (refl, (refl, (refl, (refl, (refl, (refl, (refl, (refl, (refl, (refl, (refl, (refl, (refl, (refl, (refl, (refl, (refl, (refl, (refl, (refl, (refl, (refl, (refl, (refl, (refl, (refl, (refl, (refl, (refl, (refl, (refl, (refl, (refl, (refl, (refl, (refl, (refl, (refl, (refl, (refl, (refl, (refl, (refl, (refl, (refl, (refl, (refl, (refl, (refl, (refl, (refl, (refl, (refl, (refl, (refl, (refl, (refl, (refl, (refl, (refl, (refl, (refl, (refl, (refl, (refl, (refl, (refl, (refl, (refl, (refl, (refl, (refl, (refl, (refl, (refl, (refl, (refl, (refl, (refl, (refl, (refl, (refl, (refl, tt))))))))))))))))))))))))))))))))))))))))))))))))))))))))))))))))))))))))))))))))))))))))))))))))

unfoldable pub capped_table : List Claim
unfolding call given reading accepted
capped_table =
    -- a row under a cap, in every mode
    accepted (call Plain Boolean Absent (Some 0) 0x3f000000 4 0 1 1 1 1 3 0 1 1 1 1 1 3)
    (reading (0x40000000 ∷ []) (0x41a00000 ∷ 0x40400000 ∷ 0xbe800000 ∷ []) (0x3f800000 ∷ 0x40000000 ∷ 0x40800000 ∷ []) (1 ∷ 0 ∷ 1 ∷ []) [] [] [] [])
    (lent 1 0 0 3 3) 3 0 (0x3ff08450 ∷ []) [] [] (0x42200000 ∷ 0x40c00000 ∷ 0xbf000000 ∷ []) (0x3f34fd1f ∷ 0x00000000 ∷ 0x3e9605c1 ∷ [])
    ∷ accepted (call Plain Boolean Absent (Some 1) 0x3f000000 4 0 1 1 1 1 3 0 1 1 1 1 1 3)
    (reading (0x40000000 ∷ []) (0x41a00000 ∷ 0x40400000 ∷ 0xbe800000 ∷ []) (0x3f800000 ∷ 0x40000000 ∷ 0x40800000 ∷ []) (1 ∷ 0 ∷ 1 ∷ []) [] [] [] [])
    (lent 1 0 0 3 3) 3 0 (0x3ff08450 ∷ []) [] [] (0x42200000 ∷ 0xff800000 ∷ 0xbf000000 ∷ []) (0x3f34fd1f ∷ 0x00000000 ∷ 0x3e9605c1 ∷ [])
    ∷ accepted (call Plain Boolean Absent (Some 2) 0x3f000000 4 0 1 1 1 1 3 0 1 1 1 1 1 3)
    (reading (0x40000000 ∷ []) (0x41a00000 ∷ 0x40400000 ∷ 0xbe800000 ∷ []) (0x3f800000 ∷ 0x40000000 ∷ 0x40800000 ∷ []) (1 ∷ 0 ∷ 1 ∷ []) [] [] [] [])
    (lent 1 0 0 3 3) 3 0 (0x3ff08450 ∷ []) [] [] (0x3f000000 ∷ 0xff800000 ∷ 0xbec2f7d5 ∷ []) (0x3f34fd1f ∷ 0x00000000 ∷ 0x3e9605c1 ∷ [])
    ∷ accepted (call Plain Boolean Absent (Some 3) 0x3f000000 4 0 1 1 1 1 3 0 1 1 1 1 1 3)
    (reading (0x40000000 ∷ []) (0x41a00000 ∷ 0x40400000 ∷ 0xbe800000 ∷ []) (0x3f800000 ∷ 0x40000000 ∷ 0x40800000 ∷ []) (1 ∷ 0 ∷ 1 ∷ []) [] [] [] [])
    (lent 1 0 0 3 3) 3 0 (0x3ff08450 ∷ []) [] [] (0x3f34fd1f ∷ 0x00000000 ∷ 0x3e9605c1 ∷ []) (0x3f34fd1f ∷ 0x00000000 ∷ 0x3e9605c1 ∷ [])
    ∷ accepted (call Plain Boolean Absent (Some 0) 0x41f00000 4 0 1 1 1 1 3 0 1 1 1 1 1 3)
    (reading (0x40000000 ∷ []) (0x41a00000 ∷ 0x40400000 ∷ 0xbe800000 ∷ []) (0x3f800000 ∷ 0x40000000 ∷ 0x40800000 ∷ []) (1 ∷ 0 ∷ 1 ∷ []) [] [] [] [])
    (lent 1 0 0 3 3) 3 0 (0x3f800000 ∷ []) [] [] (0x42200000 ∷ 0x40c00000 ∷ 0xbf000000 ∷ []) (0x3f800000 ∷ 0x00000000 ∷ 0x2c44f3fb ∷ [])
    ∷ accepted (call Plain Boolean Absent (Some 1) 0x41f00000 4 0 1 1 1 1 3 0 1 1 1 1 1 3)
    (reading (0x40000000 ∷ []) (0x41a00000 ∷ 0x40400000 ∷ 0xbe800000 ∷ []) (0x3f800000 ∷ 0x40000000 ∷ 0x40800000 ∷ []) (1 ∷ 0 ∷ 1 ∷ []) [] [] [] [])
    (lent 1 0 0 3 3) 3 0 (0x3f800000 ∷ []) [] [] (0x42200000 ∷ 0xff800000 ∷ 0xbf000000 ∷ []) (0x3f800000 ∷ 0x00000000 ∷ 0x2c44f3fb ∷ [])
    ∷ accepted (call Plain Boolean Absent (Some 2) 0x41f00000 4 0 1 1 1 1 3 0 1 1 1 1 1 3)
    (reading (0x40000000 ∷ []) (0x41a00000 ∷ 0x40400000 ∷ 0xbe800000 ∷ []) (0x3f800000 ∷ 0x40000000 ∷ 0x40800000 ∷ []) (1 ∷ 0 ∷ 1 ∷ []) [] [] [] [])
    (lent 1 0 0 3 3) 3 0 (0x3f800000 ∷ []) [] [] (0x41d0d097 ∷ 0xff800000 ∷ 0xbefff9fe ∷ []) (0x3f800000 ∷ 0x00000000 ∷ 0x2c44f3fb ∷ [])
    ∷ accepted (call Plain Boolean Absent (Some 3) 0x41f00000 4 0 1 1 1 1 3 0 1 1 1 1 1 3)
    (reading (0x40000000 ∷ []) (0x41a00000 ∷ 0x40400000 ∷ 0xbe800000 ∷ []) (0x3f800000 ∷ 0x40000000 ∷ 0x40800000 ∷ []) (1 ∷ 0 ∷ 1 ∷ []) [] [] [] [])
    (lent 1 0 0 3 3) 3 0 (0x3f800000 ∷ []) [] [] (0x3f800000 ∷ 0x00000000 ∷ 0x2c44f3fb ∷ []) (0x3f800000 ∷ 0x00000000 ∷ 0x2c44f3fb ∷ [])
    -- plain, with a cap
    ∷ accepted (call Plain NoMask (given 0x44800000) None 0x35800000 3 0 2 1 1 3 3 0 1 2 5 0 8 2)
    (reading (0x3f800000 ∷ 0x3fc00000 ∷ 0x40000000 ∷ 0xc0000000 ∷ 0xc0000000 ∷ 0x3fca1697 ∷ [])
    (0x3f800000 ∷ 0x00000001 ∷ 0xbfe00000 ∷ 0xc034fd83 ∷ 0xbfc277af ∷ 0x3fa00000 ∷ []) (0x400539bc ∷ 0x400a8743 ∷ 0xc1000000 ∷ 0xc0400000 ∷ 0xbdbb1c8e ∷
    0xbe800000 ∷ 0x3fb7616c ∷ 0xc0000000 ∷ 0x00000000 ∷ 0x003d225e ∷ 0x3e800000 ∷ 0xbe800000 ∷ []) [] [] [] [] [])
    (lent 12 0 0 0 3) 3 0 (0xc000350b ∷ 0xbeb941de ∷ 0xc000350b ∷ 0xbeb941de ∷ 0xc000350b ∷ 0xbeb941de ∷ 0x3f0f964c ∷ 0xbf400006 ∷ 0x3f0f964c ∷ 0xbf400006 ∷
    0x3f0f9645 ∷ 0xbf3ffffb ∷ []) [] [] [] (0x3eaaaaa4 ∷ 0x3eaaaaa4 ∷ 0x3eaaaab9 ∷ [])
    ∷ accepted (call Plain Boolean (given 0x44800000) (Some 2) 0x41f00000 4 1 1 1 1 1 2 0 2 1 1 1 1 2)
    (reading (0x00000001 ∷ 0x3e640a1e ∷ []) (0x00000000 ∷ 0x3eeaa47e ∷ 0x3fdde15e ∷ 0xbf400000 ∷ []) (0x3fe00000 ∷ 0xc026246c ∷ []) (1 ∷ 1 ∷ []) [] [] [] [])
    (lent 1 0 0 2 2) 2 0 (0x3fe00000 ∷ []) [] [] (0x41ef8c50 ∷ 0xff800000 ∷ []) (0x3f800000 ∷ 0x00000000 ∷ [])
    ∷ accepted (call Plain FloatMask (given 0x3f000000) None 0x3f000000 3 1 2 1 1 1 2 0 2 1 1 1 1 2)
    (reading (0xbf800000 ∷ 0x41000000 ∷ 0x47800000 ∷ 0x3fc00000 ∷ [])
    (0x3fe00000 ∷ 0xc1000000 ∷ 0x47800000 ∷ 0x40000000 ∷ 0x40400000 ∷ 0xc019089b ∷ 0x40349912 ∷ 0x3fe2eebd ∷ [])
    (0x3fa00000 ∷ 0xbf800000 ∷ 0xbf000000 ∷ 0xc7800000 ∷ []) [] (0xff800000 ∷ 0x3f000000 ∷ []) [] [] [])
    (lent 2 0 0 0 2) 2 2 (0x00000000 ∷ 0x00000000 ∷ []) [] [] [] (0x00000000 ∷ 0x00000000 ∷ [])
    -- cached, with a cap
    ∷ accepted (call Cached NoMask (given 0x3fbd4410) (Some 2) 0x42480000 4 1 2 1 1 2 1 0 1 1 9 6 8 0)
    (reading (0x3f000000 ∷ 0x80000001 ∷ 0xc0000000 ∷ 0x40a00000 ∷ []) (0x807f1369 ∷ 0xbf400000 ∷ []) (0x40000000 ∷ 0xc0000000 ∷ []) [] [] [] [] [])
    (lent 4 2 2 4 1) 1 0 (0x40000000 ∷ 0x40000000 ∷ 0xc0000000 ∷ 0xc0000000 ∷ []) (0x807f1369 ∷ 0xbf400000 ∷ []) (0x40000000 ∷ 0xc0000000 ∷ [])
    (0x80000000 ∷ 0x00000000 ∷ 0x400ddb3a ∷ 0xc0b0b683 ∷ []) (0x3f800000 ∷ [])
    ∷ accepted (call Cached Boolean (given 0x3f000000) (Some 1) 0x3f000000 3 1 1 2 2 1 2 0 2 1 1 1 1 1)
    (reading (0xbf800000 ∷ 0x40000000 ∷ 0x00000001 ∷ 0x8044c6b1 ∷ [])
    (0x3e800000 ∷ 0x3fb7ff9e ∷ 0x80000000 ∷ 0xc0c00000 ∷ 0xc0400000 ∷ 0xbf000000 ∷ 0x3f400000 ∷ 0xbf800000 ∷ [])
    (0xbfc00000 ∷ 0x8073e525 ∷ 0xc0e00000 ∷ 0xbfc00000 ∷ []) (1 ∷ []) [] [] [] [])
    (lent 2 8 4 4 2) 2 0 (0xbfc00000 ∷ 0x8073e525 ∷ [])
    (0x3e800000 ∷ 0x3fb7ff9e ∷ 0xc0400000 ∷ 0xbf000000 ∷ 0x80000000 ∷ 0xc0c00000 ∷ 0x3f400000 ∷ 0xbf800000 ∷ [])
    (0xbfc00000 ∷ 0xc0e00000 ∷ 0x8073e525 ∷ 0xbfc00000 ∷ []) (0x3fa7ff9e ∷ 0xff800000 ∷ 0x00ce5413 ∷ 0xff800000 ∷ []) (0x3f800000 ∷ 0x00000000 ∷ [])
    ∷ accepted (call Cached FloatMask (given 0x00000001) (Some 1) 0x00000001 4 1 1 1 1 2 2 2 2 1 1 1 2 4)
    (reading (0x80000000 ∷ 0xc0000000 ∷ 0x3f800000 ∷ 0x3e800000 ∷ []) (0x3f000000 ∷ 0xbfce61d4 ∷ 0x00114128 ∷ 0x3fa00000 ∷ []) (0xc0400000 ∷ 0x003c41a0 ∷ []) []
    (0x80000000 ∷ 0x7f7fffff ∷ 0x40233a7d ∷ 0x80000000 ∷ 0xbfe00000 ∷ 0xff800000 ∷ 0x80000000 ∷ 0x00000000 ∷ [])
    (0x3fdce903 ∷ 0x00000000 ∷ 0xbfc00000 ∷ 0xbf9ca4aa ∷ []) (0x3f000000 ∷ 0x3fe00000 ∷ []) [])
    (lent 2 8 4 8 4) 4 0 (0xbe7ffffc ∷ 0xbf555555 ∷ [])
    (0x3fdce903 ∷ 0x00000000 ∷ 0xbfc00000 ∷ 0xbf9ca4aa ∷ 0x3f000000 ∷ 0xbfce61d4 ∷ 0x00114128 ∷ 0x3fa00000 ∷ [])
    (0x3f000000 ∷ 0x3fe00000 ∷ 0xc0400000 ∷ 0x003c41a0 ∷ [])
    (0x00000000 ∷ 0x7f7fffff ∷ 0x40233a7d ∷ 0xff800000 ∷ 0xbfe00000 ∷ 0xff800000 ∷ 0x00000000 ∷ 0x00000000 ∷ [])
    (0x3eaaaaab ∷ 0x00000000 ∷ 0x3eaaaaab ∷ 0x3eaaaaab ∷ [])
    -- counted, with a cap
    ∷ accepted (call Counted NoMask (given 0x3f80f524) (Some 0) 0x47800000 3 1 2 1 1 2 3 0 1 2 3 9 0 8)
    (reading (0x3fdc2474 ∷ 0xbf43c103 ∷ 0xbe800000 ∷ 0x47800000 ∷ []) (0x3fc00000 ∷ 0x7f800000 ∷ 0x47800080 ∷ 0xbfc00000 ∷ 0x41000000 ∷ 0x8031863d ∷ [])
    (0xbfa00000 ∷ 0x41000000 ∷ 0x3fab9532 ∷ 0x005989f9 ∷ 0x7f800000 ∷ 0x47800080 ∷ 0x40a00000 ∷ 0x3f400000 ∷ 0xc0000000 ∷ 0x402ccaf8 ∷ 0xff800000 ∷ 0xff800000 ∷
    []) [] [] [] [] (pos 1 ∷ pos 2 ∷ []))
    (lent 8 0 0 12 3) 3 0 (0xbfa00000 ∷ 0x41000000 ∷ 0xbfa00000 ∷ 0x41000000 ∷ 0x40a00000 ∷ 0x3f400000 ∷ 0xc0000000 ∷ 0x402ccaf8 ∷ []) [] [] (0x4026578c ∷
    0x00000000 ∷ 0x00000000 ∷ 0xbf93e9ef ∷ 0x00000000 ∷ 0x00000000 ∷ 0x3ec16fb6 ∷ 0xc000f524 ∷ 0x00000000 ∷ 0xc7c16fb6 ∷ 0x4900f524 ∷ 0x00000000 ∷ [])
    (0x00000000 ∷ 0x3f800000 ∷ 0x00000000 ∷ [])
    ∷ accepted (call Counted Boolean (given 0x3fc5003d) (Some 3) 0x00000001 4 0 1 1 1 1 1 0 2 2 1 1 1 1)
    (reading (0xbf400000 ∷ 0x80351c48 ∷ []) (0x7f800000 ∷ 0xbfc00000 ∷ []) (0xff800000 ∷ 0x7fc00000 ∷ []) (1 ∷ []) [] [] [] (pos 0 ∷ []))
    (lent 2 0 0 1 1) 1 1 (0x00000000 ∷ 0x00000000 ∷ []) [] [] (0x00000000 ∷ []) (0x00000000 ∷ [])
    ∷ accepted (call Counted FloatMask (given 0x3f000000) (Some 0) 0x35800000 3 0 2 1 1 2 1 0 1 2 2 1 1 1)
    (reading (0x3fe00000 ∷ 0x3fc00000 ∷ 0x3f800000 ∷ 0x3fe00000 ∷ []) (0x3f6140dc ∷ 0x3fddaecf ∷ []) (0x7f800000 ∷ 0x00000000 ∷ 0x40c00000 ∷ 0xc7800000 ∷ []) []
    (0xff800000 ∷ 0x80000000 ∷ []) [] [] (pos 0 ∷ pos 1 ∷ []))
    (lent 8 0 0 4 1) 1 2 (0x00000000 ∷ 0x00000000 ∷ 0x00000000 ∷ 0x00000000 ∷ 0x40c00000 ∷ 0xc7800000 ∷ 0x40c00000 ∷ 0xc7800000 ∷ []) [] []
    (0x00000000 ∷ 0x00000000 ∷ 0x3f5daecf ∷ 0x3fc1f8f5 ∷ []) (0x3f800000 ∷ [])
    -- refusal 3, by the cap
    ∷ refused (call Cached Boolean Absent (Some 2) 0x80000001 3 0 1 1 1 2 2 0 2 1 1 1 1 2)
    (reading (0xbff81a36 ∷ 0x40e00000 ∷ 0x40e00000 ∷ 0xc1000000 ∷ []) (0xc0800000 ∷ 0xbf400000 ∷ 0x00000000 ∷ 0x40062623 ∷ []) (0x00000000 ∷ 0x3f000000 ∷ [])
    (0 ∷ 1 ∷ []) [] [] [] [])
    (lent 2 4 2 4 2) Settings
    ∷ refused (call Cached FloatMask Absent None 0xc1f00000 3 0 2 1 1 3 1 2 1 1 1 1 1 3)
    (reading (0x400835a4 ∷ 0x3edf63b6 ∷ 0x00000000 ∷ 0x40000000 ∷ 0xbf800000 ∷ 0x3fb3d249 ∷ []) (0xbfcb9b1b ∷ 0xbfc00000 ∷ []) (0x41000000 ∷ 0x3f65d58c ∷ []) []
    (0xff800000 ∷ 0x00000000 ∷ 0xff800000 ∷ []) (0x401a7c61 ∷ 0x3f800000 ∷ 0xbfecda58 ∷ 0xc0400000 ∷ [])
    (0xc7800000 ∷ 0x3fc00000 ∷ 0xc03d0b30 ∷ 0x3f400000 ∷ []) [])
    (lent 6 6 6 0 3) Settings
    ∷ refused (call Plain Boolean (given 0x3f000000) (Some 3) 0x7fc00000 3 1 2 1 1 2 1 0 1 1 1 1 2 1)
    (reading (0xc02ffd9a ∷ 0x002f8963 ∷ 0x3f000000 ∷ 0xbfc00000 ∷ []) (0x80000001 ∷ 0x00000000 ∷ []) (0xbea92902 ∷ 0x802f9ae6 ∷ []) (1 ∷ 1 ∷ []) [] [] [] [])
    (lent 4 0 0 4 1) Settings
    ∷ refused (call Counted NoMask (given 0x44800000) (Some 1) 0x7f800000 3 0 1 1 1 2 3 0 1 1 4 2 0 2)
    (reading (0xc0120bf0 ∷ 0xc7800000 ∷ []) (0x00000000 ∷ 0x3f800000 ∷ 0x7f800000 ∷ []) (0xc7800000 ∷ 0x47800000 ∷ 0x7fc00000 ∷ []) [] [] [] [] (pos 1 ∷ []))
    (lent 2 0 0 6 3) Settings
    ∷ refused (call Cached NoMask Absent None 0xff800000 3 0 1 2 1 1 1 2 1 2 0 9 3 6)
    (reading (0xc7800000 ∷ 0xc1000000 ∷ []) (0xbf000000 ∷ []) (0x00000000 ∷ 0xc0a00000 ∷ []) [] [] (0xc02d4982 ∷ 0x47800000 ∷ [])
    (0x3f800000 ∷ 0x3f800000 ∷ 0xc0a00000 ∷ 0xc0000000 ∷ []) [])
    (lent 4 3 6 0 3) Settings
    ∷ refused (call Plain Boolean (given 0x3fd7df71) (Some 2) 0x47800001 3 1 1 1 1 2 3 0 2 1 1 1 1 3)
    (reading (0x40400000 ∷ 0xc0e00000 ∷ 0x00000000 ∷ 0xc1000000 ∷ []) (0x80000000 ∷ 0x3fe00000 ∷ 0x0078e31e ∷ 0x00000000 ∷ 0x3e800000 ∷ 0xbf800000 ∷ [])
    (0x3ff88d1b ∷ 0x403d3a2d ∷ 0x3f6e234c ∷ []) (0 ∷ 1 ∷ 1 ∷ []) [] [] [] [])
    (lent 2 0 0 6 3) Settings
    -- refusal 1, beside a bad cap
    ∷ refused (call Cached Boolean (given 0x3fbef17f) None 0x7fc00000 4 0 1 2 0 1 3 0 1 1 1 1 1 3)
    (reading (0x3f18e79e ∷ 0x40000000 ∷ []) (0xc0400000 ∷ 0x3f000000 ∷ 0x40272796 ∷ 0x40000000 ∷ 0x3f400000 ∷ 0x00000001 ∷ [])
    (0xc0366a46 ∷ 0xc0a00000 ∷ 0xbf400000 ∷ 0x802d14cb ∷ 0x47800000 ∷ 0xbfa86158 ∷ []) (1 ∷ 1 ∷ 0 ∷ []) [] [] [] [])
    (lent 2 6 6 0 3) Limits
    -- refusal 2, beside a bad cap
    ∷ refused (call Cached NoMask (given 0x00000001) (Some 2) 0x7fc00000 3 0 1 1 2 1 2 1 1 2 3 0 4 7)
    (reading (0x00000000 ∷ []) (0xbf800000 ∷ 0x3fa00000 ∷ []) (0xbfa00000 ∷ 0x40c00000 ∷ 0x80274d22 ∷ 0xbfccc489 ∷ []) [] [] (0x80000000 ∷ [])
    (0x3e38d95c ∷ 0x3f800000 ∷ []) [])
    (lent 2 3 6 3 3) HeadGroups
    -- refusal 3, by the cap, beside a fault of 4
    ∷ refused (call Plain FloatMask (given 0x3f000000) (Some 0) 0xbf800000 3 0 1 1 1 1 2 0 2 2 1 1 1 0)
    (reading (0x3f000000 ∷ 0xbf972886 ∷ []) (0x41000000 ∷ 0x807a02b2 ∷ 0x004a8185 ∷ 0x3fecc7d1 ∷ []) (0x3f330710 ∷ 0xc0000ae8 ∷ 0x3f800000 ∷ 0x00000000 ∷ []) []
    (0xbfd7acef ∷ []) [] [] [])
    (lent 2 0 0 2 2) Settings
    -- refusal 3, by the cap, beside a fault of 5
    ∷ refused (call Cached NoMask (given 0x3f000000) (Some 3) 0xbf800000 3 0 1 1 1 1 1 1 2 2 9 7 9 0)
    (reading (0x00000000 ∷ 0x3e800000 ∷ []) (0x3f800000 ∷ 0xc02ee535 ∷ []) (0xbf800000 ∷ 0x00559af7 ∷ []) (1 ∷ []) [] (0x00000001 ∷ 0xc0400000 ∷ [])
    (0x40e00000 ∷ 0x3e800000 ∷ []) [])
    (lent 2 4 4 2 2) Settings
    -- refusal 3, by the cap, beside a fault of 6
    ∷ refused (call Cached Boolean (given 0x44800000) None 0xbf800000 4 1 1 1 1 3 2 1 1 2 1 1 1 1)
    (reading (0x40c00000 ∷ 0x40169728 ∷ 0x80000001 ∷ []) (0x3ecc623c ∷ 0x40000000 ∷ []) (0xbfc00000 ∷ 0xbf400000 ∷ 0x40000000 ∷ 0x3e800000 ∷ []) (1 ∷ []) []
    (0x3ebe35d0 ∷ []) (0xbf3aabb8 ∷ 0x00000001 ∷ []) [])
    (lent 6 3 5 0 3) Settings
    ∷ []

-- every claim of the table holds
pub capped_vectors : AllHold capped_table
unfolding capped_table attention_of
capped_vectors = (refl, (refl, (refl, (refl, (refl, (refl, (refl, (refl, (refl, (refl, (refl, (refl, (refl, (refl, (refl, (refl, (refl, (refl, (refl, (refl, (refl, (refl, (refl, (refl, (refl, (refl, (refl, (refl, tt))))))))))))))))))))))))))))

unfoldable pub wider_table : List Claim
unfolding call given reading accepted
wider_table =
    -- plain, a wider head
    accepted (call Plain NoMask (given 0x44800000) (Some 0) 0x00000000 3 1 1 1 1 1 1 0 4 1 3 7 3 8)
    (reading (0x401849f5 ∷ 0x403622a3 ∷ 0xc00642e7 ∷ 0xc00a15e1 ∷ []) (0x40c00000 ∷ 0xbfa00000 ∷ 0x3f6394e1 ∷ 0x3f800000 ∷ []) (0x40a00000 ∷ []) [] [] [] [] [])
    (lent 1 0 0 1 1) 1 0 (0x40a00000 ∷ []) [] [] (0x45d64f96 ∷ []) (0x3f800000 ∷ [])
    ∷ accepted (call Plain NoMask (given 0x00000001) (Some 3) 0x00000000 3 0 1 1 1 1 3 0 5 1 1 0 6 9)
    (reading (0xbdde2e6e ∷ 0x3e4ff495 ∷ 0x3f0265ef ∷ 0xbfa950cb ∷ 0xbfca5d05 ∷ []) (0xc7800000 ∷ 0x3f400000 ∷ 0xc02a6467 ∷ 0x80189206 ∷ 0xbfa9fa31 ∷ 0x40400000
    ∷ 0x3f800000 ∷ 0xc02cee36 ∷ 0x3fe00000 ∷ 0xbf800000 ∷ 0xbf1f6eea ∷ 0x3e800000 ∷ 0x3f000000 ∷ 0xbfa00000 ∷ 0x3f400000 ∷ [])
    (0x80000001 ∷ 0x80000001 ∷ 0xbed659c8 ∷ []) [] [] [] [] [])
    (lent 1 0 0 3 3) 3 0 (0xbe0ee686 ∷ []) [] [] (0x3eaaaaab ∷ 0x3eaaaaab ∷ 0x3eaaaaab ∷ []) (0x3eaaaaab ∷ 0x3eaaaaab ∷ 0x3eaaaaab ∷ [])
    ∷ accepted (call Plain FloatMask (given 0x3f000000) (Some 0) 0x00000000 3 1 1 1 1 1 3 0 6 1 1 1 1 3)
    (reading (0x401ddeb7 ∷ 0x40355290 ∷ 0x3e86eea9 ∷ 0x3fcc245a ∷ 0x401247d4 ∷ 0x400b2882 ∷ []) (0xc1000000 ∷ 0x47800000 ∷ 0xc01e0f38 ∷ 0xc0e00000 ∷ 0xc0400000
    ∷ 0x3e0848e9 ∷ 0xc0000000 ∷ 0x00000000 ∷ 0x402fdbdc ∷ 0x47800000 ∷ 0xc0e00000 ∷ 0x3f0b6ebc ∷ 0xc0a00000 ∷ 0x4006d060 ∷ 0x3f96bec9 ∷ 0x3f400000 ∷ 0xc0800000
    ∷ 0xbfe00000 ∷ []) (0x40800000 ∷ 0xbfe00000 ∷ 0xbf800000 ∷ []) [] (0x00000000 ∷ 0xff800000 ∷ 0x00000000 ∷ []) [] [] [])
    (lent 1 0 0 3 3) 3 0 (0x40800000 ∷ []) [] [] (0x47b54909 ∷ 0x474c1ad7 ∷ 0xc10e743a ∷ []) (0x3f800000 ∷ 0x00000000 ∷ 0x00000000 ∷ [])
    ∷ accepted (call Plain Boolean Absent (Some 0) 0x00000000 3 1 1 1 1 1 1 0 7 1 1 1 1 1)
    (reading (0x3fe77bb2 ∷ 0x3f3b9945 ∷ 0xbf88496c ∷ 0xbfe25273 ∷ 0x4035b5c3 ∷ 0xbf93ece8 ∷ 0xbf7f761d ∷ [])
    (0x0034469a ∷ 0x80000000 ∷ 0xbfa8accf ∷ 0x3efb2355 ∷ 0xbeb46cde ∷ 0x40077524 ∷ 0x40000000 ∷ []) (0x3f58063e ∷ []) (1 ∷ []) [] [] [] [])
    (lent 1 0 0 1 1) 1 0 (0x3f58063e ∷ []) [] [] (0xbfed5fbf ∷ []) (0x3f800000 ∷ [])
    ∷ accepted (call Plain Boolean (given 0x00000001) (Some 3) 0x00000000 4 1 1 1 1 1 2 0 8 1 1 1 1 2)
    (reading (0xbfc1af98 ∷ 0x3feda0b5 ∷ 0xbfbae711 ∷ 0x3ee70b93 ∷ 0x3ff1936d ∷ 0x3f23b205 ∷ 0x3ee9d996 ∷ 0xbf963379 ∷ []) (0x3f000000 ∷ 0x3bc72c43 ∷ 0x3f7d0b69
    ∷ 0x3fa00000 ∷ 0xc0011a02 ∷ 0xbf89eb75 ∷ 0x4021e2f9 ∷ 0xc0400000 ∷ 0xc0004c58 ∷ 0xbfc00000 ∷ 0xbd94cba3 ∷ 0xc021b30e ∷ 0x40000000 ∷ 0x3f800000 ∷ 0x3fa00000
    ∷ 0xbe800000 ∷ []) (0xc7800000 ∷ 0x3ffede92 ∷ []) (1 ∷ 1 ∷ []) [] [] [] [])
    (lent 1 0 0 2 2) 2 0 (0xc7800000 ∷ []) [] [] (0x3f800000 ∷ 0x00000000 ∷ []) (0x3f800000 ∷ 0x00000000 ∷ [])
    ∷ accepted (call Plain FloatMask (given 0x3f000000) (Some 3) 0x00000000 4 1 1 1 1 1 1 0 9 1 1 1 1 1)
    (reading (0xbf82cb46 ∷ 0xbf9479f7 ∷ 0xc01f4d60 ∷ 0xbfe14cae ∷ 0xbec34cd2 ∷ 0x3f9ca551 ∷ 0x3f34597b ∷ 0x3fb4159b ∷ 0x4011bc12 ∷ [])
    (0x41000000 ∷ 0x80000001 ∷ 0x3f0bab71 ∷ 0x00000000 ∷ 0xbf800000 ∷ 0xbf400000 ∷ 0xbfa00000 ∷ 0x3e80aa1a ∷ 0xbfc9f7a7 ∷ []) (0x00000000 ∷ []) []
    (0xbfe00000 ∷ []) [] [] [])
    (lent 1 0 0 1 1) 1 0 (0x00000000 ∷ []) [] [] (0x3f800000 ∷ []) (0x3f800000 ∷ [])
    -- cached, a wider head
    ∷ accepted (call Cached NoMask Absent (Some 0) 0x00000000 3 1 1 1 1 1 3 0 4 1 7 6 5 7)
    (reading (0x3ec5e5ec ∷ 0xc004de17 ∷ 0x3fea4da8 ∷ 0xbefe07c9 ∷ []) (0x3fe3ad1f ∷ 0x803e7919 ∷ 0x3f000000 ∷ 0xbf000000 ∷ 0x3fa00000 ∷ 0xc0e00000 ∷ 0xbf2a1050
    ∷ 0xc0a00000 ∷ 0xbffd5ece ∷ 0x40000000 ∷ 0xbf33c502 ∷ 0xbfc00000 ∷ []) (0x402ebb09 ∷ 0x00000000 ∷ 0x80000001 ∷ []) [] [] [] [] [])
    (lent 1 12 3 3 3) 3 0 (0x402ebb09 ∷ []) (0x3fe3ad1f ∷ 0x803e7919 ∷ 0x3f000000 ∷ 0xbf000000 ∷ 0x3fa00000 ∷ 0xc0e00000 ∷ 0xbf2a1050 ∷ 0xc0a00000 ∷ 0xbffd5ece
    ∷ 0x40000000 ∷ 0xbf33c502 ∷ 0xbfc00000 ∷ []) (0x402ebb09 ∷ 0x00000000 ∷ 0x80000001 ∷ []) (0x3f6ce828 ∷ 0x41023e05 ∷ 0xc02eab34 ∷ [])
    (0x3f800000 ∷ 0x00000000 ∷ 0x00000000 ∷ [])
    ∷ accepted (call Cached Boolean (given 0x3f42196e) (Some 0) 0x00000000 3 0 1 1 1 1 1 2 5 1 1 1 1 1)
    (reading (0x403e417b ∷ 0x40031f0f ∷ 0x3fbfc6a3 ∷ 0xbebaebd0 ∷ 0xc022b2d3 ∷ []) (0xc0000000 ∷ 0x3fe24db7 ∷ 0xc1000000 ∷ 0xbf92c5ed ∷ 0xbf404ca8 ∷ [])
    (0xbe800000 ∷ []) (1 ∷ []) []
    (0x00000000 ∷ 0x3fc00000 ∷ 0xbfc00000 ∷ 0x4031e9d9 ∷ 0x8007ec7c ∷ 0x3fc44547 ∷ 0x3fe00000 ∷ 0x80000001 ∷ 0xbf000000 ∷ 0x3f717429 ∷ [])
    (0xc0244ee0 ∷ 0x3fb79d1a ∷ []) [])
    (lent 1 15 3 3 3) 3 0 (0x3fb2b4ac ∷ []) (0x00000000 ∷ 0x3fc00000 ∷ 0xbfc00000 ∷ 0x4031e9d9 ∷ 0x8007ec7c ∷ 0x3fc44547 ∷ 0x3fe00000 ∷ 0x80000001 ∷ 0xbf000000
    ∷ 0x3f717429 ∷ 0xc0000000 ∷ 0x3fe24db7 ∷ 0xc1000000 ∷ 0xbf92c5ed ∷ 0xbf404ca8 ∷ []) (0xc0244ee0 ∷ 0x3fb79d1a ∷ 0xbe800000 ∷ [])
    (0xbe12d1f1 ∷ 0x408fd6d3 ∷ 0xc1115836 ∷ []) (0x3c1cf94f ∷ 0x3f7d8c05 ∷ 0x35a8661f ∷ [])
    ∷ accepted (call Cached NoMask Absent (Some 0) 0x00000000 3 0 1 1 1 1 2 3 6 1 0 2 9 3)
    (reading (0xbf9a1a2b ∷ 0x400a03d0 ∷ 0x4009a000 ∷ 0x3f0f39d6 ∷ 0xbf397089 ∷ 0xbf79cbc4 ∷ []) (0xbf400000 ∷ 0x40c00000 ∷ 0x40000000 ∷ 0x3f000000 ∷ 0x3f1923cf
    ∷ 0xbfd7099d ∷ 0xbfa00000 ∷ 0xc0000000 ∷ 0x00000000 ∷ 0x3f58f1fc ∷ 0xbe800000 ∷ 0x3f000000 ∷ []) (0x3f400000 ∷ 0x3f800000 ∷ []) [] [] (0x80000001 ∷
    0xbe800000 ∷ 0x40800000 ∷ 0x3f400000 ∷ 0xc019e076 ∷ 0xbfe00000 ∷ 0xbf9705ca ∷ 0xbfa00000 ∷ 0xbff9cfdd ∷ 0xc0000000 ∷ 0x80000001 ∷ 0xc0111861 ∷ 0x800aacf7 ∷
    0x003c1afa ∷ 0x3fe00000 ∷ 0x3f400000 ∷ 0x3f83f63b ∷ 0xbe800000 ∷ []) (0xc0400000 ∷ 0xc0400000 ∷ 0x40000000 ∷ []) [])
    (lent 1 30 5 5 5) 5 0 (0x3f18bc0c ∷ []) (0x80000001 ∷ 0xbe800000 ∷ 0x40800000 ∷ 0x3f400000 ∷ 0xc019e076 ∷ 0xbfe00000 ∷ 0xbf9705ca ∷ 0xbfa00000 ∷ 0xbff9cfdd
    ∷ 0xc0000000 ∷ 0x80000001 ∷ 0xc0111861 ∷ 0x800aacf7 ∷ 0x003c1afa ∷ 0x3fe00000 ∷ 0x3f400000 ∷ 0x3f83f63b ∷ 0xbe800000 ∷ 0xbf400000 ∷ 0x40c00000 ∷ 0x40000000
    ∷ 0x3f000000 ∷ 0x3f1923cf ∷ 0xbfd7099d ∷ 0xbfa00000 ∷ 0xc0000000 ∷ 0x00000000 ∷ 0x3f58f1fc ∷ 0xbe800000 ∷ 0x3f000000 ∷ [])
    (0xc0400000 ∷ 0xc0400000 ∷ 0x40000000 ∷ 0x3f400000 ∷ 0x3f800000 ∷ []) (0x409bde93 ∷ 0xbfe4d087 ∷ 0x3fc04c4d ∷ 0x41003628 ∷ 0xbf89fe43 ∷ [])
    (0x3d2949c0 ∷ 0x385e69f3 ∷ 0x3aba8f0e ∷ 0x3f750391 ∷ 0x38e21726 ∷ [])
    ∷ accepted (call Cached Boolean (given 0x3f000000) (Some 0) 0x00000000 3 0 1 1 1 1 1 1 7 1 1 1 1 2)
    (reading (0xbff41279 ∷ 0x3f3deb6b ∷ 0xbe843f36 ∷ 0x3f210a1c ∷ 0xc011d65d ∷ 0x3ffc8594 ∷ 0xbfd24ec6 ∷ [])
    (0x3fa00000 ∷ 0xbe8280d5 ∷ 0x80000001 ∷ 0xbfa00000 ∷ 0xc1000000 ∷ 0x3e3852ab ∷ 0xc0c00000 ∷ []) (0x3f800000 ∷ []) (1 ∷ 1 ∷ []) []
    (0x3fabe1a4 ∷ 0xbf6afa41 ∷ 0x40800000 ∷ 0xc0c00000 ∷ 0x3fc00000 ∷ 0x40400000 ∷ 0x47800000 ∷ []) (0xbeec493f ∷ []) [])
    (lent 1 14 2 2 2) 2 0 (0x3f800000 ∷ []) (0x3fabe1a4 ∷ 0xbf6afa41 ∷ 0x40800000 ∷ 0xc0c00000 ∷ 0x3fc00000 ∷ 0x40400000 ∷ 0x47800000 ∷ 0x3fa00000 ∷ 0xbe8280d5
    ∷ 0x80000001 ∷ 0xbfa00000 ∷ 0xc1000000 ∷ 0x3e3852ab ∷ 0xc0c00000 ∷ []) (0xbeec493f ∷ 0x3f800000 ∷ []) (0xc752518c ∷ 0x4148ac12 ∷ [])
    (0x00000000 ∷ 0x3f800000 ∷ [])
    ∷ accepted (call Cached NoMask (given 0x3f000000) (Some 3) 0x00000000 3 1 1 1 1 1 1 1 8 1 1 7 7 9)
    (reading (0x3fd39156 ∷ 0x3f88af97 ∷ 0xbfe752f8 ∷ 0x3ff5f817 ∷ 0x400a81f9 ∷ 0xbf6cda39 ∷ 0xbff0eab8 ∷ 0x3fc26e2d ∷ [])
    (0x80000000 ∷ 0xbeab0027 ∷ 0x3fd9ddf7 ∷ 0x3fe00000 ∷ 0x3fd1d2c2 ∷ 0x41000000 ∷ 0xc0a00000 ∷ 0xbf400000 ∷ []) (0x40000000 ∷ []) [] []
    (0x3f0af9ac ∷ 0x3f85a0af ∷ 0xbe860d42 ∷ 0x3f098252 ∷ 0xbf1fe14b ∷ 0x80000001 ∷ 0x41000000 ∷ 0x80000001 ∷ []) (0x40e00000 ∷ []) [])
    (lent 1 16 2 2 2) 2 0 (0x40000eca ∷ []) (0x3f0af9ac ∷ 0x3f85a0af ∷ 0xbe860d42 ∷ 0x3f098252 ∷ 0xbf1fe14b ∷ 0x80000001 ∷ 0x41000000 ∷ 0x80000001 ∷ 0x80000000
    ∷ 0xbeab0027 ∷ 0x3fd9ddf7 ∷ 0x3fe00000 ∷ 0x3fd1d2c2 ∷ 0x41000000 ∷ 0xc0a00000 ∷ 0xbf400000 ∷ []) (0x40e00000 ∷ 0x40000000 ∷ [])
    (0x393d457d ∷ 0x3f7ff42d ∷ []) (0x393d457d ∷ 0x3f7ff42d ∷ [])
    ∷ accepted (call Cached NoMask (given 0x3f9e518d) (Some 3) 0x00000000 4 1 1 1 1 1 3 1 9 1 4 3 3 5)
    (reading (0xbef707e1 ∷ 0xbf682e3c ∷ 0x3f708775 ∷ 0xc02c8b55 ∷ 0xbfd7e74a ∷ 0xc000c589 ∷ 0xc02841ba ∷ 0xbdc6d830 ∷ 0xbff3213f ∷ []) (0x00000000 ∷ 0x3fe00000
    ∷ 0x80000000 ∷ 0xbf800000 ∷ 0x3ea91990 ∷ 0xc03f9b28 ∷ 0x3fec438e ∷ 0x8026a920 ∷ 0x00000001 ∷ 0xc0c00000 ∷ 0xbfd14745 ∷ 0xbf400000 ∷ 0xc0000eeb ∷ 0xbfe00000
    ∷ 0x3fc00000 ∷ 0x3fc00000 ∷ 0xc0c00000 ∷ 0xbf400000 ∷ 0x400ad788 ∷ 0xc012dca4 ∷ 0x3f7c1046 ∷ 0xbef855fb ∷ 0x3fe00000 ∷ 0x00000001 ∷ 0xbf000000 ∷ 0xbfc00000
    ∷ 0x3fc00000 ∷ []) (0x4015d36d ∷ 0x4017e0ad ∷ 0x3ec33d58 ∷ []) [] []
    (0x3fa00000 ∷ 0x40800000 ∷ 0x3fc00000 ∷ 0x3fb88ff5 ∷ 0x40000000 ∷ 0xbf000000 ∷ 0x3f0c6667 ∷ 0x80000001 ∷ 0x4030b4f7 ∷ []) (0x3fbcc9ed ∷ []) [])
    (lent 1 36 4 4 4) 4 0 (0x4015d36d ∷ []) (0x3fa00000 ∷ 0x40800000 ∷ 0x3fc00000 ∷ 0x3fb88ff5 ∷ 0x40000000 ∷ 0xbf000000 ∷ 0x3f0c6667 ∷ 0x80000001 ∷ 0x4030b4f7
    ∷ 0x00000000 ∷ 0x3fe00000 ∷ 0x80000000 ∷ 0xbf800000 ∷ 0x3ea91990 ∷ 0xc03f9b28 ∷ 0x3fec438e ∷ 0x8026a920 ∷ 0x00000001 ∷ 0xc0c00000 ∷ 0xbfd14745 ∷ 0xbf400000
    ∷ 0xc0000eeb ∷ 0xbfe00000 ∷ 0x3fc00000 ∷ 0x3fc00000 ∷ 0xc0c00000 ∷ 0xbf400000 ∷ 0x400ad788 ∷ 0xc012dca4 ∷ 0x3f7c1046 ∷ 0xbef855fb ∷ 0x3fe00000 ∷ 0x00000001
    ∷ 0xbf000000 ∷ 0xbfc00000 ∷ 0x3fc00000 ∷ []) (0x3fbcc9ed ∷ 0x4015d36d ∷ 0x4017e0ad ∷ 0x3ec33d58 ∷ [])
    (0x2fde9e54 ∷ 0x3f800000 ∷ 0x00000000 ∷ 0x00000000 ∷ []) (0x2fde9e54 ∷ 0x3f800000 ∷ 0x00000000 ∷ 0x00000000 ∷ [])
    -- counted, a wider head
    ∷ accepted (call Counted NoMask (given 0x3f09830b) (Some 3) 0x00000000 3 1 1 1 1 1 2 0 4 1 7 9 3 4)
    (reading (0xbf88e199 ∷ 0xbfc99d4d ∷ 0xc0292102 ∷ 0x3fcf8e60 ∷ [])
    (0x3fa00000 ∷ 0x3f800000 ∷ 0x40800000 ∷ 0x80000001 ∷ 0x403a0365 ∷ 0x3f400000 ∷ 0x3e800000 ∷ 0x00000001 ∷ []) (0x3e55d49a ∷ 0x40800000 ∷ []) [] [] [] []
    (pos 2 ∷ []))
    (lent 1 0 0 2 2) 2 0 (0x3e55d49a ∷ []) [] [] (0x3f800000 ∷ 0x00000000 ∷ []) (0x3f800000 ∷ 0x00000000 ∷ [])
    ∷ accepted (call Counted FloatMask (given 0x3f000000) (Some 0) 0x00000000 4 0 1 1 1 1 2 0 5 1 1 1 1 2)
    (reading (0xc02b3452 ∷ 0x3fd8efc2 ∷ 0x3ef0c49f ∷ 0x3fcb4c0b ∷ 0x3fdec47f ∷ [])
    (0x00000000 ∷ 0x7fc00000 ∷ 0x40a00000 ∷ 0xc0010d84 ∷ 0xbfe00000 ∷ 0xff800000 ∷ 0x7f800000 ∷ 0x3f5853e1 ∷ 0x3db3c650 ∷ 0xff800000 ∷ [])
    (0x7fc00000 ∷ 0xbf400000 ∷ []) [] (0x7f7fffff ∷ 0x80000000 ∷ []) [] [] (pos 0 ∷ []))
    (lent 1 0 0 2 2) 2 1 (0x00000000 ∷ []) [] [] (0x00000000 ∷ 0x00000000 ∷ []) (0x00000000 ∷ 0x00000000 ∷ [])
    ∷ accepted (call Counted NoMask Absent (Some 3) 0x00000000 4 0 1 1 1 1 3 0 6 1 3 3 3 2)
    (reading (0x3ff695be ∷ 0xbf4acfc2 ∷ 0x3fa16957 ∷ 0x403aad90 ∷ 0x3ff29ba8 ∷ 0x3f50033b ∷ []) (0x40000000 ∷ 0xc0400000 ∷ 0xbe800000 ∷ 0xbfd349ce ∷ 0xc1000000
    ∷ 0xbfc00000 ∷ 0x3e800000 ∷ 0xc0a00000 ∷ 0x40800000 ∷ 0x3f400000 ∷ 0x00777d2f ∷ 0x40000000 ∷ 0x47800080 ∷ 0xff800000 ∷ 0x80000000 ∷ 0x7f800000 ∷ 0x7f800000
    ∷ 0x40000000 ∷ []) (0x3faec481 ∷ 0x80000000 ∷ 0x3f400000 ∷ []) [] [] [] [] (pos 2 ∷ []))
    (lent 1 0 0 3 3) 3 0 (0x37440ffb ∷ []) [] [] (0x370f98ab ∷ 0x3f7fff70 ∷ 0x00000000 ∷ []) (0x370f98ab ∷ 0x3f7fff70 ∷ 0x00000000 ∷ [])
    ∷ accepted (call Counted FloatMask (given 0x44800000) (Some 3) 0x00000000 3 0 1 1 1 1 1 0 7 1 1 1 1 1)
    (reading (0xbe9a6cd8 ∷ 0x3eb5cb06 ∷ 0xbf36f7ba ∷ 0x3fe4e7d1 ∷ 0x400aec26 ∷ 0x3f73bad3 ∷ 0x403a21c9 ∷ [])
    (0xbf11c326 ∷ 0x3f6fc013 ∷ 0xbf800000 ∷ 0xc0000000 ∷ 0xc1000000 ∷ 0x3ffbc005 ∷ 0xbf800000 ∷ []) (0x3fe00000 ∷ []) [] (0x7f7fffff ∷ []) [] [] (pos 1 ∷ []))
    (lent 1 0 0 1 1) 1 0 (0x3fe00000 ∷ []) [] [] (0x3f800000 ∷ []) (0x3f800000 ∷ [])
    ∷ accepted (call Counted FloatMask (given 0x3ff9b603) (Some 0) 0x00000000 3 1 1 1 1 1 1 0 8 1 1 1 1 1)
    (reading (0x40267d3c ∷ 0xc0251ef9 ∷ 0x400ee751 ∷ 0x4006d6ef ∷ 0xc03a1d13 ∷ 0x3f35f9b7 ∷ 0x3fc7d043 ∷ 0x3f534aa3 ∷ [])
    (0x00000000 ∷ 0xc0800000 ∷ 0x3df928ac ∷ 0x80000000 ∷ 0x3fcd9ae5 ∷ 0x00000000 ∷ 0xbf800000 ∷ 0x47800000 ∷ []) (0xbf58169b ∷ []) [] (0x00000000 ∷ []) [] []
    (pos 1 ∷ []))
    (lent 1 0 0 1 1) 1 0 (0xbf58169b ∷ []) [] [] (0x47ce1e13 ∷ []) (0x3f800000 ∷ [])
    ∷ accepted (call Counted NoMask (given 0x3f000000) (Some 3) 0x00000000 4 0 1 1 1 1 3 0 9 1 4 4 9 6)
    (reading (0xbd49ee58 ∷ 0x3e9c0b27 ∷ 0x3f72ab5d ∷ 0x3e8b0ab3 ∷ 0xc03c8820 ∷ 0xbfee5667 ∷ 0xc03affe9 ∷ 0xbfb9687f ∷ 0x3e5deb96 ∷ []) (0x47800000 ∷ 0xbf538dc9
    ∷ 0x3e180dbf ∷ 0x41000000 ∷ 0x40000000 ∷ 0x3e800000 ∷ 0xbfc97c21 ∷ 0x47800000 ∷ 0x80000001 ∷ 0x40e00000 ∷ 0xc7800000 ∷ 0x00000001 ∷ 0x80000000 ∷ 0xbfe00000
    ∷ 0x40a00000 ∷ 0x3d99ad7e ∷ 0xc0217eeb ∷ 0xc0a00000 ∷ 0x7f800000 ∷ 0x7f800000 ∷ 0x7f800000 ∷ 0xff800000 ∷ 0xc00095b2 ∷ 0x7fc00000 ∷ 0x7f800000 ∷ 0x40800000
    ∷ 0xbfa00000 ∷ []) (0x3f10a2aa ∷ 0x40a00000 ∷ 0xbfa4c345 ∷ []) [] [] [] [] (pos 2 ∷ []))
    (lent 1 0 0 3 3) 3 0 (0x40a00000 ∷ []) [] [] (0x00000000 ∷ 0x3f800000 ∷ 0x00000000 ∷ []) (0x00000000 ∷ 0x3f800000 ∷ 0x00000000 ∷ [])
    ∷ []

-- every claim of the table holds
pub wider_vectors : AllHold wider_table
unfolding wider_table attention_of
wider_vectors = (refl, (refl, (refl, (refl, (refl, (refl, (refl, (refl, (refl, (refl, (refl, (refl, (refl, (refl, (refl, (refl, (refl, (refl, tt))))))))))))))))))
