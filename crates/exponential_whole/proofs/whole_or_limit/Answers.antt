-- `exponential_whole::whole_or_limit` meets its contract: the difference of the bits says the places, and the significand shifted by them is the whole part. Assumes nothing.
use Rattle.std.proofs.Common.{◌+◌, ◌/◌, ◌%◌, min, ◌∙◌, arith}
use lib.Ieee.{binary32, to_bits}
use denote.Floats.{passes}
use Rattle.exponential.proofs.Bits.{same_shift}
use Rattle.exponential.proofs.Whole.{shift_is}
use Rattle.exponential_whole.proofs.whole_or_limit.Goals as goal

pub returns : goal.returns
returns c =
    let s = c in
    let r = c.wrapping_sub_u32-places in
    same_shift {b = to_bits binary32 s.args.y % 8388608 + 8388608} {e = min (r.result / 8388608) 31} (omega arith) (omega arith)
    ∙ shift_is s.args.y r.result (passes _ s.well_formed.0.1) s.requires (omega arith) (omega (arith, r.ensures))
