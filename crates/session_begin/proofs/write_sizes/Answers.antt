-- `session_begin::write_sizes` meets its contract. Assumes nothing.
use native.Mathlib.Omega.{arith}
use Rattle.session_file.proofs.Limits.{SizesFacts, sizes→facts}
use Rattle.session_begin.proofs.First.{sizes_written}
use Rattle.session_begin.proofs.write_sizes.Goals as goal
use Rattle.session_begin.proofs.write_sizes.Goals.{Start}

-- what the limits say
facts : (c : Start) → SizesFacts c.args.sizes
facts c = sizes→facts c.args.sizes c.requires.sizes_value

pub overflow_cast-sizes : goal.overflow_cast-sizes
overflow_cast-sizes c = omega (arith, (facts (goal.at.overflow_cast-sizes c).Start).batches.1)

pub overflow_cast-sizes-2 : goal.overflow_cast-sizes-2
overflow_cast-sizes-2 c = omega (arith, (facts (goal.at.overflow_cast-sizes-2 c).Start).kvheads.1)

pub overflow_cast-sizes-3 : goal.overflow_cast-sizes-3
overflow_cast-sizes-3 c = omega (arith, (facts (goal.at.overflow_cast-sizes-3 c).Start).size.1)

pub overflow_cast-sizes-4 : goal.overflow_cast-sizes-4
overflow_cast-sizes-4 c = omega (arith, (facts (goal.at.overflow_cast-sizes-4 c).Start).vsize.1)

pub returns : goal.returns
returns c =
    sizes_written c.args.sizes c.args.buffer.now c.put_head.new.bytes c.put_u16.new.bytes c.put_u16-2.new.bytes c.put_u16-3.new.bytes c.put_u16-4.new.bytes c.requires.in_bounds c.put_head.ensures c.put_u16.ensures c.put_u16-2.ensures c.put_u16-3.ensures c.put_u16-4.ensures
