-- `session_faults::pattern_fault` meets its contract: the pattern without its sign is compared with that of 65,536. Assumes nothing.
use Prim.Native.Nat.{◌%◌}
use native.Mathlib.Omega.{arith}
use borrow.Author.Tests.{le-leb, lt-leb}
use Rattle.session_reader.proofs.Faults.{fault_bits}
use Rattle.session_faults.proofs.pattern_fault.Goals as goal

pub returns-then-bits-le1199570944 : goal.returns-then-bits-le1199570944
returns-then-bits-le1199570944 c = let b = c.args.bits in rw (fault_bits b, le-leb (b % 2147483648) 1199570944 (omega arith))

pub returns-else-bits-le1199570944 : goal.returns-else-bits-le1199570944
returns-else-bits-le1199570944 c = let b = c.args.bits in rw (fault_bits b, lt-leb (b % 2147483648) 1199570944 (omega arith))
