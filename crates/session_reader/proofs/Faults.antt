-- An element at fault, by the bits of its pattern. Assumes nothing.
use mathlib.Core.Path.{◌≡◌, ap}
use mathlib.Core.Bool.{not}
use Prim.Native.Nat.{ℕ, ◌%◌}
use lib.Dec.{leb}
use lib.Ieee.{binary32, of_bits}
use Rattle.float_laws.proofs.Magnitudes.{within_bits}
use Rattle.call.specs.Contents.{element_fault}

pub fault_bits : (n : ℕ) → element_fault (of_bits binary32 n) ≡ not (leb (n % 2147483648) 1199570944)
unfolding element_fault
fault_bits n = ap not (within_bits n)
