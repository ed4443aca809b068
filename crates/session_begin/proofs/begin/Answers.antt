-- `session_begin::begin` meets its contract: its tests are the definition's, in its order. Assumes nothing.
use mathlib.Core.Path.{◌≡◌, ap}
use mathlib.Core.Bool.{true, false}
use mathlib.Core.List.{List}
use Prim.Native.Nat.{ℕ}
use borrow.Author.Tests.{le-leb, lt-leb}
use lib.ListN.{length}
use Rattle.session_file.specs.Sizes.{sizes_hold}
use Rattle.session_file.specs.Writer.{written, begin_of, saved}
use Rattle.session_begin.proofs.begin.Goals as goal
use Rattle.session_begin.proofs.begin.Goals.{Then-sizes_hold}

-- the sizes are within their limits
held : (c : Then-sizes_hold) → sizes_hold c.args.sizes ≡ true
held c = cc (c.sizes_hold.ensures, c.if-sizes_hold.true)

pub write_sizes-requires : goal.write_sizes-requires
write_sizes-requires c = record {
  sizes_value = held (goal.at.write_sizes-requires c).Then-sizes_hold;
  in_bounds = c.if-buffer-ge14.true;
}

pub returns-then-buffer-ge14 : goal.returns-then-buffer-ge14
unfolding begin_of
returns-then-buffer-ge14 c =
    let s = c.args in
    rw (held (goal.at.returns-then-buffer-ge14 c).Then-sizes_hold, le-leb 14 (length s.buffer.now) c.if-buffer-ge14.true) (ap (λ (b : List ℕ). written (saved 0 14) b) c.write_sizes.ensures)

pub returns-then-sizes_hold : goal.returns-then-sizes_hold
unfolding begin_of
returns-then-sizes_hold c = rw (held (goal.at.returns-then-sizes_hold c).Then-sizes_hold, lt-leb 14 (length c.args.buffer.now) c.if-buffer-ge14.false)

pub returns : goal.returns
unfolding begin_of
returns c =
    let e : sizes_hold c.args.sizes ≡ false = cc (c.sizes_hold.ensures, c.if-sizes_hold.false) in
    rw e
