-- `session_sizes::caches_fit` meets its contract: within the limits no product wraps, and both tests are the definition's. Assumes nothing.
use Prim.Native.Nat.{◌*◌}
use native.Mathlib.Omega.{arith}
use borrow.Author.Tests.{eq-eqb, ne_eqb}
use Rattle.session_file.specs.Sizes.{rows_of}
use Rattle.session_file.proofs.Limits.{sizes→facts}
use Rattle.session_reader.proofs.Products.{rows_most, cache_most}
use Rattle.session_sizes.proofs.caches_fit.Goals as goal

pub overflow_mul-rows : goal.overflow_mul-rows
overflow_mul-rows c = let f = sizes→facts c.args.sizes c.requires.sizes_value in omega arith

pub overflow_mul-rows-2 : goal.overflow_mul-rows-2
overflow_mul-rows-2 c = omega (arith, rows_most c.args.sizes c.args.n c.requires.sizes_value c.requires.n_bound)

pub overflow_mul-rows-3 : goal.overflow_mul-rows-3
overflow_mul-rows-3 c =
    let f = sizes→facts c.args.sizes c.requires.sizes_value in
    omega (arith, cache_most c.args.sizes c.args.n c.args.sizes.size c.requires.sizes_value c.requires.n_bound f.size.1)

pub overflow_mul-result : goal.overflow_mul-result
overflow_mul-result c =
    let f = sizes→facts c.args.sizes c.requires.sizes_value in
    omega (arith, cache_most c.args.sizes c.args.n c.args.sizes.vsize c.requires.sizes_value c.requires.n_bound f.vsize.1)

pub returns-then-keys-rows : goal.returns-then-keys-rows
returns-then-keys-rows c = let a = c.args in rw (eq-eqb a.keys (rows_of a.sizes * a.n * a.sizes.size) (omega (arith, c.if-keys-rows.true)))

pub returns : goal.returns
returns c = let a = c.args in rw (ne_eqb a.keys (rows_of a.sizes * a.n * a.sizes.size) (λ e. omega (arith, c.if-keys-rows.false, e)))
