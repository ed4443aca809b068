-- `caches_rows::run_of` meets its contract. Assumes nothing.
use mathlib.Core.Path.{sym, ap, ◌∙◌, subst}
use mathlib.Core.List.{List}
use Prim.Native.Nat.{ℕ, ◌+◌, ◌-◌, ◌*◌, ◌≤◌}
use native.Mathlib.Nat.{mul-le-mul}
use native.Mathlib.Omega.{arith}
use lib.ListN.{length, take}
use lib.Seq.{length-take-le}
use lib.Ieee.{Float}
use Rattle.call.proofs.Facts.{limits→facts}
use Rattle.caches.specs.Rows.{stride_from, position_run}
use Rattle.caches.specs.Lent.{head_from}
use Rattle.caches.proofs.Positions.{run_inside, stride_most}
use Rattle.caches_rows.proofs.run_of.Goals as goal
use Rattle.caches_rows.proofs.run_of.Goals.{After-row_stride-stride}

pub rows_from-rows-requires : goal.rows_from-rows-requires
rows_from-rows-requires c = c.requires.cache_fits

pub row_stride-stride-requires : goal.row_stride-stride-requires
row_stride-stride-requires c = let f = c.requires.cache_fits in record { call_value = f.limits; size_bound = f.size_most }

-- the stride and the last row's start are small
stride-small : (c : After-row_stride-stride) → c.row_stride-stride.result ≤ 8192
stride-small c =
    omega (arith, c.row_stride-stride.ensures, stride_most c.args.call c.args.cache.size c.args.from c.requires.cache_fits.limits c.requires.cache_fits.size_most)

last-small : (c : After-row_stride-stride) → (c.args.count - 1) * c.row_stride-stride.result ≤ 16777216
last-small c =
    let l = limits→facts c.args.call c.requires.cache_fits.limits in
    mul-le-mul {n₂ = 2048} {m₂ = 8192} (omega (arith, c.requires.count_nonzero.2, l.total_most)) (stride-small c)

pub overflow_sub-end : goal.overflow_sub-end
overflow_sub-end c = omega (arith, c.requires.count_nonzero.0)

pub overflow_mul-end : goal.overflow_mul-end
overflow_mul-end c = omega (arith, last-small (goal.at.overflow_mul-end c).After-row_stride-stride)

pub overflow_add-end : goal.overflow_add-end
overflow_add-end c = omega (arith, last-small (goal.at.overflow_add-end c).After-row_stride-stride, stride-small (goal.at.overflow_add-end c).After-row_stride-stride, c.requires.cache_fits.size_most)

-- the run is inside the part that starts with it
inside : (c : After-row_stride-stride) → let a = c.args in (a.count - 1) * c.row_stride-stride.result + a.cache.size ≤ length c.rows_from-rows.result.now
inside c =
    let a = c.args in
    subst (λ (r : List Float). (a.count - 1) * c.row_stride-stride.result + a.cache.size ≤ length r) (sym c.rows_from-rows.ensures)
    (subst (λ (d : ℕ). (a.count - 1) * d + a.cache.size ≤ length (head_from a.call a.cache a.from)) (sym c.row_stride-stride.ensures)
    (run_inside a.call a.cache.past.now a.cache.incoming.now a.cache.size a.cache.b a.cache.g a.from a.count c.requires.count_nonzero.0 c.requires.count_nonzero.1 c.requires.cache_fits c.requires.count_nonzero.2))

pub slice_bounds-result-end : goal.slice_bounds-result-end
slice_bounds-result-end c =
    let a = c.args in
    sym (length-take-le ((a.count - 1) * c.row_stride-stride.result + a.cache.size) c.rows_from-rows.result.now (inside (goal.at.slice_bounds-result-end c).After-row_stride-stride))

pub returns : goal.returns
unfolding position_run
returns c =
    let a = c.args in
    ap (λ (d : ℕ). take ((a.count - 1) * d + a.cache.size) c.rows_from-rows.result.now) c.row_stride-stride.ensures
    ∙ ap (take ((a.count - 1) * stride_from a.call a.cache.size a.from + a.cache.size)) c.rows_from-rows.ensures
