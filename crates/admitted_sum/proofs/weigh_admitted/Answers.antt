use mathlib.Core.Path.{◌≡◌, sym, ap, ◌∙◌}
use Prim.Native.Nat.{ℕ, min, ◌+◌, ◌*◌, ◌-◌}
use native.Mathlib.Nat.{add-mul}
use native.Mathlib.Omega.{arith}
use borrow.Rule.Slice.PartMut.{mid_len}
use lib.ListN.{length, take, drop}
use Rattle.softmax.specs.Lists.{weighted_rows_of}
use Rattle.admitted_sum.specs.Sums.{RunEnd}
use Rattle.admitted_sum.specs.Masks.{admits}
use Rattle.tensor_laws.proofs.Tails.{part_of, length_part}
use Rattle.admitted_sum.proofs.Added.{added_row_none}
use Rattle.admitted_sum.proofs.Weighed.{run_from, weighed_to, weighed_run_lem, weighed_stop}
use Rattle.admitted_sum.proofs.weigh_admitted.Invariants.{sees_of}
use Rattle.admitted_sum.proofs.weigh_admitted.Goals as goal
use Rattle.admitted_sum.proofs.weigh_admitted.Goals.{After-run_end}

pub loop-j-init : goal.loop-j-init
loop-j-init c =
    let s = c.args in
    let e : min 0 (length s.weights.now) ≡ 0 = omega arith in
    (omega arith, rw e (sym (added_row_none _ _ _ s.out.now)))

-- the end of the run, counted from the first position given
abbrev end_of : After-run_end → ℕ
end_of c = c.run_end.result - c.args.from

-- it is the end of the run that starts at j
ended : (c : After-run_end) → let s = c.args in RunEnd (sees_of s.mask s.from) c.loop-j.j (length s.weights.now) (end_of c)
ended c =
    let s = c.args in
    run_from (admits s.mask) s.from c.loop-j.j (length s.weights.now) c.run_end.result c.run_end.ensures

pub weighted_rows-requires : goal.weighted_rows-requires
weighted_rows-requires c k l =
    let a = (goal.at.weighted_rows-requires c).After-run_end in
    let s = c.args in
    let j = c.loop-j.j in
    let n = c.loop-j.auto.out in
    let e = ended a in
    let g = e.inside in
    let h = c.requires.by_index (j + k) (omega (arith, l, mid_len j (end_of a) s.weights.now g)) in
    omega (arith, add-mul j k s.stride, length_part (j * s.stride) s.values.now)

pub loop-j-preserved : goal.loop-j-preserved
loop-j-preserved c =
    let a = (goal.at.loop-j-preserved c).After-run_end in
    let s = c.args in
    let j = c.loop-j.j in
    let e = ended a in
    let g = e.inside in
    let n = length s.weights.now in
    let sees = sees_of s.mask s.from in (
      omega arith,
      c.weighted_rows.ensures
          ∙ ap (weighted_rows_of (take (end_of a - j) (drop j s.weights.now)) (part_of (j * s.stride) s.values.now) s.stride) (c.loop-j.invariant.1 ∙ ap (weighed_to sees s.weights.now s.values.now s.stride s.out.now) (omega arith))
          ∙ weighed_run_lem sees s.weights.now s.values.now s.stride s.out.now j (end_of a) e.start e.inside e.seen
          ∙ weighed_stop sees s.weights.now s.values.now s.stride s.out.now (end_of a) n e.inside e.stop,
    )
