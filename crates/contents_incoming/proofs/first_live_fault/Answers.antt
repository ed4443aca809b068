use mathlib.Core.Path.{◌≡◌, sym, ap, ◌∙◌, subst}
use mathlib.Core.Bool.{and-false}
use Prim.Native.Nat.{ℕ, ◌+◌, ◌*◌, ◌/◌, ◌≤◌, ◌<◌}
use native.Mathlib.Nat.{mul_comm, mul-pos, mul-le-mul_right, le-mul_of_pos_right, div-lt_iff_lt-mul}
use native.Mathlib.Omega.{arith}
use lib.ListN.{length}
use Rattle.call.proofs.Clear.{tensor→clear}
use Rattle.call.proofs.Facts.{limits→facts}
use Rattle.contents.specs.Faults.{in_prefix}
use Rattle.contents.proofs.Parts.{below_both, length_part, part_clear, part_first}
use Rattle.contents.proofs.Groups.{in_prefix_lem, group_clear, next_group, group_inside, clear→prefix, first→prefix}
use Rattle.contents_incoming.proofs.first_live_fault.Invariants.{Clear}
use Rattle.contents_incoming.proofs.first_live_fault.Goals as goal
use Rattle.contents_incoming.proofs.first_live_fault.Goals.{After-live_count, In-loop-group, Start}

-- the groups and a group's elements are no more than the tensor's
sizes : (s : Start) → let span = s.args.call.klen * s.args.unit in let groups = s.args.call.batches * s.args.heads in (groups ≤ length s.args.tensor.now) × (span ≤ length s.args.tensor.now)
sizes s =
    let f = limits→facts _ s.requires.call_value in
    let span = s.args.call.klen * s.args.unit in
    let groups = s.args.call.batches * s.args.heads in
    let p : 0 < span = mul-pos f.klen_some s.requires.le_unit in
    let q : 0 < groups = mul-pos f.batches_some s.requires.le_heads in
    let n = s.requires.tensor_len in
    (omega (arith, le-mul_of_pos_right groups p), omega (arith, le-mul_of_pos_right span q, mul_comm span groups))

pub overflow_mul-group-end : goal.overflow_mul-group-end
overflow_mul-group-end c = let n = sizes (goal.at.overflow_mul-group-end c).Start in omega arith

pub overflow_mul-span : goal.overflow_mul-span
overflow_mul-span c = let n = sizes (goal.at.overflow_mul-span c).Start in omega arith

-- the group is inside the tensor
inside : (c : In-loop-group) → let s = c.args in let span = s.call.klen * s.unit in c.loop-group.group * span + span ≤ length s.tensor.now
inside c =
    let s = c in
    let n = s.requires.tensor_len in
    omega (arith, group_inside (s.args.call.klen * s.args.unit) c.loop-group-test.true)

pub live_count-requires : goal.live_count-requires
live_count-requires c =
    let f = limits→facts _ c.requires.call_value in
    record { call_bound = f.total_most; live_len = c.requires.live_len; b_lt_batches = (div-lt_iff_lt-mul c.requires.le_heads).1 c.loop-group-test.true }

-- the prefix is inside the group
prefix : (c : After-live_count) → let s = c.args in c.live_count.result * s.unit ≤ s.call.klen * s.unit
prefix c =
    let s = c in
    let l = s.requires.by_index (c.loop-group.group / s.args.heads) ((div-lt_iff_lt-mul s.requires.le_heads).1 c.loop-group-test.true) in
    mul-le-mul_right s.args.unit (subst (λ (n : ℕ). n ≤ s.args.call.klen) (sym c.live_count.ensures) l)

pub overflow_mul-looked : goal.overflow_mul-looked
overflow_mul-looked c = let h = inside (goal.at.overflow_mul-looked c).In-loop-group in let p = prefix (goal.at.overflow_mul-looked c).After-live_count in omega arith

pub overflow_add-end : goal.overflow_add-end
overflow_add-end c = let h = inside (goal.at.overflow_add-end c).In-loop-group in let p = prefix (goal.at.overflow_add-end c).After-live_count in omega arith

pub slice_bounds-first_fault_by_blocks-end : goal.slice_bounds-first_fault_by_blocks-end
slice_bounds-first_fault_by_blocks-end c = let h = inside (goal.at.slice_bounds-first_fault_by_blocks-end c).In-loop-group in let p = prefix (goal.at.slice_bounds-first_fault_by_blocks-end c).After-live_count in omega arith

pub overflow_add-result : goal.overflow_add-result
overflow_add-result c =
    let start = c.loop-group.group * (c.args.call.klen * c.args.unit) in
    let h = inside (goal.at.overflow_add-result c).In-loop-group in
    let p = prefix (goal.at.overflow_add-result c).After-live_count in
    let f = part_first start (start + c.live_count.result * c.args.unit) c.args.tensor.now (omega arith) (omega arith) c.in-Some.found (sym c.first_fault_by_blocks.ensures ∙ c.in-Some.is) in
    omega (arith, f.inside)

pub returns-in-Some : goal.returns-in-Some
returns-in-Some c =
    let s = c.args in
    let t = s.tensor.now in
    let span = s.call.klen * s.unit in
    let start = c.loop-group.group * span in
    let end = start + c.live_count.result * s.unit in
    let h = inside (goal.at.returns-in-Some c).In-loop-group in
    let p = prefix (goal.at.returns-in-Some c).After-live_count in
    let f = part_first start end t (omega arith) (omega arith) c.in-Some.found (sym c.first_fault_by_blocks.ensures ∙ c.in-Some.is) in
    let i = start + c.in-Some.found in
    let looked = in_prefix_lem s.call s.live.now s.heads s.unit c.loop-group.group c.live_count.result c.live_count.ensures i (omega arith) (omega arith) f.inside in
    sym (first→prefix s.call s.live.now s.heads s.unit t i (omega arith) (rw (looked, f.faulty)) (below_both (Clear s.call s.live.now s.heads s.unit t) start i c.loop-group.invariant (λ k m b. rw (f.before k m b) (and-false (in_prefix s.call s.live.now s.heads s.unit k)))))

pub loop-group-preserved : goal.loop-group-preserved
loop-group-preserved c =
    let s = c.args in
    let t = s.tensor.now in
    let span = s.call.klen * s.unit in
    let start = c.loop-group.group * span in
    let end = start + c.live_count.result * s.unit in
    let h = inside (goal.at.loop-group-preserved c).In-loop-group in
    let p = prefix (goal.at.loop-group-preserved c).After-live_count in
    let n = length_part start end t (omega arith) (omega arith) in
    let clear = part_clear start end t (omega arith) (omega arith) (tensor→clear _ (sym c.first_fault_by_blocks.ensures ∙ c.in_default.is)) in
    let group = group_clear s.call s.live.now s.heads s.unit c.loop-group.group c.live_count.result c.live_count.ensures t clear in
    λ k b. below_both (Clear s.call s.live.now s.heads s.unit t) start (start + span) c.loop-group.invariant group k (omega (arith, next_group c.loop-group.group span))

pub returns : goal.returns
returns c =
    let span = c.args.call.klen * c.args.unit in
    let all : c.loop-group.group ≡ c.args.call.batches * c.args.heads = omega arith in
    let n : length c.args.tensor.now ≡ c.loop-group.group * span = c.requires.tensor_len ∙ ap (λ (g : ℕ). g * span) (sym all) in
    sym (clear→prefix c.args.call c.args.live.now c.args.heads c.args.unit c.args.tensor.now (λ k h. c.loop-group.invariant k (omega arith)))
