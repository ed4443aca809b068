use mathlib.Core.Path.{◌≡◌, sym, ap, ◌∙◌, subst}
use Prim.Native.Nat.{ℕ, ◌+◌, ◌*◌, ◌/◌, ◌≤◌, ◌<◌}
use native.Mathlib.Nat.{mod-lt, div-lt_iff_lt-mul, mul-le-mul, zero-mul}
use native.Mathlib.Omega.{arith}
use Rattle.bool_laws.proofs.Counts.{count_le}
use Rattle.tensor_laws.specs.Layout.{tensor_of}
use Rattle.call.specs.declared.Form.{Form}
use Rattle.call.specs.Limits.{total_of}
use Rattle.call.specs.Lent.{lent_now}
use Rattle.call.proofs.Facts.{InLimits}
use Rattle.attention.specs.Elements.{position_cell}
use Rattle.attention.specs.Outcomes.{present_key_tensor, present_value_tensor, where_cached}
use Rattle.rows.proofs.Ready.{accepts, limits, lengths}
use Rattle.caches.proofs.Lengths.{past_length_is}
use Rattle.heads.specs.Heads.{masked_number, HeadsTo}
use Rattle.heads.proofs.Heads.{begun, finished}
use Rattle.heads.proofs.Presents.{present_to, present_begun, present_more, present_all, all_groups, group_inside, group_next}
use Rattle.heads_cached.proofs.cached_heads.Goals as goal
use Rattle.heads_cached.proofs.cached_heads.Goals.{After-loop-n, At-loop-n, In-loop-n, Start}

within : (c : Start) → InLimits c.args.call
within c = limits c.requires.accepting

-- there is a key head, and there are few
some : (c : Start) → 0 < c.args.call.kvheads
some c = omega (arith, (within c).kvheads_some)

few : (c : Start) → c.args.call.batches * c.args.call.kvheads ≤ 8 * 32
few c = mul-le-mul {n₂ = 8} {m₂ = 32} (within c).batches_most (within c).kvheads_most

few_query : (c : Start) → c.args.call.batches * c.args.call.qheads ≤ 8 * 32
few_query c = mul-le-mul {n₂ = 8} {m₂ = 32} (within c).batches_most (within c).qheads_most

-- the query heads of key head n are some of the call's
group_in : (c : In-loop-n) → let s = c.args in c.loop-n.n * (s.call.qheads / s.call.kvheads) + s.call.qheads / s.call.kvheads ≤ s.call.batches * s.call.qheads
group_in c = group_inside c.args.call (accepts c.requires.accepting).groups c.loop-n.n c.loop-n-test.true

pub nonzero_div-group : goal.nonzero_div-group
nonzero_div-group c = some (goal.at.nonzero_div-group c).Start

pub overflow_mul-all : goal.overflow_mul-all
overflow_mul-all c = omega (arith, few (goal.at.overflow_mul-all c).Start)

pub loop-n-init : goal.loop-n-init
loop-n-init c =
    let s = c.args in
    let q = c.requires.output_len in
    let p = c.requires.presentkey_len in record {
      keys = present_begun s.call s.inputs.pastkey.now s.inputs.key.now s.call.size s.presentkey.now p.0;
      values = present_begun s.call s.inputs.pastvalue.now s.inputs.value.now s.call.vsize s.presentvalue.now p.1;
      heads = subst (λ (n : ℕ). HeadsTo s.call (lent_now c.args.inputs) s.output.now s.scores.now n s.output.now s.scores.now s.work.now 0) (sym (zero-mul (s.call.qheads / s.call.kvheads)))
          (begun s.call (lent_now c.args.inputs) (within (goal.at.loop-n-init c).Start) s.output.now s.scores.now s.work.now q.0 q.1 q.2);
    }

pub copy_head-requires : goal.copy_head-requires
copy_head-requires c =
    let s = c.args in
    let r = c.requires.accepting in
    let l = within (goal.at.copy_head-requires c).Start in record {
      present_fits = record { limits = (accepts r).limits; size_some = l.size_some; size_most = l.size_most; past_length_is = (lengths r).past_key ∙ past_length_is s.call s.call.size (accepts r).limits; incoming_length_is = (lengths r).key; out_length_is = c.loop-n.auto.presentkey ∙ c.requires.presentkey_len.0 };
      b_lt_batches = ((div-lt_iff_lt-mul (some (goal.at.copy_head-requires c).Start)).1 c.loop-n-test.true, mod-lt c.loop-n.n (some (goal.at.copy_head-requires c).Start));
    }

pub copy_head-requires-in-loop-n : goal.copy_head-requires-in-loop-n
copy_head-requires-in-loop-n c =
    let s = c.args in
    let r = c.requires.accepting in
    let l = within (goal.at.copy_head-requires-in-loop-n c).Start in record {
      present_fits = record { limits = (accepts r).limits; size_some = l.vsize_some; size_most = l.vsize_most; past_length_is = (lengths r).past_value ∙ past_length_is s.call s.call.vsize (accepts r).limits; incoming_length_is = (lengths r).value; out_length_is = c.loop-n.auto.presentvalue ∙ c.requires.presentkey_len.1 };
      b_lt_batches = ((div-lt_iff_lt-mul (some (goal.at.copy_head-requires-in-loop-n c).Start)).1 c.loop-n-test.true, mod-lt c.loop-n.n (some (goal.at.copy_head-requires-in-loop-n c).Start));
    }

pub overflow_mul-first : goal.overflow_mul-first
overflow_mul-first c = omega (arith, group_in (goal.at.overflow_mul-first c).In-loop-n, few_query (goal.at.overflow_mul-first c).Start)

pub overflow_add-first : goal.overflow_add-first
overflow_add-first c = omega (arith, group_in (goal.at.overflow_add-first c).In-loop-n, few_query (goal.at.overflow_add-first c).Start)

pub heads_between-masked-requires : goal.heads_between-masked-requires
heads_between-masked-requires c =
    let at = goal.at.heads_between-masked-requires c in
    let q = c.requires.output_len in
    record {
      accepting = c.requires.accepting;
      from_le_to = (omega arith, group_in at.In-loop-n);
      output_len = (c.loop-n.auto.output ∙ q.0, c.loop-n.auto.scores ∙ q.1, c.loop-n.invariant.heads.long);
    }

pub overflow_add-masked : goal.overflow_add-masked
overflow_add-masked c =
    let s = c.args in
    let m = c.loop-n.n * (s.call.qheads / s.call.kvheads) + s.call.qheads / s.call.kvheads in
    let d = c.heads_between-masked.ensures s.output.now s.scores.now c.loop-n.masked c.loop-n.invariant.heads in
    let rows : m * s.call.qlen ≤ 256 * 2048 = mul-le-mul {n₂ = 256} {m₂ = 2048} (omega (arith, group_in (goal.at.overflow_add-masked c).In-loop-n, few_query (goal.at.overflow_add-masked c).Start)) (within (goal.at.overflow_add-masked c).Start).qlen_most in
    omega (arith, rows, d.told, count_le (m * s.call.qlen) (masked_number s.call (lent_now c.args.inputs)))

pub loop-n-preserved : goal.loop-n-preserved
loop-n-preserved c =
    let s = c.args in
    let n = c.loop-n.n in record {
      keys = c.copy_head.ensures ∙ present_more s.call s.inputs.pastkey.now s.inputs.key.now s.call.size s.presentkey.now n c.loop-n.presentkey c.loop-n.invariant.keys;
      values = c.copy_head-in-loop-n.ensures ∙ present_more s.call s.inputs.pastvalue.now s.inputs.value.now s.call.vsize s.presentvalue.now n c.loop-n.presentvalue c.loop-n.invariant.values;
      heads = subst (λ (m : ℕ). HeadsTo s.call (lent_now c.args.inputs) s.output.now s.scores.now m c.heads_between-masked.new.output c.heads_between-masked.new.scores c.heads_between-masked.new.work (c.loop-n.masked + c.heads_between-masked.result)) (group_next s.call (accepts c.requires.accepting).groups n)
          (c.heads_between-masked.ensures s.output.now s.scores.now c.loop-n.masked c.loop-n.invariant.heads);
    }

-- after the last key head
last : (c : After-loop-n) → let s = c.args in c.loop-n.n ≡ s.call.batches * s.call.kvheads
last c = omega arith

keys_are : (c : After-loop-n) → let s = c.args in c.loop-n.presentkey ≡ present_key_tensor s.call (lent_now s.inputs)
unfolding present_key_tensor
keys_are c =
    let s = c.args in
    c.loop-n.invariant.keys
    ∙ ap (λ (n : ℕ). present_to s.call s.inputs.pastkey.now s.inputs.key.now s.call.size n s.presentkey.now) (last c)
    ∙ present_all s.call s.inputs.pastkey.now s.inputs.key.now s.call.size s.presentkey.now
    ∙ ap (λ (f : Form). where_cached f (tensor_of 4 s.call.batches s.call.kvheads (total_of s.call) s.call.size (position_cell s.call s.inputs.pastkey.now s.inputs.key.now s.call.size))) (sym c.requires.form_value)

values_are : (c : After-loop-n) → let s = c.args in c.loop-n.presentvalue ≡ present_value_tensor s.call (lent_now s.inputs)
unfolding present_value_tensor
values_are c =
    let s = c.args in
    c.loop-n.invariant.values
    ∙ ap (λ (n : ℕ). present_to s.call s.inputs.pastvalue.now s.inputs.value.now s.call.vsize n s.presentvalue.now) (last c)
    ∙ present_all s.call s.inputs.pastvalue.now s.inputs.value.now s.call.vsize s.presentvalue.now
    ∙ ap (λ (f : Form). where_cached f (tensor_of 4 s.call.batches s.call.kvheads (total_of s.call) s.call.vsize (position_cell s.call s.inputs.pastvalue.now s.inputs.value.now s.call.vsize))) (sym c.requires.form_value)

pub returns : goal.returns
returns c =
    let s = c.args in
    let all : c.loop-n.n * (s.call.qheads / s.call.kvheads) ≡ s.call.batches * s.call.qheads = ap (λ (n : ℕ). n * (s.call.qheads / s.call.kvheads)) (last (goal.at.returns c).After-loop-n) ∙ all_groups s.call (accepts c.requires.accepting).groups in
    finished s.call (lent_now c.args.inputs) (within (goal.at.returns c).Start) s.output.now s.scores.now (c.loop-n.n * (s.call.qheads / s.call.kvheads)) c.loop-n.output c.loop-n.presentkey c.loop-n.presentvalue c.loop-n.scores c.loop-n.work c.loop-n.masked c.loop-n.invariant.heads (omega (arith, all)) (keys_are (goal.at.returns c).After-loop-n) (values_are (goal.at.returns c).After-loop-n)
