-- `heads_all::all_heads` meets its contract: the heads of a cached call with their present caches, and those of any other call, which has none. Assumes nothing.
use mathlib.Core.Path.{◌≡◌, ap, ◌∙◌, subst}
use mathlib.Core.List.{List}
use Prim.Native.Nat.{ℕ, ◌+◌, ◌*◌}
use native.Mathlib.Nat.{mul-le-mul, zero-add}
use native.Mathlib.Omega.{arith}
use lib.ListN.{length}
use lib.Ieee.{Float}
use Rattle.tensor_laws.proofs.Tabulate.{none_long}
use Rattle.call.specs.declared.Form.{Form}
use Rattle.call.specs.declared.Form.TheVariants.{Plain, Cached, Counted}
use Rattle.call.specs.Limits.{total_of}
use Rattle.call.specs.Lengths.{in_cached}
use Rattle.call.specs.Lent.{lent_now}
use Rattle.call.proofs.Facts.{InLimits}
use Rattle.attention.specs.Outcomes.{present_key_tensor, present_value_tensor, where_cached}
use Rattle.rows.proofs.Ready.{limits}
use Rattle.heads.specs.Heads.{HeadsTo, HeadsDone}
use Rattle.heads.proofs.Heads.{begun, finished}
use Rattle.heads_all.proofs.all_heads.Goals as goal
use Rattle.heads_all.proofs.all_heads.Goals.{Start}

within : (c : Start) → InLimits c.args.call
within c = limits c.requires.accepting

-- outside the cached form there are no present caches
absent : (form : Form) (out t : List Float) (m : ℕ) → in_cached form 1 ≡ 0 → length out ≡ in_cached form m → out ≡ where_cached form t
absent Plain out t m z l = none_long out l
absent Cached out t m z l = absurd (omega arith)
absent Counted out t m z l = none_long out l

no_keys : (c : Start) → in_cached c.args.call.form 1 ≡ 0 → c.args.presentkey.now ≡ present_key_tensor c.args.call (lent_now c.args.inputs)
unfolding present_key_tensor
no_keys c z = let s = c.args in absent s.call.form s.presentkey.now _ (s.call.batches * s.call.kvheads * total_of s.call * s.call.size) z c.requires.presentkey_len.0

no_values : (c : Start) → in_cached c.args.call.form 1 ≡ 0 → c.args.presentvalue.now ≡ present_value_tensor c.args.call (lent_now c.args.inputs)
unfolding present_value_tensor
no_values c z = let s = c.args in absent s.call.form s.presentvalue.now _ (s.call.batches * s.call.kvheads * total_of s.call * s.call.vsize) z c.requires.presentkey_len.1

-- every head, where there are no present caches
heads_done : (c : Start) (y s work : List Float) (r : ℕ)
    → ((y₀ s₀ : List Float) (m : ℕ) → HeadsTo c.args.call (lent_now c.args.inputs) y₀ s₀ 0 c.args.output.now c.args.scores.now c.args.work.now m → HeadsTo c.args.call (lent_now c.args.inputs) y₀ s₀ (c.args.call.batches * c.args.call.qheads) y s work (m + r))
    → in_cached c.args.call.form 1 ≡ 0
    → HeadsDone c.args.call (lent_now c.args.inputs) y c.args.presentkey.now c.args.presentvalue.now s work r
heads_done c y s work r carried z =
    let a = c.args in
    let q = c.requires.output_len in
    subst (HeadsDone a.call (lent_now c.args.inputs) y a.presentkey.now a.presentvalue.now s work) (zero-add r)
    (finished a.call (lent_now c.args.inputs) (within c) a.output.now a.scores.now (a.call.batches * a.call.qheads) y a.presentkey.now a.presentvalue.now s work (0 + r)
    (carried a.output.now a.scores.now 0 (begun a.call (lent_now c.args.inputs) (within c) a.output.now a.scores.now a.work.now q.0 q.1 q.2)) (omega arith) (no_keys c z) (no_values c z))

pub overflow_mul-all : goal.overflow_mul-all
overflow_mul-all c = let l = within (goal.at.overflow_mul-all c).Start in omega (arith, mul-le-mul {n₂ = 8} {m₂ = 32} l.batches_most l.qheads_most)

pub heads_between-requires : goal.heads_between-requires
heads_between-requires c = record { accepting = c.requires.accepting; from_le_to = (omega arith, omega arith); output_len = c.requires.output_len }

pub cached_heads-requires : goal.cached_heads-requires
cached_heads-requires c =
    let a = c.args in
    let e : a.call.form ≡ Cached = c.in-Cached.is in
    let p = c.requires.presentkey_len in
    record {
      accepting = c.requires.accepting;
      form_value = e;
      output_len = c.requires.output_len;
      presentkey_len = (p.0 ∙ ap (λ (f : Form). in_cached f (a.call.batches * a.call.kvheads * total_of a.call * a.call.size)) e, p.1 ∙ ap (λ (f : Form). in_cached f (a.call.batches * a.call.kvheads * total_of a.call * a.call.vsize)) e);
    }

pub heads_between-requires-in-Counted : goal.heads_between-requires-in-Counted
heads_between-requires-in-Counted c = record { accepting = c.requires.accepting; from_le_to = (omega arith, omega arith); output_len = c.requires.output_len }

pub returns-in-Plain : goal.returns-in-Plain
returns-in-Plain c =
    let h = c.heads_between in
    heads_done (goal.at.returns-in-Plain c).Start h.new.output h.new.scores h.new.work h.result h.ensures (ap (λ (f : Form). in_cached f 1) c.in-Plain.is)

pub returns-in-Counted : goal.returns-in-Counted
returns-in-Counted c =
    let h = c.heads_between-in-Counted in
    heads_done (goal.at.returns-in-Counted c).Start h.new.output h.new.scores h.new.work h.result h.ensures (ap (λ (f : Form). in_cached f 1) c.in-Counted.is)
