-- The plain call over positions is accepted exactly where the dimensions and the settings are and no position is at fault. Assumes nothing.
use Rattle.std.specs.Prelude.{Ok, Err}
use mathlib.Core.Path.{◌≡◌, refl, ap, ◌∙◌}
use mathlib.Core.List.{List}
use mathlib.Core.Bool.{Bool, true, ◌&&◌}
use Prim.Native.Nat.{ℕ, ◌+◌, ◌*◌, ◌≤◌, ◌<◌}
use native.Mathlib.Omega.{arith}
use lib.Ieee.{nan}
use lib.ListN.{length, length-replicate}
use Rattle.tensor_laws.proofs.Cells.{length_tensor_of, get_or_tensor_of}
use Rattle.exponential.specs.ExpNeg.{plus_zero}
use Rattle.call.specs.declared.Call.{Call}
use Rattle.call.specs.declared.Form.{Form}
use Rattle.call.specs.declared.Form.TheVariants.{Plain}
use Rattle.call.specs.Refusals.{Verdict}
use Rattle.call.specs.Limits.{past_allowed, limits_hold, groups_hold, settings_hold, total_of}
use Rattle.call.specs.Lengths.{inputs_fit, outputs_fit, output_length, present_key_length, present_value_length, scores_length}
use Rattle.call.specs.Refusals.{verdict_of}
use Rattle.call.proofs.Clear.{no_live, no_bytes, no_cells, no_elements}
use Rattle.call.proofs.Accepted.{Accepts, verdict→accepts, accepts→verdict}
use Rattle.call.proofs.Facts.{limits→facts, facts→limits, shape_without_mask, lengths→fit, lengths→outputs}
use Rattle.attention.specs.Elements.{cell_at}
use Rattle.sequence.specs.Positions.{Position, position_of, causal_call, plain_call, plain_inputs, right_outputs}
use Rattle.sequence.specs.Chunks.{is_accepted, plain_accepted}
use Rattle.sequence.proofs.Cells.{nothing→good, good→nothing, nothing→good_incoming, good→nothing_incoming}
use Rattle.sequence.proofs.Places.{AllGood}

-- ---- conjunctions

-- a conjunction holds where both parts do
pub both : {a b : Bool} → a ≡ true → b ≡ true → a && b ≡ true
both {b = b} p q = ap (λ a. a && b) p ∙ q

-- ---- limits

-- the dimensions that all calls of a recording share are within their limits
pub record Dimensions (s : Call) : Type 0 where
  pub batches : (1 ≤ s.batches) × (s.batches ≤ 8)
  pub qheads : (1 ≤ s.qheads) × (s.qheads ≤ 32)
  pub kvheads : (1 ≤ s.kvheads) × (s.kvheads ≤ 32)
  pub size : (1 ≤ s.size) × (s.size ≤ 256)
  pub vsize : (1 ≤ s.vsize) × (s.vsize ≤ 256)

-- they, Sq = Sk and T are
pub record Limited (s : Call) (past n : ℕ) : Type 0 where
  pub dimensions : Dimensions s
  pub some : 1 ≤ n
  pub total : past + n ≤ 2048

module _ (s : Call) (form : Form) (past n : ℕ) where
  -- refusal 1 does not apply to a causal call exactly where its dimensions are limited, and P is 0 where the form wants it
  pub limits→limited : limits_hold (causal_call s form past n n) ≡ true → Limited s past n
  limits→limited e =
      let f = limits→facts (causal_call s form past n n) e in
      record {
        dimensions = record {
          batches = (f.batches_some, f.batches_most);
          qheads = (f.qheads_some, f.qheads_most);
          kvheads = (f.kvheads_some, f.kvheads_most);
          size = (f.size_some, f.size_most);
          vsize = (f.vsize_some, f.vsize_most);
        };
        some = f.klen_some;
        total = f.total_most;
      }

  pub limited→limits : past_allowed form past ≡ true → Limited s past n → limits_hold (causal_call s form past n n) ≡ true
  limited→limits p r =
      let d = r.dimensions in
      let most : n ≤ 2048 = omega arith in
      facts→limits (causal_call s form past n n)
      (record {
        batches_some = d.batches.0;
        batches_most = d.batches.1;
        qheads_some = d.qheads.0;
        qheads_most = d.qheads.1;
        kvheads_some = d.kvheads.0;
        kvheads_most = d.kvheads.1;
        qlen_some = r.some;
        qlen_most = most;
        klen_some = r.some;
        klen_most = most;
        total_most = r.total;
        size_some = d.size.0;
        size_most = d.size.1;
        vsize_some = d.vsize.0;
        vsize_most = d.vsize.1;
      })
      p

-- ---- the plain call

-- what the plain call over positions is accepted for
pub record PlainGood (s : Call) (ps : List Position) : Type 0 where
  pub limited : Limited s 0 (length ps)
  pub groups : groups_hold (plain_call s ps) ≡ true
  pub settings : settings_hold (plain_call s ps) ≡ true
  pub good : AllGood s ps

accepted_true : (v : Verdict) → is_accepted v ≡ true → v ≡ Ok tt
accepted_true (Ok u) e = refl
accepted_true (Err a) e = absurd (let z : ◌≡◌ {A = ℕ} 0 1 = cc in omega arith)

module _ (s : Call) (ps : List Position) where
  query_length_lem : length (plain_inputs s ps).query ≡ s.batches * s.qheads * length ps * s.size
  unfolding plain_inputs
  query_length_lem = length_tensor_of s.rank s.batches s.qheads (length ps) s.size (λ b h i k. (position_of ps i).query b h k)

  key_length_lem : length (plain_inputs s ps).key ≡ s.batches * s.kvheads * length ps * s.size
  unfolding plain_inputs
  key_length_lem = length_tensor_of s.rank s.batches s.kvheads (length ps) s.size (λ b h i k. (position_of ps i).key b h k)

  value_length_lem : length (plain_inputs s ps).value ≡ s.batches * s.kvheads * length ps * s.vsize
  unfolding plain_inputs
  value_length_lem = length_tensor_of s.rank s.batches s.kvheads (length ps) s.vsize (λ b h i k. (position_of ps i).value b h k)

  -- the cells of Q, K and V are those of the positions
  pub query_cell : (b h i k : ℕ) → b < s.batches → h < s.qheads → i < length ps → k < s.size
      → cell_at (plain_inputs s ps).query s.rank s.qheads (length ps) s.size b h i k ≡ (position_of ps i).query b h k
  unfolding plain_inputs
  query_cell b h i k = get_or_tensor_of s.rank s.batches s.qheads (length ps) s.size (λ b h i k. (position_of ps i).query b h k) b h i k nan

  pub key_cell : (b g i k : ℕ) → b < s.batches → g < s.kvheads → i < length ps → k < s.size
      → cell_at (plain_inputs s ps).key s.rank s.kvheads (length ps) s.size b g i k ≡ (position_of ps i).key b g k
  unfolding plain_inputs
  key_cell b g i k = get_or_tensor_of s.rank s.batches s.kvheads (length ps) s.size (λ b h i k. (position_of ps i).key b h k) b g i k nan

  pub value_cell : (b g i k : ℕ) → b < s.batches → g < s.kvheads → i < length ps → k < s.vsize
      → cell_at (plain_inputs s ps).value s.rank s.kvheads (length ps) s.vsize b g i k ≡ (position_of ps i).value b g k
  unfolding plain_inputs
  value_cell b g i k = get_or_tensor_of s.rank s.batches s.kvheads (length ps) s.vsize (λ b h i k. (position_of ps i).value b h k) b g i k nan

  plain_inputs_fit : inputs_fit (plain_call s ps) (plain_inputs s ps) ≡ true
  unfolding plain_inputs
  plain_inputs_fit =
      lengths→fit (plain_call s ps) (plain_inputs s ps)
      (record { query = query_length_lem; key = key_length_lem; value = value_length_lem; bool_mask = refl; float_mask = refl; past_key = refl; past_value = refl; live = refl })

-- the tensors of the right lengths fit
right_outputs_fit : (c : Call) → outputs_fit c (right_outputs c) ≡ true
unfolding right_outputs
right_outputs_fit c =
    lengths→outputs c (right_outputs c)
    (record {
      output = length-replicate (output_length c) plus_zero;
      present_key = length-replicate (present_key_length c) plus_zero;
      present_value = length-replicate (present_value_length c) plus_zero;
      scores = length-replicate (scores_length c) plus_zero;
      work = length-replicate (total_of c) plus_zero;
    })

module _ (s : Call) (ps : List Position) where
  plain→accepts : plain_accepted s ps ≡ true → Accepts (plain_call s ps) (plain_inputs s ps) (right_outputs (plain_call s ps))
  unfolding plain_accepted
  plain→accepts e =
      verdict→accepts (plain_call s ps) (plain_inputs s ps) (right_outputs (plain_call s ps))
      (accepted_true (verdict_of (plain_call s ps) (plain_inputs s ps) (right_outputs (plain_call s ps))) e)

  -- what the accepted plain call over positions is accepted for
  pub plain→good : plain_accepted s ps ≡ true → PlainGood s ps
  plain→good e =
      let a = plain→accepts e in
      let c = plain_call s ps in
      let x = plain_inputs s ps in
      let q = nothing→good s.rank s.batches s.qheads (length ps) s.size x.query (query_length_lem s ps) a.query in
      let k = nothing→good_incoming c x.live (λ b. refl) s.size x.key (key_length_lem s ps) a.key in
      let v = nothing→good_incoming c x.live (λ b. refl) s.vsize x.value (value_length_lem s ps) a.value in
      record {
        limited = limits→limited s Plain 0 (length ps) a.limits;
        groups = a.groups;
        settings = a.settings;
        good = λ i l. record {
          query = λ b h n hb hh hn. rw (query_cell s ps b h i n hb hh l hn) at (q b h i n hb hh l hn);
          key = λ b g n hb hg hn. rw (key_cell s ps b g i n hb hg l hn) at (k b g i n hb hg l hn);
          value = λ b g n hb hg hn. rw (value_cell s ps b g i n hb hg l hn) at (v b g i n hb hg l hn);
        };
      }

  good→accepts : PlainGood s ps → Accepts (plain_call s ps) (plain_inputs s ps) (right_outputs (plain_call s ps))
  unfolding plain_inputs
  good→accepts p =
      let c = plain_call s ps in
      let x = plain_inputs s ps in
      record {
        limits = limited→limits s Plain 0 (length ps) refl p.limited;
        groups = p.groups;
        settings = p.settings;
        mask_shape = shape_without_mask c refl;
        inputs = plain_inputs_fit s ps;
        outputs = right_outputs_fit c;
        live = no_live c;
        bytes = no_bytes;
        cells = no_cells;
        query = good→nothing s.rank s.batches s.qheads (length ps) s.size x.query (query_length_lem s ps)
            (λ b h i n hb hh l hn. rw (query_cell s ps b h i n hb hh l hn) ((p.good i l).query b h n hb hh hn));
        past_key = no_elements;
        key = good→nothing_incoming c x.live (λ b. refl) s.size x.key (key_length_lem s ps)
            (λ b g i n hb hg l hn. rw (key_cell s ps b g i n hb hg l hn) ((p.good i l).key b g n hb hg hn));
        past_value = no_elements;
        value = good→nothing_incoming c x.live (λ b. refl) s.vsize x.value (value_length_lem s ps)
            (λ b g i n hb hg l hn. rw (value_cell s ps b g i n hb hg l hn) ((p.good i l).value b g n hb hg hn));
      }

  -- the plain call over positions is accepted for that
  pub good→plain : PlainGood s ps → plain_accepted s ps ≡ true
  unfolding plain_accepted
  good→plain p = ap is_accepted (accepts→verdict (plain_call s ps) (plain_inputs s ps) (right_outputs (plain_call s ps)) (good→accepts p))
