-- Every tensor lent for writing goes out with the length that it came in with. Assumes nothing.
use Rattle.std.specs.Prelude.{Option, Some, None, Ok, Err}
use mathlib.Core.Path.{◌≡◌, refl, sym, ◌∙◌, subst}
use mathlib.Core.List.{List}
use Prim.Native.Nat.{ℕ}
use lib.ListN.{length}
use lib.Ieee.{Float}
use Rattle.tensor_laws.proofs.Tabulate.{length_tabulate}
use Rattle.tensor_laws.proofs.Cells.{length_tensor_of}
use Rattle.call.specs.declared.Call.{Call}
use Rattle.call.specs.declared.Form.{Form}
use Rattle.call.specs.declared.Form.TheVariants.{Plain, Cached, Counted}
use Rattle.call.specs.Refusals.{Verdict}
use Rattle.call.specs.Limits.{total_of}
use Rattle.call.specs.Lengths.{in_cached, in_scores}
use Rattle.call.specs.Tensors.{Inputs, Outputs}
use Rattle.call.specs.Refusals.{verdict_of}
use Rattle.call.proofs.Accepted.{verdict→accepts}
use Rattle.call.proofs.Facts.{OutputLengths, outputs→lengths}
use Rattle.attention.specs.Elements.{key_at, value_at}
use Rattle.attention.specs.Formula.{attention_output, shown_score}
use Rattle.attention.specs.Outcomes.{Outcome, where_cached, where_shown, output_tensor, present_key_tensor, present_value_tensor, scores_tensor, work_row, accepted_of, attention_of}
use Rattle.attention.proofs.Outcome.{refused_outcome, accepted_outcome}

-- the two have tensors of the same lengths
pub record SameLengths (y z : Outputs) : Type 0 where
  pub output : length z.output ≡ length y.output
  pub present_key : length z.present_key ≡ length y.present_key
  pub present_value : length z.present_value ≡ length y.present_value
  pub scores : length z.scores ≡ length y.scores
  pub work : length z.work ≡ length y.work

cached_length : (form : Form) (t : List Float) (n : ℕ) → length t ≡ n → length (where_cached form t) ≡ in_cached form n
cached_length Plain t n e = refl
cached_length Cached t n e = e
cached_length Counted t n e = refl

shown_length : (mode : Option ℕ) (t : ℕ → List Float) (n : ℕ) → ((m : ℕ) → length (t m) ≡ n) → length (where_shown mode t) ≡ in_scores mode n
shown_length None t n e = refl
shown_length (Some m) t n e = e m

-- the tensors of an accepted call have the lengths that refusal 6 asks
accepted_lengths : (c : Call) (x : Inputs) → OutputLengths c (accepted_of c x).tensors
unfolding accepted_of output_tensor present_key_tensor present_value_tensor scores_tensor work_row
accepted_lengths c x = record {
  output = length_tensor_of c.rank c.batches c.qheads c.qlen c.vsize (attention_output c x);
  present_key = cached_length c.form _ _ (length_tensor_of 4 c.batches c.kvheads (total_of c) c.size (key_at c x));
  present_value = cached_length c.form _ _ (length_tensor_of 4 c.batches c.kvheads (total_of c) c.vsize (value_at c x));
  scores = shown_length c.mode _ _ (λ m. length_tensor_of 4 c.batches c.qheads c.qlen (total_of c) (shown_score m c x));
  work = length_tabulate (total_of c) _;
}

-- a call, accepted or refused, leaves every tensor its length
pub lengths_kept : (c : Call) (x : Inputs) (y : Outputs) → SameLengths y (attention_of c x y).tensors
lengths_kept c x y = go (verdict_of c x y) refl
  where
    go : (v : Verdict) → verdict_of c x y ≡ v → SameLengths y (attention_of c x y).tensors
    go (Ok u) e =
        let l = outputs→lengths c y (verdict→accepts c x y e).outputs in
        let m = accepted_lengths c x in
        subst (λ (o : Outcome). SameLengths y o.tensors) (sym (accepted_outcome c x y e))
        (record {
          output = m.output ∙ sym l.output;
          present_key = m.present_key ∙ sym l.present_key;
          present_value = m.present_value ∙ sym l.present_value;
          scores = m.scores ∙ sym l.scores;
          work = m.work ∙ sym l.work;
        })
    go (Err a) e = subst (λ (o : Outcome). SameLengths y o.tensors) (sym (refused_outcome c x y a e)) (record { output = refl; present_key = refl; present_value = refl; scores = refl; work = refl })
