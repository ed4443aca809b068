-- The whole call as one function on values: from the record, the tensors that are read and the tensors lent for writing as they came in, to the answer and those tensors as they go out. Definitions only.
use Rattle.std.specs.Prelude.{List, [], ℕ, ◌-◌, ◌*◌, Float, Option, Some, None, Ok, Err}
use Rattle.bool_laws.specs.Counts.{count_where}
use Rattle.tensor_laws.specs.Layout.{tabulate, tensor_of, batch_at, head_at, position_at}
use Rattle.call.specs.declared.Call.{Call}
use Rattle.call.specs.declared.Form.{Form}
use Rattle.call.specs.declared.Form.TheVariants.{Plain, Cached, Counted}
use Rattle.call.specs.Answers.{Answer, done_of}
use Rattle.call.specs.Refusals.{Verdict}
use Rattle.call.specs.Limits.{total_of}
use Rattle.call.specs.Tensors.{Inputs, Outputs}
use Rattle.call.specs.Refusals.{verdict_of}
use Rattle.attention.specs.Elements.{key_at, value_at}
use Rattle.attention.specs.Formula.{attention_weight, attention_output, row_masked, shown_score}

-- ---- the tensors of an accepted call

abbrev pub where_cached : Form → List Float → List Float
where_cached Plain t = []
where_cached Cached t = t
where_cached Counted t = []

-- present: per batch and key head, the past rows and then the incoming rows; always of rank 4
unfoldable pub present_key_tensor : Call → Inputs → List Float
unfolding tensor_of
present_key_tensor c x = where_cached c.form (tensor_of 4 c.batches c.kvheads (total_of c) c.size (key_at c x))

unfoldable pub present_value_tensor : Call → Inputs → List Float
unfolding tensor_of
present_value_tensor c x = where_cached c.form (tensor_of 4 c.batches c.kvheads (total_of c) c.vsize (value_at c x))

-- the scores are (B, Hq, Sq, T), row-major, in either rank
abbrev pub where_shown : Option ℕ → (ℕ → List Float) → List Float
where_shown None t = []
where_shown (Some m) t = t m

unfoldable pub scores_tensor : Call → Inputs → List Float
unfolding tensor_of
scores_tensor c x = where_shown c.mode (λ m. tensor_of 4 c.batches c.qheads c.qlen (total_of c) (shown_score m c x))

unfoldable pub output_tensor : Call → Inputs → List Float
unfolding tensor_of attention_output
output_tensor c x = tensor_of c.rank c.batches c.qheads c.qlen c.vsize (attention_output c x)

-- the scratch row holds the weights of the last row
unfoldable pub work_row : Call → Inputs → List Float
unfolding tabulate attention_weight
work_row c x = tabulate (total_of c) (attention_weight c x (c.batches - 1) (c.qheads - 1) (c.qlen - 1))

-- ---- the number of fully masked rows

-- over all triples (b, h, i)
unfoldable pub masked_rows_of : Call → Inputs → ℕ
unfolding count_where row_masked
masked_rows_of c x =
    count_where (c.batches * c.qheads * c.qlen)
    (λ n. row_masked c x (batch_at c.qheads c.qlen n) (head_at 4 c.qheads c.qlen n) (position_at 4 c.qheads c.qlen n))

-- ---- the call

pub record Outcome : Type 0 where
  pub answer : Answer
  pub tensors : Outputs

abbrev pub outcome_of : Answer → Outputs → Outcome
outcome_of answer tensors = record { answer = answer; tensors = tensors }

unfoldable pub accepted_of : Call → Inputs → Outcome
unfolding masked_rows_of output_tensor present_key_tensor present_value_tensor scores_tensor work_row
accepted_of c x = record {
  answer = done_of (total_of c) (masked_rows_of c x);
  tensors = record {
    output = output_tensor c x;
    present_key = present_key_tensor c x;
    present_value = present_value_tensor c x;
    scores = scores_tensor c x;
    work = work_row c x;
  };
}

-- a refused call answers the refusal, and every tensor is as it came in
unfoldable pub outcome_where : Verdict → Call → Inputs → Outputs → Outcome
unfolding accepted_of
outcome_where (Err r) c x y = record { answer = Err r; tensors = y }
outcome_where (Ok u) c x y = accepted_of c x

unfoldable pub attention_of : Call → Inputs → Outputs → Outcome
unfolding verdict_of outcome_where
attention_of c x y = outcome_where (verdict_of c x y) c x y
