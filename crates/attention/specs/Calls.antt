-- Small calls for the worked examples: one batch, one head, D = Dv = 1, scale 1, rank 4. Definitions only.
use Rattle.std.specs.Prelude.{List, [], ℕ, false, pos, replicate, Float, Option}
use Rattle.std.specs.Float.{fin}
use Rattle.exponential.specs.ExpNeg.{plus_zero, one}
use Rattle.call.specs.declared.Call.{Call}
use Rattle.call.specs.declared.Form.{Form}
use Rattle.call.specs.declared.MaskKind.{MaskKind}
use Rattle.call.specs.declared.Scale.TheVariants.{Given}
use Rattle.call.specs.Parts.{call_with}
use Rattle.call.specs.Tensors.{Inputs, Outputs, inputs_of, outputs_of}
use Rattle.attention.specs.Outcomes.{Outcome, outcome_of}
use Rattle.call.specs.Answers.{done_of}

-- a whole number from 0 to 255, as a float: m * 2 ^ k
abbrev pub number : ℕ → ℕ → Float
number m k = fin false m (pos k)

-- a small call: its form, mask kind, score mode, causal flag, P, Sq and Sk; the mask's dimensions are (1, 1, 1, Sk)
abbrev pub small : Form → MaskKind → Option ℕ → (causal past qlen klen : ℕ) → Call
small form mask mode causal past qlen klen = call_with form mask (Given one) plus_zero mode 4 causal 1 1 1 qlen klen past 1 1 1 1 1 klen

-- Q, K, V, and the boolean mask
abbrev pub lending : (query key value : List Float) → List ℕ → Inputs
lending query key value mask = inputs_of query key value mask [] [] [] []

-- the same with past caches, and no mask
abbrev pub lending_past : (query key value past_key past_value : List Float) → Inputs
lending_past query key value past_key past_value = inputs_of query key value [] [] past_key past_value []

abbrev pub tensors : (output present_key present_value scores work : List Float) → Outputs
tensors = outputs_of

-- n zeros, to be written over
abbrev pub zeros : ℕ → List Float
zeros n = replicate n plus_zero

-- done, with T, the number of fully masked rows and the tensors
abbrev pub done : (total masked : ℕ) → Outputs → Outcome
done total masked y = outcome_of (done_of total masked) y
