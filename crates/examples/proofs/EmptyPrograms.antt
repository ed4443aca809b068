-- The empty programs that the promises exclude, each refuted on the example that shows it. A program is taken by what it answers and leaves. Assumes nothing.
use Rattle.std.specs.Prelude.{Some, None}
use mathlib.Core.Path.{◌≡◌, refl, sym, ap, ◌∙◌}
use mathlib.Core.List.{List, [], ◌∷◌}
use Prim.Native.Nat.{ℕ}
use native.Mathlib.Omega.{arith}
use mathlib.Core.Bool.{true, false, true≢false}
use lib.Ieee.{Float, nan, inf, fin}
use Rattle.call.specs.Answers.{Answer, done_of}
use Rattle.call.specs.declared.Form.TheVariants.{Plain}
use Rattle.call.specs.declared.MaskKind.TheVariants.{NoMask}
use Rattle.call.specs.Answers.{report_of}
use Rattle.call.specs.Profile.{general}
use Rattle.call.specs.Tensors.{Outputs}
use Rattle.attention.specs.Elements.{cell_at}
use Rattle.attention.specs.Formula.{attention_output}
use Rattle.attention.specs.Outcomes.{Outcome, attention_of}
use Rattle.attention.specs.Entries.{step_of}
use Rattle.sequence.specs.Positions.{plain_call, plain_inputs}
use Rattle.sequence.specs.Chunks.{Run, entry_run, start, chunk_outcome, next_state, state_after, plain_accepted, positions_of, entered, history_next, history_after, is_done}
use Rattle.sequence.specs.Demand.{Demand3}
use Rattle.attention.specs.Calls.{small}
use Rattle.attention.specs.Table.{inputs_a, lent_a, inputs_b, lent_b, call_c, call_e, inputs_e, lent_e}
use Rattle.examples.specs.TwoChunks.{first_chunk, second_chunk}

-- the odd factor of a list's first element
first_number : List Float → ℕ
first_number [] = 0
first_number (nan ∷ l) = 0
first_number (inf s ∷ l) = 0
first_number (fin s m e ∷ l) = m

-- A program that always refuses: A is accepted.
pub always_refuses : (a : Answer) → is_done a ≡ false → (attention_of (small Plain NoMask (Some 1) 0 0 1 1) inputs_a lent_a).answer ≡ a → ⊥
unfolding attention_of
always_refuses a h e = true≢false (ap is_done e ∙ h)

-- A program that always yields the same tensors, zeros or others: A and E leave outputs of their own, 5 and 9.
pub always_the_same : (output : List Float) → (attention_of (small Plain NoMask (Some 1) 0 0 1 1) inputs_a lent_a).tensors.output ≡ output → (attention_of call_e inputs_e lent_e).tensors.output ≡ output → ⊥
unfolding attention_of first_number
always_the_same output p q = let n : ◌≡◌ {A = ℕ} 5 9 = ap first_number (p ∙ sym q) in omega arith

-- A program that touches nothing: A writes its output.
pub touches_nothing : (attention_of (small Plain NoMask (Some 1) 0 0 1 1) inputs_a lent_a).tensors ≡ lent_a → ⊥
unfolding attention_of first_number
touches_nothing e = let n : ◌≡◌ {A = ℕ} 5 0 = ap (λ (t : Outputs). first_number t.output) e in omega arith

-- the row formula of the plain call over both positions has another output than the lent one
second_output : cell_at (second_chunk general).lent.output 4 1 1 1 0 0 0 0 ≡ attention_output (plain_call call_e (history_after entry_run call_e start [] (first_chunk general ∷ second_chunk general ∷ []))) (plain_inputs call_e (history_after entry_run call_e start [] (first_chunk general ∷ second_chunk general ∷ []))) 0 0 1 0 → ⊥
unfolding history_after attention_output plain_inputs first_number attention_of
second_output e = let n : ◌≡◌ {A = ℕ} 0 9 = ap (λ (x : Float). first_number (x ∷ [])) e in omega arith

-- the second chunk is entered behind the first
second_entered : entered call_e (state_after entry_run call_e start (first_chunk general ∷ [])) (history_after entry_run call_e start [] (first_chunk general ∷ [])) (second_chunk general) ≡ true
unfolding history_after state_after chunk_outcome entered plain_accepted positions_of attention_of
second_entered = refl

-- A program that does the first chunk and only claims the second, leaving the lent output as it came in, does not meet demand 3.
pub first_chunk_only : (run : Run)
    → chunk_outcome run call_e start (first_chunk general) ≡ chunk_outcome entry_run call_e start (first_chunk general)
    → (chunk_outcome run call_e (state_after run call_e start (first_chunk general ∷ [])) (second_chunk general)).tensors.output ≡ (second_chunk general).lent.output
    → Demand3 run call_e (first_chunk general ∷ second_chunk general ∷ []) → ⊥
unfolding history_after state_after
first_chunk_only run first second d =
    let h = d.each (first_chunk general ∷ []) (second_chunk general) [] refl in
    let before = history_next call_e start [] (first_chunk general) in
    let in-turn = ap (λ (o : Outcome). entered call_e (next_state o.answer start o.tensors) before (second_chunk general)) first ∙ second_entered in
    second_output
    (ap (λ (out : List Float). cell_at out 4 1 1 1 0 0 0 0) (sym second)
    ∙ h.output in-turn 0 0 0 0 (omega arith) (omega arith) (omega arith) (omega arith)
    ∙ ap (λ (o : Outcome). let whole = history_next call_e (next_state o.answer start o.tensors) before (second_chunk general) in attention_output (plain_call call_e whole) (plain_inputs call_e whole) 0 0 1 0) first)

-- A program that invents the number of fully masked rows, the same in B as in C: B has none and C has one.
pub invents_the_number : (n : ℕ) → (attention_of (small Plain NoMask None 0 0 1 2) (inputs_b []) lent_b).answer ≡ done_of 2 n → (attention_of call_c (inputs_b (0 ∷ 0 ∷ [])) lent_b).answer ≡ done_of 2 n → ⊥
unfolding attention_of
invents_the_number n p q = let z : ◌≡◌ {A = ℕ} 0 1 = ap (λ (a : Answer). (report_of a).masked) (p ∙ sym q) in omega arith

-- A step entry that always refuses, and one that touches nothing: E through it is done, and writes its present keys.
pub step_always_refuses : (a : Answer) → is_done a ≡ false → (step_of call_e inputs_e lent_e).answer ≡ a → ⊥
unfolding step_of
step_always_refuses a h e = true≢false (ap is_done e ∙ h)

pub step_touches_nothing : (step_of call_e inputs_e lent_e).tensors ≡ lent_e → ⊥
unfolding step_of first_number
step_touches_nothing e = let n : ◌≡◌ {A = ℕ} 1 0 = ap (λ (t : Outputs). first_number t.present_key) e in omega arith
