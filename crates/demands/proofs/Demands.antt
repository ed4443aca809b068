-- The entries' contracts, that answer and tensors are `attention_of` and `step_of` of what came in, give the three demands. Assumes nothing.
use Rattle.std.specs.Prelude.{Ok, Err}
use mathlib.Core.Path.{◌≡◌, refl, sym, ap, ◌∙◌, subst}
use mathlib.Core.Logic.{◌⊎◌, inl, inr}
use mathlib.Core.Bool.{Bool, true, false, true≢false}
use mathlib.Core.List.{List}
use Prim.Native.Nat.{ℕ}
use native.Mathlib.Omega.{arith}
use Rattle.call.specs.declared.Call.{Call}
use Rattle.call.specs.declared.Refusal.{Refusal}
use Rattle.call.specs.declared.Refusal.TheVariants.{Profile}
use Rattle.call.specs.Answers.{Answer, done_of}
use Rattle.call.specs.Refusals.{Verdict}
use Rattle.call.specs.Limits.{total_of}
use Rattle.call.specs.Profile.{Entry, general, step, takes}
use Rattle.call.specs.Tensors.{Inputs, Outputs}
use Rattle.call.specs.Refusals.{Clear, GivenFirst, links_of, verdict_of}
use Rattle.call.specs.Places.{AtFirst}
use Rattle.call.proofs.FirstLink.{refused_not_accepted, first→clear, clear→first, first→given, given→first}
use Rattle.call.proofs.Places.{first_place}
use Rattle.call.proofs.Entries.{taken_links, other_links}
use Rattle.attention.specs.Outcomes.{Outcome, outcome_of, accepted_of, masked_rows_of}
use Rattle.attention.specs.Entries.{outcome_at}
use Rattle.attention.proofs.Outcome.{refused_outcome, accepted_outcome}
use Rattle.attention.proofs.Entries.{taken_outcome, not_taken_outcome}
use Rattle.sequence.specs.Chunks.{Run, entry_run, Chunk}
use Rattle.sequence.specs.Demand.{Demand3}
use Rattle.sequence.specs.Cuts.{CutHolds}
use Rattle.sequence.proofs.Theorem.{demand3}
use Rattle.sequence.proofs.Cuts.{cut_holds}
use Rattle.demands.specs.Demands.{Demand1, Demand2, Programs, Meets, run_of}

-- ---- one call at an entry

-- it is refused, by the first refusal that applies
record RefusedBy (e : Entry) (c : Call) (x : Inputs) (y : Outputs) (r : Refusal) : Type 0 where
  outcome : outcome_at e c x y ≡ outcome_of (Err r) y
  first : GivenFirst (links_of e c x y) r
  place : AtFirst c x r

-- it is accepted, and none applies
record AcceptedAt (e : Entry) (c : Call) (x : Inputs) (y : Outputs) : Type 0 where
  outcome : outcome_at e c x y ≡ accepted_of c x
  none : Clear (links_of e c x y)

module _ (e : Entry) (c : Call) (x : Inputs) (y : Outputs) where
  -- every call is one of the two
  ends : ((r : Refusal) × RefusedBy e c x y r) ⊎ AcceptedAt e c x y
  ends = by_entry (takes e c) refl
    where
      by_verdict : takes e c ≡ true → (v : Verdict) → verdict_of c x y ≡ v → ((r : Refusal) × RefusedBy e c x y r) ⊎ AcceptedAt e c x y
      by_verdict t (Err r) v =
          inl (r, record { outcome = taken_outcome c x y e t ∙ refused_outcome c x y r v; first = first→given (links_of e c x y) r (taken_links e c x y t ∙ v); place = first_place c x y r v })
      by_verdict t (Ok u) v = inr (record { outcome = taken_outcome c x y e t ∙ accepted_outcome c x y v; none = first→clear (links_of e c x y) (taken_links e c x y t ∙ v) })

      by_entry : (t : Bool) → takes e c ≡ t → ((r : Refusal) × RefusedBy e c x y r) ⊎ AcceptedAt e c x y
      by_entry true t = by_verdict t (verdict_of c x y) refl
      by_entry false t = inl (Profile, record { outcome = not_taken_outcome c x y e t; first = first→given (links_of e c x y) Profile (other_links e c x y t); place = tt })

-- answers that are alike
same_refusal : {r s : Refusal} → ◌≡◌ {A = Answer} (Err r) (Err s) → r ≡ s
same_refusal e = cc

not_both : {r : Refusal} {total masked : ℕ} → done_of total masked ≡ Err r → ⊥
not_both e = let z : ◌≡◌ {A = ℕ} 0 1 = cc in omega arith

module _ (e : Entry) (c : Call) (x : Inputs) (y : Outputs) (answer : Answer) (left : Outputs) (contract : outcome_of answer left ≡ outcome_at e c x y) where
  done_answer : AcceptedAt e c x y → answer ≡ done_of (total_of c) (masked_rows_of c x)
  unfolding accepted_of
  done_answer a = ap (λ (o : Outcome). o.answer) (contract ∙ a.outcome)

  -- demand 1
  pub demand_1 : Demand1 e c x y answer left
  demand_1 = go (ends e c x y)
    where
      refused : (r : Refusal) → RefusedBy e c x y r → Demand1 e c x y (Err r) y
      refused r b = record {
        first = λ s p. subst (GivenFirst (links_of e c x y)) (same_refusal p) b.first;
        place = λ s p. subst (AtFirst c x) (same_refusal p) b.place;
        untouched = λ s p. refl;
        none = λ d. absurd (true≢false (sym d));
      }

      go : ((r : Refusal) × RefusedBy e c x y r) ⊎ AcceptedAt e c x y → Demand1 e c x y answer left
      go (inl (r, b)) = subst (λ (o : Outcome). Demand1 e c x y o.answer o.tensors) (sym (contract ∙ b.outcome)) (refused r b)
      go (inr a) = record {
        first = λ s p. absurd (not_both (sym (done_answer a) ∙ p));
        place = λ s p. absurd (not_both (sym (done_answer a) ∙ p));
        untouched = λ s p. absurd (not_both (sym (done_answer a) ∙ p));
        none = λ d. a.none;
      }

  -- a call to which no refusal applies is accepted
  clear_accepted : Clear (links_of e c x y) → outcome_of answer left ≡ accepted_of c x
  clear_accepted clear = go (ends e c x y)
    where
      go : ((r : Refusal) × RefusedBy e c x y r) ⊎ AcceptedAt e c x y → outcome_of answer left ≡ accepted_of c x
      go (inl (r, b)) = absurd (refused_not_accepted (sym (given→first (links_of e c x y) r b.first) ∙ clear→first (links_of e c x y) clear))
      go (inr a) = contract ∙ a.outcome

  -- demand 2
  pub demand_2 : Demand2 e c x y answer left
  unfolding accepted_of
  demand_2 = record {
    done = λ n. ap (λ (o : Outcome). o.answer) (clear_accepted n);
    output = λ n. ap (λ (o : Outcome). o.tensors.output) (clear_accepted n);
    present_key = λ n. ap (λ (o : Outcome). o.tensors.present_key) (clear_accepted n);
    present_value = λ n. ap (λ (o : Outcome). o.tensors.present_value) (clear_accepted n);
    scores = λ n. ap (λ (o : Outcome). o.tensors.scores) (clear_accepted n);
    work = λ n. ap (λ (o : Outcome). o.tensors.work) (clear_accepted n);
  }

-- ---- demand 3

-- programs that meet the contracts are the entries
pub met : (p : Programs) → Meets p → run_of p ≡ entry_run
met p m = λ i e c x y. same e c x y i
  where
    same : (e : Entry) (c : Call) (x : Inputs) (y : Outputs) → run_of p e c x y ≡ entry_run e c x y
    same general c x y = m.attention c x y
    same step c x y = m.step c x.query x.key x.value x.past_key x.past_value y.output y.present_key y.present_value y.work

-- demand 3 of the sequences of chunks that come through the programs, each through either
pub demand_3 : (p : Programs) → Meets p → (s : Call) (chunks : List Chunk) → Demand3 (run_of p) s chunks
demand_3 p m s chunks = subst (λ (run : Run). Demand3 run s chunks) (sym (met p m)) (demand3 s chunks)

-- and the corollary on cuts
pub cuts : (p : Programs) → Meets p → (s : Call) (r : Chunk) (rs : List Chunk) → CutHolds (run_of p) s r rs
cuts p m s r rs = subst (λ (run : Run). CutHolds run s r rs) (sym (met p m)) (cut_holds s r rs)
