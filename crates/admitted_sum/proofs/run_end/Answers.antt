-- `admitted_sum::run_end` meets its contract: the first position that is not admitted ends the run, and n where there is none.
use Rattle.std.proofs.Common.{rules, ◌≡◌, ℕ, ◌≤◌, ◌<◌, Bool, true, false, Option, Some, None, arith}
use Rattle.std.specs.Option.{MatchOption, unwrap_or}
use Rattle.std.proofs.lemmas.Iterator.{first_from_Range}
use Rattle.admitted_sum.specs.Sums.{RunEnd}
use Rattle.admitted_sum.specs.Masks.{admits}
use Rattle.admitted_sum.proofs.run_end.Goals as goal

-- what `find` gives, or n, is the end of the run
end_found : (sees : ℕ → Bool) (j n : ℕ) (r : Option ℕ) → j ≤ n
    → MatchOption r ((k : ℕ) → j ≤ k → k < n → sees k ≡ true) (λ i. (j ≤ i) × (i < n) × (sees i ≡ false) × ((k : ℕ) → j ≤ k → k < i → sees k ≡ true))
    → RunEnd sees j n (unwrap_or r n)
end_found sees j n None l f = record { start = l; inside = omega arith; seen = f; stop = λ h. absurd (omega arith) }
end_found sees j n (Some i) l f = record { start = f.0; inside = omega (arith, f.1); seen = f.3; stop = λ h. f.2 }

pub returns : goal.returns
returns c =
    let s = c.args in
    let sees = admits s.mask in
    rw c.unwrap_or.ensures (end_found sees s.j s.n c.find.result c.requires.0 (first_from_Range _ _ _ _ (λ k. sees k ≡ false) (λ k. sees k ≡ true) c.find.ensures.ran (λ x q k. search rules) (λ x q k. search rules)))
