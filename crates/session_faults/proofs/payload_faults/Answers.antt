-- `session_faults::payload_faults` meets its contract: the sum of what the elements add counts the faults. Assumes nothing.
use mathlib.Core.Path.{◌≡◌, sym, ap, ◌∙◌}
use mathlib.Core.Bool.{Bool}
use mathlib.Core.List.{List}
use Prim.Native.Nat.{ℕ, zero, suc, ◌+◌, ◌*◌, ◌/◌}
use native.Mathlib.Nat.{zero-add}
use native.Mathlib.Omega.{arith}
use native.Mathlib.Numerals.{add-one}
use lib.ListN.{length}
use lib.Ieee.{binary32, of_bits}
use Rattle.std.proofs.Common.{rules, tests, map}
use Rattle.std.specs.List.{sum, range_with_len}
use Rattle.std.proofs.lemmas.Iterator.{YieldsList-from_range, YieldsList-from_map}
use Rattle.std.proofs.lemmas.Iterator.Consumers.{sum_from_yields_List, fits_from_yields_list}
use Rattle.std.proofs.lemmas.List.FromFn.{sum_by-map-range_with_len_more}
use Rattle.bool_laws.specs.Counts.{tally, count_where}
use Rattle.bool_laws.proofs.Counts.{count_start, count_next, count_le, count_agree}
use Rattle.call.specs.Contents.{element_fault}
use Rattle.records.specs.Numbers.{u32_at, f32_at}
use Rattle.session_file.specs.Reader.{payload_fault}
use Rattle.session_faults.proofs.payload_faults.Goals as goal

-- the count is a sum
sum_counts : (n : ℕ) (test : ℕ → Bool) → sum (map (λ i. tally (test i)) (range_with_len 0 n)) ≡ count_where n test
sum_counts zero test = sym (count_start test)
sum_counts (suc n) test =
    ap (λ (m : ℕ). sum (map (λ i. tally (test i)) (range_with_len 0 m))) (sym (add-one n))
    ∙ sum_by-map-range_with_len_more (λ x. x) (λ i. tally (test i)) 0 n n (omega arith)
    ∙ ap (λ (m : ℕ). m + tally (test n)) (sum_counts n test)
    ∙ sym (count_next n test)
    ∙ ap (λ (m : ℕ). count_where m test) (add-one n)

-- element i, read from its bytes
abbrev test_of : List ℕ → ℕ → Bool
test_of payload i = element_fault (of_bits binary32 (u32_at payload (i * 4)))

same_test : (payload : List ℕ) (n : ℕ) → count_where n (test_of payload) ≡ count_where n (payload_fault payload 0)
unfolding f32_at
same_test payload n =
    count_agree n (test_of payload) (payload_fault payload 0) (λ i h. ap (λ (m : ℕ). element_fault (of_bits binary32 (u32_at payload m))) (sym (zero-add (i * 4))))

pub sum-requires-clause-fits : goal.sum-requires-clause-fits
sum-requires-clause-fits c =
    let payload = c.args.payload.now in
    let n = length payload / 4 in
    fits_from_yields_list c.map.result _ (YieldsList-from_map _ (λ i. tally (test_of payload i)) (YieldsList-from_range 0 n n c.map.ensures.source (omega arith)) c.map.ensures.closure (λ x r q k. search (rules, tests))) (omega (arith, sum_counts n (test_of payload), count_le n (test_of payload), c.requires))

pub returns : goal.returns
returns c =
    let payload = c.args.payload.now in
    let n = length payload / 4 in
    sum_from_yields_List c.map.result _ c.sum.ensures.ran (YieldsList-from_map _ (λ i. tally (test_of payload i)) (YieldsList-from_range 0 n n c.map.ensures.source (omega arith)) c.map.ensures.closure (λ x r q k. search (rules, tests)))
    ∙ sum_counts n (test_of payload)
    ∙ same_test payload n
