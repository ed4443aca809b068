-- `session_rows::row_faults` meets its contract: the sum of what the elements add counts the faults. Assumes nothing.
use mathlib.Core.Path.{◌≡◌, sym, ap, ◌∙◌}
use mathlib.Core.List.{List}
use Prim.Native.Nat.{ℕ, zero, suc, ◌+◌, ◌≤◌}
use native.Mathlib.Nat.{le_refl}
use native.Mathlib.Numerals.{add-one}
use native.Mathlib.Omega.{arith}
use lib.ListN.{length, get_or, take}
use lib.Seq.{take_all}
use lib.Ieee.{Float, nan}
use Rattle.std.proofs.Common.{rules}
use Rattle.std.specs.List.{sum_by}
use Rattle.std.proofs.lemmas.List.Sums.{sum_by_more}
use Rattle.bool_laws.proofs.Counts.{count_start, count_next}
use Rattle.bool_laws.specs.Counts.{tally, count_where}
use Rattle.call.specs.Contents.{element_fault}
use Rattle.session_rows.proofs.row_faults.Goals as goal

-- what an element adds
abbrev number : Float → ℕ
number x = tally (element_fault x)

sum_counts : (xs : List Float) (i : ℕ) → i ≤ length xs → sum_by number (take i xs) ≡ count_where i (λ k. element_fault (get_or xs k nan))
sum_counts xs zero h = sym (count_start (λ k. element_fault (get_or xs k nan)))
sum_counts xs (suc i) h =
    ap (λ (n : ℕ). sum_by number (take n xs)) (sym (add-one i))
    ∙ sum_by_more number xs i nan (omega arith)
    ∙ ap (λ (n : ℕ). n + number (get_or xs i nan)) (sum_counts xs i (omega arith))
    ∙ sym (count_next i (λ k. element_fault (get_or xs k nan)))
    ∙ ap (λ (n : ℕ). count_where n (λ k. element_fault (get_or xs k nan))) (add-one i)

pub returns : goal.returns
returns c =
    let row = c.args.row.now in
    let s : c.sum.result ≡ sum_by number row = search rules in
    s ∙ ap (sum_by number) (sym (take_all (length row) row (le_refl (length row)))) ∙ sum_counts row (length row) (le_refl (length row))
