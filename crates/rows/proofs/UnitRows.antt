-- The rows of one query head one after the other: what is done before the first, after one more, and after the last. Assumes nothing.
use Rattle.std.specs.Prelude.{Option, Some, None}
use mathlib.Core.Path.{◌≡◌, refl, sym, ap, ◌∙◌}
use mathlib.Core.Logic.{◌≢◌}
use mathlib.Core.Bool.{Bool, true, false, ◌&&◌, and-false}
use mathlib.Core.List.{List}
use Prim.Native.Nat.{ℕ, ◌+◌, ◌-◌, ◌*◌, ◌≤◌, ◌<◌, zero-le}
use native.Mathlib.Nat.{mul-zero, le_refl}
use native.Mathlib.Decide.{ℕ_discrete, dec_lt}
use native.Mathlib.Omega.{arith}
use lib.Dec.{eqb, leb, ltb}
use lib.ListN.{length, get_or}
use lib.Ieee.{Float, nan}
use borrow.Author.Tests.{lt-ltb, le-ltb, le-leb, lt-leb, eq-eqb, ne_eqb}
use Rattle.bool_laws.specs.Counts.{tally, count_where}
use Rattle.bool_laws.proofs.Counts.{count_start, count_next}
use Rattle.tensor_laws.specs.Layout.{slot, tabulate, written_of}
use Rattle.tensor_laws.proofs.Tabulate.{length_tabulate, get_or_tabulate}
use Rattle.tensor_laws.proofs.Parts.{with_part}
use Rattle.tensor_laws.proofs.Written.{written_none, written_row, length_written}
use Rattle.call.specs.declared.Call.{Call}
use Rattle.call.specs.Limits.{total_of}
use Rattle.call.specs.Lengths.{output_length, scores_length, in_scores}
use Rattle.call.specs.Tensors.{Inputs}
use Rattle.attention.specs.Formula.{attention_output, attention_weight, row_masked}
use Rattle.rows.specs.Unit.{shown_at, is_unit_row, RowDone, HeadDone}

-- ---- which rows are done

-- none of no rows
unit_none : (b h first b' h' i' : ℕ) → is_unit_row b h first 0 b' h' i' ≡ false
unit_none b h first b' h' i' = go (eqb b' b && eqb h' h) (dec_lt i' first)
  where
    go : (p : Bool) → Dec (i' < first) → (p && leb first i' && ltb i' (first + 0)) ≡ false
    go false d = refl
    go true (yes l) = rw (lt-leb first i' l)
    go true (no l) = rw (le-ltb i' (first + 0) (omega arith)) (and-false (leb first i'))

module _ (b h first i : ℕ) (l : first ≤ i) where
  unit_same : is_unit_row b h first (i + 1 - first) b h i ≡ true
  unit_same = rw (eq-eqb b b refl, eq-eqb h h refl, le-leb first i l, lt-ltb i (first + (i + 1 - first)) (omega arith))

  -- a row other than row i is done after it where it was done before
  unit_other : (rank heads len b' h' i' : ℕ) → slot rank heads len b' h' i' ≢ slot rank heads len b h i → is_unit_row b h first (i + 1 - first) b' h' i' ≡ is_unit_row b h first (i - first) b' h' i'
  unit_other rank heads len b' h' i' x = go (ℕ_discrete b' b) (ℕ_discrete h' h) (ℕ_discrete i' i)
    where
      same : i' ≢ i → ltb i' (first + (i + 1 - first)) ≡ ltb i' (first + (i - first))
      same y = pick (dec_lt i' i)
        where
          pick : Dec (i' < i) → ltb i' (first + (i + 1 - first)) ≡ ltb i' (first + (i - first))
          pick (yes m) = lt-ltb i' (first + (i + 1 - first)) (omega arith) ∙ sym (lt-ltb i' (first + (i - first)) (omega arith))
          pick (no m) = le-ltb i' (first + (i + 1 - first)) (omega arith) ∙ sym (le-ltb i' (first + (i - first)) (omega arith))

      go : Dec (b' ≡ b) → Dec (h' ≡ h) → Dec (i' ≡ i) → is_unit_row b h first (i + 1 - first) b' h' i' ≡ is_unit_row b h first (i - first) b' h' i'
      go (no y) d e = rw (ne_eqb b' b y)
      go (yes p) (no y) e = rw (eq-eqb b' b p, ne_eqb h' h y)
      go (yes p) (yes q) (yes z) = absurd (x (λ k. slot rank heads len (p k) (q k) (z k)))
      go (yes p) (yes q) (no y) = ap (λ (t : Bool). eqb b' b && eqb h' h && leb first i' && t) (same y)

-- ---- the scores' length, by rows
pub scores_by_rows : (mode : Option ℕ) (n total : ℕ) → in_scores mode (n * total) ≡ n * in_scores mode total
scores_by_rows None n total = sym (mul-zero n)
scores_by_rows (Some m) n total = refl

-- no more scores are shown of a row than there are positions
pub shown_most : (mode : Option ℕ) (total : ℕ) → in_scores mode total ≤ total
shown_most None total = zero-le
shown_most (Some m) total = le_refl total

module _ (c : Call) (x : Inputs) (b h first count : ℕ) (hb : b < c.batches) (hh : h < c.qheads) (inside : first + count ≤ c.qlen) (y₀ s₀ : List Float) where
  -- the rows of the unit before row i are done
  pub record Done (i : ℕ) (y s work : List Float) (masked : ℕ) : Type 0 where
    pub low : first ≤ i
    pub high : i ≤ first + count
    pub output : y ≡ written_of c.rank c.batches c.qheads c.qlen c.vsize (is_unit_row b h first (i - first)) (attention_output c x) nan y₀
    pub scores : s ≡ written_of 4 c.batches c.qheads c.qlen (in_scores c.mode (total_of c)) (is_unit_row b h first (i - first)) (shown_at c.mode c x) nan s₀
    pub long : length work ≡ total_of c
    pub weights : first < i → work ≡ tabulate (total_of c) (attention_weight c x b h (i - 1))
    pub told : masked ≡ count_where (i - first) (λ n. row_masked c x b h (first + n))

  -- before the first row
  pub begun : (work : List Float) → length y₀ ≡ output_length c → length s₀ ≡ scores_length c → length work ≡ total_of c → Done first y₀ s₀ work 0
  begun work ly ls lw =
      let z : first - first ≡ 0 = omega arith in
      record {
        low = omega arith;
        high = omega arith;
        output =
            sym (written_none c.rank c.batches c.qheads c.qlen c.vsize (is_unit_row b h first 0) (attention_output c x) nan y₀ ly (λ b' h' i' p q r. unit_none b h first b' h' i'))
            ∙ ap (λ (n : ℕ). written_of c.rank c.batches c.qheads c.qlen c.vsize (is_unit_row b h first n) (attention_output c x) nan y₀) (sym z);
        scores =
            sym
            (written_none 4 c.batches c.qheads c.qlen (in_scores c.mode (total_of c)) (is_unit_row b h first 0) (shown_at c.mode c x) nan s₀
            (ls ∙ scores_by_rows c.mode (c.batches * c.qheads * c.qlen) (total_of c)) (λ b' h' i' p q r. unit_none b h first b' h' i'))
            ∙ ap (λ (n : ℕ). written_of 4 c.batches c.qheads c.qlen (in_scores c.mode (total_of c)) (is_unit_row b h first n) (shown_at c.mode c x) nan s₀) (sym z);
        long = lw;
        weights = λ l. absurd (omega arith);
        told = sym (ap (λ (n : ℕ). count_where n (λ n. row_masked c x b h (first + n))) z ∙ count_start (λ n. row_masked c x b h (first + n)));
      }

  -- one row more
  module _ (i : ℕ) (y s work : List Float) (masked : ℕ) (d : Done i y s work masked) (l : i < first + count) (out shown work' : List Float) (t : Bool) (r : RowDone c x b h i out shown work' t) where
    pub row_more : (ya k sa m : ℕ) → ya ≡ slot c.rank c.qheads c.qlen b h i * c.vsize → k ≡ c.vsize → sa ≡ slot 4 c.qheads c.qlen b h i * in_scores c.mode (total_of c) → m ≡ in_scores c.mode (total_of c)
        → Done (i + 1) (with_part ya k y out) (with_part sa m s shown) work' (masked + tally t)
    row_more ya k sa m ey ek es em = record {
      low = omega (arith, d.low);
      high = omega arith;
      output =
          ap (λ (z : List Float). with_part ya k z out) d.output
          ∙ written_row c.rank c.batches c.qheads c.qlen c.vsize (attention_output c x) nan y₀ (is_unit_row b h first (i - first)) (is_unit_row b h first (i + 1 - first)) b h i out
          (ap length r.output ∙ length_tabulate c.vsize (attention_output c x b h i)) hb hh (omega arith)
          (λ j g. ap (λ (z : List Float). get_or z j nan) r.output ∙ get_or_tabulate c.vsize (attention_output c x b h i) j nan g)
          (unit_same b h first i d.low) (λ b' h' i' p q w e. unit_other b h first i d.low c.rank c.qheads c.qlen b' h' i' e) ya k ey ek;
      scores =
          ap (λ (z : List Float). with_part sa m z shown) d.scores
          ∙ written_row 4 c.batches c.qheads c.qlen (in_scores c.mode (total_of c)) (shown_at c.mode c x) nan s₀ (is_unit_row b h first (i - first)) (is_unit_row b h first (i + 1 - first)) b h i shown
          (ap length r.scores ∙ length_tabulate (in_scores c.mode (total_of c)) (shown_at c.mode c x b h i)) hb hh (omega arith)
          (λ j g. ap (λ (z : List Float). get_or z j nan) r.scores ∙ get_or_tabulate (in_scores c.mode (total_of c)) (shown_at c.mode c x b h i) j nan g)
          (unit_same b h first i d.low) (λ b' h' i' p q w e. unit_other b h first i d.low 4 c.qheads c.qlen b' h' i' e) sa m es em;
      long = ap length r.weights ∙ length_tabulate (total_of c) (attention_weight c x b h i);
      weights = λ e. r.weights ∙ ap (λ (n : ℕ). tabulate (total_of c) (attention_weight c x b h n)) (omega arith);
      told =
          (λ j. d.told j + tally (r.told j))
          ∙ ap (λ (n : ℕ). count_where (i - first) (λ n. row_masked c x b h (first + n)) + tally (row_masked c x b h n)) (omega (arith, d.low))
          ∙ sym (count_next (i - first) (λ n. row_masked c x b h (first + n)))
          ∙ ap (λ (n : ℕ). count_where n (λ n. row_masked c x b h (first + n))) (omega (arith, d.low));
    }

  -- after the last row
  pub finished : (i : ℕ) (y s work : List Float) (masked : ℕ) → Done i y s work masked → first + count ≤ i → 1 ≤ count → HeadDone c x b h first count y₀ s₀ y s work masked
  finished i y s work masked d l p =
      let e : i - first ≡ count = omega (arith, d.high) in
      record {
        output = d.output ∙ ap (λ (n : ℕ). written_of c.rank c.batches c.qheads c.qlen c.vsize (is_unit_row b h first n) (attention_output c x) nan y₀) e;
        scores = d.scores ∙ ap (λ (n : ℕ). written_of 4 c.batches c.qheads c.qlen (in_scores c.mode (total_of c)) (is_unit_row b h first n) (shown_at c.mode c x) nan s₀) e;
        weights = d.weights (omega (arith, d.high)) ∙ ap (λ (n : ℕ). tabulate (total_of c) (attention_weight c x b h n)) (omega (arith, d.high));
        told = d.told ∙ ap (λ (n : ℕ). count_where n (λ n. row_masked c x b h (first + n))) e;
      }

  -- the tensors keep their lengths
  module _ (i : ℕ) (y s work : List Float) (masked : ℕ) (d : Done i y s work masked) where
    pub output_kept : length y ≡ output_length c
    output_kept = ap length d.output ∙ length_written c.rank c.batches c.qheads c.qlen c.vsize (is_unit_row b h first (i - first)) (attention_output c x) nan y₀

    pub scores_kept : length s ≡ c.batches * c.qheads * c.qlen * in_scores c.mode (total_of c)
    scores_kept = ap length d.scores ∙ length_written 4 c.batches c.qheads c.qlen (in_scores c.mode (total_of c)) (is_unit_row b h first (i - first)) (shown_at c.mode c x) nan s₀
