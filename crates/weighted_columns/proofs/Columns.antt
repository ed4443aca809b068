-- Some columns of the output row, as `&values[at..]` and a part of the row lend them: what the weighted sum makes of them is what it makes of the whole row, in those columns.
use Rattle.std.proofs.Common.{◌≡◌, refl, sym, ap, ◌∙◌, List, ℕ, ◌+◌, ◌*◌, ◌≤◌, length, take, drop, append-nil, arith}
use borrow.Rule.Slice.PartMut.{put_mid}
use lib.Seq.{drop-length}
use lib.Ieee.{Float, nan}
use Rattle.tensor_laws.specs.Layout.{tabulate}
use Rattle.tensor_laws.proofs.Blocks.{written_to, block_more, get_or_unwritten}
use Rattle.tensor_laws.proofs.Parts.{with_part, length_part}
use Rattle.tensor_laws.proofs.Tails.{part_of, get_or_part}
use Rattle.tensor_laws.proofs.Tabulate.{tabulate_ext, tabulate_get_d}
use Rattle.softmax.specs.Lists.{element_of, accumulated_of, weighted_rows_of}
use Rattle.softmax.proofs.Rows.{column_of}

module _ (weights values : List Float) (stride : ℕ) (out : List Float) where
  -- the output row with its first columns weighed, the others as they were
  abbrev pub columns_to : ℕ → List Float
  columns_to c = written_to (column_of weights values stride out (length weights)) c out

  -- with k columns more, of which `rest` has the values before
  pub columns_put : (at k : ℕ) (rest r : List Float) → rest ≡ columns_to at → length rest ≡ length out → at + k ≤ length out
      → r ≡ weighted_rows_of weights (part_of at values) stride (take k (drop at rest)) → put_mid at k rest r ≡ columns_to (at + k)
  unfolding weighted_rows_of
  columns_put at k rest r e l h w = (λ i. with_part at k (e i) ((w ∙ columns) i)) ∙ block_more (column_of weights values stride out (length weights)) out at k k refl h
    where
      columns : weighted_rows_of weights (part_of at values) stride (take k (drop at rest)) ≡ tabulate k (λ i. column_of weights values stride out (length weights) (at + i))
      columns =
          ap (λ (m : ℕ). tabulate m (λ i. accumulated_of (length weights) (element_of weights) (λ j. element_of (part_of at values) (j * stride + i)) (element_of (take k (drop at rest)) i))) (length_part at k rest (omega arith))
          ∙ tabulate_ext k _ _ (λ i p q. accumulated_of (length weights) (element_of weights) (λ j. value i j q) (get_or_unwritten (column_of weights values stride out (length weights)) out at rest e k i nan p q))
        where
          value : (i j : ℕ) → element_of (part_of at values) (j * stride + i) ≡ element_of values (j * stride + (at + i))
          value i j = get_or_part at values (j * stride + i) nan ∙ ap (element_of values) (omega arith)

  -- all of them
  pub all_columns : columns_to (length out) ≡ weighted_rows_of weights values stride out
  unfolding weighted_rows_of
  all_columns = rw (drop-length out) (append-nil (tabulate (length out) (column_of weights values stride out (length weights))))

-- without a position nothing is added
pub no_positions : (weights values : List Float) (stride : ℕ) (out : List Float) → length weights ≡ 0 → out ≡ weighted_rows_of weights values stride out
unfolding weighted_rows_of accumulated_of
no_positions weights values stride out e = rw e (sym (tabulate_get_d out nan))
