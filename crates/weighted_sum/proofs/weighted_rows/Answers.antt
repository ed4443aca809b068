use Rattle.std.proofs.Common.{◌≡◌, sym, ap, ◌∙◌, ℕ, ◌+◌, ◌*◌, ◌-◌, ◌/◌, ◌≤◌, ◌<◌, length, take, drop, arith}
use native.Mathlib.Nat.{add-mul}
use lib.Seq.{get_or-take, get_or-drop}
use lib.Ieee.{nan}
use Rattle.tensor_laws.specs.Layout.{tabulate}
use Rattle.tensor_laws.proofs.Tabulate.{tabulate_get_d}
use Rattle.tensor_laws.proofs.Parts.{length_part as length-middle}
use Rattle.tensor_laws.proofs.Tails.{part_of, length_part, get_or_part}
use Rattle.softmax.specs.Lists.{accumulated_of, weighted_rows_of}
use Rattle.softmax.proofs.Rows.{column_of}
use Rattle.weighted_sum.proofs.Blocks.{rows_more}
use Rattle.weighted_sum.proofs.weighted_rows.Goals as goal
use Rattle.weighted_sum.proofs.weighted_rows.Goals.{At-loop-block, In-loop-block}

pub loop-block-init : goal.loop-block-init
unfolding accumulated_of
loop-block-init c = sym (tabulate_get_d c.args.out.now nan)

-- the row of a position from j on is inside the part of the values that starts with position j
inside : (values stride size j n i : ℕ) → ((k : ℕ) → k < n → k * stride + size ≤ values) → j + i < n → j * stride + (i * stride + size) ≤ values
inside values stride size j n i h l = omega (arith, h (j + i) l, add-mul j i stride)

-- the part of the weights that is lent has 32 elements, those from position j on
weights_long : (c : In-loop-block) → let j = c.loop-block.block * 32 in length (take (j + 32 - j) (drop j c.args.weights.now)) ≡ 32
weights_long c =
    let j = c.loop-block.block * 32 in
    let w = c.args.weights.now in
    let e : j + 32 - j ≡ 32 = omega arith in
    ap (λ (k : ℕ). length (take k (drop j w))) e ∙ length-middle j 32 w (omega (arith, c.loop-block-test.true))

pub weighted_columns-requires : goal.weighted_columns-requires
weighted_columns-requires c i l =
    let s = c.args in
    let j = c.loop-block.block * 32 in
    omega (arith, inside (length s.values.now) s.stride (length s.out.now) j (length s.weights.now) i c.requires (omega (arith, weights_long (goal.at.weighted_columns-requires c).In-loop-block, c.loop-block-test.true, l)), c.loop-block.auto.out, length_part (j * s.stride) s.values.now)

pub loop-block-preserved : goal.loop-block-preserved
loop-block-preserved c =
    let s = c.args in
    let j = c.loop-block.block * 32 in
    let given = take (j + 32 - j) (drop j s.weights.now) in
    c.weighted_columns.ensures
    ∙ rows_more s.weights.now s.values.now s.stride s.out.now j 32 given c.loop-block.out c.loop-block.invariant (weights_long (goal.at.loop-block-preserved c).In-loop-block)
    (λ i h. get_or-take (j + 32 - j) (drop j s.weights.now) i nan (omega arith) ∙ get_or-drop j s.weights.now i nan)
    ∙ ap (λ (m : ℕ). tabulate (length s.out.now) (column_of s.weights.now s.values.now s.stride s.out.now m)) (omega arith)

pub weighted_columns-requires-then-j-n : goal.weighted_columns-requires-then-j-n
weighted_columns-requires-then-j-n c i l =
    let s = c.args in
    let j = length s.weights.now / 32 * 32 in
    omega (arith, inside (length s.values.now) s.stride (length s.out.now) j (length s.weights.now) i c.requires (omega (arith, l, length_part j s.weights.now)), c.loop-block.auto.out, length_part (j * s.stride) s.values.now)

-- the positions of the blocks are added
blocks_added : (c : At-loop-block) → c.loop-block.block ≡ length c.args.weights.now / 32
    → let s = c.args in c.loop-block.out ≡ tabulate (length s.out.now) (column_of s.weights.now s.values.now s.stride s.out.now (length s.weights.now / 32 * 32))
blocks_added c e = let s = c.args in c.loop-block.invariant ∙ ap (λ (m : ℕ). tabulate (length s.out.now) (column_of s.weights.now s.values.now s.stride s.out.now (m * 32))) e

pub returns-then-j-n : goal.returns-then-j-n
unfolding weighted_rows_of
returns-then-j-n c =
    let s = c.args in
    let n = length s.weights.now in
    let j = n / 32 * 32 in
    let all : j + (n - j) ≡ n = omega arith in
    c.weighted_columns-then-j-n.ensures
    ∙ rows_more s.weights.now s.values.now s.stride s.out.now j (n - j) (part_of j s.weights.now) c.loop-block.out (blocks_added (goal.at.returns-then-j-n c).At-loop-block (omega arith)) (length_part j s.weights.now) (λ i h. get_or_part j s.weights.now i nan)
    ∙ ap (λ (m : ℕ). tabulate (length s.out.now) (column_of s.weights.now s.values.now s.stride s.out.now m)) all

pub returns-else-j-n : goal.returns-else-j-n
unfolding weighted_rows_of
returns-else-j-n c =
    let s = c.args in
    let all : length s.weights.now / 32 * 32 ≡ length s.weights.now = omega (arith, c.if-j-n.false) in
    blocks_added (goal.at.returns-else-j-n c).At-loop-block (omega arith)
    ∙ ap (λ (m : ℕ). tabulate (length s.out.now) (column_of s.weights.now s.values.now s.stride s.out.now m)) all
