-- `row_visible::mask_start` meets its contract. Assumes nothing.
use mathlib.Core.Path.{sym, ap, ◌∙◌}
use Prim.Native.Nat.{ℕ, ◌+◌, ◌*◌, ◌≤◌}
use native.Mathlib.Nat.{mul-le-mul}
use native.Mathlib.Omega.{arith}
use Rattle.call.specs.declared.MaskKind.{MaskKind}
use Rattle.call.proofs.Facts.{limits→facts}
use Rattle.call.proofs.MaskBounds.{mask_bounds}
use Rattle.row_steps.specs.Steps.{mask_start}
use Rattle.row_steps.proofs.MaskStart.{repeated_le, mask_there, mask_start_is}
use Rattle.row_visible.proofs.mask_start.Goals as goal
use Rattle.row_visible.proofs.mask_start.Goals.{After-repeated_at-row, In_default}

pub returns-in-NoMask : goal.returns-in-NoMask
returns-in-NoMask c = let s = c.args in ap (λ (k : MaskKind). mask_start k s.call s.b s.h s.i) (sym c.in-NoMask.is)

-- how large the mask's dimensions and the row's place in them are
record Bounds (c : After-repeated_at-row) : Type 0 where
  maskh : c.args.call.maskh ≤ 32
  maskq : c.args.call.maskq ≤ 2048
  maskk : c.args.call.maskk ≤ 2048
  batch : c.repeated_at-batch.result ≤ 8
  head : c.repeated_at-head.result ≤ 32
  row : c.repeated_at-row.result ≤ 2048

bounds : (c : After-repeated_at-row) → Bounds c
bounds c =
    let k = c in
    let s = k in
    let call = s.args.call in
    let f = limits→facts call s.requires.call_value.0 in
    let d = (mask_bounds call s.requires.call_value.0 s.requires.call_value.1 (mask_there call.mask k.in_default.not-NoMask)).1 in
    record {
      maskh = d.0;
      maskq = d.1.0;
      maskk = d.1.1;
      batch = omega (arith, repeated_le call.maskb s.args.b, c.repeated_at-batch.ensures);
      head = omega (arith, repeated_le call.maskh s.args.h, c.repeated_at-head.ensures);
      row = omega (arith, repeated_le call.maskq s.args.i, c.repeated_at-row.ensures);
    }

-- the row's place in the first two dimensions of the mask, and in the first three
abbrev head_of : After-repeated_at-row → ℕ
head_of c = c.repeated_at-batch.result * c.args.call.maskh + c.repeated_at-head.result

abbrev row_of : After-repeated_at-row → ℕ
row_of c = head_of c * c.args.call.maskq + c.repeated_at-row.result

head-le : (c : After-repeated_at-row) → head_of c ≤ 288
head-le c = let b = bounds c in omega (arith, mul-le-mul b.batch b.maskh)

row-le : (c : After-repeated_at-row) → row_of c ≤ 591872
row-le c = let b = bounds c in omega (arith, mul-le-mul (head-le c) b.maskq)

pub overflow_mul-result : goal.overflow_mul-result
overflow_mul-result c = omega (arith, head-le (goal.at.overflow_mul-result c).After-repeated_at-row)

pub overflow_add-result : goal.overflow_add-result
overflow_add-result c = omega (arith, head-le (goal.at.overflow_add-result c).After-repeated_at-row)

pub overflow_mul-result-2 : goal.overflow_mul-result-2
overflow_mul-result-2 c = omega (arith, row-le (goal.at.overflow_mul-result-2 c).After-repeated_at-row)

pub overflow_add-result-2 : goal.overflow_add-result-2
overflow_add-result-2 c = omega (arith, row-le (goal.at.overflow_add-result-2 c).After-repeated_at-row)

pub overflow_mul-result-3 : goal.overflow_mul-result-3
overflow_mul-result-3 c = let r = c in omega (arith, mul-le-mul (row-le (goal.at.overflow_mul-result-3 c).After-repeated_at-row) (bounds (goal.at.overflow_mul-result-3 c).After-repeated_at-row).maskk)

pub returns : goal.returns
returns c =
    let r = c in
    let k = r in
    let s = k.args in
    let start : ℕ → ℕ → ℕ → ℕ = λ x y z. ((x * s.call.maskh + y) * s.call.maskq + z) * s.call.maskk in
    (λ i. start (r.repeated_at-batch.ensures i) (r.repeated_at-head.ensures i) (r.repeated_at-row.ensures i)) ∙ sym (mask_start_is s.call (mask_there s.call.mask c.in_default.not-NoMask) s.b s.h s.i)
