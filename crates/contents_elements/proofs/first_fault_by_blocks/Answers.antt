use mathlib.Core.Path.{◌≡◌, refl, sym, ap, ◌∙◌, subst}
use mathlib.Core.Bool.{false}
use mathlib.Core.List.{◌++◌}
use Prim.Native.Nat.{ℕ, ◌+◌, ◌-◌, ◌≤◌}
use native.Mathlib.Omega.{arith}
use lib.ListN.{length, get_or, take, drop, length-append, length-drop}
use lib.Seq.{drop-drop, drop_at, take_at}
use lib.Ieee.{nan}
use Rattle.std.specs.Slice.Iter.{chunks_exact_rest}
use Rattle.call.specs.Contents.{element_fault, tensor_fault}
use Rattle.call.specs.Places.{TensorClear}
use Rattle.call.proofs.Clear.{tensor→first, tensor_position}
use Rattle.std.specs.Option.{option_map}
use Rattle.std.specs.Prelude.{Some}
use Rattle.contents.proofs.Faults.{count_none}
use Rattle.contents.proofs.Parts.{part, below_both, part_clear, rest_found}
use Rattle.contents_elements.proofs.first_fault_by_blocks.Goals as goal
use Rattle.contents_elements.proofs.first_fault_by_blocks.Goals.{After-first_fault, In_ok-found}

pub loop-block-preserved : goal.loop-block-preserved
loop-block-preserved c =
    let t = c.args.tensor.now in
    let at = c.loop-block.at in
    let block = c.in-Some.block.now in
    let rest = chunks_exact_rest c.next.new.self in
    let i = c.loop-block.invariant in
    let step = c.in-Some.ensures.steps in
    let n : length block ≡ 64 = step.1.1 ∙ i.1 in
    let whole : drop at t ≡ block ++ rest = sym i.0 ∙ step.1.0 in
    let l : at + 64 ≤ length t = omega (arith, ap length whole, length-drop at t, length-append block rest) in
    let here : part at (at + 64) t ≡ block = ap (take (at + 64 - at)) whole ∙ take_at block rest (at + 64 - at) (omega arith) in
    let clear : TensorClear block = count_none block (sym c.block_faults.ensures ∙ c.if-block_faults-ne0.false) in (
      sym (drop_at block rest 64 n) ∙ ap (drop 64) (sym whole) ∙ drop-drop 64 at t,
      step.0 ∙ i.1,
      l,
      below_both (λ k. element_fault (get_or t k nan) ≡ false) at (at + 64) i.3 (part_clear at (at + 64) t (omega arith) l (subst TensorClear (sym here) clear)),
    )

-- what is found in the rest is what is found in the whole
in_whole : (c : After-first_fault) → let at = c.loop-block.at in let t = c.args.tensor.now in option_map (λ (j : ℕ). at + j) c.first_fault.result ≡ tensor_fault t
in_whole c =
    let at = c.loop-block.at in
    let t = c.args.tensor.now in
    ap (option_map (λ (j : ℕ). at + j)) (c.first_fault.ensures ∙ sym (tensor_position (part at (length t) t))) ∙ rest_found at t c.loop-block.invariant.2 c.loop-block.invariant.3

pub returns-in_err-found : goal.returns-in_err-found
returns-in_err-found c =
    c.from_residual.ensures
    ∙ ap (option_map (λ (j : ℕ). c.loop-block.at + j)) (sym c.in_err-found.was)
    ∙ in_whole (goal.at.returns-in_err-found c).After-first_fault

-- the sum is the index in the whole tensor
found_at : (c : In_ok-found) (a : After-first_fault) → c.first_fault.result ≡ a.first_fault.result → Some (a.loop-block.at + c.in_ok-found.found) ≡ tensor_fault a.args.tensor.now
found_at c a e = ap (option_map (λ (j : ℕ). a.loop-block.at + j)) (sym c.in_ok-found.was ∙ e) ∙ in_whole a

pub overflow_add-result : goal.overflow_add-result
overflow_add-result c =
    let p = goal.at.overflow_add-result c in
    let f = tensor→first c.args.tensor.now (c.loop-block.at + c.in_ok-found.found) (sym (found_at p.In_ok-found p.After-first_fault refl)) in
    omega (arith, f.inside)

pub returns : goal.returns
returns c = let p = goal.at.returns c in found_at p.In_ok-found p.After-first_fault refl
