use mathlib.Core.Path.{◌≡◌, sym, ap, ◌∙◌}
use Prim.Native.Nat.{ℕ, ◌+◌, ◌≤◌, ◌<◌, ◌-◌}
use native.Mathlib.Omega.{arith}
use mathlib.Core.List.{List}
use lib.ListN.{length, get_or}
use lib.Ieee.{Float, nan}
use Rattle.tensor_laws.proofs.Parts.{length_part, with_part}
use Rattle.tensor_laws.proofs.Written.{written_none, written_same, written_row}
use Rattle.softmax.specs.Lists.{element_of}
use Rattle.call.specs.Limits.{total_of}
use Rattle.call.proofs.Facts.{limits→facts}
use Rattle.attention.specs.Elements.{position_cell}
use Rattle.caches.specs.Rows.{in_head}
use Rattle.caches.specs.Lent.{HeadFits, head_row}
use Rattle.caches.proofs.Starts.{read_row, written_row_fits, written_row_end}
use Rattle.caches.proofs.Positions.{row_long, row_cell}
use Rattle.caches.proofs.Heads.{head_before, before_none, before_all, before_same, before_other}
use Rattle.caches_copy.proofs.copy_head.Goals as goal
use Rattle.caches_copy.proofs.copy_head.Goals.{After-row_start-a, At-loop-j, In-loop-j}

-- the row of position j may be read
reads-row : (c : In-loop-j) → HeadFits c.args.call c.args.cache c.loop-j.j
reads-row c = read_row c.args.call _ _ _ _ c.requires.present_fits _ _ _ c.requires.b_lt_batches.0 c.requires.b_lt_batches.1 (omega arith)

pub overflow_add-total : goal.overflow_add-total
overflow_add-total c = let l = limits→facts c.args.call c.requires.present_fits.limits in omega arith

pub loop-j-init : goal.loop-j-init
loop-j-init c =
    let a = c.args in
    sym (written_none 4 a.call.batches a.call.kvheads (total_of a.call) a.cache.size (head_before a.cache.b a.cache.g 0) (position_cell a.call a.cache.past.now a.cache.incoming.now a.cache.size) nan a.out.now c.requires.present_fits.out_length_is (λ b h j hb hh hj. before_none a.cache.b a.cache.g b h j))

pub row_start-a-requires : goal.row_start-a-requires
row_start-a-requires c = written_row_fits c.args.call _ _ _ _ c.requires.present_fits _ _ _ c.requires.b_lt_batches.0 c.requires.b_lt_batches.1 (omega arith)

-- the row ends inside the cache
inside : (c : After-row_start-a) → c.row_start-a.result + c.args.cache.size ≤ length c.loop-j.out
inside c =
    rw (c.row_start-a.ensures, c.loop-j.auto.out) (written_row_end c.args.call _ _ _ _ c.requires.present_fits _ _ _ c.requires.b_lt_batches.0 c.requires.b_lt_batches.1 (omega arith))

pub overflow_add-e : goal.overflow_add-e
overflow_add-e c = omega (arith, inside (goal.at.overflow_add-e c).After-row_start-a)

pub row_of-requires : goal.row_of-requires
row_of-requires c = reads-row (goal.at.row_of-requires c).In-loop-j

pub offset_bounds-out-a : goal.offset_bounds-out-a
offset_bounds-out-a c = omega (arith, inside (goal.at.offset_bounds-out-a c).After-row_start-a)

pub slice_bounds-copy_row-end : goal.slice_bounds-copy_row-end
slice_bounds-copy_row-end c = inside (goal.at.slice_bounds-copy_row-end c).After-row_start-a

pub copy_row-requires : goal.copy_row-requires
copy_row-requires c =
    let a = c.args in
    length_part c.row_start-a.result (c.row_start-a.result + a.cache.size - c.row_start-a.result) c.loop-j.out (omega (arith, inside (goal.at.copy_row-requires c).After-row_start-a))
    ∙ omega arith
    ∙ sym (ap length c.row_of.ensures ∙ row_long a.call a.cache.past.now a.cache.incoming.now a.cache.size a.cache.b a.cache.g c.loop-j.j (reads-row (goal.at.copy_row-requires c).In-loop-j))

pub loop-j-preserved : goal.loop-j-preserved
loop-j-preserved c =
    let a = c.args in
    let l = c.loop-j in
    let p = c.requires.b_lt_batches in
    let start = c.row_start-a.result in
    let size = start + a.cache.size - start in
    let row = c.copy_row.new.to in
    let e : row ≡ head_row a.call a.cache l.j = c.copy_row.ensures ∙ c.row_of.ensures in
    let reads = reads-row (goal.at.loop-j-preserved c).In-loop-j in
    let long : length row ≡ a.cache.size = ap length e ∙ row_long a.call a.cache.past.now a.cache.incoming.now a.cache.size a.cache.b a.cache.g l.j reads in
    let cell = position_cell a.call a.cache.past.now a.cache.incoming.now a.cache.size in
    let cells : (k : ℕ) → k < a.cache.size → get_or row k nan ≡ cell a.cache.b a.cache.g l.j k =
    λ k h. ap (λ (t : List Float). element_of t k) e ∙ row_cell a.call a.cache.past.now a.cache.incoming.now a.cache.size a.cache.b a.cache.g l.j k h in
    ap (λ (t : List Float). with_part start size t row) l.invariant
    ∙ written_row 4 a.call.batches a.call.kvheads (total_of a.call) a.cache.size cell nan a.out.now (head_before a.cache.b a.cache.g l.j) (head_before a.cache.b a.cache.g (l.j + 1)) a.cache.b a.cache.g l.j row long p.0 p.1 (omega arith) cells (before_same a.cache.b a.cache.g l.j)
    (λ b' h' s' hb hh hs x. before_other a.cache.b a.cache.g a.call.kvheads (total_of a.call) l.j b' h' s' x) start size c.row_start-a.ensures (omega arith)

pub returns : goal.returns
returns c =
    let l = c.loop-j in
    let a = c.args in
    l.invariant
    ∙ written_same 4 a.call.batches a.call.kvheads (total_of a.call) a.cache.size (position_cell a.call a.cache.past.now a.cache.incoming.now a.cache.size) nan a.out.now (head_before a.cache.b a.cache.g l.j) (in_head a.cache.b a.cache.g) (λ b h j hb hh hj. before_all a.cache.b a.cache.g l.j b h j (omega arith))
