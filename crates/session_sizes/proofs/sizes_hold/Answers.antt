-- `session_sizes::sizes_hold` meets its contract: its four tests are the definition's. Assumes nothing.
use mathlib.Core.Path.{◌≡◌, sym, ◌∙◌}
use mathlib.Core.Bool.{true, false}
use Rattle.call.specs.Limits.{within}
use Rattle.session_file.specs.Sizes.{sizes_hold}
use Rattle.session_sizes.proofs.sizes_hold.Goals as goal

pub returns-then-is_within-3 : goal.returns-then-is_within-3
unfolding sizes_hold
returns-then-is_within-3 c =
    let z = c.args.sizes in
    let b : within 1 8 z.batches ≡ true = sym c.is_within.ensures ∙ c.if-is_within.true in
    let h : within 1 32 z.kvheads ≡ true = sym c.is_within-then-is_within.ensures ∙ c.if-is_within-2.true in
    let d : within 1 256 z.size ≡ true = sym c.is_within-then-is_within-2.ensures ∙ c.if-is_within-3.true in
    c.is_within-then-is_within-3.ensures ∙ rw (b, h, d)

pub returns-else-is_within-3 : goal.returns-else-is_within-3
unfolding sizes_hold
returns-else-is_within-3 c =
    let z = c.args.sizes in
    let b : within 1 8 z.batches ≡ true = sym c.is_within.ensures ∙ c.if-is_within.true in
    let h : within 1 32 z.kvheads ≡ true = sym c.is_within-then-is_within.ensures ∙ c.if-is_within-2.true in
    let d : within 1 256 z.size ≡ false = sym c.is_within-then-is_within-2.ensures ∙ c.if-is_within-3.false in
    rw (b, h, d)

pub returns-else-is_within-2 : goal.returns-else-is_within-2
unfolding sizes_hold
returns-else-is_within-2 c =
    let z = c.args.sizes in
    let b : within 1 8 z.batches ≡ true = sym c.is_within.ensures ∙ c.if-is_within.true in
    let h : within 1 32 z.kvheads ≡ false = sym c.is_within-then-is_within.ensures ∙ c.if-is_within-2.false in
    rw (b, h)

pub returns-else-is_within : goal.returns-else-is_within
unfolding sizes_hold
returns-else-is_within c =
    let z = c.args.sizes in
    let b : within 1 8 z.batches ≡ false = sym c.is_within.ensures ∙ c.if-is_within.false in
    rw b
