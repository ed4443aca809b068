-- `row_capped::mask_and_cap` meets its contract: the mask, what is shown of the scores under it, the cap, and what is shown of the scores under that, one after the other. Assumes nothing.
use mathlib.Core.Path.{◌≡◌, ap, ◌∙◌}
use mathlib.Core.List.{List}
use lib.Ieee.{Float, of_bits, neg, nan_bits}
use Rattle.softmax.specs.Lists.{hidden}
use Rattle.softmax.specs.Cap.{capped_row_where}
use Rattle.row_steps.specs.Steps.{shows_of, shown_where}
use Rattle.row_steps.specs.Masks.{masked_under}
use Rattle.row_capped.proofs.mask_and_cap.Goals as goal

pub float_from_bits-show : goal.float_from_bits-show
unfolding nan_bits
float_from_bits-show c = tt

pub float_from_bits-show-2 : goal.float_from_bits-show-2
unfolding nan_bits
float_from_bits-show-2 c = tt

pub returns : goal.returns
unfolding of_bits neg
returns c =
    let s = c.args in
    -- the scores under the mask, and under the cap
    let masked : List Float = masked_under s.mask s.row.now in
    let masked_is : c.mask_row.new.row ≡ masked = c.mask_row.ensures in
    let capped_is : c.cap_row.new.row ≡ capped_row_where s.softcap masked = c.cap_row.ensures ∙ ap (capped_row_where s.softcap) masked_is in
    -- what is shown of the scores under the mask
    let shown_masked : c.show.new.shown ≡ shown_where (shows_of s.mode 1 1) hidden masked s.shown.now = c.show.ensures ∙ (λ i. shown_where (c.shows.ensures i) hidden (masked_is i) s.shown.now) in
    record {
      scores = capped_is;
      shows = c.show-2.ensures ∙ (λ i. shown_where (c.shows-2.ensures i) hidden (capped_is i) (shown_masked i));
    }
