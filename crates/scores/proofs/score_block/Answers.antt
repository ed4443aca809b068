-- `scores::score_block` meets its contract: the lanes over the row's fours, over the whole row, and joined.
use mathlib.Core.Path.{◌≡◌, ap, ◌∙◌}
use Prim.Native.Nat.{ℕ, ◌*◌}
use lib.ListN.{length}
use Rattle.tensor_laws.specs.Layout.{tabulate}
use Rattle.tensor_laws.proofs.Tabulate.{length_tabulate, tabulate_ext}
use Rattle.lanes.specs.Sums.{lane_at}
use Rattle.scores.specs.Sums.{joined_at}
use Rattle.scores.proofs.Keys.{score_of_key, joined_score, scores_all}
use Rattle.scores.proofs.score_block.Goals as goal

pub returns : goal.returns
returns c =
    let s = c.args in
    let n = length s.out.now in
    let lanes = c.sum_rest.new.lanes in
    let count : length c.sum_fours.new.lanes ≡ n * 4 = ap length c.sum_fours.ensures ∙ length_tabulate _ _ ∙ c.requires.out_len.1 in
    let all : lanes ≡ tabulate (n * 4) (lane_at s.q.now s.keys.now s.stride (length s.q.now)) = c.sum_rest.ensures ∙ ap (λ (m : ℕ). tabulate m (lane_at s.q.now s.keys.now s.stride (length s.q.now))) count in
    c.join_lanes.ensures
    ∙ tabulate_ext n (joined_at lanes s.scale) (score_of_key s.q.now s.keys.now s.stride s.scale) (λ j h. joined_score s.q.now s.keys.now lanes s.stride s.scale n j all h)
    ∙ scores_all s.q.now s.keys.now s.stride s.scale n
