-- `session_inspect::sizes_at` meets its contract: four numbers of two bytes each. Assumes nothing.
use Rattle.session_inspect.proofs.sizes_at.Goals as goal

pub returns : goal.returns
returns c =
    λ j.
    record {
      batches = c.u16_at.ensures j;
      kvheads = c.u16_at-2.ensures j;
      size = c.u16_at-3.ensures j;
      vsize = c.u16_at-4.ensures j;
    }
