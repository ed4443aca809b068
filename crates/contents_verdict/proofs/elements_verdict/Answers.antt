-- `contents_verdict::elements_verdict` meets its contract: the sizes of K and V are within their limits. Assumes nothing.
use Rattle.call.proofs.Facts.{limits→facts}
use Rattle.contents_verdict.proofs.elements_verdict.Goals as goal

pub incoming_tensor-requires-clause-le_size : goal.incoming_tensor-requires-clause-le_size
incoming_tensor-requires-clause-le_size c = let f = limits→facts _ c.requires.call_value in (f.size_some, f.size_most)

pub incoming_tensor-requires-2-clause-le_size : goal.incoming_tensor-requires-2-clause-le_size
incoming_tensor-requires-2-clause-le_size c = let f = limits→facts _ c.requires.call_value in (f.vsize_some, f.vsize_most)
