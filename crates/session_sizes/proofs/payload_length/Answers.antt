-- `session_sizes::payload_length` meets its contract: within the limits no product wraps. Assumes nothing.
use native.Mathlib.Omega.{arith}
use Rattle.session_file.proofs.Limits.{sizes→facts}
use Rattle.session_sizes.proofs.payload_length.Goals as goal

pub overflow_mul-result : goal.overflow_mul-result
overflow_mul-result c = let f = sizes→facts c.args.sizes c.requires in omega arith

pub overflow_add-result : goal.overflow_add-result
overflow_add-result c = let f = sizes→facts c.args.sizes c.requires in omega arith

pub overflow_mul-result-2 : goal.overflow_mul-result-2
overflow_mul-result-2 c = let f = sizes→facts c.args.sizes c.requires in omega arith

pub overflow_mul-result-3 : goal.overflow_mul-result-3
overflow_mul-result-3 c = let f = sizes→facts c.args.sizes c.requires in omega arith
