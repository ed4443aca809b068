use Rattle.std.proofs.Common.{◌∙◌, arith}
use lib.Ieee.{nan}
use Rattle.tensor_laws.proofs.InPlace.{indexed_next, indexed_all}
use Rattle.score_cap_steps.proofs.cap_elements.Invariants.{each_of}
use Rattle.score_cap_steps.proofs.cap_elements.Goals as goal

pub loop-j-preserved : goal.loop-j-preserved
loop-j-preserved c = let s = c.args in rw (c.capped.ensures, c.loop-j.invariant) (indexed_next (each_of s.c s.xs.now s.terms.now) nan c.loop-j.j s.row.now (omega arith))

pub returns : goal.returns
returns c = let s = c.args in c.loop-j.invariant ∙ indexed_all (each_of s.c s.xs.now s.terms.now) nan c.loop-j.j s.row.now (omega arith)
