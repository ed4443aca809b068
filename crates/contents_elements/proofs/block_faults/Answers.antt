-- `contents_elements::block_faults` meets its contract: the count is the sum of what the elements add, each at most 1. Assumes nothing.
use Rattle.std.proofs.Common.{rules, arith, tests}
use Rattle.std.proofs.lemmas.Iterator.{YieldsList-from_slice, YieldsList-from_map}
use Rattle.std.proofs.lemmas.Iterator.Consumers.{fits_by_from_yields_list}
use Rattle.bool_laws.specs.Counts.{tally}
use Rattle.call.specs.Contents.{element_fault}
use Rattle.contents.proofs.Faults.{count_sum, count_le}
use Rattle.contents_elements.proofs.block_faults.Goals as goal

pub sum-requires-clause-fits : goal.sum-requires-clause-fits
sum-requires-clause-fits c =
    let block = c.args.block.now in
    fits_by_from_yields_list (λ x. tally (element_fault x)) block c.map.result _ (YieldsList-from_map _ (λ x. tally (element_fault x)) (YieldsList-from_slice block cc) c.map.ensures.closure (λ x r q k. search (rules, tests))) (omega (arith, c.requires, count_sum block, count_le block))

pub returns : goal.returns
returns c = search (rules, count_sum)
