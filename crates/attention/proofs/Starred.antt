-- The starred examples hold, by computation. Assumes nothing.
use mathlib.Core.Path.{refl}
use lib.Ieee.{mul}
use Rattle.tables.specs.Scale.{default_scale_of}
use Rattle.exponential.specs.ExpNeg.{scaled_of, exp_neg_of, log2e}
use Rattle.attention.specs.Outcomes.{attention_of}
use Rattle.attention.specs.Table.{AllHold, starred_table}

-- every claim of the table holds
pub starred : AllHold starred_table
unfolding starred_table attention_of scaled_of exp_neg_of default_scale_of log2e mul
starred = (refl, (refl, (refl, (refl, (refl, (refl, (refl, (refl, (refl, (refl, (refl, (refl, (refl, (refl, (refl, (refl, (refl, (refl, (refl, (refl, (refl, (refl, (refl, (refl, (refl, tt)))))))))))))))))))))))))
