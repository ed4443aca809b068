-- The two entries, and refusal 10: the general entry takes every record, and the step entry those of its profile. Definitions only.
use Rattle.std.specs.Prelude.{Bool, true, false, ◌&&◌, eqb, Option, Some, None, ℕ}
use Rattle.call.specs.declared.Call.{Call}
use Rattle.call.specs.declared.Form.{Form}
use Rattle.call.specs.declared.Form.TheVariants.{Plain, Cached, Counted}
use Rattle.call.specs.declared.MaskKind.{MaskKind}
use Rattle.call.specs.declared.MaskKind.TheVariants.{NoMask, Boolean, FloatMask}

-- the general entry, and the one for a decode step
pub data Entry : Type 0 where
  general : Entry
  step : Entry

abbrev pub is_cached : Form → Bool
is_cached Plain = false
is_cached Cached = true
is_cached Counted = false

abbrev pub is_unmasked : MaskKind → Bool
is_unmasked NoMask = true
is_unmasked Boolean = false
is_unmasked FloatMask = false

abbrev pub is_unscored : Option ℕ → Bool
is_unscored None = true
is_unscored (Some m) = false

-- the step profile: one position of one batch, cached, causal and of rank 4, without a mask and without scores; everything else in the record is free
unfoldable pub profile_holds : Call → Bool
profile_holds c =
    is_cached c.form
    && is_unmasked c.mask
    && is_unscored c.mode
    && eqb c.rank 4
    && eqb c.causal 1
    && eqb c.batches 1
    && eqb c.qlen 1
    && eqb c.klen 1

-- 10: a record that the entry does not take, whatever else is at fault in it
abbrev pub takes : Entry → Call → Bool
takes general c = true
takes step c = profile_holds c
