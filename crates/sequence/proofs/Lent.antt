-- A first chunk that lends a mask, by computation: the general entry refuses it, since the call has none, and the step entry is not lent it. Assumes nothing.
use mathlib.Core.Path.{◌≡◌, refl}
use mathlib.Core.List.{[], ◌∷◌}
use mathlib.Core.Bool.{true, false}
use Rattle.exponential.specs.ExpNeg.{one}
use Rattle.call.specs.Profile.{Entry, general, step, profile_holds}
use Rattle.attention.specs.Calls.{tensors, zeros}
use Rattle.attention.specs.Table.{call_e}
use Rattle.sequence.specs.Chunks.{Chunk, start, positions_of, plain_accepted, entered}

abbrev pub masked : Entry → Chunk
masked e = record {
  entry = e;
  more = 0;
  query = one ∷ [];
  key = one ∷ [];
  value = one ∷ [];
  bool_mask = 1 ∷ [];
  float_mask = [];
  live = [];
  lent = tensors (zeros 1) (zeros 1) (zeros 1) [] (zeros 1);
}

pub record MaskLent : Type 0 where
  pub refused : entered call_e start [] (masked general) ≡ false
  pub taken : entered call_e start [] (masked step) ≡ true

pub mask_lent : MaskLent
unfolding entered plain_accepted positions_of profile_holds
mask_lent = record { refused = refl; taken = refl }
