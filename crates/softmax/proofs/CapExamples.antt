-- The cap at its edges, by computation: zeros, quotients that are infinite or rounded to 0, the sign of x, and no cap. The bits of other scores are those that a reference written from the rules gives. Assumes nothing.
use mathlib.Core.Path.{◌≡◌, refl}
use mathlib.Core.Bool.{true, false}
use lib.IntN.{pos, negsuc}
use lib.Ieee.{Float, inf, fin, binary32, neg, of_bits}
use Rattle.float_laws.specs.Zero.{minus_zero}
use Rattle.exponential.specs.ExpNeg.{plus_zero, one}
use Rattle.softmax.specs.Lists.{hidden}
use Rattle.softmax.specs.Cap.{twice_of, ratio_of, tanh_of, capped_of, capped_where, capped_or_hidden}

-- 2 ^ -149 and 2 ^ -30
abbrev least : Float
least = fin false 1 (negsuc 148)

abbrev tiny : Float
tiny = fin false 1 (negsuc 29)

-- 0.5, 30 and 65,536
abbrev half : Float
half = fin false 1 (negsuc 0)

abbrev thirty : Float
thirty = fin false 15 (pos 1)

abbrev largest : Float
largest = fin false 1 (pos 16)

-- 0.625
abbrev score : Float
score = fin false 5 (negsuc 2)

pub record CapExamplesHold : Type 0 where
  -- a + a is not below 0, whatever the sign of x
  pub twice_below : twice_of (neg score) ≡ fin false 5 (negsuc 1)
  pub twice_minus_zero : twice_of minus_zero ≡ minus_zero
  pub twice_infinite : twice_of (inf true) ≡ inf false
  -- an infinite x has t 1 or -1
  pub above : tanh_of (inf false) ≡ one
  pub below : tanh_of (inf true) ≡ neg one
  -- t is +0 at both zeros, and -0 at an x below 0 where E(a + a) is 1
  pub at_zero : tanh_of plus_zero ≡ plus_zero
  pub at_minus_zero : tanh_of minus_zero ≡ plus_zero
  pub at_tiny : tanh_of tiny ≡ plus_zero
  pub below_zero : tanh_of (neg tiny) ≡ minus_zero
  -- the quotient (1 - g) / (1 + g) is rounded once
  pub quotient : ratio_of (of_bits binary32 0x3ee34be5) ≡ of_bits binary32 0x3ec52bea
  -- a score and its negative
  pub near : capped_of half score ≡ of_bits binary32 0x3ed9291d
  pub near_below : capped_of half (neg score) ≡ of_bits binary32 0xbed9291d
  pub wide : capped_of thirty score ≡ of_bits binary32 0x3f1ffa1f
  -- far from the cap, and s / c infinite
  pub far : capped_of thirty largest ≡ thirty
  pub far_below : capped_of thirty (neg largest) ≡ neg thirty
  pub infinite : capped_of least largest ≡ least
  pub infinite_below : capped_of least (neg largest) ≡ neg least
  -- an s of -0, or so small that s / c is -0, becomes +0: the sign is that of x
  pub minus_zero_is : capped_of thirty minus_zero ≡ plus_zero
  pub rounded_away : capped_of largest (neg least) ≡ plus_zero
  -- 0 of either sign is no cap, also of -0; the least f32 above 0 is one
  pub none : capped_where plus_zero minus_zero ≡ minus_zero
  pub minus_none : capped_where minus_zero (neg score) ≡ neg score
  pub some : capped_where least score ≡ least
  -- a hidden position stays hidden
  pub stays : capped_or_hidden thirty hidden ≡ hidden

pub cap_examples_hold : CapExamplesHold
unfolding twice_of ratio_of tanh_of capped_of capped_where capped_or_hidden of_bits neg
cap_examples_hold = record {
  twice_below = refl;
  twice_minus_zero = refl;
  twice_infinite = refl;
  above = refl;
  below = refl;
  at_zero = refl;
  at_minus_zero = refl;
  at_tiny = refl;
  below_zero = refl;
  quotient = refl;
  near = refl;
  near_below = refl;
  wide = refl;
  far = refl;
  far_below = refl;
  infinite = refl;
  infinite_below = refl;
  minus_zero_is = refl;
  rounded_away = refl;
  none = refl;
  minus_none = refl;
  some = refl;
  stays = refl;
}
