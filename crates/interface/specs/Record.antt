-- The call record as 18 numbers, a scale and a cap, and the call that they stand for.
-- The numbers: form, mask kind, scale kind, score mode, rank, causal flag, B, Hq, Hkv, Sq, Sk, P, D, Dv, and the mask's four dimensions. Definitions only.
use Rattle.std.specs.Prelude.{List, ℕ, Bool, ◌&&◌, cond, leb, eqb, length, get_or, Float, Option, Some, None}
use Rattle.float_laws.specs.Zero.{plus_zero}
use Rattle.call.specs.declared.Call.{Call}
use Rattle.call.specs.declared.Form.{Form}
use Rattle.call.specs.declared.Form.TheVariants.{Plain, Cached, Counted}
use Rattle.call.specs.declared.MaskKind.{MaskKind}
use Rattle.call.specs.declared.MaskKind.TheVariants.{NoMask, Boolean, FloatMask}
use Rattle.call.specs.declared.Scale.{Scale}
use Rattle.call.specs.declared.Scale.TheVariants.{Absent, Given}

-- number i of a record; a record that has not 18 numbers is read as one of zeros
unfoldable pub number_at : List ℕ → ℕ → ℕ
number_at numbers i = cond (eqb (length numbers) 18) (get_or numbers i 0) 0

-- 0 plain, 1 cached, 2 counted; a code that names no form is read as cached, which allows a past
unfoldable pub form_of : ℕ → Form
form_of code = cond (eqb code 0) Plain (cond (eqb code 2) Counted Cached)

-- 0 none, 1 boolean, 2 float; a code that names no mask kind is read as none
unfoldable pub mask_kind_of : ℕ → MaskKind
mask_kind_of code = cond (eqb code 1) Boolean (cond (eqb code 2) FloatMask NoMask)

-- 0 absent, 1 given; a code that names no scale kind is read as a given scale of 0, which is refused
unfoldable pub scale_of : ℕ → Float → Scale
scale_of code scale = cond (eqb code 0) Absent (cond (eqb code 1) (Given scale) (Given plus_zero))

-- 255 is no scores, and any other number is the mode of that number
unfoldable pub mode_of : ℕ → Option ℕ
mode_of code = cond (eqb code 255) None (Some code)

-- whether the two codes name a form and a mask kind
unfoldable pub codes_named : ℕ → ℕ → Bool
codes_named form mask = leb form 2 && leb mask 2

-- the rank that is given; 0, which is no rank, where a code names no form or no mask kind
unfoldable pub rank_of : ℕ → ℕ → ℕ → ℕ
unfolding codes_named
rank_of form mask rank = cond (codes_named form mask) rank 0

unfoldable pub call_of : List ℕ → (scale softcap : Float) → Call
unfolding number_at form_of mask_kind_of scale_of mode_of rank_of
call_of numbers scale softcap = let n = number_at numbers in record {
  form = form_of (n 0);
  mask = mask_kind_of (n 1);
  scale = scale_of (n 2) scale;
  softcap = softcap;
  mode = mode_of (n 3);
  rank = rank_of (n 0) (n 1) (n 4);
  causal = n 5;
  batches = n 6;
  qheads = n 7;
  kvheads = n 8;
  qlen = n 9;
  klen = n 10;
  past = n 11;
  size = n 12;
  vsize = n 13;
  maskb = n 14;
  maskh = n 15;
  maskq = n 16;
  maskk = n 17;
}
