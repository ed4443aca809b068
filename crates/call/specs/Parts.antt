-- A call record from its parts. Definitions only.
use Rattle.std.specs.Prelude.{ℕ, Float, Option}
use Rattle.call.specs.declared.Call.{Call}
use Rattle.call.specs.declared.Form.{Form}
use Rattle.call.specs.declared.MaskKind.{MaskKind}
use Rattle.call.specs.declared.Scale.{Scale}

-- the kinds, the scale and the cap; rank and causal flag; B, Hq, Hkv; Sq, Sk, P; D, Dv; the mask's dimensions
abbrev pub call_with : Form → MaskKind → Scale → Float → Option ℕ → (rank causal batches qheads kvheads qlen klen past size vsize maskb maskh maskq maskk : ℕ) → Call
call_with form mask scale softcap mode rank causal batches qheads kvheads qlen klen past size vsize maskb maskh maskq maskk = record {
  form = form;
  mask = mask;
  scale = scale;
  softcap = softcap;
  mode = mode;
  rank = rank;
  causal = causal;
  batches = batches;
  qheads = qheads;
  kvheads = kvheads;
  qlen = qlen;
  klen = klen;
  past = past;
  size = size;
  vsize = vsize;
  maskb = maskb;
  maskh = maskh;
  maskq = maskq;
  maskk = maskk;
}
