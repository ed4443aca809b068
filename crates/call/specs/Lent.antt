-- The lent tensors as a contract names them. In a `requires` a lent slice is a reference; in an `ensures` it is a pair of references, as it came in and as it goes out. Definitions only.
use Rattle.std.specs.Prelude.{List, ℕ, ℤ, Float}
use Rattle.std.specs.Borrow.{Bor, MutBor}
use denote.Triple.Both.{Both}
use Rattle.call.specs.declared.LentInputs.{LentInputs}
use Rattle.call.specs.Tensors.{Inputs, Outputs, inputs_of, outputs_of}

-- a slice that is read, in a `requires`, and in an `ensures`
abbrev pub Slice : Type 0 → Type 0
Slice A = Bor (List A)

abbrev pub Lent : Type 0 → Type 0
Lent A = Both (Slice A) (Slice A)

-- a slice that is written, in a `requires`, and in an `ensures`
abbrev pub SliceMut : Type 0 → Type 0
SliceMut A = MutBor (List A)

abbrev pub LentMut : Type 0 → Type 0
LentMut A = Both (SliceMut A) (SliceMut A)

-- a number that is written, in an `ensures`
abbrev pub LentNumber : Type 0
LentNumber = Both (MutBor ℕ) (MutBor ℕ)

-- ---- in a `requires`

abbrev pub inputs_now : (query key value : Slice Float) → (bool_mask : Slice ℕ) → (float_mask past_key past_value : Slice Float) → (live : Slice ℤ) → Inputs
inputs_now query key value bool_mask float_mask past_key past_value live =
    inputs_of query.now key.now value.now bool_mask.now float_mask.now past_key.now past_value.now live.now

-- the same of tensors that are lent together
abbrev pub lent_now : LentInputs → Inputs
lent_now x = inputs_now x.query x.key x.value x.boolmask x.floatmask x.pastkey x.pastvalue x.live

abbrev pub outputs_now : (output present_key present_value scores work : SliceMut Float) → Outputs
outputs_now output present_key present_value scores work = outputs_of output.now present_key.now present_value.now scores.now work.now

-- ---- in an `ensures`: the tensors that are read, and those that are written, as they came in and as they go out

abbrev pub inputs_given : (query key value : Lent Float) → (bool_mask : Lent ℕ) → (float_mask past_key past_value : Lent Float) → (live : Lent ℤ) → Inputs
inputs_given query key value bool_mask float_mask past_key past_value live =
    inputs_now query.entry key.entry value.entry bool_mask.entry float_mask.entry past_key.entry past_value.entry live.entry

abbrev pub lent_given : Both LentInputs LentInputs → Inputs
lent_given x = lent_now x.entry

abbrev pub outputs_before : (output present_key present_value scores work : LentMut Float) → Outputs
outputs_before output present_key present_value scores work =
    outputs_now output.entry present_key.entry present_value.entry scores.entry work.entry

abbrev pub outputs_after : (output present_key present_value scores work : LentMut Float) → Outputs
outputs_after output present_key present_value scores work =
    outputs_now output.exit present_key.exit present_value.exit scores.exit work.exit
