-- Batch, head and position of a row, and the row's number: each gives the other, and the number is below batches * heads * len. A product with something below it has factors above 0. Assumes nothing.
use mathlib.Core.Path.{◌≡◌}
use mathlib.Core.Bool.{Bool, true, false, cond}
use Prim.Native.Nat.{ℕ, zero, suc, ◌+◌, ◌*◌, ◌/◌, ◌%◌, ◌<◌}
use native.Mathlib.Nat.{mul_comm, mul-zero, mul_assoc, mul_right_comm, div-div-eq-div-mul, div-add-mod', mod-lt, div-lt_iff_lt-mul, zero-lt-suc}
use native.Mathlib.Omega.{arith}
use lib.Arith.{digits_lt, digits_div, digits_mod}
use lib.Dec.{eqb}
use Rattle.tensor_laws.specs.Layout.{slot, batch_at, head_at, position_at}

-- ---- at either order of heads and positions: q is the test of the rank
slot_lt_by : (q : Bool) (batches heads len b h s : ℕ) → b < batches → h < heads → s < len
    → cond q ((b * heads + h) * len + s) ((b * len + s) * heads + h) < batches * heads * len
slot_lt_by true batches heads len b h s hb hh hs = digits_lt (digits_lt hb hh) hs
slot_lt_by false batches heads len b h s hb hh hs = rw (mul_right_comm batches heads len) (digits_lt (digits_lt hb hs) hh)

batch_by : (n heads len : ℕ) → n / (heads * len) ≡ n / len / heads
batch_by n heads len = rw (div-div-eq-div-mul, mul_comm heads len)

batch_slot_by : (q : Bool) (heads len b h s : ℕ) → h < heads → s < len
    → cond q ((b * heads + h) * len + s) ((b * len + s) * heads + h) / (heads * len) ≡ b
batch_slot_by true heads len b h s hh hs = rw (batch_by, digits_div (b * heads + h) hs, digits_div b hh)
batch_slot_by false heads len b h s hh hs = rw (← div-div-eq-div-mul, digits_div (b * len + s) hh, digits_div b hs)

head_slot_by : (q : Bool) (heads len b h s : ℕ) → h < heads → s < len
    → let n = cond q ((b * heads + h) * len + s) ((b * len + s) * heads + h) in cond q (n / len % heads) (n % heads) ≡ h
head_slot_by true heads len b h s hh hs = rw (digits_div (b * heads + h) hs, digits_mod b hh)
head_slot_by false heads len b h s hh hs = digits_mod (b * len + s) hh

position_slot_by : (q : Bool) (heads len b h s : ℕ) → h < heads → s < len
    → let n = cond q ((b * heads + h) * len + s) ((b * len + s) * heads + h) in cond q (n % len) (n / heads % len) ≡ s
position_slot_by true heads len b h s hh hs = digits_mod (b * heads + h) hs
position_slot_by false heads len b h s hh hs = rw (digits_div (b * len + s) hh, digits_mod b hs)

slot_at_by : (q : Bool) (heads len n : ℕ)
    → let b = n / (heads * len) in
    let h = cond q (n / len % heads) (n % heads) in
    let s = cond q (n % len) (n / heads % len) in
    cond q ((b * heads + h) * len + s) ((b * len + s) * heads + h) ≡ n
slot_at_by true heads len n = rw (batch_by, div-add-mod' (n / len) heads, div-add-mod' n len)
slot_at_by false heads len n = rw (← div-div-eq-div-mul, div-add-mod' (n / heads) len, div-add-mod' n heads)

head_lt_by : (q : Bool) (heads len n : ℕ) → 0 < heads → cond q (n / len % heads) (n % heads) < heads
head_lt_by true heads len n p = mod-lt (n / len) p
head_lt_by false heads len n p = mod-lt n p

position_lt_by : (q : Bool) (heads len n : ℕ) → 0 < len → cond q (n % len) (n / heads % len) < len
position_lt_by true heads len n p = mod-lt n p
position_lt_by false heads len n p = mod-lt (n / heads) p

-- ---- the number of a row, from its batch, head and position
pub slot_lt : (rank batches heads len b h s : ℕ) → b < batches → h < heads → s < len → slot rank heads len b h s < batches * heads * len
slot_lt rank = slot_lt_by (eqb rank 4)

pub batch_slot : (rank heads len b h s : ℕ) → h < heads → s < len → batch_at heads len (slot rank heads len b h s) ≡ b
batch_slot rank = batch_slot_by (eqb rank 4)

pub head_slot : (rank heads len b h s : ℕ) → h < heads → s < len → head_at rank heads len (slot rank heads len b h s) ≡ h
head_slot rank = head_slot_by (eqb rank 4)

pub position_slot : (rank heads len b h s : ℕ) → h < heads → s < len → position_at rank heads len (slot rank heads len b h s) ≡ s
position_slot rank = position_slot_by (eqb rank 4)

-- ---- the batch, head and position of a row, from its number
pub slot_at : (rank heads len n : ℕ) → slot rank heads len (batch_at heads len n) (head_at rank heads len n) (position_at rank heads len n) ≡ n
slot_at rank = slot_at_by (eqb rank 4)

-- a product with something below it has positive factors
pub right_factor_pos : (a b n : ℕ) → n < a * b → 0 < b
right_factor_pos a zero n h = let z : a * 0 ≡ 0 = mul-zero a in omega arith
right_factor_pos a (suc b) n h = zero-lt-suc b

pub left_factor_pos : (a b n : ℕ) → n < a * b → 0 < a
left_factor_pos a b n h = right_factor_pos b a n (rw mul_comm at h)

pub batch_lt : (batches heads len n : ℕ) → n < batches * heads * len → batch_at heads len n < batches
batch_lt batches heads len n h =
    let k : n < batches * (heads * len) = rw mul_assoc at h in
    (div-lt_iff_lt-mul (right_factor_pos batches (heads * len) n k)).1 k

pub head_lt : (rank heads len n : ℕ) → 0 < heads → head_at rank heads len n < heads
head_lt rank = head_lt_by (eqb rank 4)

pub position_lt : (rank heads len n : ℕ) → 0 < len → position_at rank heads len n < len
position_lt rank = position_lt_by (eqb rank 4)
