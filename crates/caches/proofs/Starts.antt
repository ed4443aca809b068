-- Where a row starts: the products on the way are small, the row of a position is within its tensor, and so is the row's end. Assumes nothing.
use mathlib.Core.Path.{sym, subst}
use Prim.Native.Nat.{ℕ, ◌+◌, ◌-◌, ◌*◌, ◌≤◌, ◌<◌}
use native.Mathlib.Nat.{mul-le-mul}
use native.Mathlib.Omega.{arith}
use Rattle.tensor_laws.specs.Layout.{slot}
use Rattle.tensor_laws.proofs.Written.{row_inside}
use Rattle.call.specs.declared.Call.{Call}
use Rattle.call.specs.Limits.{total_of}
use Rattle.call.proofs.Facts.{limits→facts}
use Rattle.caches.specs.Fits.{RowFits, CacheFits, PresentFits}

-- the products on the way to a row's start are small: r is below n and t below m, the head and the position at rank 4, and the other way round at rank 3
pub small : (b n r m t size : ℕ) → b < 8 → n ≤ 2048 → r < n → m ≤ 2048 → t < m → size ≤ 2048
    → (b * n ≤ 16384) × ((b * n + r) * m ≤ 37748736) × (((b * n + r) * m + t) * size ≤ 77313605632)
small b n r m t size hb hn hr hm ht hs =
    let p : b * n ≤ 8 * 2048 = mul-le-mul {n₂ = 8} {m₂ = 2048} (omega arith) hn in
    let q : (b * n + r) * m ≤ 18432 * 2048 = mul-le-mul {n₂ = 18432} {m₂ = 2048} (omega arith) hm in
    let w : ((b * n + r) * m + t) * size ≤ 37750784 * 2048 = mul-le-mul {n₂ = 37750784} {m₂ = 2048} (omega arith) hs in
    (omega arith, omega arith, omega arith)

-- ---- the row of position j of a call

-- the same at another position
pub at_position : {c : Call} {past_length incoming_length size b g j i : ℕ} → CacheFits c past_length incoming_length size b g j → i < total_of c → CacheFits c past_length incoming_length size b g i
at_position f h = record { limits = f.limits; size_some = f.size_some; size_most = f.size_most; past_length_is = f.past_length_is; incoming_length_is = f.incoming_length_is; batch = f.batch; head = f.head; position = h }

module _ (c : Call) (past_length incoming_length size b g j : ℕ) (f : CacheFits c past_length incoming_length size b g j) where
  -- below P, in the past cache
  module _ (h : j < c.past) where
    pub past_row : RowFits c.kvheads c.past size b g j
    past_row =
        let l = limits→facts c f.limits in
        record { heads_most = l.kvheads_most; len_most = omega arith; size_most = omega (arith, f.size_most); batch = omega arith; head = f.head; position = h }

    pub past_row_end : slot 4 c.kvheads c.past b g j * size + size ≤ past_length
    past_row_end = subst (λ (n : ℕ). slot 4 c.kvheads c.past b g j * size + size ≤ n) (sym f.past_length_is) (row_inside 4 c.batches c.kvheads c.past size b g j f.batch f.head h)

  -- from P on, in the incoming tensor
  module _ (h : c.past ≤ j) where
    pub incoming_row : RowFits c.kvheads c.klen size b g (j - c.past)
    incoming_row =
        let l = limits→facts c f.limits in
        record { heads_most = l.kvheads_most; len_most = l.klen_most; size_most = omega (arith, f.size_most); batch = omega arith; head = f.head; position = omega arith }

    pub incoming_row_end : slot c.rank c.kvheads c.klen b g (j - c.past) * size + size ≤ incoming_length
    incoming_row_end =
        subst (λ (n : ℕ). slot c.rank c.kvheads c.klen b g (j - c.past) * size + size ≤ n) (sym f.incoming_length_is)
        (row_inside c.rank c.batches c.kvheads c.klen size b g (j - c.past) f.batch f.head (omega arith))

-- ---- the row of position j of a call whose present cache is written
module _ (c : Call) (past_length incoming_length out_length size : ℕ) (f : PresentFits c past_length incoming_length out_length size) (b g j : ℕ) (hb : b < c.batches) (hg : g < c.kvheads) (hj : j < total_of c) where
  pub read_row : CacheFits c past_length incoming_length size b g j
  read_row = record { limits = f.limits; size_some = f.size_some; size_most = f.size_most; past_length_is = f.past_length_is; incoming_length_is = f.incoming_length_is; batch = hb; head = hg; position = hj }

  pub written_row_fits : RowFits c.kvheads (total_of c) size b g j
  written_row_fits =
      let l = limits→facts c f.limits in
      record { heads_most = l.kvheads_most; len_most = l.total_most; size_most = omega (arith, f.size_most); batch = omega arith; head = hg; position = hj }

  pub written_row_end : slot 4 c.kvheads (total_of c) b g j * size + size ≤ out_length
  written_row_end =
      subst (λ (n : ℕ). slot 4 c.kvheads (total_of c) b g j * size + size ≤ n) (sym f.out_length_is)
      (row_inside 4 c.batches c.kvheads (total_of c) size b g j hb hg hj)
