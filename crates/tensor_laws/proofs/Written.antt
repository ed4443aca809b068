-- A tensor in which some rows are written: its length and its cells, no row written, every row, the same rows, rows written one after the other, and one row written where it stands. Assumes nothing.
use mathlib.Core.Path.{◌≡◌, refl, sym, ap, ◌∙◌}
use mathlib.Core.Logic.{◌≢◌}
use mathlib.Core.Bool.{Bool, true, false, cond, ◌||◌}
use mathlib.Core.List.{List}
use Prim.Native.Nat.{ℕ, ◌+◌, ◌*◌, ◌≤◌, ◌<◌}
use native.Mathlib.Decide.{ℕ_discrete}
use lib.ListN.{length, get_or}
use lib.Seq.{ext_get_or}
use Rattle.tensor_laws.specs.Layout.{slot, batch_at, head_at, position_at, tensor_of, written_of}
use Rattle.tensor_laws.proofs.Slots.{slot_lt, batch_slot, head_slot, position_slot}
use Rattle.tensor_laws.proofs.Cells.{length_tensor_of, get_or_tensor_of, by_cells, tensor_of_ext}
use Rattle.tensor_laws.proofs.Parts.{row_end, with_part, length_with_part, get_or_row_same, get_or_row_other}

cond_again : {A : Type 0} (p q : Bool) (x y : A) → cond p x (cond q x y) ≡ cond (p || q) x y
cond_again true q x y = refl
cond_again false q x y = refl

-- a row ends inside the tensor
pub row_inside : (rank batches heads len size b h s : ℕ) → b < batches → h < heads → s < len → slot rank heads len b h s * size + size ≤ batches * heads * len * size
row_inside rank batches heads len size b h s hb hh hs = row_end size (slot rank heads len b h s) (batches * heads * len) (slot_lt rank batches heads len b h s hb hh hs)

module _ {A : Type 0} (rank batches heads len size : ℕ) where
  -- a list of the tensor's length whose elements are the cells is the tensor
  pub tensor_by_cells : (t : List A) (cell : ℕ → ℕ → ℕ → ℕ → A) (d : A) → length t ≡ batches * heads * len * size
      → ((b h s k : ℕ) → b < batches → h < heads → s < len → k < size → get_or t (slot rank heads len b h s * size + k) d ≡ cell b h s k)
      → t ≡ tensor_of rank batches heads len size cell
  tensor_by_cells t cell d l e =
      let y : List A = tensor_of rank batches heads len size cell in
      ext_get_or d t y (l ∙ sym (length_tensor_of rank batches heads len size cell))
      (λ i h. by_cells rank batches heads len size (λ j. get_or t j d ≡ get_or y j d) (λ b h s k hb hh hs hk. e b h s k hb hh hs hk ∙ sym (get_or_tensor_of rank batches heads len size cell b h s k d hb hh hs hk)) i (rw l at h))

  module _ (test : ℕ → ℕ → ℕ → Bool) (cell : ℕ → ℕ → ℕ → ℕ → A) (d : A) (t : List A) where
    pub length_written : length (written_of rank batches heads len size test cell d t) ≡ batches * heads * len * size
    unfolding written_of
    length_written = length_tensor_of rank batches heads len size _

    pub get_or_written : (b h s k : ℕ) → b < batches → h < heads → s < len → k < size
        → get_or (written_of rank batches heads len size test cell d t) (slot rank heads len b h s * size + k) d
        ≡ cond (test b h s) (cell b h s k) (get_or t (slot rank heads len b h s * size + k) d)
    unfolding written_of
    get_or_written b h s k hb hh hs hk = get_or_tensor_of rank batches heads len size _ b h s k d hb hh hs hk

    pub written_none : length t ≡ batches * heads * len * size
        → ((b h s : ℕ) → b < batches → h < heads → s < len → test b h s ≡ false)
        → written_of rank batches heads len size test cell d t ≡ t
    unfolding written_of
    written_none l e =
        sym (tensor_by_cells t _ d l (λ b h s k hb hh hs hk. ap (λ (q : Bool). cond q (cell b h s k) (get_or t (slot rank heads len b h s * size + k) d)) (sym (e b h s hb hh hs))))

    pub written_all : ((b h s : ℕ) → b < batches → h < heads → s < len → test b h s ≡ true)
        → written_of rank batches heads len size test cell d t ≡ tensor_of rank batches heads len size cell
    unfolding written_of
    written_all e =
        tensor_of_ext rank batches heads len size _ cell
        (λ b h s k hb hh hs hk. ap (λ (q : Bool). cond q (cell b h s k) (get_or t (slot rank heads len b h s * size + k) d)) (e b h s hb hh hs))

  module _ (cell : ℕ → ℕ → ℕ → ℕ → A) (d : A) (t : List A) where
    -- tests that agree write the same rows
    pub written_same : (test test' : ℕ → ℕ → ℕ → Bool)
        → ((b h s : ℕ) → b < batches → h < heads → s < len → test b h s ≡ test' b h s)
        → written_of rank batches heads len size test cell d t ≡ written_of rank batches heads len size test' cell d t
    unfolding written_of
    written_same test test' e =
        tensor_of_ext rank batches heads len size _ _
        (λ b h s k hb hh hs hk. ap (λ (q : Bool). cond q (cell b h s k) (get_or t (slot rank heads len b h s * size + k) d)) (e b h s hb hh hs))

    -- rows written one after the other
    pub written_again : (test test' test'' : ℕ → ℕ → ℕ → Bool)
        → ((b h s : ℕ) → b < batches → h < heads → s < len → test'' b h s ≡ (test' b h s || test b h s))
        → written_of rank batches heads len size test' cell d (written_of rank batches heads len size test cell d t)
        ≡ written_of rank batches heads len size test'' cell d t
    unfolding written_of
    written_again test test' test'' e =
        tensor_of_ext rank batches heads len size _ _
        (λ b h s k hb hh hs hk.
        let x : A = cell b h s k in
        let y : A = get_or t (slot rank heads len b h s * size + k) d in
        ap (cond (test' b h s) x) (get_or_written test cell d t b h s k hb hh hs hk)
        ∙ cond_again (test' b h s) (test b h s) x y
        ∙ ap (λ (q : Bool). cond q x y) (sym (e b h s hb hh hs)))

    -- the row of b, h, s written where it stands: test' is test with that row
    module _ (test test' : ℕ → ℕ → ℕ → Bool) (b h s : ℕ) (r : List A) (f : length r ≡ size) (hb : b < batches) (hh : h < heads) (hs : s < len)
        (c : (k : ℕ) → k < size → get_or r k d ≡ cell b h s k) (q : test' b h s ≡ true)
        (o : (b' h' s' : ℕ) → b' < batches → h' < heads → s' < len → slot rank heads len b' h' s' ≢ slot rank heads len b h s → test' b' h' s' ≡ test b' h' s') where
      cell_written : (b' h' s' k : ℕ) → b' < batches → h' < heads → s' < len → k < size
          → get_or (with_part (slot rank heads len b h s * size) size (written_of rank batches heads len size test cell d t) r) (slot rank heads len b' h' s' * size + k) d
          ≡ cond (test' b' h' s') (cell b' h' s' k) (get_or t (slot rank heads len b' h' s' * size + k) d)
      cell_written b' h' s' k hb' hh' hs' hk = go (ℕ_discrete m n)
        where
          m : ℕ
          m = slot rank heads len b' h' s'

          n : ℕ
          n = slot rank heads len b h s

          y : List A
          y = written_of rank batches heads len size test cell d t

          inside : n * size + size ≤ length y
          inside = rw (length_written test cell d t) (row_inside rank batches heads len size b h s hb hh hs)

          go : Dec (m ≡ n) → get_or (with_part (n * size) size y r) (m * size + k) d ≡ cond (test' b' h' s') (cell b' h' s' k) (get_or t (m * size + k) d)
          go (yes e) =
              let eb : b' ≡ b = sym (batch_slot rank heads len b' h' s' hh' hs') ∙ ap (batch_at heads len) e ∙ batch_slot rank heads len b h s hh hs in
              let eh : h' ≡ h = sym (head_slot rank heads len b' h' s' hh' hs') ∙ ap (head_at rank heads len) e ∙ head_slot rank heads len b h s hh hs in
              let es : s' ≡ s = sym (position_slot rank heads len b' h' s' hh' hs') ∙ ap (position_at rank heads len) e ∙ position_slot rank heads len b h s hh hs in
              ap (λ (i : ℕ). get_or (with_part (n * size) size y r) (i * size + k) d) e
              ∙ get_or_row_same size n y r d f inside k hk
              ∙ c k hk
              ∙ (λ i. cond (sym q i) (cell b h s k) (get_or t (m * size + k) d))
              ∙ (λ i. cond (test' (sym eb i) (sym eh i) (sym es i)) (cell (sym eb i) (sym eh i) (sym es i) k) (get_or t (m * size + k) d))
          go (no e) =
              get_or_row_other size n y r d f inside m k e hk
              ∙ get_or_written test cell d t b' h' s' k hb' hh' hs' hk
              ∙ ap (λ (p : Bool). cond p (cell b' h' s' k) (get_or t (m * size + k) d)) (sym (o b' h' s' hb' hh' hs' e))

      pub written_row : (a n : ℕ) → a ≡ slot rank heads len b h s * size → n ≡ size
          → with_part a n (written_of rank batches heads len size test cell d t) r ≡ written_of rank batches heads len size test' cell d t
      unfolding written_of
      written_row a n ea en =
          let y : List A = written_of rank batches heads len size test cell d t in
          (λ i. with_part (ea i) (en i) y r)
          ∙ tensor_by_cells _ _ d
          (length_with_part (slot rank heads len b h s * size) size y r f (rw (length_written test cell d t) (row_inside rank batches heads len size b h s hb hh hs)) ∙ length_written test cell d t)
          cell_written
