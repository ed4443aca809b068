-- The heads of a call one after the other: the rows done, the fully masked rows counted and the scratch row, before the first head, after one more, and after all. Assumes nothing.
use Rattle.std.specs.Prelude.{Option, Some, None}
use mathlib.Core.Path.{◌≡◌, refl, sym, ap, ◌∙◌}
use mathlib.Core.Bool.{Bool, true, false, ◌&&◌, ◌||◌}
use mathlib.Core.List.{List}
use Prim.Native.Nat.{ℕ, suc, ◌+◌, ◌-◌, ◌*◌, ◌/◌, ◌%◌, ◌≤◌, ◌<◌, zero-le}
use native.Mathlib.Nat.{div-add-mod', mod-lt, mul-zero, zero-mul, suc-mul, zero-add, mul-le-mul}
use native.Mathlib.Numerals.{add-one}
use native.Mathlib.Omega.{arith}
use lib.Arith.{digits_div, digits_mod}
use lib.ListN.{length}
use lib.Ieee.{Float, nan}
use borrow.Author.Tests.{lt-ltb, le-leb}
use Rattle.bool_laws.specs.Counts.{count_where}
use Rattle.bool_laws.proofs.Counts.{count_start, count_runs, count_agree}
use Rattle.tensor_laws.specs.Layout.{tabulate, tensor_of, written_of}
use Rattle.tensor_laws.proofs.Slots.{batch_slot, head_slot, position_slot}
use Rattle.tensor_laws.proofs.Tabulate.{length_tabulate, none_long}
use Rattle.tensor_laws.proofs.Cells.{length_tensor_of}
use Rattle.tensor_laws.proofs.Written.{length_written, written_none, written_all, written_again}
use Rattle.call.specs.declared.Call.{Call}
use Rattle.call.specs.Limits.{total_of}
use Rattle.call.specs.Lengths.{output_length, scores_length, in_scores}
use Rattle.call.specs.Tensors.{Inputs}
use Rattle.call.proofs.Facts.{InLimits}
use Rattle.attention.specs.Formula.{attention_output, attention_weight, row_masked, shown_score}
use Rattle.attention.specs.Outcomes.{where_shown, output_tensor, present_key_tensor, present_value_tensor, scores_tensor, work_row, masked_rows_of}
use Rattle.rows.specs.Unit.{shown_at, is_unit_row, HeadDone}
use Rattle.rows.proofs.UnitRows.{scores_by_rows}
use Rattle.caches.specs.Rows.{in_head, heads_before}
use Rattle.caches.proofs.Heads.{heads_none, heads_all, heads_next}
use Rattle.heads.specs.Heads.{masked_number, HeadsTo, HeadsDone}

-- ---- the rows done

-- all the rows of a head are those of the head
pub unit_is_head : (b h len b' h' i' : ℕ) → i' < len → is_unit_row b h 0 len b' h' i' ≡ in_head b h b' h' i'
unit_is_head b h len b' h' i' l = rw (le-leb 0 i' (omega arith), lt-ltb i' (0 + len) (omega arith)) (both (in_head b h b' h' i'))
  where
    both : (t : Bool) → (t && true && true) ≡ t
    both true = refl
    both false = refl

-- a row is done after head n exactly where it is one of head n's or was done before
pub heads_more : (heads len n b h i : ℕ) → h < heads → i < len → heads_before heads (n + 1) b h i ≡ (is_unit_row (n / heads) (n % heads) 0 len b h i || heads_before heads n b h i)
heads_more heads len n b h i hh hi = heads_next heads n b h i hh ∙ ap (λ (t : Bool). t || heads_before heads n b h i) (sym (unit_is_head (n / heads) (n % heads) len b h i hi))

-- ---- the fully masked rows

module _ (c : Call) (x : Inputs) where
  number_of : (n i : ℕ) → 0 < c.qheads → i < c.qlen → masked_number c x (n * c.qlen + i) ≡ row_masked c x (n / c.qheads) (n % c.qheads) i
  number_of n i p hi =
      let b = n / c.qheads in
      let h = n % c.qheads in
      let hh : h < c.qheads = mod-lt n p in
      ap (λ (m : ℕ). masked_number c x (m * c.qlen + i)) (sym (div-add-mod' n c.qheads))
      ∙ (λ k. row_masked c x (batch_slot 4 c.qheads c.qlen b h i hh hi k) (head_slot 4 c.qheads c.qlen b h i hh hi k) (position_slot 4 c.qheads c.qlen b h i hh hi k))

  -- one head more
  pub masked_next : (n : ℕ) → 0 < c.qheads → count_where (n * c.qlen) (masked_number c x) + count_where c.qlen (λ i. row_masked c x (n / c.qheads) (n % c.qheads) (0 + i)) ≡ count_where ((n + 1) * c.qlen) (masked_number c x)
  masked_next n p =
      ap (λ (m : ℕ). count_where (n * c.qlen) (masked_number c x) + m) (count_agree c.qlen _ _ (λ i l. ap (row_masked c x (n / c.qheads) (n % c.qheads)) (zero-add i) ∙ sym (number_of n i p l)))
      ∙ sym (count_runs (n * c.qlen) c.qlen (masked_number c x))
      ∙ ap (λ (m : ℕ). count_where m (masked_number c x)) (sym (ap (λ (m : ℕ). m * c.qlen) (add-one n) ∙ suc-mul n c.qlen))

  -- all heads
  pub masked_all : count_where (c.batches * c.qheads * c.qlen) (masked_number c x) ≡ masked_rows_of c x
  unfolding masked_rows_of
  masked_all = refl

  -- ---- the scores

  -- the scores by what is shown of each row, none without a mode
  pub scores_shown : tensor_of 4 c.batches c.qheads c.qlen (in_scores c.mode (total_of c)) (shown_at c.mode c x) ≡ scores_tensor c x
  unfolding scores_tensor
  scores_shown = go c.mode
    where
      go : (m : Option ℕ) → tensor_of 4 c.batches c.qheads c.qlen (in_scores m (total_of c)) (shown_at m c x) ≡ where_shown m (λ m. tensor_of 4 c.batches c.qheads c.qlen (total_of c) (shown_score m c x))
      go None = none_long _ (length_tensor_of 4 c.batches c.qheads c.qlen 0 (shown_at None c x) ∙ mul-zero (c.batches * c.qheads * c.qlen))
      go (Some m) = refl

-- ---- the last head

last_index : (batches heads : ℕ) → 1 ≤ batches → 1 ≤ heads → batches * heads - 1 ≡ (batches - 1) * heads + (heads - 1)
last_index batches heads p q = let e : batches ≡ suc (batches - 1) = omega arith in omega (arith, ap (λ (m : ℕ). m * heads) e ∙ suc-mul (batches - 1) heads)

-- head batches * heads - 1 is the last head of the last batch
last_batch : (batches heads : ℕ) → 1 ≤ batches → 1 ≤ heads → (batches * heads - 1) / heads ≡ batches - 1
last_batch batches heads p q = let l : heads - 1 < heads = omega arith in ap (λ (m : ℕ). m / heads) (last_index batches heads p q) ∙ digits_div (batches - 1) l

last_head : (batches heads : ℕ) → 1 ≤ batches → 1 ≤ heads → (batches * heads - 1) % heads ≡ heads - 1
last_head batches heads p q = let l : heads - 1 < heads = omega arith in ap (λ (m : ℕ). m % heads) (last_index batches heads p q) ∙ digits_mod (batches - 1) l

-- ---- the heads one after the other

module _ (c : Call) (x : Inputs) (limits : InLimits c) (y₀ s₀ : List Float) where
  -- before the first head
  pub begun : (work : List Float) → length y₀ ≡ output_length c → length s₀ ≡ scores_length c → length work ≡ total_of c → HeadsTo c x y₀ s₀ 0 y₀ s₀ work 0
  begun work ly ls lw = record {
    high = zero-le;
    output = sym (written_none c.rank c.batches c.qheads c.qlen c.vsize (heads_before c.qheads 0) (attention_output c x) nan y₀ ly (λ b h i p q r. heads_none c.qheads b h i));
    scores =
        sym
        (written_none 4 c.batches c.qheads c.qlen (in_scores c.mode (total_of c)) (heads_before c.qheads 0) (shown_at c.mode c x) nan s₀
        (ls ∙ scores_by_rows c.mode (c.batches * c.qheads * c.qlen) (total_of c)) (λ b h i p q r. heads_none c.qheads b h i));
    long = lw;
    weights = λ l. absurd (omega arith);
    told = sym (ap (λ (m : ℕ). count_where m (masked_number c x)) (zero-mul c.qlen) ∙ count_start (masked_number c x));
  }

  -- one head more
  pub head_more : (n : ℕ) (y s work y' s' work' : List Float) (masked m : ℕ) → HeadsTo c x y₀ s₀ n y s work masked → n < c.batches * c.qheads
      → HeadDone c x (n / c.qheads) (n % c.qheads) 0 c.qlen y s y' s' work' m → HeadsTo c x y₀ s₀ (n + 1) y' s' work' (masked + m)
  head_more n y s work y' s' work' masked m d l r = record {
    high = omega arith;
    output =
        r.output
        ∙ ap (written_of c.rank c.batches c.qheads c.qlen c.vsize (is_unit_row (n / c.qheads) (n % c.qheads) 0 c.qlen) (attention_output c x) nan) d.output
        ∙ written_again c.rank c.batches c.qheads c.qlen c.vsize (attention_output c x) nan y₀ (heads_before c.qheads n) (is_unit_row (n / c.qheads) (n % c.qheads) 0 c.qlen) (heads_before c.qheads (n + 1))
        (λ b h i hb hh hi. heads_more c.qheads c.qlen n b h i hh hi);
    scores =
        r.scores
        ∙ ap (written_of 4 c.batches c.qheads c.qlen (in_scores c.mode (total_of c)) (is_unit_row (n / c.qheads) (n % c.qheads) 0 c.qlen) (shown_at c.mode c x) nan) d.scores
        ∙ written_again 4 c.batches c.qheads c.qlen (in_scores c.mode (total_of c)) (shown_at c.mode c x) nan s₀ (heads_before c.qheads n) (is_unit_row (n / c.qheads) (n % c.qheads) 0 c.qlen) (heads_before c.qheads (n + 1))
        (λ b h i hb hh hi. heads_more c.qheads c.qlen n b h i hh hi);
    long = ap length r.weights ∙ length_tabulate (total_of c) _;
    weights = λ k. r.weights ∙ (let e : n ≡ n + 1 - 1 = omega arith in let f : 0 + c.qlen - 1 ≡ c.qlen - 1 = omega arith in λ i. tabulate (total_of c) (attention_weight c x (e i / c.qheads) (e i % c.qheads) (f i)));
    told = (λ i. d.told i + r.told i) ∙ masked_next c x n limits.qheads_some;
  }

  -- after the last head
  pub finished : (n : ℕ) (y k v s work : List Float) (masked : ℕ) → HeadsTo c x y₀ s₀ n y s work masked → c.batches * c.qheads ≤ n → k ≡ present_key_tensor c x → v ≡ present_value_tensor c x → HeadsDone c x y k v s work masked
  unfolding output_tensor work_row
  finished n y k v s work masked d l ek ev =
      let e : n ≡ c.batches * c.qheads = omega (arith, d.high) in
      let all : (b h i : ℕ) → b < c.batches → h < c.qheads → i < c.qlen → heads_before c.qheads n b h i ≡ true = λ b h i hb hh hi. ap (λ (k : ℕ). heads_before c.qheads k b h i) e ∙ heads_all c.qheads c.batches b h i hb hh in
      record {
        outputs = d.output ∙ written_all c.rank c.batches c.qheads c.qlen c.vsize (heads_before c.qheads n) (attention_output c x) nan y₀ all;
        keys = ek;
        values = ev;
        shown = d.scores ∙ written_all 4 c.batches c.qheads c.qlen (in_scores c.mode (total_of c)) (heads_before c.qheads n) (shown_at c.mode c x) nan s₀ all ∙ scores_shown c x;
        weights =
            d.weights (omega (arith, some_heads))
            ∙ (λ i. tabulate (total_of c) (attention_weight c x ((ap (λ (k : ℕ). (k - 1) / c.qheads) e ∙ last_batch c.batches c.qheads limits.batches_some limits.qheads_some) i) ((ap (λ (k : ℕ). (k - 1) % c.qheads) e ∙ last_head c.batches c.qheads limits.batches_some limits.qheads_some) i) (c.qlen - 1)));
        told = d.told ∙ ap (λ (k : ℕ). count_where (k * c.qlen) (masked_number c x)) e ∙ masked_all c x;
      }
    where
      some_heads : 1 ≤ c.batches * c.qheads
      some_heads = mul-le-mul {n₂ = c.batches} {m₂ = c.qheads} limits.batches_some limits.qheads_some

  -- the tensors keep their lengths
  module _ (n : ℕ) (y s work : List Float) (masked : ℕ) (d : HeadsTo c x y₀ s₀ n y s work masked) where
    pub output_kept : length y ≡ output_length c
    output_kept = ap length d.output ∙ length_written c.rank c.batches c.qheads c.qlen c.vsize (heads_before c.qheads n) (attention_output c x) nan y₀

    pub scores_kept : length s ≡ scores_length c
    scores_kept =
        ap length d.scores ∙ length_written 4 c.batches c.qheads c.qlen (in_scores c.mode (total_of c)) (heads_before c.qheads n) (shown_at c.mode c x) nan s₀
        ∙ sym (scores_by_rows c.mode (c.batches * c.qheads * c.qlen) (total_of c))

-- ---- the tensors keep their lengths in one head
module _ (c : Call) (x : Inputs) (b h first count : ℕ) (y s y' s' work : List Float) (masked : ℕ) (d : HeadDone c x b h first count y s y' s' work masked) where
  pub unit_output_long : length y' ≡ output_length c
  unit_output_long = ap length d.output ∙ length_written c.rank c.batches c.qheads c.qlen c.vsize (is_unit_row b h first count) (attention_output c x) nan y

  pub unit_scores_long : length s' ≡ scores_length c
  unit_scores_long =
      ap length d.scores ∙ length_written 4 c.batches c.qheads c.qlen (in_scores c.mode (total_of c)) (is_unit_row b h first count) (shown_at c.mode c x) nan s
      ∙ sym (scores_by_rows c.mode (c.batches * c.qheads * c.qlen) (total_of c))

  pub unit_work_long : length work ≡ total_of c
  unit_work_long = ap length d.weights ∙ length_tabulate (total_of c) _
