-- The lanes of keys one after the other: those of one key, of four, and of a part of the keys. Assumes nothing.
use mathlib.Core.Path.{◌≡◌, refl, sym, ap, ◌∙◌}
use mathlib.Core.List.{List, ◌++◌}
use Prim.Native.Nat.{ℕ, ◌+◌, ◌*◌, ◌/◌, ◌%◌, ◌≤◌, ◌<◌}
use native.Mathlib.Nat.{add-mul}
use native.Mathlib.Omega.{arith}
use lib.Arith.{digits_div, digits_mod}
use lib.ListN.{take, drop}
use lib.Ieee.{Float, nan}
use Rattle.tensor_laws.specs.Layout.{tabulate}
use Rattle.tensor_laws.proofs.Tabulate.{tabulate_ext}
use Rattle.tensor_laws.proofs.Tails.{part_of, get_or_part}
use Rattle.softmax.specs.Row.{lane_of}
use Rattle.softmax.specs.Lists.{element_of}
use Rattle.softmax.proofs.Structure.{agree_lane}
use Rattle.softmax.proofs.Rows.{row_element}
use Rattle.lanes.specs.Sums.{lanes_of, lane_at}

-- lane l of key j stands at j * 4 + l
pub lane_of_key : (q keys : List Float) (stride n j l : ℕ) → l < 4 → lane_at q keys stride n (j * 4 + l) ≡ lane_of l n (element_of q) (λ c. element_of keys (j * stride + c))
lane_of_key q keys stride n j l h = λ i. lane_of (digits_mod j h i) n (element_of q) (λ c. element_of keys (digits_div j h i * stride + c))

-- the lanes of key j, whose row is lent by itself
pub lanes_of_key : (q keys : List Float) (stride n j at size : ℕ) → at ≡ j * stride → n ≤ size → lanes_of q (take size (drop at keys)) n ≡ tabulate 4 (λ l. lane_at q keys stride n (j * 4 + l))
unfolding lanes_of
lanes_of_key q keys stride n j at size start inside =
    tabulate_ext 4 (λ l. lane_of l n (element_of q) (element_of (take size (drop at keys)))) (λ l. lane_at q keys stride n (j * 4 + l))
    (λ l h. agree_lane l n (element_of q) (element_of q) (element_of (take size (drop at keys))) (λ c. element_of keys (j * stride + c)) (λ c g. refl) element ∙ sym (lane_of_key q keys stride n j l h))
  where
    element : (c : ℕ) → c < n → element_of (take size (drop at keys)) c ≡ element_of keys (j * stride + c)
    element c h = row_element keys at size c (omega (arith, inside)) ∙ ap (λ (m : ℕ). element_of keys (m + c)) start

-- the lanes of four keys, one after the other
four_in_order : (f : ℕ → Float) → tabulate 4 (λ l. f (0 * 4 + l)) ++ (tabulate 4 (λ l. f (1 * 4 + l)) ++ (tabulate 4 (λ l. f (2 * 4 + l)) ++ tabulate 4 (λ l. f (3 * 4 + l)))) ≡ tabulate 16 f
unfolding tabulate
four_in_order f = refl

pub lanes_of_four : (q keys : List Float) (stride n : ℕ) (a b c d : List Float)
    → a ≡ tabulate 4 (λ l. lane_at q keys stride n (0 * 4 + l)) → b ≡ tabulate 4 (λ l. lane_at q keys stride n (1 * 4 + l))
    → c ≡ tabulate 4 (λ l. lane_at q keys stride n (2 * 4 + l)) → d ≡ tabulate 4 (λ l. lane_at q keys stride n (3 * 4 + l))
    → a ++ (b ++ (c ++ d)) ≡ tabulate 16 (lane_at q keys stride n)
lanes_of_four q keys stride n a b c d ea eb ec ed = (λ i. ea i ++ (eb i ++ (ec i ++ ed i))) ∙ four_in_order (lane_at q keys stride n)

-- the lanes from key p * 4 on, as those of the part that starts with it
pub lane_from : (q keys : List Float) (stride n p t : ℕ) → lane_at q (part_of (p * 4 * stride) keys) stride n t ≡ lane_at q keys stride n (p * 16 + t)
lane_from q keys stride n p t =
    let lane : t % 4 ≡ (p * 16 + t) % 4 = omega arith in
    let key : (p * 16 + t) / 4 ≡ p * 4 + t / 4 = omega arith in
    λ i. lane_of (lane i) n (element_of q) (λ c. (get_or_part (p * 4 * stride) keys (t / 4 * stride + c) nan ∙ ap (element_of keys) (starts c key)) i)
  where
    starts : (c : ℕ) → (p * 16 + t) / 4 ≡ p * 4 + t / 4 → p * 4 * stride + (t / 4 * stride + c) ≡ (p * 16 + t) / 4 * stride + c
    starts c key = omega (arith, add-mul (p * 4) (t / 4) stride, ap (λ (m : ℕ). m * stride) key)
