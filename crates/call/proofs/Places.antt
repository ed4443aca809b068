-- The place in the refusal of a call is the first one at fault, by the links before the one that gives it. Assumes nothing.
use Rattle.std.specs.Prelude.{Some, None, Err}
use mathlib.Core.Path.{◌≡◌, refl, sym, ◌∙◌, subst}
use mathlib.Core.Logic.{inl, inr}
use mathlib.Core.List.{List, [], ◌∷◌}
use Prim.Native.Nat.{ℕ}
use mathlib.Core.Bool.{true, false, ◌&&◌}
use lib.IntN.{pos}
use lib.Ieee.{Float, nan}
use Rattle.call.specs.declared.Call.{Call}
use Rattle.call.specs.declared.Refusal.{Refusal}
use Rattle.call.specs.Tensors.{Inputs, Outputs}
use Rattle.call.specs.Limits.{total_of}
use Rattle.call.specs.Contents.{count_fault, live_fault, byte_fault, cell_fault, byte_mask_fault, float_mask_fault, element_fault, looked_at, incoming_fault}
use Rattle.call.specs.Places.{IncomingFirst, AtFirst}
use Rattle.call.specs.Refusals.{Link, test, scan, first_of, general_links, verdict_of}
use Rattle.call.proofs.Search.{found→first}
use Rattle.call.proofs.Clear.{bytes→clear, tensor→clear, tensor→first, incoming→clear}
use Rattle.call.proofs.FirstLink.{refused_not_accepted, same_refusal, general_links_lem}

-- what holds of each refusal of each link, where those before it refuse nothing
abbrev Leads : (Refusal → Type 0) → List Link → Type 0
Leads Q [] = Unit {0}
Leads Q (test r holds ∷ ls) = (holds ≡ false → Q r) × (holds ≡ true → Leads Q ls)
Leads Q (scan r found ∷ ls) = ((i : ℕ) → found ≡ Some i → Q (r i)) × (found ≡ None → Leads Q ls)

leads : (Q : Refusal → Type 0) (ls : List Link) (a : Refusal) → Leads Q ls → first_of ls ≡ Err a → Q a
unfolding first_of
leads Q [] a t e = absurd (refused_not_accepted (sym e))
leads Q (test r true ∷ ls) a t e = leads Q ls a (t.1 refl) e
leads Q (test r false ∷ ls) a t e = subst Q (same_refusal e) (t.0 refl)
leads Q (scan r None ∷ ls) a t e = leads Q ls a (t.1 refl) e
leads Q (scan r (Some i) ∷ ls) a t e = subst Q (same_refusal e) (t.0 i refl)

module _ (c : Call) (x : Inputs) (y : Outputs) where
  incoming_first : (size : ℕ) (t : List Float) (i : ℕ) → incoming_fault c x.live size t ≡ Some i → IncomingFirst c x size t i
  unfolding incoming_fault
  incoming_first size t i e = found→first (λ k z. looked_at c x.live size k && element_fault z) nan t i e

  -- the links one after the other, each with what those before it leave
  places : Leads (AtFirst c x) (general_links c x y)
  unfolding live_fault byte_mask_fault float_mask_fault
  places = (
    λ h. tt,
    λ _. (
      λ h. tt,
      λ _. (
        λ h. tt,
        λ _. (
          λ h. tt,
          λ _. (
            λ h. tt,
            λ _. (
              λ h. tt,
              λ _. (
                λ i f. found→first (λ k n. count_fault (total_of c) n) (pos 0) x.live i f,
                λ _. (
                  λ i f. inl (found→first (λ k n. byte_fault n) 0 x.bool_mask i f),
                  λ b. (
                    λ i f. inr (bytes→clear x.bool_mask b, found→first (λ k z. cell_fault z) nan x.float_mask i f),
                    λ _. (
                      λ i f. tensor→first x.query i f,
                      λ q. (
                        λ i f. (tensor→clear x.query q, tensor→first x.past_key i f),
                        λ p. (
                          λ i f. (tensor→clear x.query q, tensor→clear x.past_key p, incoming_first c.size x.key i f),
                          λ k. (
                            λ i f. (tensor→clear x.query q, tensor→clear x.past_key p, incoming→clear c x.live c.size x.key k, tensor→first x.past_value i f),
                            λ w.
                                (λ i f. (tensor→clear x.query q, tensor→clear x.past_key p, incoming→clear c x.live c.size x.key k, tensor→clear x.past_value w, incoming_first c.vsize x.value i f), λ _. tt),
                          ),
                        ),
                      ),
                    ),
                  ),
                ),
              ),
            ),
          ),
        ),
      ),
    ),
  )

  -- the place in the refusal of a call is the first one at fault
  pub first_place : (a : Refusal) → verdict_of c x y ≡ Err a → AtFirst c x a
  first_place a e = leads (AtFirst c x) (general_links c x y) a places (sym (general_links_lem c x y) ∙ e)
