-- The first link that refuses gives the refusal, and a list of links accepts exactly where all do. Assumes nothing.
use Rattle.std.specs.Prelude.{Some, None, Ok, Err}
use mathlib.Core.Path.{◌≡◌, refl, sym, ap}
use mathlib.Core.List.{List, [], ◌∷◌, ◌++◌}
use mathlib.Core.Bool.{true, false}
use Prim.Native.Nat.{ℕ}
use native.Mathlib.Omega.{arith}
use Rattle.call.specs.declared.Call.{Call}
use Rattle.call.specs.declared.Refusal.{Refusal}
use Rattle.call.specs.Refusals.{Verdict}
use Rattle.call.specs.Tensors.{Inputs, Outputs}
use Rattle.call.specs.Refusals.{◌then◌, Link, test, scan, verdict_by, first_of, Passes, Gives, Clear, GivenFirst, general_links, verdict_of}

pub refused_not_accepted : {a : Refusal} → ◌≡◌ {A = Verdict} (Err a) (Ok tt) → ⊥
refused_not_accepted e = let z : ◌≡◌ {A = ℕ} 0 1 = cc in omega arith

pub same_refusal : {a b : Refusal} → ◌≡◌ {A = Verdict} (Err a) (Err b) → a ≡ b
same_refusal e = cc

-- ---- one list behind another

pub then_accepted : (v : Verdict) → v then Ok tt ≡ v
then_accepted (Ok u) = refl
then_accepted (Err a) = refl

then_assoc : (u v w : Verdict) → (u then v) then w ≡ u then v then w
then_assoc (Ok u) v w = refl
then_assoc (Err a) v w = refl

pub first_append : (a b : List Link) → first_of (a ++ b) ≡ first_of a then first_of b
unfolding first_of
first_append [] b = refl
first_append (l ∷ a) b = rw (first_append a b) (sym (then_assoc (verdict_by l) (first_of a) (first_of b)))

-- ---- accepted

pub first→clear : (ls : List Link) → first_of ls ≡ Ok tt → Clear ls
unfolding first_of
first→clear [] e = tt
first→clear (test r true ∷ ls) e = (refl, first→clear ls e)
first→clear (test r false ∷ ls) e = absurd (refused_not_accepted e)
first→clear (scan r None ∷ ls) e = (refl, first→clear ls e)
first→clear (scan r (Some i) ∷ ls) e = absurd (refused_not_accepted e)

pub clear→first : (ls : List Link) → Clear ls → first_of ls ≡ Ok tt
unfolding first_of
clear→first [] c = refl
clear→first (test r holds ∷ ls) c = rw c.0 (clear→first ls c.1)
clear→first (scan r found ∷ ls) c = rw c.0 (clear→first ls c.1)

-- ---- refused

here : {ls : List Link} {a : Refusal} (l : Link) → Gives l a → GivenFirst (l ∷ ls) a
here {ls} l g = record { before = []; link = l; after = ls; order = refl; clear = tt; given = g }

later : {ls : List Link} {a : Refusal} (l : Link) → Passes l → GivenFirst ls a → GivenFirst (l ∷ ls) a
later l p g = record { before = l ∷ g.before; link = g.link; after = g.after; order = ap (λ t. l ∷ t) g.order; clear = (p, g.clear); given = g.given }

pub first→given : (ls : List Link) (a : Refusal) → first_of ls ≡ Err a → GivenFirst ls a
unfolding first_of
first→given [] a e = absurd (refused_not_accepted (sym e))
first→given (test r true ∷ ls) a e = later (test r true) refl (first→given ls a e)
first→given (test r false ∷ ls) a e = here (test r false) (refl, sym (same_refusal e))
first→given (scan r None ∷ ls) a e = later (scan r None) refl (first→given ls a e)
first→given (scan r (Some i) ∷ ls) a e = here (scan r (Some i)) (i, refl, sym (same_refusal e))

refuses : (l : Link) (a : Refusal) → Gives l a → verdict_by l ≡ Err a
refuses (test r holds) a g = rw (g.0, g.1)
refuses (scan r found) a g = rw (g.1, g.2)

pub given→first : (ls : List Link) (a : Refusal) → GivenFirst ls a → first_of ls ≡ Err a
unfolding first_of
given→first ls a g = rw (g.order, first_append, clear→first g.before g.clear, refuses g.link a g.given)

-- ---- the links of a call

pub general_links_lem : (c : Call) (x : Inputs) (y : Outputs) → verdict_of c x y ≡ first_of (general_links c x y)
unfolding verdict_of
general_links_lem c x y = rw (← first_append, ← first_append, ← first_append)
