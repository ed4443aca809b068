-- The nine refusals of the table stand in the order of their numbers, so one of them that is given has the lowest number that applies. Assumes nothing.
use Rattle.std.specs.Prelude.{Some, None, Err}
use mathlib.Core.Path.{◌≡◌, refl, sym, ap, ◌∙◌, subst}
use mathlib.Core.List.{List, [], ◌∷◌, map}
use mathlib.Core.Bool.{Bool, true, false, not, ◌&&◌, cond}
use Prim.Native.Nat.{ℕ, ◌≤◌, ◌<◌}
use native.Mathlib.Omega.{arith}
use lib.Dec.{T, leb, nleb→lt}
use borrow.Author.Tests.{leb-true}
use Rattle.bool_laws.proofs.Tests.{both_true}
use Rattle.call.specs.declared.Call.{Call}
use Rattle.call.specs.declared.Refusal.{Refusal}
use Rattle.call.specs.Answers.{number_of}
use Rattle.call.specs.Tensors.{Inputs, Outputs}
use Rattle.call.specs.Refusals.{Link, test, scan, first_of, PassesBelow, link_number, general_links, verdict_of}
use Rattle.call.proofs.FirstLink.{refused_not_accepted, same_refusal, general_links_lem}

-- the numbers of the links: 8 is tested twice, and 9 five times
pub general_numbers : (c : Call) (x : Inputs) (y : Outputs) → map link_number (general_links c x y) ≡ 1 ∷ 2 ∷ 3 ∷ 4 ∷ 5 ∷ 6 ∷ 7 ∷ 8 ∷ 8 ∷ 9 ∷ 9 ∷ 9 ∷ 9 ∷ 9 ∷ []
general_numbers c x y = refl

-- the numbers up to 9 do not fall, from t on
unfoldable rising : ℕ → List Link → Bool
rising t [] = true
rising t (l ∷ ls) = cond (leb (link_number l) 9) (leb t (link_number l) && rising (link_number l) ls) (rising t ls)

-- the refusals of a search have one number
abbrev Steady : List Link → Type 0
Steady [] = Unit {0}
Steady (test r holds ∷ ls) = Steady ls
Steady (scan r found ∷ ls) = ((i : ℕ) → number_of (r 0) ≡ number_of (r i)) × Steady ls

above : (m n : ℕ) → leb m n ≡ false → n < m
above m n e = nleb→lt m n (subst (λ b. T (not b)) (sym e) tt)

-- where the numbers up to 9 are t or more, none of them is below n, which is at most t
none_below : (ls : List Link) (t n : ℕ) → rising t ls ≡ true → n ≤ t → n ≤ 9 → PassesBelow n ls
unfolding rising
none_below [] t n o h k = tt
none_below (l ∷ ls) t n o h k = go (λ s o h. none_below ls s n o h k) (leb (link_number l) 9) refl o
  where
    go : ((s : ℕ) → rising s ls ≡ true → n ≤ s → PassesBelow n ls) → (b : Bool) → leb (link_number l) 9 ≡ b → cond b (leb t (link_number l) && rising (link_number l) ls) (rising t ls) ≡ true → PassesBelow n (l ∷ ls)
    go later true e o =
        let p = both_true (leb t (link_number l)) (rising (link_number l) ls) o in
        let m = leb-true t (link_number l) p.0 in
        (λ q. absurd (omega arith), later (link_number l) p.1 (omega arith))
    go later false e o = let m = above (link_number l) 9 e in (λ q. absurd (omega arith), later t o h)

-- behind a link the numbers rise too, and from its own on where that is one of them
tail_rising : (l : Link) (ls : List Link) (t : ℕ) → rising t (l ∷ ls) ≡ true → (s : ℕ) × (rising s ls ≡ true) × (link_number l ≤ 9 → s ≡ link_number l)
unfolding rising
tail_rising l ls t o = go (leb (link_number l) 9) refl o
  where
    go : (b : Bool) → leb (link_number l) 9 ≡ b → cond b (leb t (link_number l) && rising (link_number l) ls) (rising t ls) ≡ true → (s : ℕ) × (rising s ls ≡ true) × (link_number l ≤ 9 → s ≡ link_number l)
    go true e o = (link_number l, (both_true (leb t (link_number l)) (rising (link_number l) ls) o).1, λ m. refl)
    go false e o = (t, o, λ m. absurd (let n = above (link_number l) 9 e in omega arith))

lowest : (ls : List Link) (t : ℕ) (a : Refusal) → number_of a ≤ 9 → rising t ls ≡ true → Steady ls → first_of ls ≡ Err a → PassesBelow (number_of a) ls
unfolding first_of
lowest [] t a k o s e = absurd (refused_not_accepted (sym e))
lowest (test r true ∷ ls) t a k o s e = let u = tail_rising (test r true) ls t o in (λ q. refl, lowest ls u.0 a k u.1 s e)
lowest (test r false ∷ ls) t a k o s e =
    let n = ap number_of (same_refusal e) in
    let u = tail_rising (test r false) ls t o in
    let v = u.2 (omega arith) in
    (λ q. absurd (omega arith), none_below ls u.0 (number_of a) u.1 (omega arith) k)
lowest (scan r None ∷ ls) t a k o s e = let u = tail_rising (scan r None) ls t o in (λ q. refl, lowest ls u.0 a k u.1 s.1 e)
lowest (scan r (Some i) ∷ ls) t a k o s e =
    let n = s.0 i ∙ ap number_of (same_refusal e) in
    let u = tail_rising (scan r (Some i)) ls t o in
    let v = u.2 (omega arith) in
    (λ q. absurd (omega arith), none_below ls u.0 (number_of a) u.1 (omega arith) k)

-- of the nine refusals of the table: no link with a lower number than that of the refusal that is given refuses
pub lowest_given : (c : Call) (x : Inputs) (y : Outputs) (a : Refusal) → number_of a ≤ 9 → verdict_of c x y ≡ Err a → PassesBelow (number_of a) (general_links c x y)
unfolding rising
lowest_given c x y a k e = lowest (general_links c x y) 0 a k refl (omega arith) (sym (general_links_lem c x y) ∙ e)
