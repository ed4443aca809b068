-- Which rows of the present cache are written: those of one key head below a position, and those of the key heads below a number. Assumes nothing.
use mathlib.Core.Path.{◌≡◌, refl, sym, ap, ◌∙◌}
use mathlib.Core.Logic.{◌≢◌}
use mathlib.Core.Bool.{Bool, true, false, ◌&&◌, ◌||◌, and-true, and-false}
use Prim.Native.Nat.{ℕ, ◌+◌, ◌*◌, ◌/◌, ◌%◌, ◌<◌}
use native.Mathlib.Nat.{div-add-mod'}
use native.Mathlib.Decide.{ℕ_discrete, dec_lt}
use native.Mathlib.Omega.{arith}
use lib.Arith.{digits_lt, digits_div, digits_mod}
use lib.Dec.{ltb}
use borrow.Author.Tests.{lt-ltb, le-ltb, eq-eqb, ne_eqb}
use Rattle.tensor_laws.specs.Layout.{slot}
use Rattle.caches.specs.Rows.{in_head, heads_before}

-- ---- the rows of key head g in batch b below position j
abbrev pub head_before : ℕ → ℕ → ℕ → ℕ → ℕ → ℕ → Bool
head_before b g j b' g' s' = in_head b g b' g' s' && ltb s' j

-- a number other than n is below n + 1 where it is below n
ltb_next : (x n : ℕ) → x ≢ n → ltb x (n + 1) ≡ ltb x n
ltb_next x n y = elim (dec_lt x n) [ yes h ↦ lt-ltb x (n + 1) (omega arith) ∙ sym (lt-ltb x n h) | no h ↦ le-ltb x (n + 1) (omega arith) ∙ sym (le-ltb x n (omega arith)) ]

module _ (b g : ℕ) where
  pub before_none : (b' g' s' : ℕ) → head_before b g 0 b' g' s' ≡ false
  before_none b' g' s' = rw (le-ltb s' 0 (omega arith)) (and-false (in_head b g b' g' s'))

  pub before_all : (j b' g' s' : ℕ) → s' < j → head_before b g j b' g' s' ≡ in_head b g b' g' s'
  before_all j b' g' s' h = rw (lt-ltb s' j h) (and-true (in_head b g b' g' s'))

  pub before_same : (j : ℕ) → head_before b g (j + 1) b g j ≡ true
  before_same j = rw (eq-eqb b b refl, eq-eqb g g refl, lt-ltb j (j + 1) (omega arith))

  pub before_other : (heads len j b' g' s' : ℕ) → slot 4 heads len b' g' s' ≢ slot 4 heads len b g j → head_before b g (j + 1) b' g' s' ≡ head_before b g j b' g' s'
  before_other heads len j b' g' s' x = go (ℕ_discrete b' b) (ℕ_discrete g' g)
    where
      go : Dec (b' ≡ b) → Dec (g' ≡ g) → head_before b g (j + 1) b' g' s' ≡ head_before b g j b' g' s'
      go (no y) d = rw (ne_eqb b' b y)
      go (yes p) (no y) = rw (eq-eqb b' b p, ne_eqb g' g y)
      go (yes p) (yes q) = ap (λ (t : Bool). in_head b g b' g' s' && t) (ltb_next s' j (λ z. x (λ i. slot 4 heads len (p i) (q i) (z i))))

-- ---- the rows of the heads before number n

module _ (heads : ℕ) where
  pub heads_none : (b' g' s' : ℕ) → heads_before heads 0 b' g' s' ≡ false
  heads_none b' g' s' = le-ltb (b' * heads + g') 0 (omega arith)

  pub heads_all : (batches b' g' s' : ℕ) → b' < batches → g' < heads → heads_before heads (batches * heads) b' g' s' ≡ true
  heads_all batches b' g' s' hb hg = lt-ltb (b' * heads + g') (batches * heads) (digits_lt hb hg)

  -- one more head
  pub heads_next : (n b' g' s' : ℕ) → g' < heads → heads_before heads (n + 1) b' g' s' ≡ (in_head (n / heads) (n % heads) b' g' s' || heads_before heads n b' g' s')
  heads_next n b' g' s' hg = go (ℕ_discrete b' (n / heads)) (ℕ_discrete g' (n % heads))
    where
      go : Dec (b' ≡ n / heads) → Dec (g' ≡ n % heads) → heads_before heads (n + 1) b' g' s' ≡ (in_head (n / heads) (n % heads) b' g' s' || heads_before heads n b' g' s')
      go (no y) d = rw (ne_eqb b' (n / heads) y) (ltb_next (b' * heads + g') n (λ e. y (sym (digits_div b' hg) ∙ ap (λ (m : ℕ). m / heads) e)))
      go (yes p) (no y) = rw (eq-eqb b' (n / heads) p, ne_eqb g' (n % heads) y) (ltb_next (b' * heads + g') n (λ e. y (sym (digits_mod b' hg) ∙ ap (λ (m : ℕ). m % heads) e)))
      go (yes p) (yes q) =
          let e : b' * heads + g' ≡ n = (λ i. p i * heads + q i) ∙ div-add-mod' n heads in
          rw (eq-eqb b' (n / heads) p, eq-eqb g' (n % heads) q) (lt-ltb (b' * heads + g') (n + 1) (omega arith))
