-- Tests that hold together hold one by one, and tests of which one holds. Assumes nothing.
use mathlib.Core.Path.{◌≡◌, refl, sym}
use mathlib.Core.Bool.{Bool, true, false, ◌&&◌, ◌||◌, not, true≢false}
use lib.Dec.{T}

-- as equations
pub both_true : (a b : Bool) → a && b ≡ true → (a ≡ true) × (b ≡ true)
both_true true b e = (refl, e)
both_true false b e = absurd (true≢false (sym e))

pub either_false : (a b : Bool) → a || b ≡ false → (a ≡ false) × (b ≡ false)
either_false true b e = absurd (true≢false e)
either_false false b e = (refl, e)

-- as propositions
pub three : (a b c : Bool) → T (a && b && c) → T a × T b × T c
three true true true t = (tt, tt, tt)
three false b c t = elim t [ ]
three true false c t = elim t [ ]
three true true false t = elim t [ ]

pub four : (a b c d : Bool) → T (a && b && c && d) → T a × T b × T c × T d
four true true true true t = (tt, tt, tt, tt)
four false b c d t = elim t [ ]
four true false c d t = elim t [ ]
four true true false d t = elim t [ ]
four true true true false t = elim t [ ]

pub five : (a b c d e : Bool) → T (a && b && c && d && e) → T a × T b × T c × T d × T e
five true true true true true t = (tt, tt, tt, tt, tt)
five false b c d e t = elim t [ ]
five true false c d e t = elim t [ ]
five true true false d e t = elim t [ ]
five true true true false e t = elim t [ ]
five true true true true false t = elim t [ ]

pub eight : (a b c d e f g h : Bool) → T (a && b && c && d && e && f && g && h) → T a × T b × T c × T d × T e × T f × T g × T h
eight true true true true true true true true t = (tt, tt, tt, tt, tt, tt, tt, tt)
eight false b c d e f g h t = elim t [ ]
eight true false c d e f g h t = elim t [ ]
eight true true false d e f g h t = elim t [ ]
eight true true true false e f g h t = elim t [ ]
eight true true true true false f g h t = elim t [ ]
eight true true true true true false g h t = elim t [ ]
eight true true true true true true false h t = elim t [ ]
eight true true true true true true true false t = elim t [ ]

pub or_l : (a b : Bool) → T a → T (a || b)
or_l true b t = tt
or_l false b t = absurd t

pub or_r : (a b : Bool) → T b → T (a || b)
or_r true b t = tt
or_r false b t = t

pub not_either : (a b : Bool) → T (not a) → T (not b) → T (not (a || b))
not_either false false s t = tt
not_either false true s t = elim t [ ]
not_either true b s t = elim s [ ]
