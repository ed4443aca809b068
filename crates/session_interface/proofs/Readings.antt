-- What a reader gives keeps what is asked of a reading that is reported: sizes and positions within their limits. Assumes nothing.
use Rattle.std.specs.Prelude.{Ok, Err}
use mathlib.Core.Path.{◌≡◌, refl, sym, ap, subst}
use mathlib.Core.Bool.{Bool, true, false, cond}
use mathlib.Core.List.{List}
use Prim.Native.Nat.{ℕ}
use lib.Ieee.{Float}
use lib.ListN.{length}
use Rattle.call.specs.declared.Refusal.TheVariants.{OutputLength}
use Rattle.session_file.specs.Reader.{Reading, session_read}
use Rattle.session_file.specs.Reader.{Loaded, read_of, caches_fit, session_at, loaded, loaded_of, load_of}
use Rattle.session_file.proofs.Walks.{read→standing}
use Rattle.session_interface.specs.Numbers.{ReadingHolds}

pub read→holds : (file : List ℕ) (r : Reading) → r ≡ read_of file → ReadingHolds r
read→holds file (Ok o) e = let s = read→standing file o.sizes o.positions (sym e) in (s.limits, s.most)
read→holds file (Err x) e = tt

loaded→holds : (file : List ℕ) (keys values : List Float) (r : Reading) → r ≡ read_of file → ReadingHolds (loaded_of r file keys values).reading
unfolding loaded_of
loaded→holds file keys values (Err x) e = tt
loaded→holds file keys values (Ok s) e = go (caches_fit s.sizes s.positions (length keys) (length values))
  where
    go : (b : Bool) → ReadingHolds (cond b (loaded (session_read s.sizes s.positions) (session_at s.sizes file s.positions).keys (session_at s.sizes file s.positions).values) (loaded (Err OutputLength) keys values)).reading
    go true = read→holds file (session_read s.sizes s.positions) e
    go false = tt

pub load→holds : (file : List ℕ) (keys values : List Float) (r : Reading) (k v : List Float) → loaded r k v ≡ load_of file keys values → ReadingHolds r
unfolding load_of
load→holds file keys values r k v e = subst ReadingHolds (sym (ap (λ (l : Loaded). l.reading) e)) (loaded→holds file keys values (read_of file) refl)
