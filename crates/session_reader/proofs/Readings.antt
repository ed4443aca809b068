-- The reading of a file from the tests of its first record, and what it gives in lent caches. Assumes nothing.
use Rattle.std.specs.Prelude.{Err}
use mathlib.Core.Path.{◌≡◌, sym, ap, ◌∙◌}
use mathlib.Core.Bool.{true, false, ◌&&◌, cond}
use mathlib.Core.List.{List}
use Prim.Native.Nat.{ℕ, ◌*◌, ◌≤◌, ◌<◌}
use borrow.Author.Tests.{le-leb, lt-leb, eqb-true}
use lib.Dec.{eqb}
use lib.Ieee.{Float}
use lib.ListN.{length}
use Rattle.bool_laws.proofs.Tests.{both_true}
use Rattle.records.specs.Records.{head_is}
use Rattle.session_file.specs.declared.Sizes.{Sizes}
use Rattle.session_file.specs.Reader.{Reading, session_read}
use Rattle.call.specs.declared.Refusal.{Refusal}
use Rattle.call.specs.declared.Refusal.TheVariants.{Limits, OutputLength, Record}
use Rattle.session_file.specs.Sizes.{sizes_hold, most_positions, rows_of}
use Rattle.session_file.specs.Reader.{walk_from, sizes_at, read_of, cache_at, session_at, loaded, caches_fit, loaded_of, load_of}

module _ (file : List ℕ) where
  pub read_walk : 14 ≤ length file → head_is file 0 8 1 ≡ true → sizes_hold (sizes_at file) ≡ true → read_of file ≡ walk_from (sizes_at file) file most_positions 0
  unfolding read_of
  read_walk l h s = (λ j. cond (le-leb 14 (length file) l j && h j) (cond (s j) (walk_from (sizes_at file) file most_positions 0) (Err Limits)) (Err (Record 0)))

  pub read_limits : 14 ≤ length file → head_is file 0 8 1 ≡ true → sizes_hold (sizes_at file) ≡ false → read_of file ≡ Err Limits
  unfolding read_of
  read_limits l h s = (λ j. cond (le-leb 14 (length file) l j && h j) (cond (s j) (walk_from (sizes_at file) file most_positions 0) (Err Limits)) (Err (Record 0)))

  pub read_wrong : 14 ≤ length file → head_is file 0 8 1 ≡ false → read_of file ≡ Err (Record 0)
  unfolding read_of
  read_wrong l h = (λ j. cond (le-leb 14 (length file) l j && h j) (cond (sizes_hold (sizes_at file)) (walk_from (sizes_at file) file most_positions 0) (Err Limits)) (Err (Record 0)))

  pub read_short : length file < 14 → read_of file ≡ Err (Record 0)
  unfolding read_of
  read_short l = (λ j. cond (lt-leb 14 (length file) l j && head_is file 0 8 1) (cond (sizes_hold (sizes_at file)) (walk_from (sizes_at file) file most_positions 0) (Err Limits)) (Err (Record 0)))

-- ---- into lent caches

module _ (file : List ℕ) (keys values : List Float) where
  pub load_refused : (r : Refusal) → read_of file ≡ Err r → load_of file keys values ≡ loaded (Err r) keys values
  unfolding load_of loaded_of
  load_refused r e = ap (λ (x : Reading). loaded_of x file keys values) e

  module _ (z : Sizes) (n : ℕ) (e : read_of file ≡ session_read z n) where
    -- filled with what stands in the file
    pub load_fits : caches_fit z n (length keys) (length values) ≡ true → (k v : List Float) → k ≡ cache_at z file n 0 z.size → v ≡ cache_at z file n (z.size * 4) z.vsize
        → loaded (session_read z n) k v ≡ load_of file keys values
    unfolding load_of loaded_of session_at
    load_fits f k v a b =
        (λ j. loaded (session_read z n) (a j) (b j))
        ∙ (λ j. cond (sym f j) (loaded (session_read z n) (cache_at z file n 0 z.size) (cache_at z file n (z.size * 4) z.vsize)) (loaded (Err OutputLength) keys values))
        ∙ sym (ap (λ (x : Reading). loaded_of x file keys values) e)

    pub load_other : caches_fit z n (length keys) (length values) ≡ false → load_of file keys values ≡ loaded (Err OutputLength) keys values
    unfolding load_of loaded_of session_at
    load_other f =
        ap (λ (x : Reading). loaded_of x file keys values) e
        ∙ (λ j. cond (f j) (loaded (session_read z n) (cache_at z file n 0 z.size) (cache_at z file n (z.size * 4) z.vsize)) (loaded (Err OutputLength) keys values))

-- ---- the lengths that fit

pub fits→lengths : (z : Sizes) (n keys values : ℕ) → caches_fit z n keys values ≡ true → (keys ≡ rows_of z * n * z.size) × (values ≡ rows_of z * n * z.vsize)
fits→lengths z n keys values e =
    let t = both_true (eqb keys (rows_of z * n * z.size)) (eqb values (rows_of z * n * z.vsize)) e in
    (eqb-true keys (rows_of z * n * z.size) t.0, eqb-true values (rows_of z * n * z.vsize) t.1)
