-- `session_load::load` meets its contract: a file that is read has its positions whole and without fault, and each cache is filled from them. Assumes nothing.
use mathlib.Core.Path.{◌≡◌, refl, sym, ap, ◌∙◌}
use Prim.Native.Nat.{◌*◌}
use native.Mathlib.Omega.{arith}
use lib.ListN.{length}
use Rattle.session_file.specs.Sizes.{rows_of}
use Rattle.std.specs.Prelude.{Err}
use Rattle.std.proofs.lemmas.Result.{err_from_is_err_and}
use Rattle.session_file.specs.Reader.{Reading, read_of, session_read, loaded}
use Rattle.session_file.proofs.Walks.{Standing, read→standing}
use Rattle.session_file.proofs.Limits.{sizes→facts}
use Rattle.session_reader.proofs.Readings.{load_refused, load_fits, load_other, fits→lengths}
use Rattle.session_load.proofs.load.Goals as goal
use Rattle.session_load.proofs.load.Goals.{In_ok-read, Then-caches_fit}

-- the file has a session
read : (c : In_ok-read) → read_of c.args.file.now ≡ session_read c.in_ok-read.read.sizes c.in_ok-read.read.positions
read c = sym c.inspect.ensures ∙ c.in_ok-read.was

standing : (c : In_ok-read) → Standing c.args.file.now c.in_ok-read.read.sizes c.in_ok-read.read.positions
standing c = read→standing c.args.file.now c.in_ok-read.read.sizes c.in_ok-read.read.positions (read c)

pub caches_fit-requires : goal.caches_fit-requires
caches_fit-requires c = let w = standing (goal.at.caches_fit-requires c).In_ok-read in record { sizes_value = w.limits; n_bound = w.most }

-- the caches have the lengths of its positions
lengths : (c : Then-caches_fit)
    → let a = c.args in
    (length a.keys.now ≡ rows_of c.in_ok-read.read.sizes * c.in_ok-read.read.positions * c.in_ok-read.read.sizes.size) × (length a.values.now ≡ rows_of c.in_ok-read.read.sizes * c.in_ok-read.read.positions * c.in_ok-read.read.sizes.vsize)
lengths c =
    let a = c.args in
    fits→lengths c.in_ok-read.read.sizes c.in_ok-read.read.positions (length a.keys.now) (length a.values.now) (sym c.caches_fit.ensures ∙ c.if-caches_fit.true)

pub load_cache-requires : goal.load_cache-requires
load_cache-requires c =
    let w = standing (goal.at.load_cache-requires c).In_ok-read in
    record {
      sizes_value = w.limits;
      n_bound = w.most;
      n_in_bounds = w.inside;
      by_index = w.sound;
      size_bound = omega arith;
      behind_value = refl;
      cache_len = (lengths (goal.at.load_cache-requires c).Then-caches_fit).0;
    }

pub overflow_mul-sizes : goal.overflow_mul-sizes
overflow_mul-sizes c =
    let f = sizes→facts c.in_ok-read.read.sizes (standing (goal.at.overflow_mul-sizes c).In_ok-read).limits in
    omega (arith, f.size)

pub load_cache-requires-then-caches_fit : goal.load_cache-requires-then-caches_fit
load_cache-requires-then-caches_fit c =
    let w = standing (goal.at.load_cache-requires-then-caches_fit c).In_ok-read in
    record {
      sizes_value = w.limits;
      n_bound = w.most;
      n_in_bounds = w.inside;
      by_index = w.sound;
      size_bound = omega arith;
      behind_value = omega arith;
      cache_len = (lengths (goal.at.load_cache-requires-then-caches_fit c).Then-caches_fit).1;
    }

pub returns-then-caches_fit : goal.returns-then-caches_fit
returns-then-caches_fit c =
    let a = c.args in
    load_fits a.file.now a.keys.now a.values.now c.in_ok-read.read.sizes c.in_ok-read.read.positions (read (goal.at.returns-then-caches_fit c).In_ok-read) (sym c.caches_fit.ensures ∙ c.if-caches_fit.true) c.load_cache.new.cache c.load_cache-then-caches_fit.new.cache c.load_cache.ensures c.load_cache-then-caches_fit.ensures

pub returns-in_err-read : goal.returns-in_err-read
returns-in_err-read c =
    let a = c.args in
    let r = c.in_err-read.field-0.0 in
    let v = err_from_is_err_and _ c.from_residual.ensures.1 in
    ap (λ (z : Reading). loaded z a.keys.now a.values.now) (v.1 ∙ ap Err v.2) ∙ sym (load_refused a.file.now a.keys.now a.values.now r (sym c.inspect.ensures ∙ c.in_err-read.was))

pub returns : goal.returns
returns c =
    let a = c.args in
    sym (load_other a.file.now a.keys.now a.values.now c.in_ok-read.read.sizes c.in_ok-read.read.positions (read (goal.at.returns c).In_ok-read) (sym c.caches_fit.ensures ∙ c.if-caches_fit.false))
