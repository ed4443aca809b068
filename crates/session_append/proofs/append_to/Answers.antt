-- `session_append::append_to` meets its contract: its tests are the definition's, in its order, and the part of the buffer that it lends comes back with the new records. Assumes nothing.
use Rattle.std.specs.Prelude.{Err}
use Rattle.std.proofs.lemmas.Result.{err_from_is_err_and}
use mathlib.Core.Path.{◌≡◌, sym, ap, ◌∙◌}
use mathlib.Core.Bool.{Bool, true}
use Prim.Native.Nat.{ℕ, ◌+◌, ◌-◌, ◌≤◌}
use native.Mathlib.Omega.{arith}
use mathlib.Core.List.{List}
use lib.ListN.{length}
use lib.Ieee.{Float}
use Rattle.tensor_laws.proofs.Parts.{length_part}
use Rattle.session_file.specs.declared.Sizes.{Sizes}
use Rattle.session_file.specs.Form.{session_of}
use Rattle.session_file.specs.Reader.{caches_fit}
use Rattle.session_file.specs.Writer.{written, rows_fault}
use Rattle.session_writer.specs.Fits.{CachesFit}
use Rattle.session_writer.proofs.Counts.{found_below, none_clear}
use Rattle.session_append.proofs.Answers.{caches_fit_lem, new_length, none_found, too_many, wrong_lengths, position_refused, no_room, all_saved}
use Rattle.session_append.proofs.append_to.Goals as goal
use Rattle.session_append.proofs.append_to.Goals.{Else-n-count, Else-not-caches_fit}

few : (c : Else-n-count) → c.args.n + c.args.count ≤ 2048
few c = omega (arith, c.if-n-count.false, c.requires.n_bound)

-- the lengths are right
fit : (c : Else-not-caches_fit)
    → let s = c.args in
    (caches_fit s.sizes s.count (length s.keys.now) (length s.values.now) ≡ true) × CachesFit s.sizes s.count (length s.keys.now) (length s.values.now)
fit c =
    let s = c.args in
    let t = sym c.caches_fit.ensures ∙ c.if-not-caches_fit.false in
    (t, caches_fit_lem s.sizes s.count (length s.keys.now) (length s.values.now) c.requires.sizes_value (omega (arith, c.if-n-count.false, c.requires.n_bound)) t)

-- whether a position is at fault
abbrev fault_at : Sizes → ℕ → List Float → List Float → ℕ → Bool
fault_at sizes count keys values = rows_fault (session_of sizes count keys values)

pub returns-then-n-count : goal.returns-then-n-count
returns-then-n-count c =
    too_many c.args.sizes c.args.n c.args.buffer.now c.args.count c.args.keys.now c.args.values.now (omega (arith, c.if-n-count.true, c.requires.n_bound))

pub returns-then-not-caches_fit : goal.returns-then-not-caches_fit
returns-then-not-caches_fit c =
    let a = c.args in
    wrong_lengths a.sizes a.n a.buffer.now a.count a.keys.now a.values.now (few (goal.at.returns-then-not-caches_fit c).Else-n-count) (sym c.caches_fit.ensures ∙ c.if-not-caches_fit.true)

pub position_verdict-requires : goal.position_verdict-requires
position_verdict-requires c p f =
    omega (arith, found_below (fault_at c.args.sizes c.args.count c.args.keys.now c.args.values.now) c.args.count 0 p (sym c.first_fault.ensures ∙ f), c.if-n-count.false, c.requires.n_bound)

pub returns-in_err-position_verdict : goal.returns-in_err-position_verdict
returns-in_err-position_verdict c =
    let a = c.args in
    let v = err_from_is_err_and _ c.from_residual.ensures.1 in
    (λ i. written ((v.1 ∙ ap Err v.2) i) a.buffer.now)
    ∙ position_refused a.sizes a.n a.buffer.now a.count a.keys.now a.values.now (few (goal.at.returns-in_err-position_verdict c).Else-n-count) (fit (goal.at.returns-in_err-position_verdict c).Else-not-caches_fit).0 _ _ _ c.first_fault.ensures c.position_verdict.ensures c.in_err-position_verdict.was

pub returns-then-buffer-to : goal.returns-then-buffer-to
returns-then-buffer-to c =
    let a = c.args in
    no_room a.sizes a.n a.buffer.now a.count a.keys.now a.values.now (few (goal.at.returns-then-buffer-to c).Else-n-count) (fit (goal.at.returns-then-buffer-to c).Else-not-caches_fit).0 (none_found _ _ c.first_fault.ensures c.position_verdict.ensures c.in_ok-position_verdict.was) (omega (arith, c.record_start-to.ensures, c.if-buffer-to.true))

pub write_positions-requires : goal.write_positions-requires
write_positions-requires c =
    let from = c.record_start-from.result in
    let to = c.record_start-to.result in
    let l = new_length c.args.sizes c.args.n c.args.count from to c.record_start-from.ensures c.record_start-to.ensures in
    record {
      caches_fit = (fit (goal.at.write_positions-requires c).Else-not-caches_fit).1;
      by_index = none_clear (fault_at c.args.sizes c.args.count c.args.keys.now c.args.values.now) c.args.count (none_found _ _ c.first_fault.ensures c.position_verdict.ensures c.in_ok-position_verdict.was);
      bytes_len = length_part from (to - from) c.args.buffer.now (omega (arith, l.0, c.if-buffer-to.false)) ∙ l.1;
    }

pub returns : goal.returns
returns c =
    let a = c.args in
    all_saved a.sizes a.n a.buffer.now a.count a.keys.now a.values.now (few (goal.at.returns c).Else-n-count) (fit (goal.at.returns c).Else-not-caches_fit).0 (none_found _ _ c.first_fault.ensures c.position_verdict.ensures c.in_ok-position_verdict.was) (fit (goal.at.returns c).Else-not-caches_fit).1 c.record_start-from.result c.record_start-to.result c.write_positions.new.bytes c.record_start-from.ensures c.record_start-to.ensures c.if-buffer-to.false c.write_positions.ensures
