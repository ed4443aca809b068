use mathlib.Core.Path.{◌≡◌, ◌∙◌}
use mathlib.Core.List.{List}
use Prim.Native.Nat.{ℕ}
use native.Mathlib.Omega.{arith}
use lib.ListN.{length}
use Rattle.session_file.specs.Sizes.{record_length}
use Rattle.session_writer.proofs.Rows.{fit→facts, key_fits, value_fits, pair_is, pair_asked, pair_inside}
use Rattle.session_writer.proofs.Positions.{position_none, position_more, position_all}
use Rattle.session_positions.proofs.write_position.Goals as goal
use Rattle.session_positions.proofs.write_position.Goals.{At-loop-r}

abbrev headed : At-loop-r → List ℕ
headed a = a.put_head.new.bytes

headed_long : (a : At-loop-r) → length (headed a) ≡ record_length a.args.sizes
headed_long a = a.put_head.auto.bytes ∙ a.requires.bytes_len

-- the bytes keep their number
as_long : (a : At-loop-r) → length a.loop-r.bytes ≡ record_length a.args.sizes
as_long a = a.loop-r.auto.bytes ∙ headed_long a

pub overflow_mul-rows : goal.overflow_mul-rows
overflow_mul-rows c = omega (arith, (fit→facts c.requires.caches_fit).rows.1)

pub overflow_add-pair : goal.overflow_add-pair
overflow_add-pair c = let f = fit→facts c.requires.caches_fit in omega (arith, f.size.1, f.vsize.1)

pub overflow_mul-pair : goal.overflow_mul-pair
overflow_mul-pair c = omega (arith, (fit→facts c.requires.caches_fit).pair.1)

pub overflow_cast-rows : goal.overflow_cast-rows
overflow_cast-rows c = omega (arith, (fit→facts c.requires.caches_fit).payload)

pub loop-r-init : goal.loop-r-init
loop-r-init c =
    let s = c.args in
    position_none s.sizes s.n s.keys.now s.values.now s.p s.bytes.now c.put_head.new.bytes c.put_head.ensures

pub row-requires : goal.row-requires
row-requires c =
    key_fits c.args.sizes c.args.n c.args.keys.now c.args.values.now c.requires.caches_fit c.args.p c.loop-r.r c.requires.p_lt_n c.loop-r-test.true

pub row-requires-in-loop-r : goal.row-requires-in-loop-r
row-requires-in-loop-r c =
    value_fits c.args.sizes c.args.n c.args.keys.now c.args.values.now c.requires.caches_fit c.args.p c.loop-r.r c.requires.p_lt_n c.loop-r-test.true

pub slice_bounds-write_pair-end : goal.slice_bounds-write_pair-end
slice_bounds-write_pair-end c =
    omega (arith, pair_inside c.args.sizes c.loop-r.r c.requires.caches_fit.limits c.loop-r-test.true, as_long (goal.at.slice_bounds-write_pair-end c).At-loop-r)

pub write_pair-requires : goal.write_pair-requires
write_pair-requires c =
    let asked = pair_asked c.args.sizes c.args.n c.args.keys.now c.args.values.now c.args.p c.loop-r.r c.loop-r-test.true _ _ c.row.ensures c.row-in-loop-r.ensures c.requires.caches_fit c.requires.p_lt_n c.requires.p_value c.loop-r.bytes (as_long (goal.at.write_pair-requires c).At-loop-r) in
    record { bytes_len = asked.0; key_value = asked.1 }

pub loop-r-preserved : goal.loop-r-preserved
loop-r-preserved c =
    let bytes = c.write_pair.ensures ∙ pair_is c.args.sizes c.args.n c.args.keys.now c.args.values.now c.args.p c.loop-r.r c.loop-r-test.true _ _ c.row.ensures c.row-in-loop-r.ensures in
    position_more c.args.sizes c.args.n c.args.keys.now c.args.values.now c.requires.caches_fit c.args.p c.requires.p_lt_n (headed (goal.at.loop-r-preserved c).At-loop-r) (headed_long (goal.at.loop-r-preserved c).At-loop-r) c.loop-r.r c.loop-r.bytes _ c.loop-r-test.true c.loop-r.invariant bytes

pub returns : goal.returns
returns c =
    c.loop-r.invariant
    ∙ position_all c.args.sizes c.args.n c.args.keys.now c.args.values.now c.requires.caches_fit c.args.p c.requires.p_lt_n (headed (goal.at.returns c).At-loop-r) (headed_long (goal.at.returns c).At-loop-r) c.loop-r.r (omega (arith, c.loop-r-test.false))
