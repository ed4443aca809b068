use mathlib.Core.Path.{◌≡◌, sym, ap, ◌∙◌, subst}
use Prim.Native.Nat.{ℕ, ◌+◌, ◌*◌, ◌/◌, ◌%◌, ◌≤◌, ◌<◌, ◌-◌}
use native.Mathlib.Omega.{arith}
use mathlib.Core.List.{List}
use lib.ListN.{length, get_or, take, drop}
use lib.Ieee.{Float, nan}
use Rattle.tensor_laws.proofs.Parts.{with_part, length_part}
use Rattle.records.specs.Numbers.{f32_at, row_at}
use Rattle.session_file.specs.Sizes.{rows_of, pair_length}
use Rattle.session_file.specs.Reader.{cache_at, file_cell}
use Rattle.session_file.proofs.Limits.{sizes→facts}
use Rattle.session_reader.proofs.Products.{rows_most}
use Rattle.session_reader.proofs.Rows.{row_from, RowFacts, row_facts, pattern_sound, length_row, row_read}
use Rattle.session_reader.proofs.Loads.{LoadedTo, loaded_next, loaded_all}
use Rattle.session_load.proofs.load_cache.Goals as goal
use Rattle.session_load.proofs.load_cache.Goals.{After-record_start}

-- The numbers do not wrap, and the parts that are lent are inside.

pub overflow_mul-rows : goal.overflow_mul-rows
overflow_mul-rows c = let f = sizes→facts c.args.sizes c.requires.sizes_value in omega (arith, f.rows)

pub overflow_add-pair : goal.overflow_add-pair
overflow_add-pair c = let f = sizes→facts c.args.sizes c.requires.sizes_value in omega (arith, f.pair)

pub overflow_mul-pair : goal.overflow_mul-pair
overflow_mul-pair c = let f = sizes→facts c.args.sizes c.requires.sizes_value in omega (arith, f.pair)

pub overflow_mul-i-end : goal.overflow_mul-i-end
overflow_mul-i-end c = omega (arith, rows_most c.args.sizes c.args.n c.requires.sizes_value c.requires.n_bound)

-- the row of a turn
facts_at : (c : After-record_start) → RowFacts c.args.sizes c.args.n c.args.behind c.args.size c.loop-i.i
facts_at c =
    row_facts c.args.sizes c.args.n c.args.behind c.args.size c.loop-i.i c.requires.sizes_value c.requires.size_bound c.loop-i-test.true

-- the row ends inside the file
inside : (c : After-record_start)
    → let a = c.args in
    c.record_start.result + 6 + c.loop-i.i % rows_of a.sizes * ((a.sizes.size + a.sizes.vsize) * 4) + a.behind + a.size * 4 ≤ length a.file.now
inside c =
    let a = c.args in
    let f = row_facts a.sizes a.n a.behind a.size c.loop-i.i c.requires.sizes_value c.requires.size_bound c.loop-i-test.true in
    omega (arith, f.from, c.record_start.ensures, c.requires.n_in_bounds)

-- the row ends inside the cache, whose length is as it was
row_number : (c : After-record_start)
    → let a = c.args in
    let i = c.loop-i.i in
    let rows = rows_of a.sizes in
    (i % rows * a.n + i / rows < 524288) × ((i % rows * a.n + i / rows) * a.size + a.size ≤ length c.loop-i.cache) × (length c.loop-i.cache ≡ length a.cache.now)
row_number c =
    let a = c.args in
    let l = c.loop-i.invariant.long in
    let f = row_facts a.sizes a.n a.behind a.size c.loop-i.i c.requires.sizes_value c.requires.size_bound c.loop-i-test.true in
    (omega (arith, f.number, rows_most a.sizes a.n c.requires.sizes_value c.requires.n_bound), omega (arith, f.to), l ∙ sym c.requires.cache_len)

-- where the row begins in the file
abbrev from_of : After-record_start → ℕ
from_of c = c.record_start.result + 6 + c.loop-i.i % rows_of c.args.sizes * pair_length c.args.sizes + c.args.behind

-- where it begins in the cache
abbrev to_of : After-record_start → ℕ
to_of c =
    let a = c.args in
    (c.loop-i.i % rows_of a.sizes * a.n + c.loop-i.i / rows_of a.sizes) * a.size

begins : (c : After-record_start)
    → let a = c.args in
    from_of c ≡ row_from a.sizes a.behind (c.loop-i.i / rows_of a.sizes) (c.loop-i.i % rows_of a.sizes)
begins c =
    let a = c.args in
    ap (λ (x : ℕ). x + 6 + c.loop-i.i % rows_of a.sizes * pair_length a.sizes + a.behind) c.record_start.ensures

-- the parts that are lent
file_part : (c : After-record_start)
    → length (take (from_of c + c.args.size * 4 - from_of c) (drop (from_of c) c.args.file.now)) ≡ c.args.size * 4
file_part c =
    let h = inside c in
    length_part (from_of c) (from_of c + c.args.size * 4 - from_of c) c.args.file.now (omega arith) ∙ omega arith

cache_part : (c : After-record_start)
    → length (take (to_of c + c.args.size - to_of c) (drop (to_of c) c.loop-i.cache)) ≡ c.args.size
cache_part c =
    let h = row_number c in
    length_part (to_of c) (to_of c + c.args.size - to_of c) c.loop-i.cache (omega arith) ∙ omega arith

pub overflow_add-from : goal.overflow_add-from
overflow_add-from c = omega (arith, inside (goal.at.overflow_add-from c).After-record_start)

pub overflow_mul-from : goal.overflow_mul-from
overflow_mul-from c = omega (arith, inside (goal.at.overflow_mul-from c).After-record_start)

pub overflow_add-from-in-loop-i : goal.overflow_add-from-in-loop-i
overflow_add-from-in-loop-i c = omega (arith, inside (goal.at.overflow_add-from-in-loop-i c).After-record_start)

pub overflow_add-from-in-loop-i-2 : goal.overflow_add-from-in-loop-i-2
overflow_add-from-in-loop-i-2 c = omega (arith, inside (goal.at.overflow_add-from-in-loop-i-2 c).After-record_start)

pub overflow_mul-to : goal.overflow_mul-to
overflow_mul-to c = omega (arith, row_number (goal.at.overflow_mul-to c).After-record_start)

pub overflow_add-to : goal.overflow_add-to
overflow_add-to c = omega (arith, row_number (goal.at.overflow_add-to c).After-record_start)

pub overflow_mul-to-in-loop-i : goal.overflow_mul-to-in-loop-i
overflow_mul-to-in-loop-i c = omega (arith, row_number (goal.at.overflow_mul-to-in-loop-i c).After-record_start)

pub overflow_mul-size : goal.overflow_mul-size
overflow_mul-size c = omega (arith, inside (goal.at.overflow_mul-size c).After-record_start)

pub overflow_add-from-in-loop-i-3 : goal.overflow_add-from-in-loop-i-3
overflow_add-from-in-loop-i-3 c = omega (arith, inside (goal.at.overflow_add-from-in-loop-i-3 c).After-record_start)

pub slice_bounds-read_row-end : goal.slice_bounds-read_row-end
slice_bounds-read_row-end c = omega (arith, inside (goal.at.slice_bounds-read_row-end c).After-record_start)

pub overflow_add-to-in-loop-i : goal.overflow_add-to-in-loop-i
overflow_add-to-in-loop-i c = omega (arith, row_number (goal.at.overflow_add-to-in-loop-i c).After-record_start)

pub offset_bounds-cache-to : goal.offset_bounds-cache-to
offset_bounds-cache-to c = omega (arith, row_number (goal.at.offset_bounds-cache-to c).After-record_start)

pub slice_bounds-read_row-end-in-loop-i : goal.slice_bounds-read_row-end-in-loop-i
slice_bounds-read_row-end-in-loop-i c = omega (arith, row_number (goal.at.slice_bounds-read_row-end-in-loop-i c).After-record_start)

-- The loop and the result.

pub read_row-requires : goal.read_row-requires
read_row-requires c =
    let p = (goal.at.read_row-requires c).After-record_start in
    let i = c.loop-i.i in
    let f = facts_at p in
    let from = from_of p in
    let long = from + c.args.size * 4 - from in
    let m = file_part p in
    let t = cache_part p in record {
      bytes_len = omega arith;
      by_index = λ k h. pattern_sound c.args.sizes c.args.file.now c.args.behind c.args.size (i / rows_of c.args.sizes) (i % rows_of c.args.sizes) k (c.requires.by_index (i / rows_of c.args.sizes) f.position) c.requires.size_bound c.requires.behind_value f.row (omega (arith, h)) from long (begins p) (omega arith);
    }

pub loop-i-preserved : goal.loop-i-preserved
loop-i-preserved c =
    let p = (goal.at.loop-i-preserved c).After-record_start in
    let r = c.read_row in
    let l = c.loop-i in
    let a = c.args in
    let rows = rows_of a.sizes in
    let some = (sizes→facts a.sizes c.requires.sizes_value).rows.0 in
    let from = from_of p in
    let long = from + a.size * 4 - from in
    let row = r.new.row in
    let e : row ≡ row_at (take long (drop from a.file.now)) 0 a.size = r.ensures ∙ ap (row_at (take long (drop from a.file.now)) 0) (cache_part p) in
    let cells : (k : ℕ) → k < a.size → get_or row k nan ≡ file_cell a.sizes a.file.now a.behind (l.i / rows) (l.i % rows) k =
    λ k h. ap (λ (t : List Float). get_or t k nan) e
    ∙ row_read from long a.size k a.file.now nan (omega arith) h
    ∙ ap (λ (x : ℕ). f32_at a.file.now (x + k * 4)) (begins p) in
    let whole : a.size ≡ to_of p + a.size - to_of p = omega arith in
    subst (λ (m : ℕ). LoadedTo rows a.n a.size (file_cell a.sizes a.file.now a.behind) (with_part (to_of p) m l.cache row) (l.i + 1)) whole
    (loaded_next rows a.n a.size (file_cell a.sizes a.file.now a.behind) l.cache l.i some c.loop-i-test.true row (ap length e ∙ length_row (take long (drop from a.file.now)) 0 a.size) l.invariant cells)

pub returns : goal.returns
unfolding cache_at
returns c =
    let a = c.args in
    loaded_all (rows_of a.sizes) a.n a.size (file_cell a.sizes a.file.now a.behind) c.loop-i.cache c.loop-i.i c.loop-i-test.false c.loop-i.invariant
