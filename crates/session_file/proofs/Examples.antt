-- The definitions on the worked example of the form, one position with all sizes 1, key 1 and value 2: its bytes, what a reader makes of them, of every cut and of damaged ones, and what a writer makes of them. By computation. Assumes nothing.
use Rattle.std.specs.Prelude.{Err}
use mathlib.Core.Path.{◌≡◌, refl}
use mathlib.Core.List.{List, [], ◌∷◌, ◌++◌, map}
use mathlib.Core.Bool.{true, false}
use Prim.Native.Nat.{ℕ, ◌+◌, ◌*◌}
use lib.IntN.{pos}
use lib.Ieee.{Float, nan, inf, fin, of_bits, of_fields, odd, to_bits, size, span, climb, le, lt, eq, neg}
use lib.Count.{count_trailing_zeros}
use lib.ListN.{take, drop, replicate}
use Rattle.bool_laws.specs.Counts.{count_where}
use Rattle.tensor_laws.specs.Layout.{tabulate, tensor_of}
use Rattle.call.specs.Contents.{element_fault}
use Rattle.records.specs.Numbers.{f32_bytes, row_bytes, f32_at}
use Rattle.session_file.specs.declared.Sizes.{Sizes}
use Rattle.call.specs.declared.Refusal.TheVariants.{Limits, InputLength, Position, Record, Room}
use Rattle.session_file.specs.Reader.{Reading, session_read}
use Rattle.session_file.specs.Below.{least_from, joined}
use Rattle.session_file.specs.Sizes.{sizes_hold}
use Rattle.session_file.specs.Form.{Session, session_of, cache_of, pair_bytes, position_bytes, file_of}
use Rattle.session_file.specs.Reader.{next_of, position_fault, walk_from, read_of, cache_at, session_at}
use Rattle.session_file.specs.Writer.{Written, refused_with, begin_of, row_fault, rows_fault, written_behind, appended_to, append_of, saved}

-- all sizes 1
abbrev ones : Sizes
ones = record { batches = 1; kvheads = 1; size = 1; vsize = 1 }

abbrev one : Float
one = fin false 1 (pos 0)

abbrev two : Float
two = fin false 1 (pos 1)

abbrev example : Session
example = session_of ones 1 (one ∷ []) (two ∷ [])

-- 08000000 0100 0100010001000100 08000000 0200 0000803F 00000040
abbrev first : List ℕ
first = 8 ∷ 0 ∷ 0 ∷ 0 ∷ 1 ∷ 0 ∷ 1 ∷ 0 ∷ 1 ∷ 0 ∷ 1 ∷ 0 ∷ 1 ∷ 0 ∷ []

abbrev position : List ℕ
position = 8 ∷ 0 ∷ 0 ∷ 0 ∷ 2 ∷ 0 ∷ 0 ∷ 0 ∷ 128 ∷ 63 ∷ 0 ∷ 0 ∷ 0 ∷ 64 ∷ []

bytes_of_the_example : file_of example ≡ first ++ position
unfolding file_of joined position_bytes pair_bytes row_bytes f32_bytes to_bits size span climb
bytes_of_the_example = refl

session_of_the_example : session_at ones (first ++ position) 1 ≡ example
unfolding session_at cache_at cache_of tensor_of tabulate f32_at of_bits of_fields odd count_trailing_zeros
session_of_the_example = refl

-- ---- the reader

-- every cut: 11 at byte 0 without the whole first record, no position without the whole second one
cuts_of_the_example : map (λ n. read_of (take n (first ++ position))) (tabulate 29 (λ n. n)) ≡ replicate 14 (Err (Record 0)) ++ (replicate 14 (session_read ones 0) ++ (session_read ones 1 ∷ []))
unfolding read_of sizes_hold walk_from next_of position_fault count_where element_fault f32_at of_bits of_fields odd count_trailing_zeros le lt eq neg tabulate
cuts_of_the_example = refl

-- a record of kind 2 with that payload length, key and value bytes
abbrev position_of : ℕ → List ℕ → List ℕ → List ℕ
position_of long key value = (long ∷ 0 ∷ 0 ∷ 0 ∷ 2 ∷ 0 ∷ []) ++ (key ++ value)

abbrev one_bytes : List ℕ
one_bytes = 0 ∷ 0 ∷ 128 ∷ 63 ∷ []

abbrev infinite : List ℕ
infinite = 0 ∷ 0 ∷ 128 ∷ 127 ∷ []

damaged : map read_of (
    -- a wrong kind and a wrong length of the first record
    (8 ∷ 0 ∷ 0 ∷ 0 ∷ 2 ∷ 0 ∷ drop 6 first)
    ∷ (8 ∷ 0 ∷ 1 ∷ 0 ∷ 1 ∷ 0 ∷ drop 6 first)
    -- a head size of 0, and a batch of 9 in a whole first record
    ∷ (take 10 first ++ (0 ∷ 0 ∷ 1 ∷ 0 ∷ []))
    ∷ (take 6 first ++ (9 ∷ 0 ∷ drop 8 first))
    -- the same sizes in a cut one
    ∷ (take 6 first ++ (9 ∷ 0 ∷ 1 ∷ 0 ∷ []))
    -- a head with a payload one byte longer, cut right behind it; a second record of kind 1; a kind whose upper byte is not 0
    ∷ (first ++ (9 ∷ 0 ∷ 0 ∷ 0 ∷ 2 ∷ 0 ∷ []))
    ∷ (first ++ first)
    ∷ (first ++ (8 ∷ 0 ∷ 0 ∷ 0 ∷ 2 ∷ 1 ∷ drop 6 position))
    -- five bytes that are no head; an infinite key in a whole record, and in a cut one
    ∷ (first ++ (255 ∷ 255 ∷ 255 ∷ 255 ∷ 255 ∷ []))
    ∷ (first ++ (position ++ position_of 8 infinite one_bytes))
    ∷ (first ++ (position ++ position_of 8 infinite (0 ∷ 0 ∷ 128 ∷ [])))
    -- a wrong head before an infinite key, and behind one
    ∷ (first ++ (first ++ position_of 8 infinite one_bytes))
    ∷ (first ++ (position_of 8 one_bytes infinite ++ first))
    ∷ [])
    ≡ (Err (Record 0)
    ∷ Err (Record 0)
    ∷ Err Limits
    ∷ Err Limits
    ∷ Err (Record 0)
    ∷ Err (Record 14)
    ∷ Err (Record 14)
    ∷ Err (Record 14)
    ∷ session_read ones 0
    ∷ Err (Position 1)
    ∷ session_read ones 1
    ∷ Err (Record 14)
    ∷ Err (Position 0)
    ∷ [])
unfolding read_of sizes_hold walk_from next_of position_fault count_where element_fault f32_at of_bits of_fields odd count_trailing_zeros le lt eq neg
damaged = refl

-- the edges of the elements: -0, the least subnormal, 65,536 and -65,536 are sound; the next number above 65,536, infinities and a NaN are not
abbrev reads : List ℕ → Reading
reads key = read_of (first ++ position_of 8 key one_bytes)

edges : map reads (
    (0 ∷ 0 ∷ 0 ∷ 128 ∷ [])
    ∷ (1 ∷ 0 ∷ 0 ∷ 0 ∷ [])
    ∷ (0 ∷ 0 ∷ 128 ∷ 71 ∷ [])
    ∷ (0 ∷ 0 ∷ 128 ∷ 199 ∷ [])
    ∷ (1 ∷ 0 ∷ 128 ∷ 71 ∷ [])
    ∷ infinite
    ∷ (0 ∷ 0 ∷ 128 ∷ 255 ∷ [])
    ∷ (1 ∷ 0 ∷ 192 ∷ 255 ∷ [])
    ∷ [])
    ≡ (session_read ones 1 ∷ session_read ones 1 ∷ session_read ones 1 ∷ session_read ones 1 ∷ Err (Position 0) ∷ Err (Position 0) ∷ Err (Position 0) ∷ Err (Position 0) ∷ [])
unfolding read_of sizes_hold walk_from next_of position_fault count_where element_fault f32_at of_bits of_fields odd count_trailing_zeros le lt eq neg
edges = refl

-- ---- the 2,049th position: behind 2,048 whole ones a right head is refusal 1, whole or cut, a wrong one 11, and five bytes are a cut tail

abbrev most : List ℕ → Reading
most tail = walk_from ones (replicate (14 + 2048 * 14) 0 ++ tail) 0 2048

at_the_limit : map most (position ∷ take 6 position ∷ first ∷ take 5 position ∷ []) ≡ Err Limits ∷ Err Limits ∷ Err (Record 28686) ∷ session_read ones 2048 ∷ []
unfolding walk_from next_of
at_the_limit = refl

-- ---- the writer

abbrev spare : List ℕ
spare = 7 ∷ 7 ∷ []

begun : begin_of (replicate 14 9 ++ spare) ones ≡ record { answer = saved 0 14; buffer = first ++ spare }
unfolding begin_of sizes_hold
begun = refl

not_begun : begin_of (replicate 13 9) ones ≡ refused_with Room (replicate 13 9)
unfolding begin_of sizes_hold
not_begun = refl

-- sizes come before room
limits_first : begin_of [] (record { batches = 1; kvheads = 33; size = 1; vsize = 1 }) ≡ refused_with Limits []
unfolding begin_of sizes_hold
limits_first = refl

-- behind a cut tail, which is written over; bytes behind the new end stay
appended : append_of (first ++ (8 ∷ 0 ∷ 0 ∷ replicate 11 9 ++ spare)) 17 1 (one ∷ []) (two ∷ []) ≡ record { answer = saved 1 28; buffer = first ++ (position ++ spare) }
unfolding append_of appended_to written_behind least_from rows_fault row_fault read_of sizes_hold walk_from next_of position_fault count_where element_fault f32_at of_bits of_fields odd count_trailing_zeros le lt eq neg joined position_bytes pair_bytes row_bytes f32_bytes to_bits size span climb
appended = refl

-- the order of refusals: a file that ends behind the buffer, the file's own, a position too many, lengths, elements with the position as in the file, room; none is added at the end of the last whole record
abbrev adds : (used count : ℕ) (keys values : List Float) → Written
adds used count keys values = append_of (first ++ position) used count keys values

order : map (λ (w : Written). w.answer) (
    adds 29 1 [] []
    ∷ adds 13 4000 [] []
    ∷ adds 28 2048 [] []
    ∷ adds 28 2 (nan ∷ []) []
    ∷ adds 28 2 (one ∷ one ∷ []) (one ∷ inf true ∷ [])
    ∷ adds 28 2 (one ∷ one ∷ []) (one ∷ two ∷ [])
    ∷ adds 20 0 [] []
    ∷ [])
    ≡ Err Room ∷ Err (Record 0) ∷ Err Limits ∷ Err InputLength ∷ Err (Position 2) ∷ Err Room ∷ saved 0 14 ∷ []
unfolding append_of appended_to written_behind least_from rows_fault row_fault read_of sizes_hold walk_from next_of position_fault count_where element_fault f32_at of_bits of_fields odd count_trailing_zeros le lt eq neg
order = refl
