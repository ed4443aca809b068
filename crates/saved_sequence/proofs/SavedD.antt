-- Example D's two positions, saved by a begin and two appends, the file whole and cut inside the second, and a recording that goes on from either. By computation. Assumes nothing.
use mathlib.Core.Path.{◌≡◌, refl}
use mathlib.Core.List.{List, [], ◌∷◌, ◌++◌}
use Prim.Native.Nat.{zero, suc}
use native.Mathlib.Omega.{arith}
use lib.Dec.{T}
use lib.Ieee.{Float, nan, binary32, fits}
use lib.ListN.{length, get_or, take, replicate}
use Rattle.call.specs.Profile.{general, step, profile_holds}
use Rattle.attention.specs.Outcomes.{attention_of}
use Rattle.attention.specs.Table.{call_e}
use Rattle.session_file.specs.Writer.{Written, written, begin_of, append_of, saved}
use Rattle.session_laws.specs.Statements.{AllFit}
use Rattle.sequence.specs.Positions.{Position, key_cache, value_cache}
use Rattle.sequence.specs.Chunks.{entry_run, start, positions_of, history_after}
use Rattle.examples.specs.TwoChunks.{first_chunk, second_chunk}
use Rattle.saved_sequence.specs.Resumed.{sizes_for, SavedBy, begun, added, cut, Resumes}
use Rattle.saved_sequence.proofs.Through.{saved_resumes}

abbrev one : List Position
one = positions_of call_e (first_chunk general)

abbrev two : List Position
two = positions_of call_e (second_chunk step)

abbrev empty : Written
empty = begin_of (replicate 42 0) (sizes_for call_e)

abbrev first : Written
first = append_of empty.buffer 14 1 (key_cache call_e one) (value_cache call_e one)

abbrev second : Written
second = append_of first.buffer 28 1 (key_cache call_e two) (value_cache call_e two)

saved_none : empty ≡ written (saved 0 14) empty.buffer
unfolding begin_of
saved_none = refl

saved_one : first ≡ written (saved 1 28) first.buffer
unfolding begin_of append_of key_cache value_cache positions_of
saved_one = refl

saved_two : second ≡ written (saved 2 42) second.buffer
unfolding begin_of append_of key_cache value_cache positions_of
saved_two = refl

-- each cache has one element, an f32
single : (cache : List Float) → length cache ≡ 1 → T (fits binary32 (get_or cache 0 nan)) → AllFit cache
single cache e f zero l = f
single cache e f (suc i) l = absurd (omega (arith, l, e))

both_fit : (AllFit (key_cache call_e one) × AllFit (value_cache call_e one)) × (AllFit (key_cache call_e two) × AllFit (value_cache call_e two))
unfolding key_cache value_cache positions_of fits
both_fit = ((single (key_cache call_e one) refl tt, single (value_cache call_e one) refl tt), (single (key_cache call_e two) refl tt, single (value_cache call_e two) refl tt))

both_saved : SavedBy call_e (take 42 second.buffer) (one ++ two)
unfolding positions_of
both_saved =
    added first.buffer second.buffer 28 2 42 one two
    (added empty.buffer first.buffer 14 1 28 [] one (begun (replicate 42 0) empty.buffer 0 14 saved_none) both_fit.0.0 both_fit.0.1 saved_one)
    both_fit.1.0 both_fit.1.1 saved_two

-- the history of the two chunks is what was saved
same_history : history_after entry_run call_e start [] (first_chunk general ∷ second_chunk step ∷ []) ≡ one ++ two
unfolding history_after positions_of profile_holds attention_of
same_history = refl

pub resumes_of_D : Resumes call_e (first_chunk general ∷ second_chunk step ∷ []) (take 42 second.buffer)
resumes_of_D = (saved_resumes call_e (take 42 second.buffer) (one ++ two) both_saved).resumes (first_chunk general ∷ second_chunk step ∷ []) same_history

-- one byte less, and the second is not whole: what is left is the first
long : length (take 42 second.buffer) ≡ 42
unfolding begin_of append_of key_cache value_cache positions_of
long = refl

one_left : SavedBy call_e (take 41 (take 42 second.buffer)) one
unfolding positions_of
one_left = cut (take 42 second.buffer) 41 (one ++ two) both_saved (omega arith) (omega (arith, long))

first_history : history_after entry_run call_e start [] (first_chunk general ∷ []) ≡ one
unfolding history_after positions_of profile_holds attention_of
first_history = refl

pub resumes_of_D_cut : Resumes call_e (first_chunk general ∷ []) (take 41 (take 42 second.buffer))
resumes_of_D_cut = (saved_resumes call_e (take 41 (take 42 second.buffer)) one one_left).resumes (first_chunk general ∷ []) first_history
