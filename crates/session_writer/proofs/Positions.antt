-- The record of a position while its rows are written, and the records of all positions while they are. Assumes nothing.
use mathlib.Core.Path.{◌≡◌, sym, ap, ◌∙◌}
use mathlib.Core.List.{List, [], ◌++◌}
use Prim.Native.Nat.{ℕ, ◌+◌, ◌-◌, ◌*◌, ◌≤◌, ◌<◌}
use native.Mathlib.Nat.{zero-add}
use native.Mathlib.Omega.{arith}
use lib.ListN.{length}
use lib.Ieee.{Float}
use Rattle.tensor_laws.proofs.Parts.{with_part}
use Rattle.records.specs.Records.{head_bytes, written_at}
use Rattle.session_file.specs.declared.Sizes.{Sizes}
use Rattle.session_file.specs.Below.{joined}
use Rattle.session_file.specs.Sizes.{rows_of, pair_length, payload_length, record_length}
use Rattle.session_file.specs.Form.{session_of, pair_bytes, position_bytes}
use Rattle.session_writer.specs.Fits.{CachesFit}
use Rattle.session_writer.proofs.Rows.{length_pair_bytes, length_pairs, length_position_bytes}
use Rattle.session_writer.proofs.Fronts.{front_to, front_none, length_front_to, front_more, front_all}

-- ---- one position

-- its head and its first r pairs of rows, and then what stood there
abbrev pub position_to : Sizes → (n : ℕ) → (keys values : List Float) → (p r : ℕ) → List ℕ → List ℕ
position_to z n keys values p r b = front_to (head_bytes (payload_length z) 2) (pair_bytes (session_of z n keys values) p) (pair_length z) r b

pub position_none : (z : Sizes) (n : ℕ) (keys values : List Float) (p : ℕ) (s b : List ℕ) → b ≡ written_at s 0 (head_bytes (payload_length z) 2) → b ≡ position_to z n keys values p 0 b
position_none z n keys values p s b e = front_none (head_bytes (payload_length z) 2) (pair_bytes (session_of z n keys values) p) (pair_length z) s b e

module _ (z : Sizes) (n : ℕ) (keys values : List Float) (fit : CachesFit z n (length keys) (length values)) (p : ℕ) (h : p < n) (b : List ℕ) (long : length b ≡ record_length z) where
  each_pair : (r : ℕ) → r < rows_of z → length (pair_bytes (session_of z n keys values) p r) ≡ pair_length z
  each_pair r l = length_pair_bytes z n keys values fit p r h l

  pub length_position_to : (r : ℕ) → r ≤ rows_of z → length (position_to z n keys values p r b) ≡ record_length z
  length_position_to r l =
      length_front_to (head_bytes (payload_length z) 2) (pair_bytes (session_of z n keys values) p) (pair_length z) (rows_of z) b each_pair long r l ∙ long

  -- a pair of rows more comes back
  pub position_more : (r : ℕ) (o v : List ℕ) → r < rows_of z → o ≡ position_to z n keys values p r b → v ≡ pair_bytes (session_of z n keys values) p r
      → let from = 6 + r * pair_length z in
      with_part from (from + pair_length z - from) o v ≡ position_to z n keys values p (r + 1) b
  position_more r o v l g d =
      let from = 6 + r * pair_length z in
      front_more (head_bytes (payload_length z) 2) (pair_bytes (session_of z n keys values) p) (pair_length z) (rows_of z) b each_pair long r (from + pair_length z - from) o v l (omega arith) g d

  pub position_all : (r : ℕ) → r ≡ rows_of z → position_to z n keys values p r b ≡ position_bytes (session_of z n keys values) p
  unfolding position_bytes
  position_all r e =
      let pairs = joined (pair_bytes (session_of z n keys values) p) (rows_of z) in
      let all : length pairs ≡ payload_length z = length_pairs z n keys values fit p h (rows_of z) (omega arith) in
      front_all (head_bytes (payload_length z) 2) (pair_bytes (session_of z n keys values) p) (pair_length z) (rows_of z) b each_pair long r e
      ∙ ap (λ (m : ℕ). head_bytes m 2 ++ pairs) (sym all)

-- ---- all positions

-- the first p positions, and then what stood there
abbrev pub positions_to : Sizes → (n : ℕ) → (keys values : List Float) → (p : ℕ) → List ℕ → List ℕ
positions_to z n keys values p b = front_to [] (position_bytes (session_of z n keys values)) (record_length z) p b

pub positions_none : (z : Sizes) (n : ℕ) (keys values : List Float) (b : List ℕ) → b ≡ positions_to z n keys values 0 b
positions_none z n keys values b = front_none [] (position_bytes (session_of z n keys values)) (record_length z) b b (λ _. b)

module _ (z : Sizes) (n : ℕ) (keys values : List Float) (fit : CachesFit z n (length keys) (length values)) (b : List ℕ) (long : length b ≡ n * record_length z) where
  each_position : (p : ℕ) → p < n → length (position_bytes (session_of z n keys values) p) ≡ record_length z
  each_position p h = length_position_bytes z n keys values fit p h

  behind : length b ≡ 0 + n * record_length z
  behind = long ∙ sym (zero-add (n * record_length z))

  pub length_positions_to : (p : ℕ) → p ≤ n → length (positions_to z n keys values p b) ≡ n * record_length z
  length_positions_to p h = length_front_to [] (position_bytes (session_of z n keys values)) (record_length z) n b each_position behind p h ∙ long

  pub positions_more : (p from k : ℕ) (o v : List ℕ) → p < n → from ≡ p * record_length z → k ≡ record_length z → o ≡ positions_to z n keys values p b → v ≡ position_bytes (session_of z n keys values) p
      → with_part from k o v ≡ positions_to z n keys values (p + 1) b
  positions_more p from k o v l a e g d =
      ap (λ (m : ℕ). with_part m k o v) (a ∙ sym (zero-add (p * record_length z)))
      ∙ front_more [] (position_bytes (session_of z n keys values)) (record_length z) n b each_position behind p k o v l e g d

  pub positions_all : (p : ℕ) → p ≡ n → positions_to z n keys values p b ≡ joined (position_bytes (session_of z n keys values)) n
  positions_all p e = front_all [] (position_bytes (session_of z n keys values)) (record_length z) n b each_position behind p e
