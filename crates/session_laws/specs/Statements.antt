-- What is promised of saved sessions. Definitions only.
use Rattle.std.specs.Prelude.{◌≡◌, ◌⊎◌, List, [], ℕ, suc, ◌+◌, ◌-◌, ◌/◌, ◌≤◌, ◌<◌, T, Float, length, get_or, take, drop, Err}
use Rattle.std.specs.Float.{nan, binary32}
use Rattle.std.specs.Float.Ieee.{fits}
use Rattle.session_file.specs.declared.Sizes.{Sizes}
use Rattle.call.specs.declared.Refusal.{Refusal}
use Rattle.call.specs.declared.Refusal.TheVariants.{Limits, Position, Record}
use Rattle.session_file.specs.Sizes.{most_positions, record_length, record_start}
use Rattle.session_file.specs.Form.{Session, session_of, file_of}
use Rattle.session_file.specs.Reader.{read_of, session_at, session_read}
use Rattle.session_laws.specs.Sessions.{Savable, first_positions, both_of}

-- the number of positions that are whole before byte c of a file of those sizes
abbrev pub whole_in : Sizes → ℕ → ℕ
whole_in z c = (c - 14) / record_length z

-- A file that is read as n positions of sizes z gives them within every limit, and their own file is its bytes up to the last of them. Cut after any byte c, also inside a tail that is cut already, it is refused at byte 0 where that is in the first record, and has exactly the positions that are whole in it otherwise.
pub record ReadHolds (file : List ℕ) (z : Sizes) (n : ℕ) : Type 0 where
  pub within : Savable (session_at z file n)
  pub rewritten : ((k : ℕ) → get_or file k 0 < 256) → file_of (session_at z file n) ≡ take (record_start z n) file
  pub missing : (c : ℕ) → c < 14 → read_of (take c file) ≡ Err (Record 0)
  pub cut : (c : ℕ) → 14 ≤ c → c ≤ length file → read_of (take c file) ≡ session_read z (whole_in z c)
  pub fewer : (c : ℕ) → 14 ≤ c → c ≤ length file → whole_in z c ≤ n
  pub same : (c : ℕ) → 14 ≤ c → c ≤ length file → session_at z (take c file) (whole_in z c) ≡ first_positions (session_at z file n) (whole_in z c)

-- A file of sizes z that is refused in the record of position n: by 9, which the record's last byte shows, or by 11 or 1, which the sixth byte of its head shows. Every cut before that byte is read as the positions that are whole in it, and every later one is refused alike.
pub record RefusedHolds (file : List ℕ) (z : Sizes) (r : Refusal) : Type 0 where
  pub n : ℕ
  -- how many bytes show the fault
  pub shown : ℕ
  pub where_shown_is : ((r ≡ Position n) × (shown ≡ record_start z n + record_length z)) ⊎ (((r ≡ Record (record_start z n)) ⊎ ((r ≡ Limits) × (n ≡ most_positions))) × (shown ≡ record_start z n + 6))
  pub inside : shown ≤ length file
  pub missing : (c : ℕ) → c < 14 → read_of (take c file) ≡ Err (Record 0)
  pub before : (c : ℕ) → 14 ≤ c → c < shown → read_of (take c file) ≡ session_read z (whole_in z c)
  pub after : (c : ℕ) → shown ≤ c → c ≤ length file → read_of (take c file) ≡ Err r

-- The file of a session is read as that session, and every cut of it as those of its positions that are whole.
pub record SavedHolds (s : Session) : Type 0 where
  pub long : length (file_of s) ≡ record_start s.sizes s.positions
  pub reads : read_of (file_of s) ≡ session_read s.sizes s.positions
  pub same : session_at s.sizes (file_of s) s.positions ≡ s
  pub missing : (c : ℕ) → c < 14 → read_of (take c (file_of s)) ≡ Err (Record 0)
  pub cut : (c : ℕ) → 14 ≤ c → c ≤ length (file_of s) → read_of (take c (file_of s)) ≡ session_read s.sizes (whole_in s.sizes c)
  pub first : (c : ℕ) → 14 ≤ c → c ≤ length (file_of s) → session_at s.sizes (take c (file_of s)) (whole_in s.sizes c) ≡ first_positions s (whole_in s.sizes c)

-- every element is an f32
abbrev pub AllFit : List Float → Type 0
AllFit cache = (i : ℕ) → i < length cache → T (fits binary32 (get_or cache i nan))

-- What holds where a writer was lent a buffer and sizes z to begin a file with, and says that m positions are saved in u bytes of the buffer that it left: there are none, and the reader finds a file of those sizes.
pub record BeginHolds (buffer : List ℕ) (z : Sizes) (m u : ℕ) (left : List ℕ) : Type 0 where
  pub none : m ≡ 0
  pub end : u ≡ 14
  pub inside : u ≤ length left
  pub behind : drop u left ≡ drop u buffer
  pub reads : read_of (take u left) ≡ session_read z 0
  pub session : session_at z (take u left) 0 ≡ session_of z 0 [] []

-- What holds where a writer was lent a buffer of which a file has the first `used` bytes, and positions to add, and says that m positions are saved in u bytes of the buffer that it left.
pub record AppendHolds (buffer : List ℕ) (used count : ℕ) (keys values : List Float) (m u : ℕ) (left : List ℕ) : Type 0 where
  -- the file was read as n positions of sizes z
  pub z : Sizes
  pub n : ℕ
  pub file : read_of (take used buffer) ≡ session_read z n
  pub total : m ≡ n + count
  pub end : u ≡ record_start z m
  -- position p is among the saved exactly where the last byte of its record stands before byte u
  pub saved : (p : ℕ) → p < m → record_start z (suc p) ≤ u
  pub only : (p : ℕ) → record_start z (suc p) ≤ u → p < m
  -- the last byte of the last one stands in the buffer, which is as long as before, and the same behind it and before the first that was added
  pub inside : u ≤ length left
  pub behind : drop u left ≡ drop u buffer
  pub before : take (record_start z n) left ≡ take (record_start z n) buffer
  -- without what is behind it the reader gives m positions: those of the file, and then those that were added
  pub reads : read_of (take u left) ≡ session_read z m
  pub session : session_at z (take u left) m ≡ both_of (session_at z (take used buffer) n) (session_of z count keys values)
  -- and after any cut those that are whole
  pub cut : (c : ℕ) → 14 ≤ c → c ≤ u → read_of (take c left) ≡ session_read z (whole_in z c)
