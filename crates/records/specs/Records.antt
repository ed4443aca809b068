-- Records: a head of six bytes, which is the length of the payload as a u32 and a kind as a u16, and the payload. Definitions only.
use Rattle.std.specs.Prelude.{Bool, ◌&&◌, List, ◌++◌, ℕ, ◌+◌, eqb, length, take, drop}
use Rattle.records.specs.Numbers.{u16_bytes, u32_bytes, u16_at, u32_at}

abbrev pub head_bytes : (long kind : ℕ) → List ℕ
head_bytes long kind = u32_bytes long ++ u16_bytes kind

abbrev pub record_bytes : (kind : ℕ) → (payload : List ℕ) → List ℕ
record_bytes kind payload = head_bytes (length payload) kind ++ payload

-- the six bytes from i on are the head of a record of that kind, whose payload has that length
abbrev pub head_is : List ℕ → (i long kind : ℕ) → Bool
head_is s i long kind = eqb (u32_at s i) long && eqb (u16_at s (i + 4)) kind

-- s with the bytes w from i on
abbrev pub written_at : List ℕ → ℕ → List ℕ → List ℕ
written_at s i w = take i s ++ (w ++ drop (i + length w) s)
