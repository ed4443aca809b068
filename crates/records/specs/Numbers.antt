-- Whole numbers and f32 values as bytes, little-endian: the bytes that are written, and what is read at a place. Definitions only.
use Rattle.std.specs.Prelude.{List, [], ◌∷◌, ◌++◌, ℕ, ◌+◌, ◌*◌, ◌/◌, ◌%◌, get_or, Float}
use Rattle.std.specs.Float.{binary32}
use Rattle.std.specs.Float.Ieee.{of_bits, to_bits}
use Rattle.tensor_laws.specs.Layout.{tabulate}

-- ---- as bytes

-- the lower byte, then the upper one; of a number below 2^16
abbrev pub u16_bytes : ℕ → List ℕ
u16_bytes n = n % 256 ∷ n / 256 ∷ []

-- the lower half, then the upper one; of a number below 2^32
abbrev pub u32_bytes : ℕ → List ℕ
u32_bytes n = u16_bytes (n % 65536) ++ u16_bytes (n / 65536)

-- the bits of an f32
unfoldable pub f32_bytes : Float → List ℕ
unfolding to_bits
f32_bytes x = u32_bytes (to_bits binary32 x)

unfoldable pub row_bytes : List Float → List ℕ
unfolding f32_bytes
row_bytes [] = []
row_bytes (x ∷ xs) = f32_bytes x ++ row_bytes xs

-- ---- read at byte i

abbrev pub byte_at : List ℕ → ℕ → ℕ
byte_at s i = get_or s i 0

abbrev pub u16_at : List ℕ → ℕ → ℕ
u16_at s i = byte_at s i + byte_at s (i + 1) * 256

abbrev pub u32_at : List ℕ → ℕ → ℕ
u32_at s i = u16_at s i + u16_at s (i + 2) * 65536

unfoldable pub f32_at : List ℕ → ℕ → Float
unfolding of_bits
f32_at s i = of_bits binary32 (u32_at s i)

-- a row of n elements
unfoldable pub row_at : List ℕ → ℕ → ℕ → List Float
unfolding tabulate f32_at
row_at s i n = tabulate n (λ k. f32_at s (i + k * 4))
