-- The head of a record: what was written is recognised, and what is recognised is what would be written. Assumes nothing.
use mathlib.Core.Path.{◌≡◌, sym, ◌∙◌}
use mathlib.Core.Bool.{true, ◌&&◌}
use mathlib.Core.List.{List, [], ◌++◌}
use Prim.Native.Nat.{ℕ, ◌+◌, ◌≤◌, ◌<◌}
use native.Mathlib.Omega.{arith}
use borrow.Author.Tests.{eq-eqb, eqb-true}
use lib.Dec.{eqb}
use lib.ListN.{length, get_or, take, drop}
use Rattle.bool_laws.proofs.Tests.{both_true}
use Rattle.records.specs.Numbers.{u16_bytes, u32_bytes, u16_at, u32_at}
use Rattle.records.specs.Records.{head_bytes, head_is}
use Rattle.records.proofs.Places.{head_is_drop, behind}
use Rattle.records.proofs.Numbers.{append_small, u16_bytes_small, u32_bytes_small, u16_written, u32_written, u16_bytes_lem, u32_bytes_lem, take_join}

pub head_bytes_small : (long kind : ℕ) → long < 4294967296 → kind < 65536 → (k : ℕ) → get_or (head_bytes long kind) k 0 < 256
head_bytes_small long kind hl hk = append_small (u32_bytes long) (u16_bytes kind) (u32_bytes_small long hl) (u16_bytes_small kind hk)

pub head_written : (long kind : ℕ) → long < 4294967296 → kind < 65536 → (p q : List ℕ) → head_is (p ++ (head_bytes long kind ++ q)) (length p) long kind ≡ true
head_written long kind hl hk p q =
    let s = head_bytes long kind ++ q in
    let l : eqb (u32_at s 0) long ≡ true = eq-eqb (u32_at s 0) long (u32_written long hl [] (u16_bytes kind ++ q)) in
    let k : eqb (u16_at s 4) kind ≡ true = eq-eqb (u16_at s 4) kind (u16_written kind hk (u32_bytes long) q) in
    behind (λ t i. head_is t i long kind) (λ a i t. head_is_drop a i long kind t) p s
    ∙ (λ j. l j && k j)

pub head_bytes_lem : (s : List ℕ) → ((k : ℕ) → get_or s k 0 < 256) → (i long kind : ℕ) → i + 6 ≤ length s → head_is s i long kind ≡ true → head_bytes long kind ≡ take 6 (drop i s)
head_bytes_lem s small i long kind h e =
    let t = both_true (eqb (u32_at s i) long) (eqb (u16_at s (i + 4)) kind) e in
    let l : u32_at s i ≡ long = eqb-true (u32_at s i) long t.0 in
    let k : u16_at s (i + 4) ≡ kind = eqb-true (u16_at s (i + 4)) kind t.1 in
    (λ j. u32_bytes (sym l j) ++ u16_bytes (sym k j))
    ∙ (λ j. u32_bytes_lem s small i (omega arith) j ++ u16_bytes_lem s small (i + 4) (omega arith) j)
    ∙ take_join s i 4 2
