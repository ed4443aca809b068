-- A row whose elements are known is the row of the products. Assumes nothing.
use mathlib.Core.Path.{◌≡◌, sym, ap, ◌∙◌}
use mathlib.Core.List.{List, zip_with}
use Prim.Native.Nat.{ℕ, ◌<◌}
use lib.ListN.{length, get_or}
use lib.Ieee.{Float, nan}
use Rattle.tensor_laws.specs.Layout.{tabulate}
use Rattle.tensor_laws.proofs.Tabulate.{tabulate_ext, tabulate_get_d}
use Rattle.exponential.proofs.Blocks.{tabulate_zip}

pub products_by_index : (g : ℕ → Float → Float) (ns : List ℕ) (ps rs : List Float) → length ns ≡ length ps → length rs ≡ length ps
    → ((k : ℕ) → k < length ps → get_or rs k nan ≡ g (get_or ns k 0) (get_or ps k nan)) → rs ≡ zip_with g ns ps
products_by_index g ns ps rs e f h =
    sym (tabulate_get_d rs nan)
    ∙ ap (λ (n : ℕ). tabulate n (λ k. get_or rs k nan)) f
    ∙ tabulate_ext (length ps) (λ k. get_or rs k nan) (λ k. g (get_or ns k 0) (get_or ps k nan)) h
    ∙ tabulate_zip g ns ps e
