-- The four lanes of two rows, and those of several keys, one key after the other. Definitions only.
use Rattle.std.specs.Prelude.{ℕ, ◌+◌, ◌*◌, ◌/◌, ◌%◌, List, Float}
use Rattle.tensor_laws.specs.Layout.{tabulate}
use Rattle.softmax.specs.Row.{lane_of}
use Rattle.softmax.specs.Lists.{element_of}

-- the four lanes of the first n elements of two rows
unfoldable pub lanes_of : List Float → List Float → ℕ → List Float
unfolding tabulate lane_of
lanes_of q k n = tabulate 4 (λ l. lane_of l n (element_of q) (element_of k))

-- element t of the lanes of keys, over the first n elements of the row: lane t % 4 of key t / 4, whose row starts at t / 4 * stride
abbrev pub lane_at : List Float → List Float → ℕ → ℕ → ℕ → Float
lane_at q keys stride n t = lane_of (t % 4) n (element_of q) (λ c. element_of keys (t / 4 * stride + c))
