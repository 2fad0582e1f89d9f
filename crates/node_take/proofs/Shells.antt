-- The shell of another node of the board is its distance, below the dimension.
use mathlib.Core.Path.{◌≡◌, sym, ap}
use mathlib.Core.Logic.{◌≢◌}
use mathlib.Core.Bool.{false}
use mathlib.Core.List.{[], ◌∷◌}
use Prim.Native.Nat.{ℕ, ◌≤◌, ◌<◌}
use native.Mathlib.Omega.{arith}
use Rattle.base.specs.Limits.{Limits, Fits, width}
use Rattle.tree.specs.Tree.{dimension, distance}
use Rattle.tree.specs.Lookups.{bad_board, distance_lookup}
use Rattle.tree.proofs.Distances.{distance_below_lem}
use Rattle.tree.proofs.Lookups.{distance_found}
use Rattle.layout.proofs.Whole.{few}
use Rattle.node_take.specs.Shell.{shell_of}

pub shell_known : (L : Limits) → Fits L → (P a b m : ℕ) → m ≡ shell_of (distance_lookup L P a b)
    → bad_board L P ≡ false → a < P → b < P → b ≢ a
    → (m ≡ distance P a b) × (m < dimension P) × (m < width)
shell_known L fit P a b m e g h l o =
    let d : shell_of (distance_lookup L P a b) ≡ distance P a b = ap shell_of (distance_found L P a g h b l o) in
    let w : dimension P ≤ width = few L fit (P ∷ []) g in
    let below = distance_below_lem P a b h (λ z. o (sym z)) l in
    let is : m ≡ distance P a b = omega arith in
    (is, omega arith, omega arith)
