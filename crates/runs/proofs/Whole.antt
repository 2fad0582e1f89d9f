-- The claim (rule P4, rule P5) over the definitions, for every number of nodes.
use mathlib.Core.Path.{◌≡◌, subst}
use mathlib.Core.List.{List}
use Prim.Native.Nat.{ℕ, ◌≤◌, ◌<◌}
use native.Mathlib.Decide.{dec_lt}
use native.Mathlib.Omega.{arith}
use Rattle.base.specs.Limits.{Limits}
use Rattle.events.specs.Board.{Event, run}
use Rattle.events.specs.Fit.{Fit}
use Rattle.runs.specs.Claim.{Safe, Lives, NoLoss, Demand3}
use Rattle.runs.proofs.Safety.{every_run_safe}
use Rattle.runs.proofs.Lone.{lone, lone_safe, lone_lives}
use Rattle.runs.proofs.Lively.{every_run_lives}

-- the first half: FOR EVERY RUN OF EVERY BOARD
pub safe : (L : Limits) → Fit L → (P : ℕ) → 1 ≤ P → P ≤ L.nodes → (es : List Event) → Safe L P (run L P es)
safe L ok P one le es = go (dec_lt 1 P)
  where
    go : Dec (1 < P) → Safe L P (run L P es)
    go (yes h) = every_run_safe (record { fit = ok; two = h; few = le }) es
    go (no h) =
        let e : 1 ≡ P = omega arith in
        subst (λ P. Safe L P (run L P es)) e (lone_safe L (omega arith) (run L 1 es) (lone L (omega arith) es))

-- the second half: FOR EVERY RUN WITHOUT A LOSS OF EVERY BOARD
pub lives : (L : Limits) → Fit L → (P : ℕ) → 1 ≤ P → P ≤ L.nodes → (es : List Event) → NoLoss es
    → Lives L P (run L P es)
lives L ok P one le es l = go (dec_lt 1 P)
  where
    go : Dec (1 < P) → Lives L P (run L P es)
    go (yes h) = every_run_lives (record { fit = ok; two = h; few = le }) es l
    go (no h) =
        let e : 1 ≡ P = omega arith in
        subst (λ P. Lives L P (run L P es)) e (lone_lives L (omega arith) (run L 1 es) (lone L (omega arith) es))

pub demand3 : Demand3
demand3 = record { safe = safe; lives = lives }
