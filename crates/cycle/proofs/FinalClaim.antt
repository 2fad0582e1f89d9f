-- The final lemma: a claim of a node for a total T, and that a phase is quiet where the claims of all nodes add up to
-- T.
use mathlib.Core.Path.{◌≡◌, refl}
use mathlib.Core.Logic.{◌≢◌}
use mathlib.Core.List.{List}
use Prim.Native.Nat.{ℕ, ◌≤◌, ◌<◌, zero-le}
use native.Mathlib.Decide.{dec_lt}
use native.Mathlib.Omega.{arith}
use lib.ListN.{length, take, get_or}
use Rattle.cycle.proofs.Sums.{sum, sum_tight, sum_count_take, count, Below}

-- how often y is among the first T senders
abbrev pub firsts : List ℕ → ℕ → ℕ → ℕ
firsts log T y = count y (take T log)

-- The claim of y for T. log: the senders of the phase in order; R: all that is taken; Q: y is idle in the phase or has
-- left it; s: what y says to have sent.
pub data Claim (log : List ℕ) (R : ℕ) (Q : Type 0) (y s T : ℕ) : Type 0 where
  over : firsts log T y < s → Claim log R Q y s T
  quiet : s ≡ firsts log T y → length log ≡ T → R ≡ T → Q → Claim log R Q y s T
  later : s ≡ firsts log T y → T < length log → get_or log T 0 ≢ y → Claim log R Q y s T

-- all that was sent is taken, and all nodes are idle in the phase or have left it
pub record Quiet (log : List ℕ) (R P : ℕ) (Q : ℕ → Type 0) (T : ℕ) : Type 0 where
  pub all_sent_lem : length log ≡ T
  pub all_taken_lem : R ≡ T
  pub all_idle : (y : ℕ) → y < P → Q y

pub claim_le : (log : List ℕ) (R : ℕ) (Q : Type 0) (y s T : ℕ) → Claim log R Q y s T → firsts log T y ≤ s
claim_le log R Q y s T (over h) = omega arith
claim_le log R Q y s T (quiet e a b c) = omega arith
claim_le log R Q y s T (later e a b) = omega arith

module _ (log : List ℕ) (R P : ℕ) (Q : ℕ → Type 0) (T : ℕ) (s : ℕ → ℕ)
    (below : Below P log) (T≤R : T ≤ R) (R≤S : R ≤ length log)
    (claims : (y : ℕ) → y < P → Claim log R (Q y) y (s y) T)
    (total : sum s 0 P ≡ T) where
  exact : (y : ℕ) → y < P → s y ≡ firsts log T y
  exact y h =
      sum_tight (firsts log T) s 0 P (λ i a b. claim_le log R (Q i) i (s i) T (claims i (omega arith)))
      (omega (arith, sum_count_take P T log (omega arith) below)) y zero-le (omega arith)

  not_later : T < length log → ⊥
  not_later h = go (claims z z<P) (exact z z<P)
    where
      z : ℕ
      z = get_or log T 0

      z<P : z < P
      z<P = below T h

      go : Claim log R (Q z) z (s z) T → s z ≡ firsts log T z → ⊥
      go (over k) e = omega arith
      go (quiet e' a b c) e = omega arith
      go (later e' a b) e = b refl

  idle_at : (y : ℕ) → y < P → Q y
  idle_at y h = go (claims y h) (exact y h)
    where
      go : Claim log R (Q y) y (s y) T → s y ≡ firsts log T y → Q y
      go (over k) e = absurd (omega arith)
      go (quiet e' a b c) e = c
      go (later e' a b) e = absurd (not_later a)

  sent_all_lem : Dec (T < length log) → length log ≡ T
  sent_all_lem (yes h) = absurd (not_later h)
  sent_all_lem (no h) = omega arith

  pub final : Quiet log R P Q T
  final =
      let e = sent_all_lem (dec_lt T (length log)) in
      record { all_sent_lem = e; all_taken_lem = omega arith; all_idle = idle_at }
