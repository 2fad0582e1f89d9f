-- How a phase goes on by one event, and that the claims and the bounds of its frames stay true.
use mathlib.Core.Path.{◌≡◌, sym, ◌∙◌, subst}
use mathlib.Core.List.{List, [], ◌∷◌}
use Prim.Native.Nat.{ℕ, ◌+◌, ◌≤◌, ◌<◌}
use native.Mathlib.Omega.{arith}
use lib.ListN.{length, get_or-append}
use Rattle.cycle.proofs.Sums.{sum, sum_le, sum_ext, snoc, length_snoc, take_snoc, get_d_snoc_last}
use Rattle.cycle.proofs.FinalClaim.{Claim, over, quiet, later}

-- a phase: its senders in order, what each node has taken in it, and who is done with it (idle in it, or past it)
pub record Course : Type 1 where
  pub senders : List ℕ
  pub taken : ℕ → ℕ
  pub done : ℕ → Type 0

abbrev pub total_taken : ℕ → Course → ℕ
total_taken P w = sum w.taken 0 P

-- what one event does to a phase
pub data Growth (P : ℕ) (w w' : Course) : Type 0 where
  same : w'.senders ≡ w.senders → ((y : ℕ) → w'.taken y ≡ w.taken y) → ((y : ℕ) → w.done y → w'.done y)
      → Growth P w w'
  sends : (z : ℕ) → z < P → w'.senders ≡ snoc w.senders z → ((y : ℕ) → w'.taken y ≡ w.taken y) → (w.done z → ⊥)
      → ((y : ℕ) → w.done y → w'.done y) → Growth P w w'
  takes_one : w'.senders ≡ w.senders → ((y : ℕ) → w.taken y ≤ w'.taken y) → total_taken P w < length w.senders
      → Growth P w w'

abbrev pub Claims : ℕ → Course → ℕ → ℕ → ℕ → Type 0
Claims P w y s T = Claim w.senders (total_taken P w) (w.done y) y s T

got_grows : (P : ℕ) (w w' : Course) → Growth P w w' → (y : ℕ) → w.taken y ≤ w'.taken y
got_grows P w w' (same a b c) y = omega (arith, b y)
got_grows P w w' (sends z zP a b n c) y = omega (arith, b y)
got_grows P w w' (takes_one a b c) y = b y

claim_keep : (P : ℕ) (w w' : Course) (y s T : ℕ) → Growth P w w' → T ≤ length w.senders → Claims P w y s T
    → Claims P w' y s T
claim_keep P w w' y s T (same a b c) t (over h) = over (rw a h)
claim_keep P w w' y s T (same a b c) t (quiet e f g d) =
    quiet (rw a e) (rw a f) (sum_ext w'.taken w.taken 0 P (λ i k l. b i) ∙ g) (c y d)
claim_keep P w w' y s T (same a b c) t (later e f g) = later (rw a e) (rw a f) (rw a g)
claim_keep P w w' y s T (sends z zP a b n c) t (over h) = over (rw (a, take_snoc T w.senders z t) h)
claim_keep P w w' y s T (sends z zP a b n c) t (quiet e f g d) =
    later (rw (a, take_snoc T w.senders z t) e) (rw a (omega (arith, length_snoc w.senders z)))
    (λ q. n (subst w.done (sym (sym (get_d_snoc_last w.senders z 0) ∙ (rw (f, ← a) q))) d))
claim_keep P w w' y s T (sends z zP a b n c) t (later e f g) =
    later (rw (a, take_snoc T w.senders z t) e) (rw a (omega (arith, length_snoc w.senders z)))
    (rw (a, get_or-append w.senders (z ∷ []) 0 T f) g)
claim_keep P w w' y s T (takes_one a b c) t (over h) = over (rw a h)
claim_keep P w w' y s T (takes_one a b c) t (quiet e f g d) = absurd (omega arith)
claim_keep P w w' y s T (takes_one a b c) t (later e f g) = later (rw a e) (rw a f) (rw a g)

-- A number in a frame of pass 1 is at most what the run of its sender has taken; a frame of pass 2 is a sum of claims.
-- The run is the n nodes from low on.
abbrev pub AtMost : Course → ℕ → ℕ → ℕ → Type 0
AtMost w low n x = x ≤ sum w.taken low n

pub record Claimed (P : ℕ) (w : Course) (low n T x : ℕ) : Type 0 where
  pub in_reach : T ≤ total_taken P w
  pub part : ℕ → ℕ
  pub adds : x ≡ sum part low n
  pub claims : (y : ℕ) → low ≤ y → y < low + n → Claims P w y (part y) T

at_most_keep : (P : ℕ) (w w' : Course) (low n x : ℕ) → Growth P w w' → AtMost w low n x → AtMost w' low n x
at_most_keep P w w' low n x e h = omega (arith, sum_le w.taken w'.taken low n (λ i a b. got_grows P w w' e i))

pub claimed_keep : (P : ℕ) (w w' : Course) (low n T x : ℕ) → total_taken P w ≤ length w.senders → Growth P w w'
    → Claimed P w low n T x → Claimed P w' low n T x
claimed_keep P w w' low n T x r e h =
    record {
      in_reach = at_most_keep P w w' 0 P T e h.in_reach;
      part = h.part;
      adds = h.adds;
      claims = λ y a b. claim_keep P w w' y (h.part y) T e (omega (arith, h.in_reach)) (h.claims y a b);
    }
