-- Where the numbers stand that a step of pass 1 reads, over numbers alone: arithmetic is dear where all that a function knows is in scope.
use mathlib.Core.Path.{◌≡◌, sym, subst}
use mathlib.Core.List.{List}
use Prim.Native.Nat.{ℕ, ◌+◌, ◌-◌, ◌*◌, ◌≤◌, ◌<◌}
use native.Mathlib.Omega.{arith}
use lib.ListN.{length}
use mir.Syntax.{w32, w64}
use mir.Val.{Fits}
use Rattle.base.specs.Limits.{width}
use Rattle.layout.specs.Places.{mark_words, at_received, first_words, most_words, sum_issued, sum_received, sum_words}
use Rattle.adding.specs.Adding.{Framed}

-- word i of n may be read
pub record Index (i n : ℕ) : Type 0 where
  pub fits : Fits w32 i
  pub wide : Fits w64 i
  pub scaled : Fits w64 (i * 4)
  pub there : i < n

index : (i n : ℕ) → i < n → i ≤ most_words → Index i n
index i n h l =
    record {
      fits = record { fits = omega arith };
      wide = record { fits = omega arith };
      scaled = record { fits = omega arith };
      there = h;
    }

-- shell m of w words of a frame of dimension k, and of n words of sums
pub record Shell (p k m w n : ℕ) : Type 0 where
  pub sent : Index (mark_words + (m - k)) w
  pub middle : Index (mark_words + (p - k)) w
  pub taken : Index (mark_words + (p - k) + (m - k)) w
  pub own_sent : Index m n
  pub own_taken : Index (p + m) n
  pub low : m < width
  pub mark : 0 < w
  pub first : mark_words < w

-- the totals of the frame and of the sums
pub record Ends (p k w n : ℕ) : Type 0 where
  pub shells : Fits w32 (2 * (p - k))
  pub issued : Index (mark_words + 2 * (p - k)) w
  pub received : Index (mark_words + 2 * (p - k) + at_received) w
  pub own_issued : Index (sum_issued p) n
  pub own_received : Index (sum_received p) n

module _ (p k w n : ℕ) (low : k < p) (few : p ≤ width) (long : w ≡ first_words p k) (wide : sum_words p ≤ n) where
  shell_at_lem : (m : ℕ) → k ≤ m → m < p → Shell p k m w n
  shell_at_lem m a b =
      record {
        sent = index _ _ (omega arith) (omega arith);
        middle = index _ _ (omega arith) (omega arith);
        taken = index _ _ (omega arith) (omega arith);
        own_sent = index _ _ (omega arith) (omega arith);
        own_taken = index _ _ (omega arith) (omega arith);
        low = omega arith;
        mark = omega arith;
        first = omega arith;
      }

  ends_at : Ends p k w n
  ends_at =
      record {
        shells = record { fits = omega arith };
        issued = index _ _ (omega arith) (omega arith);
        received = index _ _ (omega arith) (omega arith);
        own_issued = index _ _ (omega arith) (omega arith);
        own_received = index _ _ (omega arith) (omega arith);
      }

module _ (ws sums : List ℕ) (p k : ℕ) (f : Framed ws sums p k) where
  pub shell : (m : ℕ) → k ≤ m → m < p → Shell p k m (length ws) (length sums)
  shell = shell_at_lem p k (length ws) (length sums) f.low f.few f.long f.wide

  -- with other sums
  pub still : (after : List ℕ) → length after ≡ length sums → Framed ws after p k
  still after e =
      record { low = f.low; few = f.few; long = f.long; wide = subst (λ n. sum_words p ≤ n) (sym e) f.wide }

  pub ends : Ends p k (length ws) (length sums)
  ends = ends_at p k (length ws) (length sums) f.low f.few f.long f.wide

-- the shell after m
pub next_fits : (m p : ℕ) → m < p → p ≤ width → Fits w32 (m + 1)
next_fits m p b few = record { fits = omega arith }

pub fewer : (m p : ℕ) → m < p → p - (m + 1) < p - m
fewer m p b = omega arith

-- the shells above k
pub record Above (p k w n : ℕ) : Type 0 where
  pub next_low : k + 1 ≤ p
  pub taken : Fits w32 (p + k)
  pub taken_next : Fits w32 (p + k + 1)
  pub taken_from : Fits w32 (mark_words + 1 + (p - k))
  pub sent_run : (k + 1 + (p - (k + 1)) ≤ n)
      × (mark_words + 1 + (p - (k + 1)) ≤ w)
      × (k + 1 + (p - (k + 1)) ≤ most_words)
      × (mark_words + 1 + (p - (k + 1)) ≤ most_words)
  pub taken_run : (p + k + 1 + (p - (k + 1)) ≤ n)
      × (mark_words + 1 + (p - k) + (p - (k + 1)) ≤ w)
      × (p + k + 1 + (p - (k + 1)) ≤ most_words)
      × (mark_words + 1 + (p - k) + (p - (k + 1)) ≤ most_words)

above_at : (p k w n : ℕ) → k < p → p ≤ width → w ≡ first_words p k → sum_words p ≤ n → Above p k w n
above_at p k w n low few long wide =
    record {
      next_low = omega arith;
      taken = record { fits = omega arith };
      taken_next = record { fits = omega arith };
      taken_from = record { fits = omega arith };
      sent_run = (omega arith, omega arith, omega arith, omega arith);
      taken_run = (omega arith, omega arith, omega arith, omega arith);
    }

pub above : (ws sums : List ℕ) (p k : ℕ) → Framed ws sums p k → Above p k (length ws) (length sums)
above ws sums p k f = above_at p k (length ws) (length sums) f.low f.few f.long f.wide
