-- Laws of the shells that a frame has, and of their numbers, for sent and taken alike.
use Rattle.std.proofs.Common.{◌≡◌, ℕ, ◌+◌, ◌-◌, ◌<◌, ◌≤◌, Bool, true, false, leb, List, refl, le-ltb, lt-ltb, le-leb}
use borrow.Author.Tests.{lt-leb}
use Rattle.base.specs.Choice.{both}
use Rattle.frame.specs.Frame.{number_at, has_shell, shell_at}

-- the shells k to p − 1 and no others
pub shell_in : (p k m : ℕ) → k ≤ m → m < p → has_shell p k m ≡ true
shell_in p k m a b = rw (le-leb k m a, lt-ltb m p b)

pub shell_low_lem : (p k m : ℕ) → m < k → has_shell p k m ≡ false
shell_low_lem p k m a = rw (lt-leb k m a)

pub shell_high : (p k m : ℕ) → p ≤ m → has_shell p k m ≡ false
shell_high p k m a = rw (le-ltb m p a) (go (leb k m))
  where
    go : (t : Bool) → both t false ≡ false
    go true = refl
    go false = refl

-- the number of a shell that the frame has, and of one that it doesn't have
pub shell_there : (p k : ℕ) (bs : List ℕ) (start m : ℕ) → k ≤ m → m < p
    → shell_at p k bs start m ≡ number_at bs (start + (m - k))
unfolding shell_at
shell_there p k bs start m a b = rw (shell_in p k m a b)

pub shell_gone : (p k : ℕ) (bs : List ℕ) (start m : ℕ) → has_shell p k m ≡ false → shell_at p k bs start m ≡ 0
unfolding shell_at
shell_gone p k bs start m e = rw e
