-- The own sums with the numbers of a stored pass 1 frame added.
use Rattle.std.specs.Prelude.{◌≡◌, Bool, true, false, List, ℕ, suc, ◌+◌, ◌≤◌, ◌<◌, length}
use Rattle.base.specs.Limits.{width}
use Rattle.node.specs.Sums.{Field, Has, number}
use Rattle.node.specs.declared.Stored.{Stored}
use Rattle.layout.specs.Places.{first_words, sum_words}
use Rattle.layout.specs.Held.{first_from, sum_of}

-- the words are those of a stored pass 1 frame of dimension k, and there are sums
pub record Framed (ws sums : List ℕ) (p k : ℕ) : Type 0 where
  pub low : k < p
  pub few : p ≤ width
  pub long : length ws ≡ first_words p k
  pub wide : sum_words p ≤ length sums

-- no sum that the next dimension has comes above the limit
abbrev pub Within : ℕ → ℕ → ℕ → Stored → List ℕ → Type 0
Within limit p k x sums = (f : Field) → Has p (suc k) f → sum_of p sums f + number x f ≤ limit

-- the sums with the numbers of a frame of dimension k: those that the next dimension has
abbrev pub Added : ℕ → ℕ → Stored → List ℕ → List ℕ → Type 0
Added p k x before after = (f : Field) → Has p (suc k) f → sum_of p after f ≡ sum_of p before f + number x f

-- what adding a frame answers, and the sums after it
pub record AddedBy (limit : ℕ) (ws : List ℕ) (p k : ℕ) (before after : List ℕ) (r : Bool) : Type 0 where
  pub there : r ≡ true → Framed ws before p k
  pub within : r ≡ true → Within limit p k (first_from ws p k 0) before
  pub over : r ≡ false → Framed ws before p k → Within limit p k (first_from ws p k 0) before → ⊥
  pub added : r ≡ true → Added p k (first_from ws p k 0) before after
  pub length : length after ≡ length before
