-- `is_refused`: more sections than a recording has, or the test of its sizes and events.
use borrow.Author.Rules.{rules}
use borrow.Author.Tests.{lt-ltb, ne_eqb}
use native.Mathlib.Omega.{arith}
use mathlib.Core.Bool.{Bool, true, false}
use mathlib.Core.List.{List}
use mathlib.Core.Path.{◌≡◌, refl}
use Prim.Native.Nat.{ℕ, ◌<◌}
use Rattle.base.specs.Choice.{either}
use Rattle.recording.specs.Test.{outside, is_bad_by}
use Rattle.write_parts.proofs.is_refused.Statement.{statement}
use Rattle.write_parts.proofs.is_refused.Tie as tie

many : (nodes sections total : ℕ) (events : List ℕ) → 32 < sections → true ≡ is_bad_by nodes sections total events
unfolding is_bad_by
many nodes sections total events h =
    rw (ne_eqb sections 0 (λ e. omega arith), lt-ltb 32 sections h) (go (outside 16 nodes))
  where
    go : (t : Bool) → true ≡ either t true
    go true = refl
    go false = refl

returns : tie.Need-returns-then-counts-gt32
returns c = many _ _ _ _ c.if-counts-gt32.true

returns_2 : tie.Need-returns
returns_2 c = cc

pub is_refused_spec : {M : Type 1} → statement M
is_refused_spec = tie.close (tie.spec returns (λ c κs. search rules) (λ c κs. search rules) returns_2)
