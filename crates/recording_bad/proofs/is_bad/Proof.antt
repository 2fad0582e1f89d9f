-- `is_bad` makes the tests in their order: one is met, or what is left is the test of the events.
use borrow.Author.Rules.{rules}
use borrow.Author.Tests.{lt-ltb, le-ltb, eq-eqb, ne_eqb}
use native.Mathlib.Omega.{arith}
use mathlib.Core.Bool.{true, false, not}
use mathlib.Core.List.{List}
use mathlib.Core.Path.{◌≡◌, ap, ◌∙◌}
use Prim.Native.Nat.{ℕ, ◌+◌, ◌*◌, ◌≤◌, ◌<◌}
use lib.ListN.{length}
use Rattle.recording.specs.Recording.{bodies}
use Rattle.recording.specs.Test.{outside, good_events, is_bad_by}
use Rattle.recording.proofs.Tests.{above}
use Rattle.recording_bad.proofs.is_bad.Statement.{statement}
use Rattle.recording_bad.proofs.is_bad.Tie as tie

within : (most x : ℕ) → (x ≡ 0 → ⊥) → x ≤ most → outside most x ≡ false
within most x p l = rw (ne_eqb x 0 p, le-ltb most x l)

module _ (nodes sections total : ℕ) (events : List ℕ) where
  bad_nodes : outside 16 nodes ≡ true → true ≡ is_bad_by nodes sections total events
  unfolding is_bad_by
  bad_nodes e = rw e

  many_nodes : 16 < nodes → true ≡ is_bad_by nodes sections total events
  many_nodes l = bad_nodes (above 16 nodes l)

  module _ (n : (nodes ≡ 0 → ⊥) × (nodes ≤ 16)) where
    bad_sections : outside 32 sections ≡ true → true ≡ is_bad_by nodes sections total events
    unfolding is_bad_by
    bad_sections e = rw (within 16 nodes n.0 n.1, e)

    many_sections : 32 < sections → true ≡ is_bad_by nodes sections total events
    many_sections l = bad_sections (above 32 sections l)

    module _ (s : (sections ≡ 0 → ⊥) × (sections ≤ 32)) where
      bad_count : (4 * total ≡ length events → ⊥) → true ≡ is_bad_by nodes sections total events
      unfolding is_bad_by
      bad_count e = rw (within 16 nodes n.0 n.1, within 32 sections s.0 s.1, ne_eqb _ _ e)

      module _ (t : 4 * total ≡ length events) where
        bad_size : 60000 < bodies sections + length events → true ≡ is_bad_by nodes sections total events
        unfolding is_bad_by
        bad_size e =
            rw (
              within 16 nodes n.0 n.1,
              within 32 sections s.0 s.1,
              eq-eqb _ _ t,
              lt-ltb 60000 (bodies sections + length events) e,
            )

        by_events : bodies sections + length events ≤ 60000
            → not (good_events nodes events) ≡ is_bad_by nodes sections total events
        unfolding is_bad_by
        by_events e =
            rw (
              within 16 nodes n.0 n.1,
              within 32 sections s.0 s.1,
              eq-eqb _ _ t,
              le-ltb 60000 (bodies sections + length events) e,
            )

returns : tie.Need-returns-then-nodes-eq0
returns c = bad_nodes _ _ _ _ (ap (outside 16) c.if-nodes-eq0.true)

returns_2 : tie.Need-returns-then-nodes-gt16
returns_2 c = many_nodes _ _ _ _ (omega arith)

returns_3 : tie.Need-returns-then-sections-eq0
returns_3 c = bad_sections _ _ _ _ (search rules) (ap (outside 32) c.if-sections-eq0.true)

returns-4 : tie.Need-returns-then-sections-gt32
returns-4 c = many_sections _ _ _ _ (search rules) (omega arith)

returns_5 : tie.Need-returns-then-events-ne0
returns_5 c = bad_count _ _ _ _ (search rules) (search rules) (λ e. omega arith)

returns-6 : tie.Need-returns-then-events-total
returns-6 c = bad_count _ _ _ _ (search rules) (search rules) (λ e. omega arith)

returns-7 : tie.Need-returns-then-sections-events
returns-7 c = bad_size _ _ _ _ (search rules) (search rules) (omega arith) (omega arith)

returns-8 : tie.Need-returns
returns-8 c =
    ap not c.events_good.ensures
    ∙ by_events _ _ _ _ (search rules) (search rules) (omega arith) (omega arith)

pub is_bad_spec : {M : Type 1} → statement M
is_bad_spec =
    tie.close
    (tie.spec returns returns_2 returns_3 returns-4 returns_5 returns-6 (λ c. search rules) (λ c. search rules)
    (λ c. search rules) returns-7 (λ c κs. search rules) returns-8)
