-- A call on a state that holds a node: it answers as the call on the node, and the state after it holds the node after
-- it.
use mathlib.Core.Path.{◌≡◌, ap, ◌∙◌}
use mathlib.Core.Bool.{true}
use mathlib.Core.List.{List}
use Prim.Native.Nat.{ℕ, ◌+◌, ◌≤◌, ◌<◌}
use native.Mathlib.Omega.{arith}
use lib.ListN.{replicate}
use borrow.Author.Tests.{le-ltb, ne_eqb}
use Rattle.base.specs.Choice.{choose}
use Rattle.base.specs.Limits.{base}
use Rattle.base.specs.Refusal.{number}
use Rattle.base.specs.declared.Refusal.{Refusal}
use Rattle.base.specs.declared.Kind.{Kind}
use Rattle.base.proofs.Laws.{choose_yes}
use Rattle.base.proofs.Limits.{mul_low, fits_base}
use Rattle.tree.specs.Tree.{dimension}
use Rattle.tree.proofs.Dimension.{smallest}
use Rattle.node.specs.Change.{fresh_in}
use Rattle.node.specs.Answers.{Given, Outcome, refused, barred}
use Rattle.node.specs.Calls.{send, take, idle, frame_in}
use Rattle.node.specs.Barrier.{barrier}
use Rattle.node.specs.declared.Node.{Node}
use Rattle.layout.specs.Held.{unpacked, is_whole, holding}
use Rattle.layout.proofs.Offsets.{words_closed}
use Rattle.kept.proofs.Holds.{Holds}
use Rattle.kept.proofs.Calls.{send_holds, take_holds, idle_holds, frame_holds, step_holds}
use Rattle.kept.proofs.Fresh.{fresh_words_lem}
use Rattle.node_fresh.specs.Fresh.{fresh_words}
use Rattle.states.specs.Words.{most, fresh_state}
use Rattle.state_calls.specs.On.{Kept, keep, on_state, step_on}
use Rattle.states.specs.declared.State.{State}

-- the words of s hold the node n
pub record Bears (s : State) (n : Node) : Type 0 where
  pub whole : is_whole base s.words ≡ true
  pub node : unpacked s.words ≡ n

-- what a call made of a state is what it gave for a node
pub record Makes {A : Type 0} (r : Kept A) (g : Given A) : Type 0 where
  pub state : Bears r.state g.node
  pub answer : r.answer ≡ g.answer

-- by what the words hold after the call; `none` is its answer where they hold no state
makes : {A : Type 0} (call : Node → Given A) (none : A) (s : State) (n : Node) → Bears s n
    → Holds base s.words (call (unpacked s.words)).node
    → let ws = s.words in
    Makes
    (keep (record { words = choose (is_whole base ws) (holding ws (call (unpacked ws)).node) ws }) (choose (is_whole base ws) (call (unpacked ws)).answer none))
    (call n)
makes call none s n b now =
    let ws = s.words in
    let words : choose (is_whole base ws) (holding ws (call (unpacked ws)).node) ws
    ≡ holding ws (call (unpacked ws)).node = choose_yes _ _ b.whole in
    record {
      state =
          record {
            whole = ap (is_whole base) words ∙ now.whole;
            node = ap unpacked words ∙ now.node ∙ ap (λ m. (call m).node) b.node;
          };
      answer = choose_yes _ _ b.whole ∙ ap (λ m. (call m).answer) b.node;
    }

module _ (s : State) (n : Node) (b : Bears s n) where
  on_state_lem : (call : Node → Given Outcome) → Holds base s.words (call (unpacked s.words)).node
      → Makes (on_state call s) (call n)
  unfolding on_state
  on_state_lem call now = makes call (refused (number Refusal.State)) s n b now

  pub send_makes : (to : ℕ) → Makes (on_state (λ m. send base m to) s) (send base n to)
  send_makes to = on_state_lem (λ m. send base m to) (send_holds base fits_base s.words b.whole to)

  pub take_makes : (kind : Kind) (from phase : ℕ)
      → Makes (on_state (λ m. take base m kind from phase) s) (take base n kind from phase)
  take_makes kind from phase =
      on_state_lem (λ m. take base m kind from phase) (take_holds base fits_base s.words b.whole kind from phase)

  pub idle_makes : Makes (on_state (idle base) s) (idle base n)
  idle_makes = on_state_lem (idle base) (idle_holds base fits_base s.words b.whole)

  pub frame_makes : (bs : List ℕ) → Makes (on_state (λ m. frame_in base m bs) s) (frame_in base n bs)
  frame_makes bs = on_state_lem (λ m. frame_in base m bs) (frame_holds base fits_base s.words b.whole bs)

  pub step_makes : (room : ℕ) → Makes (step_on s room) (barrier base n room)
  unfolding step_on
  step_makes room =
      makes (λ m. barrier base m room) (barred (number Refusal.State)) s n b
      (step_holds base fits_base s.words b.whole room)

-- a state by value has room for a board of 16 nodes
fresh_holds : (P a : ℕ) → 1 ≤ P → P ≤ 16 → a < P
    → (is_whole base (fresh_words base P a (replicate most 0)) ≡ true)
    × (unpacked (fresh_words base P a (replicate most 0)) ≡ fresh_in P a 0)
fresh_holds P a one few low =
    let d : dimension P ≤ 4 = smallest P 4 few in
    let m = mul_low (dimension P) 4 (dimension P + 9) 13 d (omega arith) in
    fresh_words_lem base fits_base P a (replicate most 0)
    (rw (ne_eqb P 0 (λ z. omega arith), le-ltb base.nodes P (omega arith)))
    low (omega (arith, words_closed (dimension P), m))

pub fresh_bears : (P a : ℕ) → 1 ≤ P → P ≤ 16 → a < P → Bears (fresh_state P a) (fresh_in P a 0)
unfolding fresh_state
fresh_bears P a one few h = let f = fresh_holds P a one few h in record { whole = f.0; node = f.1 }
