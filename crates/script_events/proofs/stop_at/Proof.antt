-- `stop_at` is `stop_at`.
use borrow.Author.Rules.{rules}
use native.Mathlib.Omega.{arith}
use mathlib.Core.Path.{◌≡◌}
use Prim.Native.Nat.{◌+◌, ◌≤◌}
use lib.ListN.{length}
use Rattle.script_events.specs.Events.{stop_at}
use Rattle.script_events.proofs.Events.{stop_there}
use Rattle.script_events.proofs.stop_at.Statement.{statement}
use Rattle.script_events.proofs.stop_at.Tie as tie

there : (c : tie.After-find)
    → let at = c.next_from-at.result + c.find.result in
    let text = c.args.text.now in
    (at ≡ stop_at text) × (at ≤ length text)
there c =
    let f = c in stop_there _ _ f.next_from-at.ensures _ f.from-rest.ensures _ c.find.ensures

pub stop_at_spec : {M : Type 1} → statement M
stop_at_spec =
    tie.close
    (tie.spec (λ c κs. search rules) (λ c κs. search rules) (λ c κs. search rules)
    (λ c. let t = there c in omega arith) there)
