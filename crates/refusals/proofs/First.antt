-- What the first refusal that is met says.
use Rattle.std.specs.Prelude.{⊤}
use mathlib.Core.Path.{◌≡◌, sym}
use mathlib.Core.List.{List}
use Prim.Native.Nat.{ℕ}
use Rattle.base.specs.Refusal.{Check, refused, found}
use Rattle.base.proofs.Laws.{Passes, Stops, order_passes, order_stops, checks_stop, checks_known}
use Rattle.refusals.specs.Tests.{first_met}

pub met_some : (cs : List Check) {x : ℕ} → refused x ≡ first_met cs → Stops cs x
met_some cs {x} e = checks_stop cs tt x (sym e)

pub met_none : (cs : List Check) {u : ⊤} → found u ≡ first_met cs → Passes cs
met_none cs {u} e = (checks_known cs tt u (sym e)).0

pub stops_first : (cs : List Check) {x : ℕ} → Stops cs x → refused x ≡ first_met cs
stops_first cs s = sym (order_stops refused (found tt) s)

pub passes_first : (cs : List Check) → Passes cs → found tt ≡ first_met cs
passes_first cs h = sym (order_passes refused cs (found tt) h)
