-- A line that is of no event's kind has no bytes.
use mathlib.Core.Path.{◌≡◌, refl}
use mathlib.Core.List.{[]}
use Prim.Native.Nat.{ℕ}
use Rattle.base.specs.declared.Kind.{Kind}
use Rattle.line_forms.specs.declared.Line.{Line}
use Rattle.line_forms.specs.declared.Line.TheVariants.{Nodes, Sends, Delivers, Idles, Calls, Bad}
use Rattle.event_bytes.specs.Bytes.{event_bytes}

pub no_event : (line : Line) (answer : ℕ) → ((kind : Kind) (a b : ℕ) → line ≡ Sends kind a b → ⊥)
    → ((a b : ℕ) → line ≡ Delivers a b → ⊥) → ((a : ℕ) → line ≡ Idles a → ⊥) → ((a : ℕ) → line ≡ Calls a → ⊥)
    → event_bytes line answer ≡ []
unfolding event_bytes
no_event (Nodes P) answer s d i c = refl
no_event (Sends kind a b) answer s d i c = absurd (s kind a b refl)
no_event (Delivers a b) answer s d i c = absurd (d a b refl)
no_event (Idles a) answer s d i c = absurd (i a refl)
no_event (Calls a) answer s d i c = absurd (c a refl)
no_event Bad answer s d i c = refl
