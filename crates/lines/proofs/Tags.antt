-- What the kinds of a line that is matched on say of the definitions.
use mathlib.Core.Path.{◌≡◌, refl, sym}
use mathlib.Core.Bool.{true, false}
use mathlib.Core.List.{[], ◌∷◌}
use Prim.Native.Nat.{ℕ}
use types.Run.{OneOf, miss}
use denote.Enum.Declared.{tag_of}
use Rattle.base.proofs.Laws.{clash}
use Rattle.line_forms.specs.declared.Line.{Line}
use Rattle.line_forms.specs.declared.Line.TheVariants.{Nodes, Sends, Delivers, Idles, Calls, Bad}
use Rattle.line_forms.specs.contracts.Line as LineT
use Rattle.lines.specs.Told.{taken, stops}

pub stopping : (l : Line) → OneOf (0 ∷ 5 ∷ []) (tag_of LineT.the_type l) → stops l ≡ true
stopping (Nodes P) h = refl
stopping (Sends kind a b) h = absurd (miss (0 ∷ 5 ∷ []) 1 tt h)
stopping (Delivers a b) h = absurd (miss (0 ∷ 5 ∷ []) 2 tt h)
stopping (Idles a) h = absurd (miss (0 ∷ 5 ∷ []) 3 tt h)
stopping (Calls a) h = absurd (miss (0 ∷ 5 ∷ []) 4 tt h)
stopping Bad h = refl

pub going : (l : Line) → OneOf (1 ∷ 2 ∷ 3 ∷ 4 ∷ []) (tag_of LineT.the_type l) → stops l ≡ false
going (Nodes P) h = absurd (miss (1 ∷ 2 ∷ 3 ∷ 4 ∷ []) 0 tt h)
going (Sends kind a b) h = refl
going (Delivers a b) h = refl
going (Idles a) h = refl
going (Calls a) h = refl
going Bad h = absurd (miss (1 ∷ 2 ∷ 3 ∷ 4 ∷ []) 5 tt h)

pub taken_stop : (l : Line) (size : ℕ) → stops l ≡ true → taken size l ≡ Bad
taken_stop (Nodes P) size h = refl
taken_stop (Sends kind a b) size h = clash (sym h)
taken_stop (Delivers a b) size h = clash (sym h)
taken_stop (Idles a) size h = clash (sym h)
taken_stop (Calls a) size h = clash (sym h)
taken_stop Bad size h = refl
