-- The events of a recording that is not refused are events of its board.
use mathlib.Core.Path.{◌≡◌, sym}
use mathlib.Core.Bool.{Bool, true, false}
use Prim.Native.Nat.{ℕ, ◌<◌}
use lib.Dec.{ltb, eqb}
use Rattle.base.specs.Choice.{choose, both, either}
use Rattle.base.specs.declared.Kind.TheVariants.{Job, Note}
use Rattle.base.proofs.Laws.{clash, both_true}
use Rattle.line_forms.specs.declared.Line.TheVariants.{Sends, Delivers, Idles, Calls, Bad}
use Rattle.line_forms.proofs.Named.{is_event}
use Rattle.recording.specs.Recording.{Recording, event_count, event_byte}
use Rattle.recording.specs.Test.{good_event}
use Rattle.recording.proofs.Sizes.{Sized}
use Rattle.replay_parts.specs.Events.{line_by, line_of}

line_good : (nodes letter a b : ℕ) → good_event nodes letter a b ≡ true → is_event nodes (line_by letter a b) ≡ true
line_good nodes letter a b =
    go (eqb letter 115) (eqb letter 116) (eqb letter 100) (eqb letter 105) (eqb letter 98)
  where
    go : (s t d i c : Bool)
        → both (ltb a nodes) (choose (either s (either t d)) (ltb b nodes) (both (either i c) (eqb b 0))) ≡ true
        → is_event nodes
        (choose s (Sends Job a b)
        (choose t (Sends Note a b) (choose d (Delivers a b) (choose i (Idles a) (choose c (Calls a) Bad)))))
        ≡ true
    go true t d i c e = e
    go false true d i c e = e
    go false false true i c e = e
    go false false false true c e = (both_true (ltb a nodes) _ e).0
    go false false false false true e = (both_true (ltb a nodes) _ e).0
    go false false false false false e = clash (sym (both_true (ltb a nodes) false e).1)

-- event i of what is not refused
pub event_good : (r : Recording) → Sized r → (i : ℕ) → i < event_count r → is_event r.nodes (line_of r i) ≡ true
unfolding line_of
event_good r g i h =
    line_good r.nodes (event_byte r.events i 0) (event_byte r.events i 1) (event_byte r.events i 2)
    (g.events i h)
