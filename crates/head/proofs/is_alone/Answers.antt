-- `is_alone` is `lone`, by the place that was found.
use Rattle.std.proofs.Common.{◌≡◌, false, refl}
use mathlib.Core.Path.{sym, ap, ◌∙◌}
use Rattle.base.specs.Refusal.{found}
use Rattle.tree.specs.Lookups.{place_of}
use Rattle.tree.specs.declared.Placed.{Placed}
use Rattle.tree.specs.declared.Placed.TheVariants.{Alone, Hermit, Neighbour, Messenger}
use Rattle.survey.specs.Spots.{lone_answer, lone}
use Rattle.head.proofs.is_alone.Goals as goal

not_alone : (q : Placed) → (q ≡ Alone → ⊥) → false ≡ lone_answer (found (place_of q))
not_alone Alone f = absurd (f refl)
not_alone (Hermit next) f = refl
not_alone (Neighbour b) f = refl
not_alone (Messenger b h) f = refl

pub returns-in_default : goal.returns-in_default
unfolding lone
returns-in_default c = ap lone_answer c.in_default.ensures

pub returns-in-Alone : goal.returns-in-Alone
unfolding lone
returns-in-Alone c = sym (ap (λ q. lone_answer (found (place_of q))) c.in-Alone.is) ∙ ap lone_answer c.in-Ok.ensures

pub returns-in_default-matches : goal.returns-in_default-matches
unfolding lone
returns-in_default-matches c = not_alone _ c.in_default-matches.not-Alone ∙ ap lone_answer c.in-Ok.ensures
