-- What is said of a frame after the test of the state, by the numbers that it looks at (rule R3).
use Rattle.std.specs.Prelude.{Bool, not, List, [], ◌∷◌, ℕ, eqb, get_or}
use Rattle.std.proofs.Math.Option.{Option, none}
use Rattle.base.specs.Limits.{Limits}
use Rattle.base.specs.Refusal.{number, Answered, refused, found, Check, when, in_order}
use Rattle.base.specs.declared.Refusal.{Refusal}
use Rattle.tree.specs.Tree.{Place, awaits}
use Rattle.tree.specs.Lookups.{place_lookup}
use Rattle.frame.specs.Frame.{read_frame}
use Rattle.frame.specs.Timing.{timing}
use Rattle.frame.specs.declared.Frame.{Frame}
use Rattle.frame.specs.declared.Timing.{Timing}
use Rattle.frame.specs.declared.Timing.TheVariants.{Now, Early, Late, Foreign}
use Rattle.node.specs.Calls.{is_awaited}
use Rattle.node.specs.Answers.{Outcome, done, dropped, refused as barred}

-- whose frame is awaited: nobody's where the place is refused
abbrev pub awaited_by : Answered Place → Option ℕ
awaited_by (refused x) = none
awaited_by (found q) = awaits q

-- rule R7: now is stored, early held back by the caller, late dropped without effect, foreign refused
abbrev pub by_time : Timing → Outcome
by_time Now = done
by_time Early = barred (number Refusal.Early)
by_time Late = dropped
by_time Foreign = barred (number Refusal.Foreign)

-- what the reader refuses is refused
abbrev pub once_read : Answered Frame → Outcome → Outcome
once_read (refused x) said = barred x
once_read (found f) said = said

-- the node awaits the frame's sender in the frame's dimension
abbrev pub awaits_sender : Limits → ℕ → ℕ → List ℕ → Bool
awaits_sender L nodes number bs = is_awaited (awaited_by (place_lookup L nodes (get_or bs 2 0) number)) (get_or bs 3 0)

-- what is asked of the sender of a frame that is read
abbrev pub sender_tests : Limits → ℕ → ℕ → List ℕ → List Check
sender_tests L nodes number bs =
    when (eqb (get_or bs 3 0) number) Refusal.Itself ∷ when (not (awaits_sender L nodes number bs)) Refusal.Partner ∷ []

unfoldable pub judged : Limits → ℕ → ℕ → ℕ → List ℕ → Outcome
judged L nodes number here bs =
    once_read (read_frame L nodes bs)
    (in_order barred (sender_tests L nodes number bs) (by_time (timing (get_or bs 1 0) here)))
