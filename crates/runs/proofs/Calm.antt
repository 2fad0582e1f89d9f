-- Without a loss every item that goes is taken, stored or late.
use mathlib.Core.Path.{◌≡◌, ◌∙◌}
use mathlib.Core.Logic.{◌⊎◌, inl, inr}
use mathlib.Core.Bool.{false}
use mathlib.Core.List.{List, [], ◌∷◌}
use Prim.Native.Nat.{ℕ}
use Rattle.base.specs.Limits.{Limits}
use Rattle.events.specs.Board.{Board, Event, sends, idles}
use Rattle.events.specs.Board.{calls, delivers, loses, start, step, after, run}
use Rattle.runs.specs.Claim.{NoLoss}
use Rattle.events.proofs.Setting.{Setting}
use Rattle.events.proofs.Arriving.{arrives}
use Rattle.events.proofs.Played.{Next, Mishap}
use Rattle.events.proofs.Steps.{next}
use Rattle.runs.proofs.Safety.{begun_calm}
use Rattle.runs.proofs.Early.{take_early_lem, frame_early_lem, Standing, standing_start, standing_step}

module _ {L : Limits} {P : ℕ} (setting : Setting L P) where
  pub record Calm (w : Board) : Type 0 where
    pub standing : Standing setting w
    pub calm : (n : ℕ) → (standing.played.ledger.pages n).lossy ≡ false

  no_mishap : (w : Board) → Standing setting w → (e : Event) → NoLoss (e ∷ []) → Mishap setting w e → ⊥
  no_mishap w s e l (Mishap.loss j) = l
  no_mishap w s e l (Mishap.bad_take a b m kind byte x old lw ans ne) =
      ne (take_early_lem setting w s.played s.accepted s.fine (arrives w a b m old) kind byte x lw ans)
  no_mishap w s e l (Mishap.bad_frame a b m bs x old lf ans ne) =
      ne (frame_early_lem setting w s.played s.accepted s.fine (arrives w a b m old) bs x lf ans)

  calm_step : (w : Board) → Calm w → (e : Event) → NoLoss (e ∷ []) → Calm (step L P w e)
  calm_step w s e l = record { standing = standing_step setting w s.standing e; calm = go nx.calm }
    where
      nx : Next setting w s.standing.played e (step L P w e)
      nx = next s.standing.played e

      go : ((n : ℕ) → (nx.played.ledger.pages n).lossy ≡ (s.standing.played.ledger.pages n).lossy)
          ⊎ Mishap setting w e → (n : ℕ) → (nx.played.ledger.pages n).lossy ≡ false
      go (inl z) n = z n ∙ s.calm n
      go (inr z) n = absurd (no_mishap w s.standing e l z)

  calm_on : (w : Board) → Calm w → (es : List Event) → NoLoss es → Calm (after L P w es)
  calm_on w s [] l = s
  calm_on w s (sends kind a b ∷ es) l =
      calm_on (step L P w (sends kind a b)) (calm_step w s (sends kind a b) tt) es l
  calm_on w s (idles a ∷ es) l = calm_on (step L P w (idles a)) (calm_step w s (idles a) tt) es l
  calm_on w s (calls a len ∷ es) l = calm_on (step L P w (calls a len)) (calm_step w s (calls a len) tt) es l
  calm_on w s (delivers a b ∷ es) l = calm_on (step L P w (delivers a b)) (calm_step w s (delivers a b) tt) es l
  calm_on w s (loses j ∷ es) l = absurd l

  pub calm_run : (es : List Event) → NoLoss es → Calm (run L P es)
  calm_run es l = calm_on (start P) (record { standing = standing_start setting; calm = begun_calm setting }) es l
