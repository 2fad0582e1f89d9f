-- In every run every state is accepted, and a delivered item is refused for being early or not at all.
use mathlib.Core.Path.{◌≡◌, refl, sym, ap, ◌∙◌, subst}
use mathlib.Core.Logic.{◌≢◌, ◌⊎◌}
use mathlib.Core.Option.{some}
use mathlib.Core.List.{List, [], ◌∷◌}
use Prim.Native.Nat.{ℕ, suc, ◌-◌, ◌*◌, ◌%◌, ◌≤◌, ◌<◌}
use native.Mathlib.Omega.{arith}
use Rattle.base.specs.Limits.{Limits, field_limit, taken_limit}
use Rattle.base.specs.declared.Kind.{Kind}
use Rattle.tree.specs.Tree.{dimension}
use Rattle.frame.specs.Frame.{fields_of}
use Rattle.frame.specs.Timing.{difference}
use Rattle.node.specs.Sums.{all_taken, tally}
use Rattle.node.specs.Answers.{refused}
use Rattle.node.specs.Calls.{take, frame_in}
use Rattle.events.specs.Board.{work, frame, Item, Board, Event}
use Rattle.events.specs.Board.{start, step, after, run}
use native.Mathlib.Nat.{mul-le-mul_right}
use Rattle.cycle.proofs.Lists.{All, all_mid}
use Rattle.cycle.proofs.Exact.{taken_all, Entries}
use Rattle.cycle.proofs.OnePhase.{message, report, dim_of}
use Rattle.cycle.proofs.Ledger.{Ledger, of_phase, phase_of}
use Rattle.cycle.proofs.Reached.{invariant}
use Rattle.cycle.proofs.Window.{Partnered}
use Rattle.cycle.proofs.Dating.{phase_mid}
use Rattle.cycle.proofs.Events.{state_of}
use Rattle.frame.proofs.RoundTripAccepted.{Read}
use Rattle.events.proofs.PhaseByte.{apart, now_or_early, not_foreign}
use Rattle.events.proofs.Setting.{Setting, tree}
use Rattle.node.proofs.Ways.{frame_of as fieldsIn, Comes, away}
use Rattle.events.proofs.Pairs.{Cut, Found}
use Rattle.events.proofs.Sim.{Carried, awaited_in, awaited_below, Holds, Says}
use Rattle.events.proofs.Emit.{dim_step}
use Rattle.events.proofs.Arriving.{Arrives, place as place_of, twin, sender_lt, receiver_lt, whole}
use Rattle.events.proofs.Arriving.{not_ahead}
use Rattle.events.proofs.Taking.{message_of, not_behind}
use Rattle.events.proofs.Storing.{report_of, frame_not_behind, frame_differs}
use Rattle.events.proofs.Played.{hold, dims_is, awaits_at_lem, Played}
use Rattle.events.proofs.Steps.{next}
use Rattle.runs.proofs.Safety.{begun}
use Rattle.runs.proofs.Clear.{take_clear, frame_clear}
use Rattle.runs.proofs.Room.{taken_room}
use Rattle.runs.proofs.Sound.{Fine, FineLoad, Accepted, AllFine, accepted_start, accepted_step, fine_step}

module _ {L : Limits} {P : ℕ} (setting : Setting L P) where
  abbrev p : ℕ
  p = dimension P

  module _ (w : Board) (play : Played setting w) (ok : Accepted setting w) (fine : AllFine setting w) where
    abbrev ledger : Ledger
    ledger = play.ledger

    state : (a : ℕ) → a < P → Holds setting a (w.count a) (w.nodes a) (state_of ledger a)
    state a h = hold play a h

    -- the oldest item m of the link from a to b
    module _ {a b : ℕ} {m : Item} (arrival : Arrives w a b m) where
      abbrev place : Found a b w.items m
      place = place_of play arrival

      abbrev mate : Cut (Carried setting) place.pre place.post m ledger.items
      mate = twin play arrival

      fine_one : Fine L P m
      fine_one =
          (all_mid (Fine L P) place.pre place.post m (subst (All (Fine L P)) place.whole fine)).0

      la : a < P
      la = sender_lt play arrival

      lb : b < P
      lb = receiver_lt play arrival

      other : a ≢ b
      other z = fine_one.0 (place.from_is ∙ z ∙ sym place.to_is)

      pub take_early_lem : (kind : Kind) (byte x : ℕ) → m.load ≡ work kind byte
          → (take L (w.nodes b) kind a byte).answer ≡ refused x → x ≡ 7
      take_early_lem kind byte x lw ans =
          take_clear L (w.nodes b) kind a byte x (ok b lb) (omega (arith, la, (state b lb).nodes))
          (λ z. other (z ∙ (state b lb).number)) timely space ans
        where
          load_is : (mate.one.item.load ≡ message) × (byte ≡ m.phase % 256)
          load_is = message_of play arrival kind byte lw

          not_later : m.phase ≤ suc (ledger.phase b)
          not_later = not_ahead play arrival

          not_earlier : ledger.phase b ≤ m.phase
          not_earlier = not_behind play arrival kind byte lw load_is.0 load_is.1 b lb

          differs : difference byte (w.nodes b).phase ≡ apart m.phase (ledger.phase b)
          differs =
              ap (λ z. difference z (w.nodes b).phase) load_is.1
              ∙ ap (difference (m.phase % 256)) ((state b lb).phase ∙ ap (λ n. n % 256) (play.sim.counts b))

          timely : (difference byte (w.nodes b).phase ≡ 0) ⊎ (difference byte (w.nodes b).phase ≡ 1)
          timely =
              subst (λ d. (d ≡ 0) ⊎ (d ≡ 1)) (sym differs)
              (now_or_early m.phase (ledger.phase b) not_later not_earlier)

          -- it may take one more
          space : difference byte (w.nodes b).phase ≡ 0 → tally (w.nodes b) all_taken < taken_limit L
          space z =
              let n = ledger.phase b in
              let ph : m.phase ≡ n = omega (arith, sym differs ∙ z, not_later, not_earlier) in
              let here = whole play arrival message load_is.0 in
              let r =
              taken_room (tree setting) (field_limit L) L.sends (phase_of ledger n) ((invariant play.reached).fit n)
              (λ y h. play.sim.capped n y h) a b la lb other (of_phase n mate.pre)
              (of_phase n mate.post) (ap (of_phase n) here ∙ phase_mid n mate.pre mate.post _ ph) in
              let most : (P - 1) * L.sends ≤ (L.nodes - 1) * L.sends =
              mul-le-mul_right L.sends (omega (arith, setting.few)) in
              omega (arith, r, most, (state b lb).like.tallies taken_all tt)

      pub frame_early_lem : (bs : List ℕ) (x : ℕ) → m.load ≡ frame bs → (frame_in L (w.nodes b) bs).answer ≡ refused x
          → x ≡ 7
      frame_early_lem bs x lf ans = frame_clear L (w.nodes b) bs comes x timely ans
        where
          load_is : (s : ℕ) × ((x : Entries) × ((mate.one.item.load ≡ report s x)
              × Says setting m.from m.phase (fields_of p bs) s x))
          load_is = report_of play arrival bs lf

          says : Says setting m.from m.phase (fieldsIn L (w.nodes b) bs) load_is.0 load_is.1.0
          says =
              subst (λ d. Says setting m.from m.phase (fields_of d bs) load_is.0 load_is.1.0)
              (sym (dims_is play b lb)) load_is.1.1.1

          from_a : (fieldsIn L (w.nodes b) bs).sender ≡ a
          from_a = says.sender ∙ place.from_is

          partner : awaited_in setting load_is.0 b ≡ some a
          partner =
              (all_mid (Partnered (awaited_in setting)) mate.pre mate.post
              (record {
                phase = m.phase;
                item =
                    record { from = a; to = b; load = report load_is.0 load_is.1.0 };
              })
              (subst (All (Partnered (awaited_in setting)))
              (whole play arrival (report load_is.0 load_is.1.0) load_is.1.1.0)
              play.sim.win.partner)).0 load_is.0 refl

          dim_is : dim_of p load_is.0 ≡ (fieldsIn L (w.nodes b) bs).dim
          dim_is =
              ap (dim_of p) (sym says.step)
              ∙ dim_step p (fieldsIn L (w.nodes b) bs).pass (fieldsIn L (w.nodes b) bs).dim says.pass says.low

          comes : Comes L (w.nodes b) bs
          comes =
              record {
                ok = ok b lb;
                read =
                    subst (λ N. Read L N bs (fields_of (dimension N) bs)) (sym (state b lb).nodes)
                    (subst (FineLoad L P) lf fine_one.1);
                other = λ z. other (sym from_a ∙ z ∙ (state b lb).number);
                awaits =
                    awaits_at_lem play b lb (fieldsIn L (w.nodes b) bs).dim
                    ∙ ap (λ d. (tree setting).awaited d b) (sym dim_is)
                    ∙ (awaited_below setting load_is.0 b a partner).1 ∙ ap some (sym from_a);
              }

          timely : (away L (w.nodes b) bs ≡ 0) ⊎ ((away L (w.nodes b) bs ≡ 1) ⊎ (away L (w.nodes b) bs ≡ 255))
          timely =
              subst (λ d. (d ≡ 0) ⊎ ((d ≡ 1) ⊎ (d ≡ 255)))
              (sym (frame_differs play arrival bs lf load_is.0 load_is.1.0 load_is.1.1.0
              load_is.1.1.1))
              (not_foreign m.phase (ledger.phase b) (not_ahead play arrival)
              (frame_not_behind play arrival bs lf load_is.0 load_is.1.0 load_is.1.1.0
              load_is.1.1.1))

  -- ---- every run

  -- what every run gives
  pub record Standing (w : Board) : Type 0 where
    pub played : Played setting w
    pub accepted : Accepted setting w
    pub fine : AllFine setting w

  abbrev pub standing_start : Standing (start P)
  standing_start = record { played = begun setting; accepted = accepted_start setting; fine = tt }

  abbrev pub standing_step : (w : Board) → Standing w → (e : Event) → Standing (step L P w e)
  standing_step w s e =
      record {
        played = (next s.played e).played;
        accepted = accepted_step setting w s.accepted e;
        fine = fine_step setting w s.played s.fine e;
      }

  standing_on : (w : Board) → Standing w → (es : List Event) → Standing (after L P w es)
  standing_on w s [] = s
  standing_on w s (e ∷ es) = standing_on (step L P w e) (standing_step w s e) es

  pub standing_run : (es : List Event) → Standing (run L P es)
  standing_run es = standing_on (start P) standing_start es
