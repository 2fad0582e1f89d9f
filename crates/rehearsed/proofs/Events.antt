-- A line that names nodes of the board is an event, which its turn follows; and what prints the lines of its events is a
-- run. Nothing here speaks of a script.
use mathlib.Core.Path.{◌≡◌, refl, sym, ap, ◌∙◌, subst}
use mathlib.Core.Bool.{true}
use mathlib.Core.List.{List, [], ◌∷◌, ◌++◌}
use Prim.Native.Nat.{ℕ, zero, suc, ◌≤◌, ◌<◌}
use native.Mathlib.Omega.{arith}
use lib.Dec.{ltb}
use lib.ListN.{take}
use borrow.Author.Tests.{ltb-true, eq-eqb, ne_eqb}
use Rattle.base.specs.Choice.{both}
use Rattle.base.specs.Limits.{base}
use Rattle.base.proofs.Laws.{clash, choose_yes, choose_no, both_true, length_list, list_at}
use Rattle.node.specs.Change.{fresh_in}
use Rattle.events.specs.Board.{Board, Event, sends, idles, calls, delivers, start, step, after, run}
use Rattle.events.specs.Fit.{Fit}
use Rattle.runs.specs.Claim.{NoLoss}
use Rattle.runs.specs.Facts.{Facts}
use Rattle.runs.specs.Printed.{printed, lines}
use Rattle.runs.proofs.Facts.{every_run}
use Rattle.runs.proofs.Whole.{safe, lives}
use Rattle.line_forms.specs.declared.Line.{Line}
use Rattle.line_forms.specs.declared.Line.TheVariants.{Nodes, Sends, Delivers, Idles, Calls, Bad}
use Rattle.items.specs.declared.Item.{Item}
use Rattle.states.specs.Words.{no_state, fresh_state}
use Rattle.under_way.specs.Frames.{place_size}
use Rattle.board_states.specs.States.{opening}
use Rattle.board_states.specs.declared.Stage.{Stage}
use Rattle.turns.specs.Events.{Turn, turn_of}
use Rattle.line_forms.proofs.Named.{is_event}
use Rattle.rehearsed.specs.Run.{Told, told_of, kept, events_of, events_in, lines_of, IsRun}
use Rattle.rehearsed.proofs.States.{Bears, fresh_bears}
use Rattle.rehearsed.proofs.Same.{Same}
use Rattle.rehearsed.proofs.Follows.{Follows}
use Rattle.rehearsed.proofs.Acting.{send_follows, idle_follows, call_follows}
use Rattle.rehearsed.proofs.Delivering.{deliver_follows}

-- a board that a run leads to
pub record Ran (P : ℕ) (w : Board) : Type 0 where
  pub events : List Event
  pub leads : run base P events ≡ w

-- a line is an event, and this turn follows it
pub record Plays (P : ℕ) (w : Board) (l : Line) (t : Turn) : Type 0 where
  pub event : Event
  pub is : events_of l ≡ event ∷ []
  pub follows : Follows P w (step base P w event) (printed P w event) t

-- from a board on, the lines printed are those of the events kept
abbrev pub Prints : ℕ → Board → List Told → Type 0
Prints P w ts = lines_of (kept ts) ≡ lines P w (events_in (kept ts))

no_loss : (ts : List Told) (n : ℕ) → NoLoss (take n (events_in ts))
no_loss [] zero = tt
no_loss [] (suc n) = tt
no_loss (t ∷ ts) n = go t.line n (no_loss ts)
  where
    go : (l : Line) (n : ℕ) → ((n : ℕ) → NoLoss (take n (events_in ts)))
        → NoLoss (take n (events_of l ++ events_in ts))
    go (Nodes P) n f = f n
    go (Sends kind a b) zero f = tt
    go (Sends kind a b) (suc n) f = f n
    go (Delivers a b) zero f = tt
    go (Delivers a b) (suc n) f = f n
    go (Idles a) zero f = tt
    go (Idles a) (suc n) f = f n
    go (Calls a) zero f = tt
    go (Calls a) (suc n) f = f n
    go Bad n f = f n

module _ (P : ℕ) (one : 1 ≤ P) (few : P ≤ 16) where
  fit : Fit base
  fit = record { room = omega arith; four = omega arith }

  one_after : (w : Board) (es : List Event) (e : Event)
      → after base P w (es ++ e ∷ []) ≡ step base P (after base P w es) e
  one_after w [] e = refl
  one_after w (x ∷ es) e = one_after (step base P w x) es e

  ran_on : (w : Board) → Ran P w → (e : Event) → Ran P (step base P w e)
  ran_on w r e =
      record {
        events = r.events ++ e ∷ [];
        leads = one_after (start P) r.events e ∙ ap (λ w. step base P w e) r.leads;
      }

  facts_of : (w : Board) → Ran P w → Facts base P w
  facts_of w r = subst (Facts base P) r.leads (every_run base fit P one (omega arith) r.events)

  -- ---- one line

  module _ (st : Stage) (items : List Item) (bytes : List ℕ) (w : Board) (s : Same P st items bytes w)
      (r : Ran P w) where
    within : (a : ℕ) → ltb a st.size ≡ true → a < P
    within a e = omega (arith, ltb-true a st.size e, s.size)

    within_both : (a b : ℕ) → both (ltb a st.size) (ltb b st.size) ≡ true → (a < P) × (b < P)
    within_both a b e =
        let q = both_true (ltb a st.size) (ltb b st.size) e in (within a q.0, within b q.1)

    pub plays : (l : Line) → is_event st.size l ≡ true → Plays P w l (turn_of st items bytes l)
    plays (Nodes n) e = clash (sym e)
    plays (Sends kind a b) e =
        record {
          event = sends kind a b;
          is = refl;
          follows = send_follows few s (facts_of w r) a (within_both a b e).0 kind b;
        }
    plays (Delivers a b) e =
        record {
          event = delivers a b;
          is = refl;
          follows = deliver_follows few s (facts_of w r) a b (within_both a b e).1;
        }
    plays (Idles a) e =
        record { event = idles a; is = refl; follows = idle_follows few s (facts_of w r) a (within a e) }
    plays (Calls a) e =
        record { event = calls a place_size; is = refl; follows = call_follows few s (facts_of w r) a (within a e) }
    plays Bad e = clash (sym e)

  -- ---- all lines

  pub prints_one : (w : Board) (l : Line) (t : Turn) (rest : List Told) → Ran P w → Plays P w l t
      → ((w : Board) → Same P t.stage t.items t.bytes w → Ran P w → Prints P w rest)
      → Prints P w (told_of l t ∷ rest)
  prints_one w l t rest r p f = go p.follows
    where
      go : Follows P w (step base P w p.event) (printed P w p.event) t → Prints P w (told_of l t ∷ rest)
      go (Follows.out z s) =
          subst (λ ts. lines_of ts ≡ lines P w (events_in ts)) (sym (choose_yes _ _ (eq-eqb _ _ z))) (f w s r)
      go (Follows.on z s shown) =
          let g = f (step base P w p.event) s (ran_on w r p.event) in
          subst (λ ts. lines_of ts ≡ lines P w (events_in ts)) (sym (choose_no _ _ (ne_eqb _ _ z)))
          (subst (λ es. lines_of (told_of l t ∷ kept rest) ≡ lines P w (es ++ events_in (kept rest))) (sym p.is)
          (λ i. shown i ∷ g i))

  -- a fresh board
  begun : (items : List Item) (bytes : List ℕ) → Same P (opening P) items bytes (start P)
  begun items bytes =
      record {
        size = refl;
        array = length_list 0 16 (fresh_state P);
        nodes =
            λ a h. subst (λ s. Bears s (fresh_in P a 0)) (sym (list_at 16 (fresh_state P) a no_state (omega arith)))
            (fresh_bears P a one few h);
        under = refl;
        lent = omega arith;
        stand = tt;
      }

  -- what prints the lines of its events from every board that is the same, is a run from a fresh one
  pub is_run_lem : (items : List Item) (bytes : List ℕ) (ts : List Told)
      → ((w : Board) → Same P (opening P) items bytes w → Ran P w → Prints P w ts) → IsRun P ts
  is_run_lem items bytes ts f =
      let es = events_in (kept ts) in
      record {
        printed = f (start P) (begun items bytes) (record { events = []; leads = refl });
        safe = λ n. safe base fit P one (omega arith) (take n es);
        lives = λ n. lives base fit P one (omega arith) (take n es) (no_loss (kept ts) n);
      }
