-- The oldest item of a link: where it stands, its twin in the ledger, and what it is to be off the link.
use mathlib.Core.Path.{◌≡◌, refl, sym, ap, ◌∙◌, subst}
use mathlib.Core.Logic.{◌≢◌, ◌⊎◌, inr}
use mathlib.Core.Option.{some}
use mathlib.Core.List.{◌∷◌, ◌++◌}
use Prim.Native.Nat.{ℕ, suc, ◌≤◌, ◌<◌}
use native.Mathlib.Omega.{arith}
use borrow.Author.Tests.{eqb-false}
use Rattle.base.specs.Limits.{Limits, field_limit}
use Rattle.base.proofs.Laws.{cases}
use Rattle.tree.specs.Tree.{dimension}
use Rattle.events.specs.Board.{Item, Board, delivers, oldest, without, gave, carries, off_unless_early}
use Rattle.cycle.proofs.Sums.{update, update_all, sum, sum_ext}
use Rattle.cycle.proofs.Lists.{All, all_mid}
use Rattle.cycle.proofs.Exact.{taken_all}
use Rattle.cycle.proofs.OnePhase.{State, Content}
use Rattle.cycle.proofs.OnePhase.{OnLink}
use Rattle.cycle.proofs.Ledger.{Dated, Page, Ledger, Step, Reached}
use Rattle.cycle.proofs.Reached.{within_one}
use Rattle.cycle.proofs.Window.{Window, Move, window_keeps, Sent}
use Rattle.cycle.proofs.Dating.{FirstDated}
use Rattle.cycle.proofs.Events.{ledger_with, page_lost, act_lose}
use Rattle.events.proofs.Setting.{Setting, tree}
use Rattle.events.proofs.Pairs.{Pair, pair_append, Cut, cut, pair_all, Found, found}
use Rattle.events.proofs.Sim.{has_stored, awaited_in, Carried, Sim}
use Rattle.events.proofs.Sim.{unmoved, carried}
use Rattle.events.proofs.Marks.{Named, Apart, Marks, marks_same, less_named, less_apart, log_same}
use Rattle.events.proofs.Played.{Played, Next, Mishap, held}

-- the oldest item of the link from a to b
pub record Arrives (w : Board) (a b : ℕ) (m : Item) : Type 0 where
  pub first : oldest a b w.items ≡ some m

pub arrives : (w : Board) (a b : ℕ) (m : Item) → oldest a b w.items ≡ some m → Arrives w a b m
arrives w a b m e = record { first = e }

module _ {L : Limits} {P : ℕ} {setting : Setting L P} {w : Board} (play : Played setting w) where
  abbrev p : ℕ
  p = dimension P

  abbrev ledger : Ledger
  ledger = play.ledger

  abbrev reached : Reached (tree setting) (field_limit L) play.ledger
  reached = play.reached

  abbrev sim : Sim setting w play.ledger
  sim = play.sim

  abbrev marks : Marks P w.untaken w.sends w.items play.ledger
  marks = play.marks

  msg_is : (u : Dated) (n a b : ℕ) → n ≡ u.phase → a ≡ u.item.from → b ≡ u.item.to
      → u ≡ record { phase = n; item = record { from = a; to = b; load = u.item.load } }
  msg_is u n a b x y z =
      ap (λ n. record { phase = n; item = u.item }) (sym x)
      ∙ ap (λ a. record { phase = n; item = record { from = a; to = u.item.to; load = u.item.load } }) (sym y)
      ∙ ap (λ b. record { phase = n; item = record { from = a; to = b; load = u.item.load } }) (sym z)

  module _ {a b : ℕ} {m : Item} (arrival : Arrives w a b m) where
    -- where the item stands on the board, and its twin in the ledger
    pub place : Found a b w.items m
    place = found a b w.items m arrival.first

    pub twin : Cut (Carried setting) place.pre place.post m ledger.items
    twin =
        cut (Carried setting) place.pre place.post m ledger.items
        (subst (λ l. Pair (Carried setting) l ledger.items) place.whole sim.items)

    pub sender_lt : a < P
    sender_lt = omega (arith, twin.related.from_lt, place.from_is)

    pub receiver_lt : b < P
    receiver_lt = omega (arith, twin.related.to_lt, place.to_is)

    pub whole : (l : Content) → twin.one.item.load ≡ l
        → ledger.items ≡ twin.pre ++ record { phase = m.phase; item = record { from = a; to = b; load = l } }
        ∷ twin.post
    whole l q =
        twin.whole ∙ ap (λ u. twin.pre ++ u ∷ twin.post)
        (msg_is twin.one m.phase a b twin.related.phase (sym place.from_is ∙ twin.related.from)
        (sym place.to_is ∙ twin.related.to)
        ∙ ap (λ l. record { phase = m.phase; item = record { from = a; to = b; load = l } }) q)

    pub nothing_before : FirstDated twin.pre a b
    nothing_before =
        pair_all (Carried setting) (λ k. (k.from ≡ a) × (k.to ≡ b) → ⊥) (λ u. OnLink a b u.item → ⊥)
        (λ x y z n o. n (z.from ∙ o.0, z.to ∙ o.1)) place.pre twin.pre twin.before place.none_before

    pub pairs : Pair (Carried setting) (place.pre ++ place.post) (twin.pre ++ twin.post)
    pairs =
        pair_append (Carried setting) place.pre place.post twin.pre twin.post twin.before twin.after

    pub off_win : Window (awaited_in setting) ledger.phase (has_stored ledger) (twin.pre ++ twin.post)
    off_win =
        window_keeps (awaited_in setting) (Move.off twin.pre twin.post twin.one twin.whole) sim.win

    pub named_less : All (Named w.untaken w.sends) (place.pre ++ place.post)
    named_less =
        less_named P w.untaken w.sends place.pre place.post m
        (subst (All (Named w.untaken w.sends)) place.whole marks.named)

    pub apart_less : Apart (place.pre ++ place.post)
    apart_less = less_apart P place.pre place.post m (subst Apart place.whole marks.apart)

    -- not after the receiver's next phase
    pub not_ahead : m.phase ≤ suc (ledger.phase b)
    not_ahead =
        let q = (all_mid (Sent ledger.phase) twin.pre twin.post
        (record { phase = m.phase; item = record { from = a; to = b; load = twin.one.item.load } })
        (subst (All (Sent ledger.phase)) (whole twin.one.item.load refl) sim.win.sent)).0 in
        omega (arith, within_one reached a b sender_lt receiver_lt)

    -- the item is off, and nothing else
    pub off_next : (u : Page) → Step (tree setting) (field_limit L) ledger
        (ledger_with ledger m.phase u (twin.pre ++ twin.post))
        → ((y : ℕ) → u.nodes y ≡ (ledger.pages m.phase).nodes y) → u.senders ≡ (ledger.pages m.phase).senders
        → ((n : ℕ) → ((ledger_with ledger m.phase u (twin.pre ++ twin.post)).pages n).lossy ≡ (ledger.pages n).lossy)
        ⊎ Mishap setting w (delivers a b)
        → Next setting w play (delivers a b) (carries (gave w b (w.nodes b)) (place.pre ++ place.post))
    off_next u st nd lg ca =
        record {
          played = record {
            ledger = ledger_with ledger m.phase u (twin.pre ++ twin.post);
            reached = Reached.next reached st;
            sim =
                carried setting (unmoved setting sim b)
                (place.pre ++ place.post)
                (twin.pre ++ twin.post) pairs (update ledger.pages m.phase u)
                (λ n y. update_all (λ n w. w.nodes y ≡ (ledger.pages n).nodes y) ledger.pages m.phase u (nd y)
                (λ n z. refl) n) off_win w.untaken w.sends;
            marks =
                marks_same P marks named_less apart_less
                (update_all (λ n w. sum (λ y. (w.nodes y).tallies taken_all) 0 P ≡ sum
                (λ y. ((ledger.pages n).nodes y).tallies taken_all) 0 P) ledger.pages m.phase u
                (sum_ext (λ y. (u.nodes y).tallies taken_all)
                (λ y. ((ledger.pages m.phase).nodes y).tallies taken_all) 0 P
                (λ y x z. ap (λ (nd : State). nd.tallies taken_all) (nd y))) (λ n z. refl))
                (log_same P ledger m.phase u (twin.pre ++ twin.post) lg);
          };
          calm = ca;
        }

    pub refused_next : (x : ℕ) → (x ≢ 7 → Mishap setting w (delivers a b))
        → Next setting w play (delivers a b) (off_unless_early (gave w b (w.nodes b)) a b x)
    refused_next x bad =
        cases (Next setting w play (delivers a b)) _ (gave w b (w.nodes b))
        (carries (gave w b (w.nodes b)) (without a b w.items)) (λ q. held play (delivers a b) b)
        (λ q. subst (λ l. Next setting w play (delivers a b) (carries (gave w b (w.nodes b)) l)) (sym place.rest)
        (off_next (page_lost (ledger.pages m.phase))
        (act_lose reached twin.pre twin.post m.phase a b
        twin.one.item.load
        (whole twin.one.item.load refl)) (λ y. refl) refl (inr (bad (eqb-false x 7 q)))))
