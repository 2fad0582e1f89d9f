-- An idle call and a send are steps.
use mathlib.Core.Path.{◌≡◌, refl, sym, ap, ◌∙◌, subst}
use mathlib.Core.Logic.{◌≢◌, inl}
use mathlib.Core.Bool.{true, false}
use mathlib.Core.Option.{some}
use mathlib.Core.List.{List, [], ◌∷◌, ◌++◌}
use Prim.Native.Nat.{ℕ, suc, ◌<◌}
use native.Mathlib.Omega.{arith}
use lib.ListN.{length, length-set}
use Rattle.base.specs.Limits.{Limits, field_limit}
use Rattle.base.specs.declared.Kind.{Kind}
use Rattle.tree.specs.Tree.{dimension, distance}
use Rattle.node.specs.Change.{with_busy}
use Rattle.node.specs.Answers.{Given, Outcome}
use Rattle.node.specs.Calls.{one_sent}
use Rattle.node.specs.declared.Node.{Node}
use Rattle.events.specs.Board.{put, work, Item, Board, sends, idles, gave, after_send, after_idle}
use native.Mathlib.Nat.{mul-le-mul_right}
use Rattle.cycle.proofs.Sums.{sum_count, sum_ext, sum_less, count}
use Rattle.cycle.proofs.Exact.{sent_all}
use Rattle.cycle.proofs.OnePhase.{message, State, with_tallies, bump_sent, Shell}
use Rattle.cycle.proofs.Ledger.{Dated, Page, Ledger, Reached}
use Rattle.cycle.proofs.Reached.{invariant, within_one}
use Rattle.cycle.proofs.Window.{Move, window_keeps}
use Rattle.cycle.proofs.Events.{state_of, ledger_with, page_sent, act_rest, act_send}
use Rattle.events.proofs.Tools.{put_same, put_other}
use Rattle.events.proofs.Setting.{Setting, tree, dim_low, shell_ok_lem, shell_lt}
use Rattle.node.proofs.Ways.{SendWay, IdleWay}
use Rattle.events.proofs.Changes.{like_sent, like_idle}
use Rattle.events.proofs.Pairs.{pair_append}
use Rattle.events.proofs.Sim.{window_same, awaited_in, Holds, Carried, Sim, acted, stored_same}
use Rattle.events.proofs.Marks.{Marks, marks_send}
use Rattle.events.proofs.Played.{Played, Next, lossy_same, held, turns_still, hold, dims_is}

module _ {L : Limits} {P : ℕ} {setting : Setting L P} {w : Board} (play : Played setting w) where
  abbrev p : ℕ
  p = dimension P

  abbrev ledger : Ledger
  ledger = play.ledger

  abbrev reached : Reached (tree setting) (field_limit L) play.ledger
  reached = play.reached

  abbrev sim : Sim setting w play.ledger
  sim = play.sim

  abbrev marks : Marks P w.untaken w.sends w.items play.ledger
  marks = play.marks

  -- ---- idle

  pub idle_next : (a : ℕ) → a < P → (q : Given Outcome) → IdleWay L (w.nodes a) q
      → Next setting w play (idles a) (after_idle (gave w a q.node) a q.answer)
  idle_next a h q (IdleWay.refused x s) = held play (idles a) a
  idle_next a h q (IdleWay.done v) =
      let o = hold play a h in
      turns_still play (idles a) a h (with_tallies (state_of ledger a) false (state_of ledger a).tallies)
      (with_busy (w.nodes a) false) refl refl (act_rest reached a h)
      (record {
        nodes = o.nodes;
        number = o.number;
        phase = o.phase;
        pass = o.pass;
        low = o.low;
        sized = o.sized;
        like = like_idle p (w.nodes a) (state_of ledger a) (dims_is play a h) o.like;
      })
      (put w.busy a false) (sym (put_same w.busy a false)) (λ y z. put_other w.busy a false y z)

  -- ---- send

  log_room : (a : ℕ) → a < P → (state_of ledger a).tallies sent_all < L.sends
      → length (ledger.pages (ledger.phase a)).senders < field_limit L
  log_room a h l =
      let f = (invariant reached).fit (ledger.phase a) in
      let e = sum_count P (ledger.pages (ledger.phase a)).senders f.below in
      let g = sum_ext (λ y. ((ledger.pages (ledger.phase a)).nodes y).tallies sent_all)
      (λ y. count y (ledger.pages (ledger.phase a)).senders) 0 P (λ y x z. (f.nodes_ok y (omega arith)).count_is) in
      omega (
        arith,
        sum_less (λ y. ((ledger.pages (ledger.phase a)).nodes y).tallies sent_all) L.sends P a
            (λ y q. sim.capped (ledger.phase a) y q) h l,
        mul-le-mul_right L.sends setting.few,
      )

  pub send_next : (kind : Kind) (a b : ℕ) → a < P → (q : Given Outcome) → SendWay L (w.nodes a) b q
      → Next setting w play (sends kind a b) (after_send (gave w a q.node) kind a b q.answer)
  send_next kind a b h q (SendWay.refused x s) = held play (sends kind a b) a
  send_next kind a b h q (SendWay.done va b1 b2 bu cap) =
      record {
        played = record {
          ledger = ledger_with ledger (ledger.phase a) u ms;
          reached = Reached.next reached
              (act_send reached a b j h hb jp shell (sym o.like.busy ∙ bu)
              (log_room a h less));
          sim =
              acted setting sim a h u v refl n'
              ok' (omega (arith, less)) _ ms
              (pair_append (Carried setting) w.items (item ∷ []) ledger.items
              (record { phase = ledger.phase a; item = record { from = a; to = b; load = message } } ∷ [])
              sim.items (
                record {
                  from = refl;
                  to = refl;
                  phase = sim.counts a;
                  from_lt = h;
                  to_lt = hb;
                  load = ap (λ (n : Node). n.phase) (put_same w.nodes a n') ∙ o.phase;
                },
                tt,
              )) (window_same (stored_same setting sim a h u v refl n'
              ok' (omega (arith, less)) ms (λ s. refl))
              (window_keeps (awaited_in setting) (Move.out
              (record { phase = ledger.phase a; item = record { from = a; to = b; load = message } }) refl
              (within_one reached b a hb h)
              (λ s q. let z : ◌≡◌ {A = ℕ} 0 1 = cc in absurd (omega arith))) sim.win))
              w.busy (bu ∙ sym (sym (sim.busy a h) ∙ bu))
              (λ y z. refl) (put w.untaken w.sends (some (w.count a))) (suc w.sends);
          marks = marks_send P marks a b v ms item refl refl (sim.counts a);
        };
        calm = inl (lossy_same ledger (ledger.phase a) u ms refl);
      }
    where
      n : Node
      n = w.nodes a

      o : Holds setting a (w.count a) (w.nodes a) (state_of ledger a)
      o = hold play a h

      j : ℕ
      j = distance (w.nodes a).nodes (w.nodes a).number b

      n' : Node
      n' = one_sent (w.nodes a) (distance (w.nodes a).nodes (w.nodes a).number b)

      v : State
      v =
          with_tallies (state_of ledger a) true
          (bump_sent (state_of ledger a).tallies (distance (w.nodes a).nodes (w.nodes a).number b))

      u : Page
      u =
          page_sent (ledger.pages (ledger.phase a)) a b
          (with_tallies (state_of ledger a) true
          (bump_sent (state_of ledger a).tallies (distance (w.nodes a).nodes (w.nodes a).number b)))

      ms : List Dated
      ms =
          ledger.items ++ (record { phase = ledger.phase a; item = record { from = a; to = b; load = message } } ∷ [])

      item : Item
      item =
          record {
            from = a;
            to = b;
            load =
                work kind (put w.nodes a (one_sent (w.nodes a) (distance (w.nodes a).nodes (w.nodes a).number b))
                a).phase;
            phase = w.count a;
            name = w.sends;
          }

      hb : b < P
      hb = omega (arith, b1, (hold play a h).nodes)

      ne : a ≢ b
      ne q = b2 (sym q ∙ sym (hold play a h).number)

      j_is : distance P a b ≡ distance (w.nodes a).nodes (w.nodes a).number b
      j_is = rw ((hold play a h).nodes, (hold play a h).number) refl

      shell : Shell (tree setting) a b (distance (w.nodes a).nodes (w.nodes a).number b)
      shell = subst (Shell (tree setting) a b) j_is (shell_ok_lem setting a b h hb ne)

      jp : distance (w.nodes a).nodes (w.nodes a).number b < p
      jp = omega (arith, j_is, shell_lt setting a b h hb ne)

      less : (state_of ledger a).tallies sent_all < L.sends
      less = omega (arith, cap, (hold play a h).like.tallies sent_all tt)

      ok' : Holds setting a (w.count a) n' v
      ok' =
          record {
            nodes = o.nodes;
            number = o.number;
            phase = o.phase;
            pass = o.pass;
            low = o.low;
            sized =
                record {
                  sent = length-set n.sent j _
                      ∙ o.sized.sent;
                  taken = o.sized.taken;
                  first = o.sized.first;
                  second = o.sized.second;
                };
            like =
                like_sent p n (state_of ledger a) (dims_is play a h) o.like j jp
                (omega (arith, o.sized.sent, jp, dim_low setting)) bu;
          }
