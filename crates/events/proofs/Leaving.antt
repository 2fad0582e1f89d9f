-- A barrier call that leaves is a step.
use mathlib.Core.Path.{◌≡◌, refl, sym, ap, ◌∙◌, subst}
use mathlib.Core.Logic.{◌≢◌, inl}
use mathlib.Core.Bool.{Bool, true, false}
use mathlib.Core.Option.{Option, some}
use Prim.Native.Nat.{ℕ, suc, ◌+◌, ◌%◌, ◌≤◌, ◌<◌}
use native.Mathlib.Decide.{ℕ_discrete, dec_lt}
use native.Mathlib.Omega.{arith}
use Rattle.base.specs.Limits.{Limits, field_limit}
use Rattle.tree.specs.Tree.{dimension}
use Rattle.node.specs.Agree.{agrees}
use Rattle.node.specs.Change.{fresh_in}
use Rattle.node.specs.Answers.{left}
use Rattle.node.specs.declared.Node.{Node}
use Rattle.events.specs.Board.{put, Board, calls, gave, after_call}
use Rattle.cycle.proofs.Sums.{update, update_all, update_same, update_other}
use Rattle.cycle.proofs.Exact.{sent_all}
use Rattle.cycle.proofs.OnePhase.{State, dim_of, Agrees, at_step}
use Rattle.cycle.proofs.Opening.{fresh}
use Rattle.cycle.proofs.Ledger.{Page, Ledger, Reached}
use Rattle.cycle.proofs.Reached.{invariant}
use Rattle.cycle.proofs.Window.{Move, window_keeps}
use Rattle.cycle.proofs.Events.{state_of, page_with, act_leave}
use Rattle.events.proofs.Tools.{put_same, put_other, put_all}
use Rattle.events.proofs.PhaseByte.{next_byte}
use Rattle.events.proofs.Setting.{Setting, tree, dim_low, dim_pos}
use Rattle.node.proofs.Ways.{NoneDue}
use Rattle.events.proofs.Changes.{like_fresh}
use Rattle.events.proofs.Sim.{is_some, has_stored, window_same, awaited_in, awaited_below, Holds}
use Rattle.events.proofs.Sim.{Sim}
use Rattle.events.proofs.Marks.{Marks, marks_same, takes_same, log_same}
use Rattle.node.proofs.Valid.{step_second}
use Rattle.events.proofs.Played.{Played, Next, lossy_same, hold, dims_is}
use Rattle.events.proofs.Caller.{rest_of, mute_of, agree_of}

module _ {L : Limits} {P : ℕ} {setting : Setting L P} {w : Board} (play : Played setting w) where
  abbrev p : ℕ
  p = dimension P

  abbrev ledger : Ledger
  ledger = play.ledger

  abbrev reached : Reached (tree setting) (field_limit L) play.ledger
  reached = play.reached

  abbrev sim : Sim setting w play.ledger
  sim = play.sim

  abbrev marks : Marks P w.untaken w.sends w.items play.ledger
  marks = play.marks

  module _ (a : ℕ) (h : a < P) where
    agree_has : (u : State) (s c : ℕ) (o : Option ℕ) → o ≡ some c → Agrees p (field_limit L) u s o
        → is_some (u.stored s) ≡ true
    agree_has u s c o e Agrees.alone = let z : ◌≡◌ {A = ℕ} 0 1 = cc in absurd (omega arith)
    agree_has u s c o e (Agrees.first w x l g c1 c2 c3 c4) = ap is_some g
    agree_has u s c o e (Agrees.second w x l g c3 c5 c6) = ap is_some g

    -- the node leaves
    pub leave_next : (len : ℕ) → (w.nodes a).busy ≡ false → NoneDue L (w.nodes a)
        → agrees L (w.nodes a) (w.nodes a).pass (w.nodes a).dim ≡ true → suc (w.nodes a).dim ≡ p
        → (w.nodes a).pass ≡ 2 → Next setting w play (calls a len)
        (after_call (gave w a (fresh_in (w.nodes a).nodes (w.nodes a).number (((w.nodes a).phase + 1) % 256))) a
        (w.nodes a) left)
    leave_next len b m g d pa =
        record {
          played = record {
            ledger = after;
            reached = Reached.next reached
                (act_leave reached a (state_of ledger a).agreed h (rest_of play a h b) (mute_of play a h m)
                (agree_of play a h g) (λ q. refl) (λ q. absurd (omega (arith, at_is))) (omega (arith, at_is)));
            sim = record {
              counts =
                  put_all (λ y c. c ≡ update ledger.phase a (suc (ledger.phase a)) y) w.count a
                  (suc (w.count a))
                  (ap suc (sim.counts a) ∙ sym (update_same ledger.phase a (suc (ledger.phase a))))
                  (λ y z. sim.counts y ∙ sym (update_other ledger.phase a (suc (ledger.phase a)) y z));
              node = λ y q. nodes y q (ℕ_discrete y a);
              busy =
                  put_all (λ y n. y < P → n.busy ≡ put w.busy a true y) w.nodes a n'
                  (λ q. sym (put_same w.busy a true))
                  (λ y z q. sim.busy y q ∙ sym (put_other w.busy a true y z));
              items = sim.items;
              win =
                  window_same (λ c. hass c (ℕ_discrete c a))
                  (window_keeps (awaited_in setting) (Move.leave a stored_all) sim.win);
              capped =
                  update_all (λ m w. (y : ℕ) → y < P → (w.nodes y).tallies sent_all ≤ L.sends) ledger.pages
                  (ledger.phase a) u
                  (update_all (λ y nd. y < P → nd.tallies sent_all ≤ L.sends)
                  (ledger.pages (ledger.phase a)).nodes a v
                  (λ q. sim.capped (ledger.phase a) a h) (λ y z q. sim.capped (ledger.phase a) y q))
                  (λ m z y q. sim.capped m y q);
            };
            marks =
                marks_same P marks marks.named
                marks.apart (takes_same P ledger a u v ledger.items refl refl)
                (log_same P ledger (ledger.phase a) u ledger.items refl);
          };
          calm = inl (lossy_same ledger (ledger.phase a) u ledger.items refl);
        }
      where
        v : State
        v = at_step (state_of ledger a) (suc (state_of ledger a).step) true (state_of ledger a).agreed

        u : Page
        u =
            page_with (ledger.pages (ledger.phase a)) a
            (at_step (state_of ledger a) (suc (state_of ledger a).step) true (state_of ledger a).agreed)

        after : Ledger
        after =
            record {
              phase = update ledger.phase a (suc (ledger.phase a));
              pages = update ledger.pages (ledger.phase a)
                  (page_with (ledger.pages (ledger.phase a)) a
                  (at_step (state_of ledger a) (suc (state_of ledger a).step) true (state_of ledger a).agreed));
              items = ledger.items;
            }

        n' : Node
        n' = fresh_in (w.nodes a).nodes (w.nodes a).number (((w.nodes a).phase + 1) % 256)

        at_is : (state_of ledger a).step ≡ p + (w.nodes a).dim
        at_is = sym (hold play a h).like.step ∙ step_second p (w.nodes a).pass (w.nodes a).dim pa

        seat_a : state_of after a ≡ fresh
        seat_a =
            ap (λ m. (update ledger.pages (ledger.phase a) u m).nodes a)
            (update_same ledger.phase a (suc (ledger.phase a)))
            ∙ ap (λ (w : Page). w.nodes a)
            (update_other ledger.pages (ledger.phase a) u (suc (ledger.phase a)) (λ q. omega arith))
            ∙ (invariant reached).ahead a (suc (ledger.phase a)) (omega arith)

        seat_y : (y : ℕ) → y ≢ a → state_of after y ≡ state_of ledger y
        seat_y y z =
            ap (λ m. (update ledger.pages (ledger.phase a) u m).nodes y)
            (update_other ledger.phase a (suc (ledger.phase a)) y z)
            ∙ update_all (λ m w. w.nodes y ≡ (ledger.pages m).nodes y) ledger.pages (ledger.phase a) u
            (update_other (ledger.pages (ledger.phase a)).nodes a v y z) (λ m q. refl) (ledger.phase y)

        new : Holds setting a (suc (w.count a)) n' fresh
        new =
            record {
              nodes = (hold play a h).nodes;
              number = (hold play a h).number;
              phase = ap (λ x. (x + 1) % 256) (hold play a h).phase
                  ∙ next_byte (w.count a);
              pass = inl refl;
              low = dim_pos setting;
              sized = record { sent = refl; taken = refl; first = refl; second = refl };
              like =
                  like_fresh p (w.nodes a).nodes (w.nodes a).number (((w.nodes a).phase + 1) % 256)
                  (dims_is play a h) (dim_low setting);
            }

        nodes : (y : ℕ) → y < P → Dec (y ≡ a)
            → Holds setting y (put w.count a (suc (w.count a)) y) (put w.nodes a n' y) (state_of after y)
        nodes y q (yes z) =
            subst (λ y. Holds setting y (put w.count a (suc (w.count a)) y) (put w.nodes a n' y)
            (state_of after y)) (sym z)
            (subst (Holds setting a (put w.count a (suc (w.count a)) a) (put w.nodes a n' a)) (sym seat_a)
            (subst (λ c. Holds setting a c (put w.nodes a n' a) fresh)
            (sym (put_same w.count a (suc (w.count a))))
            (subst (λ n. Holds setting a (suc (w.count a)) n fresh) (sym (put_same w.nodes a n')) new)))
        nodes y q (no z) =
            subst (Holds setting y (put w.count a (suc (w.count a)) y) (put w.nodes a n' y)) (sym (seat_y y z))
            (subst (λ c. Holds setting y c (put w.nodes a n' y) (state_of ledger y))
            (sym (put_other w.count a (suc (w.count a)) y z))
            (subst (λ n. Holds setting y (w.count y) n (state_of ledger y)) (sym (put_other w.nodes a n' y z))
            (sim.node y q)))

        hass : (c : ℕ) → Dec (c ≡ a) → (s : ℕ) → has_stored after c s ≡ update (has_stored ledger) a (λ s. false) c s
        hass c (yes z) s =
            subst (λ c. has_stored after c s ≡ update (has_stored ledger) a (λ s. false) c s) (sym z)
            (ap (λ (nd : State). is_some (nd.stored s)) seat_a
            ∙ sym (ap (λ (g : ℕ → Bool). g s) (update_same (has_stored ledger) a (λ s. false))))
        hass c (no z) s =
            ap (λ (nd : State). is_some (nd.stored s)) (seat_y c z)
            ∙ sym (ap (λ (g : ℕ → Bool). g s) (update_other (has_stored ledger) a (λ s. false) c z))

        stored_all : (c s : ℕ) → awaited_in setting s a ≡ some c → has_stored ledger a s ≡ true
        stored_all c s e = let q = awaited_below setting s a c e in by q (dec_lt s (state_of ledger a).step)
          where
            by : (s < p + p) × ((tree setting).awaited (dim_of p s) a ≡ some c) → Dec (s < (state_of ledger a).step)
                → has_stored ledger a s ≡ true
            by q (yes l) =
                agree_has (state_of ledger a) s c ((tree setting).awaited (dim_of p s) a) q.1
                ((((invariant reached).fit
                (ledger.phase a)).nodes_ok a h).agrees s l)
            by q (no l) =
                let z : s ≡ (state_of ledger a).step = omega (arith, at_is, q.0) in
                subst (λ s. has_stored ledger a s ≡ true) (sym z)
                (agree_has (state_of ledger a) (state_of ledger a).step c
                ((tree setting).awaited (dim_of p (state_of ledger a).step) a)
                (subst (λ s. (tree setting).awaited (dim_of p s) a ≡ some c) z q.1) (agree_of play a h g))
