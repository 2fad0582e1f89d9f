-- A board of one node: both halves of the claim.
use mathlib.Core.Path.{◌≡◌, refl, sym, ap, ◌∙◌, subst}
use mathlib.Core.Bool.{Bool, true, false}
use mathlib.Core.Option.{none, some}
use mathlib.Core.List.{List, [], ◌∷◌}
use Prim.Native.Nat.{ℕ, zero, suc, ◌+◌, ◌%◌, ◌≤◌, ◌<◌}
use native.Mathlib.Omega.{arith}
use lib.Dec.{ltb, leb-zero}
use borrow.Author.Tests.{ltb-true, le-ltb}
use Rattle.base.specs.Limits.{Limits, field_limit, taken_limit}
use Rattle.base.specs.declared.Kind.{Kind}
use Rattle.base.proofs.Laws.{clash, cases}
use Rattle.tree.specs.Tree.{dimension, awaited, receivers, run_of, place, place_in, run_below, smallest_from}
use Rattle.node.specs.Sums.{own, own_issued}
use Rattle.node.specs.Agree.{agrees}
use Rattle.node.specs.State.{valid, board_ok, position_ok, tallies_ok, total_ok, first_ok, second_ok, passed_ok, busy_ok}
use Rattle.node.specs.Change.{with_busy, fresh_in}
use Rattle.node.specs.Answers.{Given, give, Outcome, done, Barrier, left, barred}
use Rattle.node.specs.Calls.{send, idle}
use Rattle.node.specs.Barrier.{leaving, barrier}
use Rattle.node.specs.declared.Node.{Node}
use Rattle.events.specs.Board.{Board, Event, sends, idles, calls, delivers, loses, start, oldest}
use Rattle.events.specs.Board.{less_one, gave, after_send, after_idle, after_call, delivered_oldest, step, after, run}
use Rattle.runs.specs.Claim.{SendDone, TakeDone, Leaves, Safe, Goes, Lives}
use Rattle.events.proofs.Tools.{put_same}
use Rattle.events.proofs.PhaseByte.{next_byte}
use Rattle.node.proofs.Ways.{SendWay, send_way, IdleWay, idle_way}

module _ (L : Limits) (one-node : 1 ≤ L.nodes) where
  -- the only states: fresh but for phase and busy
  abbrev pub only : ℕ → Bool → Node
  only ph b = with_busy (fresh_in 1 0 ph) b

  pub only_valid : (ph : ℕ) (b : Bool) → valid L (only ph b) ≡ true
  unfolding valid board_ok position_ok tallies_ok total_ok first_ok second_ok passed_ok busy_ok own own_issued agrees awaited
      place place_in run_of run_below dimension smallest_from
  only_valid ph true =
      rw (le-ltb L.nodes 1 one-node, leb-zero L.sends, leb-zero (taken_limit L), leb-zero (field_limit L)) refl
  only_valid ph false =
      rw (le-ltb L.nodes 1 one-node, leb-zero L.sends, leb-zero (taken_limit L), leb-zero (field_limit L)) refl

  call_busy : (ph len : ℕ) → barrier L (only ph true) len ≡ give (only ph true) (barred 12)
  unfolding barrier
  call_busy ph len = rw (only_valid ph true) refl

  call_idle : (ph len : ℕ) → barrier L (only ph false) len ≡ leaving (only ph false)
  unfolding barrier receivers place place_in run_of run_below dimension smallest_from
  call_idle ph len = rw (only_valid ph false) refl

  no_send : (n : Node) (b : ℕ) (y : Given Outcome) → n.nodes ≡ 1 → n.number ≡ 0 → SendWay L n b y
      → (y.node ≡ n) × (y.answer ≡ done → ⊥)
  no_send n b y e f (SendWay.refused x s) = (refl, λ q. let z : ◌≡◌ {A = ℕ} 0 1 = cc in omega arith)
  no_send n b y e f (SendWay.done v b1 b2 bu ca) = absurd (b2 (omega arith))

  pub record Alone (w : Board) : Type 0 where
    pub phase : ℕ
    pub byte : phase ≡ w.count 0 % 256
    pub node : w.nodes 0 ≡ only phase (w.busy 0)
    pub items : w.items ≡ []
    pub untaken : (i : ℕ) → w.untaken i ≡ none

  -- what an event does
  data Change (w : Board) (w' : Board) : Type 0 where
    same : w'.busy 0 ≡ w.busy 0 → w'.count 0 ≡ w.count 0 → Change w w'
    rests : w'.busy 0 ≡ false → Change w w'
    gone_on : w'.count 0 ≡ suc (w.count 0) → Change w w'

  record Went (w w' : Board) : Type 0 where
    alone : Alone w'
    change : Change w w'

  module _ (w : Board) (i : Alone w) where
    stays : (n : Node) → n ≡ w.nodes 0 → Went w (gave w 0 n)
    stays n e =
        record {
          alone = record {
            phase = i.phase;
            byte = i.byte;
            node = put_same w.nodes 0 n ∙ e
                ∙ i.node;
            items = i.items;
            untaken = i.untaken;
          };
          change = same refl refl;
        }

    send_went : (kind : Kind) (b : ℕ) (y : Given Outcome) → SendWay L (w.nodes 0) b y
        → Went w (after_send (gave w 0 y.node) kind 0 b y.answer)
    send_went kind b y (SendWay.refused x s) = stays (w.nodes 0) refl
    send_went kind b y (SendWay.done v b1 b2 bu ca) =
        absurd ((no_send (w.nodes 0) b _ (ap (λ (n : Node). n.nodes) i.node)
        (ap (λ (n : Node). n.number) i.node) (SendWay.done v b1 b2 bu ca)).1 refl)

    idle_went : (y : Given Outcome) → IdleWay L (w.nodes 0) y → Went w (after_idle (gave w 0 y.node) 0 y.answer)
    idle_went y (IdleWay.refused x s) = stays (w.nodes 0) refl
    idle_went y (IdleWay.done v) =
        record {
          alone = record {
            phase = i.phase;
            byte = i.byte;
            node = put_same w.nodes 0 (with_busy (w.nodes 0) false)
                ∙ ap (λ n. with_busy n false) i.node
                ∙ ap (only i.phase) (sym (put_same w.busy 0 false));
            items = i.items;
            untaken = i.untaken;
          };
          change = rests (put_same w.busy 0 false);
        }

    call_went : (len : ℕ) (b : Bool) → w.busy 0 ≡ b
        → Went w (after_call (gave w 0 (barrier L (only i.phase b) len).node) 0 (w.nodes 0)
        (barrier L (only i.phase b) len).answer)
    call_went len true e =
        subst (λ (y : Given Barrier). Went w (after_call (gave w 0 y.node) 0 (w.nodes 0) y.answer))
        (sym (call_busy i.phase len)) (stays (only i.phase true) (ap (only i.phase) (sym e) ∙ sym i.node))
    call_went len false e =
        subst (λ (y : Given Barrier). Went w (after_call (gave w 0 y.node) 0 (w.nodes 0) y.answer))
        (sym (call_idle i.phase len))
        (record {
          alone = record {
            phase = (i.phase + 1) % 256;
            byte =
                ap (λ x. (x + 1) % 256) i.byte ∙ next_byte (w.count 0)
                ∙ ap (λ c. c % 256) (sym (put_same w.count 0 (suc (w.count 0))));
            node = put_same w.nodes 0 (fresh_in 1 0 ((i.phase + 1) % 256))
                ∙ ap (only ((i.phase + 1) % 256)) (sym (put_same w.busy 0 true));
            items = i.items;
            untaken = i.untaken;
          };
          change = gone_on (put_same w.count 0 (suc (w.count 0)));
        })

    zero_is : (a : ℕ) → ltb a 1 ≡ true → 0 ≡ a
    zero_is a e = omega (arith, ltb-true a 1 e)

    still : Went w w
    still = record { alone = i; change = same refl refl }

    went : (e : Event) → Went w (step L 1 w e)
    unfolding step
    went (sends kind a b) =
        cases (Went w) (ltb a 1) _ _ (λ q. subst
        (λ a. Went w (after_send (gave w a (send L (w.nodes a) b).node) kind a b (send L (w.nodes a) b).answer))
        (zero_is a q) (send_went kind b (send L (w.nodes 0) b) (send_way L (w.nodes 0) b))) (λ q. still)
    went (idles a) =
        cases (Went w) (ltb a 1) _ _ (λ q. subst
        (λ a. Went w (after_idle (gave w a (idle L (w.nodes a)).node) a (idle L (w.nodes a)).answer)) (zero_is a q)
        (idle_went (idle L (w.nodes 0)) (idle_way L (w.nodes 0)))) (λ q. still)
    went (calls a len) =
        cases (Went w) (ltb a 1) _ _ (λ q. subst
        (λ a. Went w (after_call (gave w a (barrier L (w.nodes a) len).node) a (w.nodes a)
        (barrier L (w.nodes a) len).answer)) (zero_is a q)
        (subst (λ n. Went w (after_call (gave w 0 (barrier L n len).node) 0 (w.nodes 0) (barrier L n len).answer))
        (sym i.node) (call_went len (w.busy 0) refl))) (λ q. still)
    went (delivers a b) = subst (λ l. Went w (delivered_oldest L 1 w a b (oldest a b l))) (sym i.items) still
    went (loses j) =
        record {
          alone = record {
            phase = i.phase;
            byte = i.byte;
            node = i.node;
            items = ap (less_one j) i.items
                ∙ none_of j;
            untaken = i.untaken;
          };
          change = same refl refl;
        }
      where
        none_of : (j : ℕ) → less_one j [] ≡ []
        none_of zero = refl
        none_of (suc j) = refl

    busy_is_lem : (w.nodes 0).busy ≡ w.busy 0
    busy_is_lem = ap (λ (n : Node). n.busy) i.node

    not_sent : (a b : ℕ) → a < 1 → SendDone L 1 w a b → ⊥
    not_sent a b h e =
        let z : 0 ≡ a = omega arith in
        (no_send (w.nodes 0) b (send L (w.nodes 0) b) (ap (λ (n : Node). n.nodes) i.node)
        (ap (λ (n : Node). n.number) i.node) (send_way L (w.nodes 0) b)).1
        (subst (λ a. (send L (w.nodes a) b).answer ≡ done) (sym z) e)

    none_taken : (kind : Kind) (b n : ℕ) (e : Event) → TakeDone L 1 w kind b n e → ⊥
    none_taken kind b n e (TakeDone.takes a m byte old lw ph d) =
        let z : none ≡ some m = ap (oldest a b) (sym i.items) ∙ old in let y : ◌≡◌ {A = ℕ} 0 1 = cc in omega arith

    leaves_idle_lem : (len : ℕ) (b : Bool) → w.busy 0 ≡ b → Leaves L 1 w 0 len → w.busy 0 ≡ false
    leaves_idle_lem len false e l = e
    leaves_idle_lem len true e l =
        let z : (barrier L (w.nodes 0) len).answer ≡ barred 12 =
        ap (λ n. (barrier L n len).answer) (i.node ∙ ap (only i.phase) e)
        ∙ ap (λ (y : Given Barrier). y.answer) (call_busy i.phase len) in
        let x : left ≡ barred 12 = sym l ∙ z in
        let y : ◌≡◌ {A = ℕ} 0 1 = cc in absurd (omega arith)

    pub lone_safe : Safe L 1 w
    lone_safe =
        record {
          busy_send = λ a b h e. absurd (not_sent a b h e);
          busy_is = λ a h. let z : 0 ≡ a = omega arith in subst (λ a. (w.nodes a).busy ≡ w.busy a) z busy_is_lem;
          wakes =
              λ e a h b b' n. let z : 0 ≡ a = omega arith in
              absurd (awake e (subst (λ a. w.busy a ≡ false) (sym z) b)
              (subst (λ a. (step L 1 w e).busy a ≡ true) (sym z) b')
              (subst (λ a. (step L 1 w e).count a ≡ w.count a) (sym z) n) (went e).change);
          leaves_taken =
              λ a len h e j q. let z : none ≡ some (w.count a) = sym (i.untaken j) ∙ q in
              let y : ◌≡◌ {A = ℕ} 0 1 = cc in omega arith;
          leaves_idle =
              λ a len h e b hb q. let z : 0 ≡ a = omega arith in let y : 0 ≡ b = omega arith in
              subst (λ b. w.busy b ≡ false) y
              (leaves_idle_lem len (w.busy 0) refl (subst (λ a. Leaves L 1 w a len) (sym z) e));
          leaves_reached =
              λ a len h e b hb. let z : a ≡ b = omega arith in let y : w.count a ≡ w.count b = ap w.count z in
              omega arith;
          left_send = λ a h n l b x hb e d. not_sent b x hb d;
          left_take = λ a h n l kind b e t. none_taken kind b n e t;
        }
      where
        awake : (e : Event) → w.busy 0 ≡ false → (step L 1 w e).busy 0 ≡ true → (step L 1 w e).count 0 ≡ w.count 0
            → Change w (step L 1 w e) → ⊥
        awake e b b' n (same x y) = clash (sym b' ∙ x ∙ b)
        awake e b b' n (rests x) = clash (sym b' ∙ x)
        awake e b b' n (gone_on x) = omega arith

    pub lone_lives : Lives L 1 w
    lone_lives = by (w.busy 0) refl
      where
        oldest_is : (b : ℕ) → b < 1 → w.count 0 ≤ w.count b
        oldest_is b h = let z : 0 ≡ b = omega arith in let y : w.count 0 ≡ w.count b = ap w.count z in omega arith

        by : (b : Bool) → w.busy 0 ≡ b → Lives L 1 w
        by true e = Lives.busy 0 (omega arith, oldest_is) e
        by false e =
            Lives.goes 0 (omega arith, oldest_is)
            (λ len q. subst (λ n. Goes L 1 (barrier L n len).answer) (sym (i.node ∙ ap (only i.phase) e))
            (subst (λ (y : Given Barrier). Goes L 1 y.answer) (sym (call_idle i.phase len)) Goes.leaving))

  lone_on : (w : Board) → Alone w → (es : List Event) → Alone (after L 1 w es)
  lone_on w i [] = i
  lone_on w i (e ∷ es) = lone_on (step L 1 w e) (went w i e).alone es

  pub lone : (es : List Event) → Alone (run L 1 es)
  lone es = lone_on (start 1) (record { phase = 0; byte = refl; node = refl; items = refl; untaken = λ j. refl }) es
