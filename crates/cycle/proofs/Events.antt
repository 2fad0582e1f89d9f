-- What an event does to the ledger is a step of it, kind by kind: what the proof about boards cites.
use mathlib.Core.Path.{◌≡◌, refl, sym, ap, ◌∙◌, subst}
use mathlib.Core.Logic.{◌⊎◌}
use mathlib.Core.Bool.{Bool, true, false}
use mathlib.Core.Option.{some}
use mathlib.Core.List.{List, [], ◌∷◌, ◌++◌}
use Prim.Native.Nat.{ℕ, suc, ◌+◌, ◌≤◌, ◌<◌}
use native.Mathlib.Omega.{arith}
use lib.ListN.{length}
use Rattle.cycle.proofs.Sums.{update, update_all, update_same, update_other, snoc}
use Rattle.cycle.proofs.Tree.{Tree}
use Rattle.cycle.proofs.Exact.{taken_all, Entries, own_sums}
use Rattle.cycle.proofs.OnePhase.{Content, message, report, Parcel, State, frame_of, dim_of, posts, at_step}
use Rattle.cycle.proofs.OnePhase.{with_stored, with_tallies, one_more, bump_sent, bump_taken, Shell, Unheard, Turn}
use Rattle.cycle.proofs.OnePhase.{Agrees}
use Rattle.cycle.proofs.Ledger.{Dated, Page, Ledger, of_phase, phase_append, board_of, phase_of, Step, Reached}
use Rattle.cycle.proofs.Ledger.{}
use Rattle.cycle.proofs.Reached.{invariant}
use Rattle.cycle.proofs.Dating.{dated, phase_more, phase_more_else, phase_mid, phase_mid_else, phase_first}
use Rattle.cycle.proofs.Dating.{FirstDated}

-- node a as it is in its own phase
abbrev pub state_of : Ledger → ℕ → State
state_of b a = (b.pages (b.phase a)).nodes a

-- the page with node a changed
abbrev pub page_with : Page → ℕ → State → Page
page_with w a v =
    record {
      nodes = update w.nodes a v;
      senders = w.senders;
      sent_between = w.sent_between;
      taken_between = w.taken_between;
      lossy = w.lossy;
    }

-- the ledger with one page changed
abbrev pub ledger_with : Ledger → ℕ → Page → List Dated → Ledger
ledger_with b n w ms = record { phase = b.phase; pages = update b.pages n w; items = ms }

abbrev pub with_state : Ledger → ℕ → State → List Dated → Ledger
with_state b a v ms = ledger_with b (b.phase a) (page_with (b.pages (b.phase a)) a v) ms

abbrev pub page_sent : Page → ℕ → ℕ → State → Page
page_sent w a c v =
    record {
      nodes = update w.nodes a v;
      senders = snoc w.senders a;
      sent_between = one_more w.sent_between a c;
      taken_between = w.taken_between;
      lossy = w.lossy;
    }

abbrev pub page_taken : Page → ℕ → ℕ → State → Page
page_taken w a c v =
    record {
      nodes = update w.nodes c v;
      senders = w.senders;
      sent_between = w.sent_between;
      taken_between = one_more w.taken_between a c;
      lossy = w.lossy;
    }

abbrev pub page_lost : Page → Page
page_lost w =
    record {
      nodes = w.nodes;
      senders = w.senders;
      sent_between = w.sent_between;
      taken_between = w.taken_between;
      lossy = true;
    }

module _ {P p : ℕ} {tree : Tree P p} {limit : ℕ} {b : Ledger} (r : Reached tree limit b) where
  now : (a : ℕ) → (state_of b a).step < p + p
  now a = (invariant r).now a (b.phase a) refl

  there : (a : ℕ) (v : State) (n : ℕ) → v.step < p + p → (update (b.pages n).nodes a v a).step < p + p
  there a v n h = subst (λ u. u.step < p + p) (sym (update_same (b.pages n).nodes a v)) h

  pub act_rest : (a : ℕ) → a < P
      → Step tree limit b (with_state b a (with_tallies (state_of b a) false (state_of b a).tallies) b.items)
  act_rest a h =
      Step.acts a _ b.items h (Turn.rests a h) (λ m q. refl)
      (λ y q. update_other (b.pages (b.phase a)).nodes a _ y q) (there a _ (b.phase a) (now a))

  pub act_send : (a c j : ℕ) → a < P → c < P → j < p → Shell tree a c j → (state_of b a).busy ≡ true
      → length (b.pages (b.phase a)).senders < limit → Step tree limit b (ledger_with b (b.phase a)
      (page_sent (b.pages (b.phase a)) a c (with_tallies (state_of b a) true (bump_sent (state_of b a).tallies j)))
      (b.items ++ dated (b.phase a) (posts a message (c ∷ []))))
  act_send a c j h hc jp s bu l =
      Step.acts a _ (b.items ++ dated n (posts a message (c ∷ []))) h
      (subst (λ is. Turn tree limit (phase_of b n)
      (board_of (page_sent (b.pages n) a c (with_tallies (state_of b a) true (bump_sent (state_of b a).tallies j))) is))
      (sym (phase_more n b.items (posts a message (c ∷ []))))
      (Turn.sends a c j h hc jp s bu l))
      (λ m q. phase_more_else m n b.items (posts a message (c ∷ [])) q)
      (λ y q. update_other (b.pages n).nodes a _ y q) (there a _ n (now a))
    where
      n : ℕ
      n = b.phase a

  pub act_wait : (a : ℕ) → a < P → (state_of b a).busy ≡ false
      → ((state_of b a).flag ≡ false) ⊎ Unheard tree a (state_of b a).step
      → Step tree limit b (with_state b a (at_step (state_of b a) (state_of b a).step false (state_of b a).agreed)
      b.items)
  act_wait a h bu f =
      Step.acts a _ b.items h (Turn.waits a h bu f) (λ m q. refl)
      (λ y q. update_other (b.pages (b.phase a)).nodes a _ y q) (there a _ (b.phase a) (now a))

  pub act_move : (a t : ℕ) → a < P → (state_of b a).busy ≡ false
      → ((state_of b a).flag ≡ false) ⊎ Unheard tree a (state_of b a).step
      → Agrees p limit (state_of b a) (state_of b a).step (tree.awaited (dim_of p (state_of b a).step) a)
      → (p ≤ (state_of b a).step → t ≡ (state_of b a).agreed)
      → (suc (state_of b a).step ≡ p → t ≡ own_sums (state_of b a).tallies (state_of b a).stored p taken_all)
      → suc (state_of b a).step < p + p
      → Step tree limit b (with_state b a (at_step (state_of b a) (suc (state_of b a).step) true t) b.items)
  act_move a t h bu f ag t1 t2 l =
      Step.acts a _ b.items h (Turn.moves a t h bu (now a) f ag t1 t2) (λ m q. refl)
      (λ y q. update_other (b.pages (b.phase a)).nodes a _ y q) (there a _ (b.phase a) l)

  pub act_leave : (a t : ℕ) → a < P → (state_of b a).busy ≡ false
      → ((state_of b a).flag ≡ false) ⊎ Unheard tree a (state_of b a).step
      → Agrees p limit (state_of b a) (state_of b a).step (tree.awaited (dim_of p (state_of b a).step) a)
      → (p ≤ (state_of b a).step → t ≡ (state_of b a).agreed)
      → (suc (state_of b a).step ≡ p → t ≡ own_sums (state_of b a).tallies (state_of b a).stored p taken_all)
      → p + p ≤ suc (state_of b a).step
      → Step tree limit b (record {
        phase = update b.phase a (suc (b.phase a));
        pages = update b.pages (b.phase a)
            (page_with (b.pages (b.phase a)) a (at_step (state_of b a) (suc (state_of b a).step) true t));
        items = b.items;
      })
  act_leave a t h bu f ag t1 t2 l =
      Step.leaves a _ h (Turn.moves a t h bu (now a) f ag t1 t2)
      (λ y q. update_other (b.pages (b.phase a)).nodes a _ y q)
      (subst (λ u. p + p ≤ u.step) (sym (update_same (b.pages (b.phase a)).nodes a
      (at_step (state_of b a) (suc (state_of b a).step) true t))) l)

  pub act_put : (a : ℕ) (rs : List ℕ) → a < P → (state_of b a).busy ≡ false
      → ((c : ℕ) → c < P → tree.awaited (dim_of p (state_of b a).step) c ≡ some a
      → (xs : List ℕ) × ((ys : List ℕ) × (rs ≡ xs ++ c ∷ ys)))
      → Step tree limit b (with_state b a (at_step (state_of b a) (state_of b a).step false (state_of b a).agreed)
      (b.items ++ dated (b.phase a)
      (posts a (report (state_of b a).step (frame_of p (state_of b a) (state_of b a).step)) rs)))
  act_put a rs h bu k =
      Step.acts a _ (b.items ++ dated n is) h
      (subst (λ is. Turn tree limit (phase_of b n)
      (board_of (page_with (b.pages n) a (at_step v v.step false v.agreed)) is))
      (sym (phase_more n b.items is)) (Turn.puts a rs h bu (now a) k))
      (λ m q. phase_more_else m n b.items is q)
      (λ y q. update_other (b.pages n).nodes a _ y q) (there a _ n (now a))
    where
      n : ℕ
      n = b.phase a

      v : State
      v = state_of b a

      is : List Parcel
      is = posts a (report (state_of b a).step (frame_of p (state_of b a) (state_of b a).step)) rs

  -- ---- deliveries: the item is on the board, of the receiver's phase

  module _ (xs ys : List Dated) (n a c : ℕ) where
    pub act_lose : (l : Content) → b.items ≡ xs ++ record { phase = n; item = record { from = a; to = c; load = l } }
        ∷ ys → Step tree limit b (ledger_with b n (page_lost (b.pages n)) (xs ++ ys))
    act_lose l e =
        Step.late n _ (xs ++ ys)
        (subst (λ is. Turn tree limit (phase_of b n) (board_of (page_lost (b.pages n)) is)) (sym (phase_append n xs ys))
        (Turn.loses (of_phase n xs) (of_phase n ys) (record { from = a; to = c; load = l })
        (ap (of_phase n) e ∙ phase_mid n xs ys _ refl)))
        (λ k q. phase_mid_else k xs ys (record { phase = n; item = record { from = a; to = c; load = l } })
        (λ z. q (sym z)) ∙ ap (of_phase k) (sym e)) (λ y. refl)

    pub act_drop : (s : ℕ) (x : Entries)
        → b.items ≡ xs ++ record { phase = n; item = record { from = a; to = c; load = report s x } } ∷ ys → c < P
        → n < b.phase c → Step tree limit b (ledger_with b n (page_with (b.pages n) c ((b.pages n).nodes c)) (xs ++ ys))
    act_drop s x e h l =
        Step.late n _ (xs ++ ys)
        (subst (λ is. Turn tree limit (phase_of b n) (board_of (page_with (b.pages n) c ((b.pages n).nodes c)) is))
        (sym (phase_append n xs ys))
        (Turn.drops (of_phase n xs) (of_phase n ys) a c s x h (ap (of_phase n) e ∙ phase_mid n xs ys _ refl)
        ((invariant r).past c n l)))
        (λ k q. phase_mid_else k xs ys (record { phase = n; item = record { from = a; to = c; load = report s x } })
        (λ z. q (sym z)) ∙ ap (of_phase k) (sym e))
        (update_all (λ y u. u ≡ (b.pages n).nodes y) (b.pages n).nodes c ((b.pages n).nodes c) refl (λ y q. refl))

    pub act_take : (j : ℕ) (busy : Bool) → b.items ≡ xs ++ record { phase = n; item = record { from = a; to = c; load = message } }
        ∷ ys → n ≡ b.phase c → a < P → c < P → j < p → Shell tree c a j
        → Step tree limit b (ledger_with b (b.phase c)
        (page_taken (b.pages (b.phase c)) a c
        (at_step (with_tallies (state_of b c) busy (bump_taken (state_of b c).tallies j)) 0 true 0)) (xs ++ ys))
    act_take j busy e ph ha hc jp s =
        Step.acts c _ (xs ++ ys) hc
        (subst (λ is. Turn tree limit (phase_of b m)
        (board_of (page_taken (b.pages m) a c
        (at_step (with_tallies (state_of b c) busy (bump_taken (state_of b c).tallies j)) 0 true 0)) is))
        (sym (phase_append m xs ys))
        (Turn.takes (of_phase m xs) (of_phase m ys) a c j busy ha hc jp s (ap (of_phase m) e ∙ phase_mid m xs ys _ ph) (now c)))
        (λ k q. phase_mid_else k xs ys (record { phase = n; item = record { from = a; to = c; load = message } })
        (λ z. q (sym z ∙ ph)) ∙ ap (of_phase k) (sym e)) (λ y q. update_other (b.pages m).nodes c _ y q)
        (there c _ m (omega arith))
      where
        m : ℕ
        m = b.phase c

    module _ (s : ℕ) (x : Entries)
        (e : b.items ≡ xs ++ record { phase = n; item = record { from = a; to = c; load = report s x } } ∷ ys)
        (f : FirstDated xs a c) (ph : n ≡ b.phase c)
        (hc : c < P) (sp : s < p + p) (aw : tree.awaited (dim_of p s) c ≡ some a) where
      pub act_store : (state_of b c).step ≤ s
          → Step tree limit b (with_state b c (with_stored (state_of b c) s x) (xs ++ ys))
      act_store l =
          Step.acts c _ (xs ++ ys) hc
          (subst (λ is. Turn tree limit (phase_of b m)
          (board_of (page_with (b.pages m) c (with_stored (state_of b c) s x)) is)) (sym (phase_append m xs ys))
          (Turn.stores (of_phase m xs) (of_phase m ys) a c s x hc sp (ap (of_phase m) e ∙ phase_mid m xs ys _ ph)
          (phase_first m xs a c f) (now c) aw l))
          (λ k q. phase_mid_else k xs ys (record { phase = n; item = record { from = a; to = c; load = report s x } })
          (λ z. q (sym z ∙ ph)) ∙ ap (of_phase k) (sym e)) (λ y q. update_other (b.pages m).nodes c _ y q)
          (there c _ m (now c))
        where
          m : ℕ
          m = b.phase c

      pub act_fall : (t : ℕ) → s < (state_of b c).step → (p ≤ s → t ≡ (state_of b c).agreed)
          → Step tree limit b (with_state b c (at_step (with_stored (state_of b c) s x) s false t) (xs ++ ys))
      act_fall t l q =
          Step.acts c _ (xs ++ ys) hc
          (subst (λ is. Turn tree limit (phase_of b m)
          (board_of (page_with (b.pages m) c (at_step (with_stored (state_of b c) s x) s false t)) is))
          (sym (phase_append m xs ys))
          (Turn.falls (of_phase m xs) (of_phase m ys) a c s x t hc sp (ap (of_phase m) e ∙ phase_mid m xs ys _ ph)
          (phase_first m xs a c f) (now c) aw l q))
          (λ k q. phase_mid_else k xs ys (record { phase = n; item = record { from = a; to = c; load = report s x } })
          (λ z. q (sym z ∙ ph)) ∙ ap (of_phase k) (sym e)) (λ y q. update_other (b.pages m).nodes c _ y q)
          (there c _ m sp)
        where
          m : ℕ
          m = b.phase c
