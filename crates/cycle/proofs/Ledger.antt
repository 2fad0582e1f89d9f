-- All phases: the ledger has a page for each phase, and with the items of that phase the page is a board of one phase.
-- An event acts on one page, and keeps its invariant.
use mathlib.Core.Path.{◌≡◌, refl, sym, ap, ◌∙◌, subst}
use mathlib.Core.Logic.{◌≢◌}
use mathlib.Core.Bool.{Bool, false}
use mathlib.Core.List.{List, [], ◌∷◌, ◌++◌}
use Prim.Native.Nat.{ℕ, suc, ◌+◌, ◌≤◌, ◌<◌}
use native.Mathlib.Decide.{ℕ_discrete}
use native.Mathlib.Omega.{arith}
use lib.ListN.{length}
use Rattle.cycle.proofs.Sums.{update, update_all, pick, sum}
use Rattle.cycle.proofs.Tree.{Tree}
use Rattle.cycle.proofs.Exact.{taken_all}
use Rattle.cycle.proofs.OnePhase.{Parcel, State, PhaseBoard, Turn}
use Rattle.cycle.proofs.PhaseInvariant.{PhaseInvariant}
use Rattle.cycle.proofs.PhaseKept.{phase_keeps}
use Rattle.cycle.proofs.Opening.{fresh, start_ok}

-- an item and the phase that it belongs to
pub record Dated : Type 0 where
  pub phase : ℕ
  pub item : Parcel

-- what there is of one phase, but for the items
pub record Page : Type 0 where
  pub nodes : ℕ → State
  pub senders : List ℕ
  pub sent_between : ℕ → ℕ → ℕ
  pub taken_between : ℕ → ℕ → ℕ
  pub lossy : Bool

-- which phase each node is in, the page of each phase, and the items under way
pub record Ledger : Type 0 where
  pub phase : ℕ → ℕ
  pub pages : ℕ → Page
  pub items : List Dated

-- the items of phase n
abbrev pub of_phase : ℕ → List Dated → List Parcel
of_phase n [] = []
of_phase n (m ∷ ms) = pick (ℕ_discrete m.phase n) (m.item ∷ of_phase n ms) (of_phase n ms)

pub phase_append : (n : ℕ) (xs ys : List Dated) → of_phase n (xs ++ ys) ≡ of_phase n xs ++ of_phase n ys
phase_append n [] ys = refl
phase_append n (m ∷ ms) ys = go (phase_append n ms ys) (ℕ_discrete m.phase n)
  where
    go : of_phase n (ms ++ ys) ≡ of_phase n ms ++ of_phase n ys → (d : Dec (m.phase ≡ n))
        → pick {A = List Parcel} d (m.item ∷ of_phase n (ms ++ ys)) (of_phase n (ms ++ ys)) ≡ pick {A = List Parcel} d
        (m.item ∷ of_phase n ms) (of_phase n ms) ++ of_phase n ys
    go ih (yes e) = ap (λ l. m.item ∷ l) ih
    go ih (no e) = ih

abbrev pub board_of : Page → List Parcel → PhaseBoard
board_of w is =
    record {
      nodes = w.nodes;
      items = is;
      senders = w.senders;
      sent_between = w.sent_between;
      taken_between = w.taken_between;
      lossy = w.lossy;
    }

abbrev pub phase_of : Ledger → ℕ → PhaseBoard
phase_of b n = board_of (b.pages n) (of_phase n b.items)

abbrev pub opening : Ledger
opening =
    record {
      phase = λ a. 0;
      pages =
          λ n. record {
            nodes = λ a. fresh;
            senders = [];
            sent_between = λ y z. 0;
            taken_between = λ y z. 0;
            lossy = false;
          };
      items = [];
    }

module _ {P p : ℕ} (tree : Tree P p) (limit : ℕ) where
  -- node a, in phase n, does or gets something of phase n
  pub data Step (b : Ledger) : Ledger → Type 0 where
    stay : Step b b
    acts : (a : ℕ) (w : Page) (ms : List Dated) → a < P
        → Turn tree limit (phase_of b (b.phase a)) (board_of w (of_phase (b.phase a) ms))
        → ((m : ℕ) → m ≢ b.phase a → of_phase m ms ≡ of_phase m b.items)
        → ((y : ℕ) → y ≢ a → w.nodes y ≡ (b.pages (b.phase a)).nodes y) → (w.nodes a).step < p + p
        → Step b (record { phase = b.phase; pages = update b.pages (b.phase a) w; items = ms })
    leaves : (a : ℕ) (w : Page) → a < P
        → Turn tree limit (phase_of b (b.phase a)) (board_of w (of_phase (b.phase a) b.items))
        → ((y : ℕ) → y ≢ a → w.nodes y ≡ (b.pages (b.phase a)).nodes y) → p + p ≤ (w.nodes a).step
        → Step b (record {
          phase = update b.phase a (suc (b.phase a));
          pages = update b.pages (b.phase a) w;
          items = b.items;
        })
    -- a frame that comes late goes
    late : (n : ℕ) (w : Page) (ms : List Dated) → Turn tree limit (phase_of b n) (board_of w (of_phase n ms))
        → ((m : ℕ) → m ≢ n → of_phase m ms ≡ of_phase m b.items) → ((y : ℕ) → w.nodes y ≡ (b.pages n).nodes y)
        → Step b (record { phase = b.phase; pages = update b.pages n w; items = ms })

  -- each page has the invariant of a phase; a node is fresh in the phases ahead, at a step in its own, and past the
  -- last step in those behind
  pub record Invariant (b : Ledger) : Type 0 where
    pub fit : (n : ℕ) → PhaseInvariant tree limit (phase_of b n)
    pub ahead : (y n : ℕ) → b.phase y < n → (b.pages n).nodes y ≡ fresh
    pub now : (y n : ℕ) → n ≡ b.phase y → ((b.pages n).nodes y).step < p + p
    pub past : (y n : ℕ) → n < b.phase y → p + p ≤ ((b.pages n).nodes y).step

  fit_all : (b : Ledger) → Invariant b → (n : ℕ) (w : Page) (ms : List Dated)
      → Turn tree limit (phase_of b n) (board_of w (of_phase n ms))
      → ((m : ℕ) → m ≢ n → of_phase m ms ≡ of_phase m b.items)
      → (m : ℕ) → PhaseInvariant tree limit (board_of (update b.pages n w m) (of_phase m ms))
  fit_all b i n w ms g o =
      update_all (λ m w. PhaseInvariant tree limit (board_of w (of_phase m ms))) b.pages n w
      (phase_keeps tree limit (phase_of b n) (board_of w (of_phase n ms)) g (i.fit n))
      (λ m q. subst (λ is. PhaseInvariant tree limit (board_of (b.pages m) is)) (sym (o m q)) (i.fit m))

  keeps : (b b' : Ledger) → Step b b' → Invariant b → Invariant b'
  keeps b b' stay i = i
  keeps b b' (acts a w ms h g o s l) i =
      record {
        fit = fit_all b i n w ms g o;
        ahead =
            λ y. update_all (λ m w. b.phase y < m → w.nodes y ≡ fresh) b.pages n w
            (λ k. s y (λ e. omega (arith, ap b.phase e)) ∙ i.ahead y n k) (λ m q k. i.ahead y m k);
        now =
            λ y. update_all (λ m w. m ≡ b.phase y → (w.nodes y).step < p + p) b.pages n w
            (λ e. here y e (ℕ_discrete y a)) (λ m q e. i.now y m e);
        past =
            λ y. update_all (λ m w. m < b.phase y → p + p ≤ (w.nodes y).step) b.pages n w
            (λ k. subst (λ v. p + p ≤ v.step) (sym (s y (λ e. omega (arith, ap b.phase e)))) (i.past y n k))
            (λ m q k. i.past y m k);
      }
    where
      n : ℕ
      n = b.phase a

      here : (y : ℕ) → n ≡ b.phase y → Dec (y ≡ a) → (w.nodes y).step < p + p
      here y e (yes q) = rw q l
      here y e (no q) = subst (λ v. v.step < p + p) (sym (s y q)) (i.now y n e)
  keeps b b' (leaves a w h g s l) i =
      record {
        fit = fit_all b i n w b.items g (λ m q. refl);
        ahead = update_all (λ y q. (m : ℕ) → q < m → (update b.pages n w m).nodes y ≡ fresh) b.phase a (suc n)
            (update_all (λ m u. suc n < m → u.nodes a ≡ fresh) b.pages n w (λ k. absurd (omega arith))
            (λ m q k. i.ahead a m (omega arith)))
            (λ y q. update_all (λ m u. b.phase y < m → u.nodes y ≡ fresh) b.pages n w (λ k. s y q ∙ i.ahead y n k)
            (λ m z k. i.ahead y m k));
        now = update_all (λ y q. (m : ℕ) → m ≡ q → ((update b.pages n w m).nodes y).step < p + p) b.phase a (suc n)
            (update_all (λ m u. m ≡ suc n → (u.nodes a).step < p + p) b.pages n w (λ k. absurd (omega arith))
            (λ m q k. subst (λ v. v.step < p + p) (sym (i.ahead a m (omega arith))) (omega arith)))
            (λ y q. update_all (λ m u. m ≡ b.phase y → (u.nodes y).step < p + p) b.pages n w
            (λ k. subst (λ v. v.step < p + p) (sym (s y q)) (i.now y n k)) (λ m z k. i.now y m k));
        past = update_all (λ y q. (m : ℕ) → m < q → p + p ≤ ((update b.pages n w m).nodes y).step) b.phase a (suc n)
            (update_all (λ m u. m < suc n → p + p ≤ (u.nodes a).step) b.pages n w (λ k. l)
            (λ m q k. i.past a m (omega arith)))
            (λ y q. update_all (λ m u. m < b.phase y → p + p ≤ (u.nodes y).step) b.pages n w
            (λ k. subst (λ v. p + p ≤ v.step) (sym (s y q)) (i.past y n k)) (λ m z k. i.past y m k));
      }
    where
      n : ℕ
      n = b.phase a
  keeps b b' (late n w ms g o s) i =
      record {
        fit = fit_all b i n w ms g o;
        ahead =
            λ y. update_all (λ m w. b.phase y < m → w.nodes y ≡ fresh) b.pages n w (λ k. s y ∙ i.ahead y n k)
            (λ m q k. i.ahead y m k);
        now =
            λ y. update_all (λ m w. m ≡ b.phase y → (w.nodes y).step < p + p) b.pages n w
            (λ e. subst (λ v. v.step < p + p) (sym (s y)) (i.now y n e)) (λ m q e. i.now y m e);
        past =
            λ y. update_all (λ m w. m < b.phase y → p + p ≤ (w.nodes y).step) b.pages n w
            (λ k. subst (λ v. p + p ≤ v.step) (sym (s y)) (i.past y n k)) (λ m q k. i.past y m k);
      }

  pub data Reached : Ledger → Type 0 where
    first : Reached opening
    next : {b b' : Ledger} → Reached b → Step b b' → Reached b'

  pub reached_invariant : (b : Ledger) → Reached b → Invariant b
  reached_invariant b first =
      record {
        fit = λ n. start_ok tree limit;
        ahead = λ y n l. refl;
        now = λ y n e. omega arith;
        past = λ y n l. absurd (omega arith);
      }
  reached_invariant b (next {b = c} r s) = keeps c b s (reached_invariant c r)

  -- the phase is over: all taken, all idle, everybody there or past it
  pub record Over (b : Ledger) (n : ℕ) : Type 0 where
    pub taken : sum (λ y. ((b.pages n).nodes y).tallies taken_all) 0 P ≡ length (b.pages n).senders
    pub idle : (y : ℕ) → y < P → ((b.pages n).nodes y).busy ≡ false
    pub reached : (y : ℕ) → y < P → n ≤ b.phase y
