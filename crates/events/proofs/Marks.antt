-- The untaken messages of a phase: what is sent in it less what is taken.
use mathlib.Core.Path.{◌≡◌, refl, sym, ap, ◌∙◌, subst}
use mathlib.Core.Logic.{◌≢◌}
use mathlib.Core.Option.{Option, none, some}
use mathlib.Core.List.{List, [], ◌∷◌, ◌++◌}
use Prim.Native.Nat.{ℕ, suc, ◌+◌, ◌≤◌, ◌<◌, zero-le}
use native.Mathlib.Decide.{ℕ_discrete, dec_lt}
use native.Mathlib.Omega.{arith}
use lib.ListN.{length}
use Rattle.base.specs.declared.Kind.{Kind}
use Rattle.events.specs.Board.{put, work, frame, Item, posted}
use Rattle.cycle.proofs.Sums.{sum_at, pick, update, update_all, sum, sum_ext, sum_update, length_snoc}
use Rattle.cycle.proofs.Lists.{All, all_append, all_map, all_mid}
use Rattle.cycle.proofs.Exact.{taken_all}
use Rattle.cycle.proofs.OnePhase.{State}
use Rattle.cycle.proofs.Ledger.{Dated, Page, Ledger}
use Rattle.cycle.proofs.Events.{state_of, ledger_with, page_sent, page_taken}
use Rattle.events.proofs.Tools.{put_same, put_other, put_update}

-- 1 for a mark of phase n
abbrev pub hit : ℕ → Option ℕ → ℕ
hit n none = 0
hit n (some k) = pick (ℕ_discrete k n) 1 0

hit_same : (n : ℕ) → hit n (some n) ≡ 1
hit_same n = go (ℕ_discrete n n)
  where
    go : (d : Dec (n ≡ n)) → pick {A = ℕ} d 1 0 ≡ 1
    go (yes d) = refl
    go (no d) = absurd (d refl)

hit_other : (k n : ℕ) → k ≢ n → hit n (some k) ≡ 0
hit_other k n q = go (ℕ_discrete k n)
  where
    go : (d : Dec (k ≡ n)) → pick {A = ℕ} d 1 0 ≡ 0
    go (yes d) = absurd (q d)
    go (no d) = refl

abbrev pub IsWork : Item → Type 0
IsWork m = (kind : Kind) × ((byte : ℕ) × (m.load ≡ work kind byte))

-- no two messages have the same name
abbrev pub Apart : List Item → Type 0
Apart [] = Unit {0}
Apart (m ∷ ms) = All (λ k. IsWork m → IsWork k → k.name ≢ m.name) ms × Apart ms

apart_less : (xs ys : List Item) (m : Item) → Apart (xs ++ m ∷ ys) → Apart (xs ++ ys)
apart_less [] ys m h = h.1
apart_less (x ∷ xs) ys m h =
    ((all_mid (λ k. IsWork x → IsWork k → k.name ≢ x.name) xs ys m h.0).1, apart_less xs ys m h.1)

apart_from : (xs ys : List Item) (m : Item) → Apart (xs ++ m ∷ ys)
    → All (λ k. IsWork m → IsWork k → k.name ≢ m.name) (xs ++ ys)
apart_from [] ys m h = h.0
apart_from (x ∷ xs) ys m h = (
  (λ a b q. (all_mid (λ k. IsWork x → IsWork k → k.name ≢ x.name) xs ys m h.0).0 b a (sym q)),
  apart_from xs ys m h.1,
)

apart_snoc : (xs : List Item) (m : Item) → Apart xs → All (λ k. IsWork k → IsWork m → m.name ≢ k.name) xs
    → Apart (xs ++ (m ∷ []))
apart_snoc [] m h a = (tt, tt)
apart_snoc (x ∷ xs) m h a = (
  all_append (λ k. IsWork x → IsWork k → k.name ≢ x.name) xs (m ∷ []) h.0 (a.0, tt),
  apart_snoc xs m h.1 a.1,
)

frame_not_work : {A : Type 0} (m : Item) (bs : List ℕ) → m.load ≡ frame bs → IsWork m → A
frame_not_work m bs e w = go w.0 w.1.0 w.1.1
  where
    go : {A : Type 0} (k : Kind) (b : ℕ) → m.load ≡ work k b → A
    go k b q = let z : ◌≡◌ {A = ℕ} 0 1 = cc in absurd (omega arith)

-- a message is marked untaken, with its phase
abbrev pub Named : (ℕ → Option ℕ) → ℕ → Item → Type 0
Named untaken sends m = IsWork m → (m.name < sends) × (untaken m.name ≡ some m.phase)

module _ (P : ℕ) where
  abbrev pub takes_in : Ledger → ℕ → ℕ
  takes_in B n = sum (λ y. ((B.pages n).nodes y).tallies taken_all) 0 P

  pub record Marks (untaken : ℕ → Option ℕ) (sends : ℕ) (is : List Item) (B : Ledger) : Type 0 where
    pub tidy : (i : ℕ) → sends ≤ i → untaken i ≡ none
    pub sums : (n : ℕ) → sum (λ i. hit n (untaken i)) 0 sends + takes_in B n ≡ length (B.pages n).senders
    pub named : All (Named untaken sends) is
    pub apart : Apart is

  -- nothing sent, nothing taken
  pub marks_same : {untaken : ℕ → Option ℕ} {sends : ℕ} {is js : List Item} {B C : Ledger} → Marks untaken sends is B
      → All (Named untaken sends) js → Apart js
      → ((n : ℕ) → takes_in C n ≡ takes_in B n) → ((n : ℕ) → (C.pages n).senders ≡ (B.pages n).senders)
      → Marks untaken sends js C
  marks_same m na ap' t l =
      record { tidy = m.tidy; sums = λ n. omega (arith, m.sums n, t n, ap length (l n)); named = na; apart = ap' }

  pub less_named : (untaken : ℕ → Option ℕ) (sends : ℕ) (xs ys : List Item) (m : Item)
      → All (Named untaken sends) (xs ++ m ∷ ys) → All (Named untaken sends) (xs ++ ys)
  less_named untaken sends xs ys m h = (all_mid (Named untaken sends) xs ys m h).1

  pub less_apart : (xs ys : List Item) (m : Item) → Apart (xs ++ m ∷ ys) → Apart (xs ++ ys)
  less_apart = apart_less

  -- frames go out
  pub frames_named : (untaken : ℕ → Option ℕ) (sends : ℕ) (xs : List Item) (a : ℕ) (bs : List ℕ) (c : ℕ) (rs : List ℕ)
      → All (Named untaken sends) xs → All (Named untaken sends) (xs ++ posted a bs c rs)
  frames_named untaken sends xs a bs c rs h = all_append (Named untaken sends) xs (posted a bs c rs) h (new rs)
    where
      new : (rs : List ℕ) → All (Named untaken sends) (posted a bs c rs)
      new [] = tt
      new (r ∷ rs) =
          ((λ w. frame_not_work (record { from = a; to = r; load = frame bs; phase = c; name = 0 }) bs refl w), new rs)

  pub frames_apart : (xs : List Item) (a : ℕ) (bs : List ℕ) (c : ℕ) (rs : List ℕ) → Apart xs
      → Apart (xs ++ posted a bs c rs)
  frames_apart [] a bs c [] h = tt
  frames_apart [] a bs c (r ∷ rs) h = (new rs, frames_apart [] a bs c rs tt)
    where
      m : Item
      m = record { from = a; to = r; load = frame bs; phase = c; name = 0 }

      new : (rs : List ℕ) → All (λ k. IsWork (record { from = a; to = r; load = frame bs; phase = c; name = 0 })
          → IsWork k → k.name ≢ 0) (posted a bs c rs)
      new [] = tt
      new (s ∷ rs) =
          ((λ w. frame_not_work (record { from = a; to = r; load = frame bs; phase = c; name = 0 }) bs refl w), new rs)
  frames_apart (x ∷ xs) a bs c rs h = (
    all_append (λ k. IsWork x → IsWork k → k.name ≢ x.name) xs (posted a bs c rs) h.0 (new rs),
    frames_apart xs a bs c rs h.1,
  )
    where
      new : (rs : List ℕ) → All (λ k. IsWork x → IsWork k → k.name ≢ x.name) (posted a bs c rs)
      new [] = tt
      new (r ∷ rs) = (
        (λ u w. frame_not_work (record { from = a; to = r; load = frame bs; phase = c; name = 0 }) bs refl w),
        new rs,
      )

  -- the takes of every phase, after node a has changed
  pub takes_same : (B : Ledger) (a : ℕ) (u : Page) (v : State) (ms : List Dated)
      → u.nodes ≡ update (B.pages (B.phase a)).nodes a v → v.tallies taken_all ≡ (state_of B a).tallies taken_all
      → (n : ℕ) → takes_in (ledger_with B (B.phase a) u ms) n ≡ takes_in B n
  takes_same B a u v ms e q =
      update_all (λ m w. sum (λ y. (w.nodes y).tallies taken_all) 0 P ≡ takes_in B m) B.pages (B.phase a) u
      (subst (λ (f : ℕ → State). sum (λ y. (f y).tallies taken_all) 0 P ≡ takes_in B (B.phase a)) (sym e)
      (sum_ext (λ y. (update (B.pages (B.phase a)).nodes a v y).tallies taken_all)
      (λ y. ((B.pages (B.phase a)).nodes y).tallies taken_all) 0 P
      (λ y k l. update_all (λ y nd. nd.tallies taken_all ≡ ((B.pages (B.phase a)).nodes y).tallies taken_all)
      (B.pages (B.phase a)).nodes a v q (λ y z. refl) y))) (λ m z. refl)

  pub log_same : (B : Ledger) (n : ℕ) (u : Page) (ms : List Dated) → u.senders ≡ (B.pages n).senders → (m : ℕ)
      → ((ledger_with B n u ms).pages m).senders ≡ (B.pages m).senders
  log_same B n u ms e = update_all (λ m w. w.senders ≡ (B.pages m).senders) B.pages n u e (λ m z. refl)

  -- a message goes out
  pub marks_send : {untaken : ℕ → Option ℕ} {sends : ℕ} {is : List Item} {B : Ledger} → Marks untaken sends is B
      → (a c : ℕ) (v : State) (ms : List Dated) (m : Item) → v.tallies taken_all ≡ (state_of B a).tallies taken_all
      → m.name ≡ sends → m.phase ≡ B.phase a
      → Marks (put untaken sends (some m.phase)) (suc sends) (is ++ (m ∷ []))
      (ledger_with B (B.phase a) (page_sent (B.pages (B.phase a)) a c v) ms)
  marks_send {untaken} {sends} {is} {B} k a c v ms m tv nm ph =
      record {
        tidy = λ i l. put_other untaken sends (some m.phase) i (omega arith) ∙ k.tidy i (omega arith);
        sums = λ n. sums n;
        named = all_append (Named untaken' (suc sends)) is (m ∷ [])
            (all_map (Named untaken sends) (Named untaken' (suc sends))
            (λ x h w. let q = h w in (
              omega (arith, q.0),
              put_other untaken sends (some m.phase) x.name (omega (arith, q.0)) ∙ q.1,
            )) is k.named)
            ((λ w. (omega arith, ap untaken' nm ∙ put_same untaken sends (some m.phase))), tt);
        apart =
            apart_snoc is m k.apart (all_map (Named untaken sends) (λ x. IsWork x → IsWork m → m.name ≢ x.name)
            (λ x h w y q. let z = (h w).0 in omega arith) is k.named);
      }
    where
      untaken' : ℕ → Option ℕ
      untaken' = put untaken sends (some m.phase)

      C : Ledger
      C = ledger_with B (B.phase a) (page_sent (B.pages (B.phase a)) a c v) ms

      old : (n : ℕ) → sum (λ i. hit n (put untaken sends (some m.phase) i)) 0 sends ≡ sum
          (λ i. hit n (untaken i)) 0 sends
      old n =
          sum_ext (λ i. hit n (put untaken sends (some m.phase) i)) (λ i. hit n (untaken i)) 0 sends
          (λ i x y. ap (hit n) (put_other untaken sends (some m.phase) i (omega arith)))

      new : (n : ℕ) → hit n (put untaken sends (some m.phase) (0 + sends)) ≡ hit n (some (B.phase a))
      new n =
          let z : 0 + sends ≡ sends = omega arith in
          rw z (ap (hit n) (put_same untaken sends (some m.phase) ∙ ap some ph))

      logs : (n : ℕ) → length ((ledger_with B (B.phase a) (page_sent (B.pages (B.phase a)) a c v) ms).pages n).senders
          ≡ length (B.pages n).senders + hit n (some (B.phase a))
      logs =
          update_all (λ n w. length w.senders ≡ length (B.pages n).senders + hit n (some (B.phase a))) B.pages
          (B.phase a) (page_sent (B.pages (B.phase a)) a c v)
          (omega (arith, length_snoc (B.pages (B.phase a)).senders a, hit_same (B.phase a)))
          (λ n z. omega (arith, hit_other (B.phase a) n (λ q. z (sym q))))

      sums : (n : ℕ) → sum (λ i. hit n (put untaken sends (some m.phase) i)) 0 (suc sends) + takes_in
          (ledger_with B (B.phase a) (page_sent (B.pages (B.phase a)) a c v) ms) n
          ≡ length ((ledger_with B (B.phase a) (page_sent (B.pages (B.phase a)) a c v) ms).pages n).senders
      sums n =
          omega (
            arith,
            k.sums n,
            old n,
            new n,
            logs n,
            takes_same B a (page_sent (B.pages (B.phase a)) a c v) v ms refl tv n,
          )

  -- a message is taken
  pub marks_take : (untaken : ℕ → Option ℕ) (sends : ℕ) (xs ys : List Item) (m : Item) (B : Ledger)
      → Marks untaken sends (xs ++ m ∷ ys) B → IsWork m → (a c : ℕ) (v : State) (ms : List Dated) → c < P
      → m.phase ≡ B.phase c → v.tallies taken_all ≡ suc ((state_of B c).tallies taken_all)
      → Marks (put untaken m.name none) sends (xs ++ ys)
      (ledger_with B (B.phase c) (page_taken (B.pages (B.phase c)) a c v) ms)
  marks_take untaken sends xs ys m B k w a c v ms hc ph tv =
      record {
        tidy = λ i l. put_other untaken m.name none i (omega (arith, mine.0)) ∙ k.tidy i l;
        sums = sums;
        named = both (xs ++ ys) (less_named untaken sends xs ys m k.named) (apart_from xs ys m k.apart);
        apart = apart_less xs ys m k.apart;
      }
    where
      mine : (m.name < sends) × (untaken m.name ≡ some m.phase)
      mine = (all_mid (Named untaken sends) xs ys m k.named).0 w

      both : (zs : List Item) → All (Named untaken sends) zs → All (λ k. IsWork m → IsWork k → k.name ≢ m.name) zs
          → All (Named (put untaken m.name none) sends) zs
      both [] a b = tt
      both (z ∷ zs) a b =
          ((λ q. ((a.0 q).0, put_other untaken m.name none z.name (b.0 w q) ∙ (a.0 q).1)), both zs a.1 b.1)

      gone : (n : ℕ) → sum (λ i. hit n (put untaken m.name none i)) 0 sends + hit n (some (B.phase c)) ≡ sum
          (λ i. hit n (untaken i)) 0 sends
      gone n =
          let e = sum_ext (λ i. hit n (put untaken m.name none i))
          (update (λ i. hit n (untaken i)) m.name 0) 0 sends
          (λ i x y. ap (hit n) (put_update untaken m.name none i) ∙ pull i) in
          let s = sum_update (λ i. hit n (untaken i)) m.name 0 0 sends zero-le (omega (arith, mine.0)) in
          let h : hit n (untaken m.name) ≡ hit n (some (B.phase c)) = ap (hit n) (mine.1 ∙ ap some ph) in
          omega arith
        where
          pull : (i : ℕ) → hit n (update untaken m.name none i) ≡ update (λ i. hit n (untaken i)) m.name 0 i
          pull i = go (ℕ_discrete i m.name)
            where
              go : (d : Dec (i ≡ m.name)) → hit n (pick {A = Option ℕ} d none (untaken i)) ≡ pick {A = ℕ} d 0
                  (hit n (untaken i))
              go (yes d) = refl
              go (no d) = refl

      took : (n : ℕ) → takes_in (ledger_with B (B.phase c) (page_taken (B.pages (B.phase c)) a c v) ms) n
          ≡ takes_in B n + hit n (some (B.phase c))
      took =
          update_all (λ n w. sum (λ y. (w.nodes y).tallies taken_all) 0 P ≡ takes_in B n + hit n (some (B.phase c)))
          B.pages (B.phase c) (page_taken (B.pages (B.phase c)) a c v)
          (let s = sum_update (λ y. ((B.pages (B.phase c)).nodes y).tallies taken_all) c
          (v.tallies taken_all) 0 P zero-le (omega arith) in
          let e = sum_ext (λ y. (update (B.pages (B.phase c)).nodes c v y).tallies taken_all)
          (update (λ y. ((B.pages (B.phase c)).nodes y).tallies taken_all) c (v.tallies taken_all)) 0 P
          (λ y x z. pull y) in
          omega (arith, hit_same (B.phase c)))
          (λ n z. omega (arith, hit_other (B.phase c) n (λ q. z (sym q))))
        where
          pull : (y : ℕ) → (update (B.pages (B.phase c)).nodes c v y).tallies taken_all ≡ update
              (λ y. ((B.pages (B.phase c)).nodes y).tallies taken_all) c (v.tallies taken_all) y
          pull y = go (ℕ_discrete y c)
            where
              go : (d : Dec (y ≡ c)) → (pick {A = State} d v
                  ((B.pages (B.phase c)).nodes y)).tallies taken_all ≡ pick {A = ℕ} d (v.tallies taken_all)
                  (((B.pages (B.phase c)).nodes y).tallies taken_all)
              go (yes d) = refl
              go (no d) = refl

      sums : (n : ℕ) → sum (λ i. hit n (put untaken m.name none i)) 0 sends + takes_in
          (ledger_with B (B.phase c) (page_taken (B.pages (B.phase c)) a c v) ms) n
          ≡ length ((ledger_with B (B.phase c) (page_taken (B.pages (B.phase c)) a c v) ms).pages n).senders
      sums n =
          omega (
            arith,
            k.sums n,
            gone n,
            took n,
            ap length (log_same B (B.phase c) (page_taken (B.pages (B.phase c)) a c v) ms refl n),
          )

  -- all of a phase taken: no mark of it is left
  pub none_left : {untaken : ℕ → Option ℕ} {sends : ℕ} {is : List Item} {B : Ledger} → Marks untaken sends is B
      → (n : ℕ) → takes_in B n ≡ length (B.pages n).senders → (i : ℕ) → untaken i ≢ some n
  none_left {untaken} {sends} {is} {B} k n e i q = go (dec_lt i sends)
    where
      go : Dec (i < sends) → ⊥
      go (yes l) = omega (arith, k.sums n, sum_at (λ i. hit n (untaken i)) sends i l, ap (hit n) q, hit_same n)
      go (no l) =
          let z : none ≡ some n = sym (k.tidy i (omega arith)) ∙ q in let y : ◌≡◌ {A = ℕ} 0 1 = cc in omega arith
