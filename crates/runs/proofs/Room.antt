-- A node with a message of its phase under way to it may take one more: refusal 6 is not given.
use mathlib.Core.Path.{◌≡◌, refl, sym, ap, subst}
use mathlib.Core.Logic.{◌≢◌}
use mathlib.Core.List.{List, [], ◌∷◌, ◌++◌}
use Prim.Native.Nat.{ℕ, zero, suc, ◌+◌, ◌-◌, ◌*◌, ◌≤◌, ◌<◌, zero-le}
use native.Mathlib.Omega.{arith}
use Rattle.cycle.proofs.Sums.{pick, update, update_other, update_all, sum, sum_update}
use Rattle.cycle.proofs.Sums.{sum_less, sum_at}
use Rattle.cycle.proofs.Tree.{Tree}
use Rattle.cycle.proofs.Exact.{sent_to, taken_from, sent_all, taken_all}
use Rattle.cycle.proofs.OnePhase.{message, Parcel, PhaseBoard, OnLink}
use Rattle.cycle.proofs.Newest.{on_link_lem}
use Rattle.cycle.proofs.Messages.{messages_on}
use Rattle.cycle.proofs.PhaseInvariant.{PhaseInvariant}

some_message : (a c : ℕ) (xs ys : List Parcel)
    → 1 ≤ messages_on a c (xs ++ record { from = a; to = c; load = message } ∷ ys)
some_message a c [] ys = go (on_link_lem a c (record { from = a; to = c; load = message }))
  where
    go : (d : Dec (OnLink a c (record { from = a; to = c; load = message })))
        → 1 ≤ pick {A = ℕ} d 1 0 + messages_on a c ys
    go (yes o) = omega arith
    go (no o) = absurd (o (refl, refl))
some_message a c (x ∷ xs) ys = omega (arith, some_message a c xs ys)

-- one of them 0, another less than S
sum_but_one : (f : ℕ → ℕ) (S n a c : ℕ) → ((y : ℕ) → y < n → f y ≤ S) → a < n → c < n → a ≢ c → f c ≡ 0 → f a < S
    → sum f 0 n < (n - 1) * S
sum_but_one f S n a c h la lc ne z l = go n refl
  where
    s : sum (update f c S) 0 n + f c ≡ sum f 0 n + S
    s = sum_update f c S 0 n zero-le (omega arith)

    b : sum (update f c S) 0 n < n * S
    b =
        sum_less (update f c S) S n a (update_all (λ y x. y < n → x ≤ S) f c S (λ q. omega arith) (λ y q k. h y k)) la
        (omega (arith, update_other f c S a ne))

    go : (k : ℕ) → n ≡ k → sum f 0 n < (n - 1) * S
    go zero e = absurd (omega arith)
    go (suc k) e =
        let x : n - 1 ≡ k = omega arith in
        let y : n * S ≡ suc k * S = ap (λ i. i * S) e in
        rw x (omega (arith, s, b, y))

pub taken_room : {P p : ℕ} (tree : Tree P p) (limit S : ℕ) (b : PhaseBoard) → PhaseInvariant tree limit b
    → ((y : ℕ) → y < P → (b.nodes y).tallies sent_all ≤ S)
    → (a c : ℕ) → a < P → c < P → a ≢ c → (xs ys : List Parcel)
    → b.items ≡ xs ++ record { from = a; to = c; load = message } ∷ ys → (b.nodes c).tallies taken_all < (P - 1) * S
taken_room {P} {p} tree limit S b f cap' a c ha hc ne xs ys e =
    let t : sum (λ y. b.taken_between y c) 0 P ≡ sum (λ j. (b.nodes c).tallies (taken_from j)) 0 p =
    subst (λ l. sum (λ y. b.taken_between y c) l P ≡ sum (λ j. (b.nodes c).tallies (taken_from j)) 0 p)
    (tree.low_top c hc) (subst (λ s. sum (λ y. b.taken_between y c) (tree.low p c) s ≡ sum
    (λ j. (b.nodes c).tallies (taken_from j)) 0 p) (tree.size_top c hc) (f.taken_shells c hc p (omega arith))) in
    omega (
      arith,
      t,
      (f.nodes_ok c hc).taken_total_lem,
      sum_but_one (λ y. b.taken_between y c) S P a c
          (λ y h. omega (arith, below y h, f.covers_pairs y c)) ha hc ne (omega (arith, own0, f.covers_pairs c c))
          (omega (arith, below a ha, f.covers_pairs a c, message_on)),
    )
  where
    below : (y : ℕ) → y < P → b.sent_between y c ≤ S
    below y h =
        let t : sum (b.sent_between y) 0 P ≡ sum (λ j. (b.nodes y).tallies (sent_to j)) 0 p =
        subst (λ l. sum (b.sent_between y) l P ≡ sum (λ j. (b.nodes y).tallies (sent_to j)) 0 p) (tree.low_top y h)
        (subst (λ s. sum (b.sent_between y) (tree.low p y) s ≡ sum (λ j. (b.nodes y).tallies (sent_to j)) 0 p)
        (tree.size_top y h) (f.sent_shells y h p (omega arith))) in
        omega (arith, t, (f.nodes_ok y h).sent_total_lem, cap' y h, sum_at (b.sent_between y) P c hc)

    own0 : b.sent_between c c ≡ 0
    own0 =
        let t : sum (b.sent_between c) c 1 ≡ 0 =
        subst (λ l. sum (b.sent_between c) l 1 ≡ 0) (tree.low_zero c hc)
        (subst (λ s. sum (b.sent_between c) (tree.low 0 c) s ≡ 0) (tree.size_zero c hc)
        (f.sent_shells c hc 0 zero-le)) in
        let z : b.sent_between c (c + 0) ≡ b.sent_between c c = ap (b.sent_between c) (omega arith) in
        omega arith

    message_on : 1 ≤ messages_on a c b.items
    message_on = subst (λ l. 1 ≤ messages_on a c l) (sym e) (some_message a c xs ys)
