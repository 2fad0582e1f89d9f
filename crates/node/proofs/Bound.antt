-- What a node that passes the test writes for its position is within the field limit: the writer accepts it wherever
-- there is room, and the reader gives it back.
use mathlib.Core.Path.{◌≡◌, refl, sym, ap, ◌∙◌, subst}
use mathlib.Core.Logic.{◌⊎◌, inl, inr}
use mathlib.Core.Bool.{Bool, true, false}
use mathlib.Core.Option.{none}
use mathlib.Core.List.{List, [], ◌∷◌}
use Prim.Native.Nat.{ℕ, zero, suc, ◌+◌, ◌-◌, ◌*◌, ◌^◌, ◌≤◌, ◌<◌}
use native.Mathlib.Decide.{ℕ_discrete}
use native.Mathlib.Omega.{arith}
use lib.Dec.{eqb}
use lib.ListN.{length}
use borrow.Author.Tests.{le-leb, eq-eqb, ne_eqb}
use Rattle.base.specs.Choice.{choose}
use Rattle.base.specs.Limits.{Limits, field_limit, taken_limit, width}
use Rattle.base.specs.Refusal.{found}
use Rattle.base.proofs.Laws.{choose_yes, choose_no, cases, list_at}
use Rattle.tree.specs.Tree.{dimension, root, right_size, run_below, run_of, place_in, place}
use Rattle.tree.specs.Tree.{alone, awaits, sends_to, awaited, receivers}
use Rattle.tree.proofs.Dimension.{fits}
use Rattle.tree.proofs.Places.{place_alone}
use Rattle.tree.proofs.Lookups.{board_good}
use Rattle.frame.specs.Frame.{sent_number, taken_number, sent_at, taken_at, frame_bytes, has_shell}
use Rattle.frame.specs.Frame.{number_ok, numbers_ok, read_frame, write_frame}
use Rattle.frame.specs.declared.Sent.{Sent}
use Rattle.frame.specs.declared.Taken.{Taken}
use Rattle.frame.specs.declared.Frame.{Frame}
use Rattle.frame.proofs.Writing.{length_frame}
use Rattle.frame.proofs.RoundTripChecks.{Numbers, numbers_good, shell_known}
use Rattle.frame.specs.Shapes.{Shaped}
use Rattle.frame.proofs.RoundTripAccepted.{Accepted, size, write_good}
use Rattle.frame.proofs.RoundTripWrite.{write_then_read}
use Rattle.node.specs.Sums.{dims, first_at, second_at, Field, sent_in, taken_in, all_sent, all_taken}
use Rattle.node.specs.Sums.{tally, number, own, own_issued}
use Rattle.node.specs.Agree.{agrees}
use Rattle.node.specs.Barrier.{first_frame, second_frame, frame_due, length_due, receivers_due}
use Rattle.node.specs.declared.Node.{Node}
use Rattle.node.proofs.Totals.{total_at}
use Rattle.node.specs.Sums.{Has}
use Rattle.node.proofs.Clauses.{has_lower, first_agrees, second_agrees}
use Rattle.node.proofs.Valid.{Valid, valid_width, step_of, step_first, step_second, first_fits, second_fits}

-- ---- the own sums are within the field limit

-- so are the limits of a node's own totals
limits_low : (L : Limits) → 0 < L.nodes → (L.sends ≤ field_limit L) × (taken_limit L ≤ field_limit L)
limits_low L h = go L.nodes L.sends h
  where
    go : (N S : ℕ) → 0 < N → (S ≤ N * S) × ((N - 1) * S ≤ N * S)
    go zero S h = absurd (omega arith)
    go (suc N) S h = let e : suc N - 1 ≡ N = omega arith in rw e (omega arith)

-- a sum to which the frame of a step is added, where one is stored
added_low : (x y low : ℕ) (present : Bool) → x ≤ low → (present ≡ true → x + y ≤ low)
    → x + choose present y 0 ≤ low
added_low x y low true h f = f refl
added_low x y low false h f = omega arith

module _ (L : Limits) (room : L.nodes ≤ 2 ^ width) (n : Node) (v : Valid L n) where
  wide : dims n ≤ width
  wide = valid_width L n room v

  pub tally_low : (f : Field) → Has (dims n) 0 f → tally n f ≤ field_limit L
  tally_low f h =
      let b = board_good L n.nodes v.board in
      go f h (limits_low L (omega arith))
    where
      go : (f : Field) → Has (dims n) 0 f → (L.sends ≤ field_limit L) × (taken_limit L ≤ field_limit L)
          → tally n f ≤ field_limit L
      go (sent_in m) h l = omega (arith, v.sent, total_at (sent_at n.sent) m (dims n) h.1)
      go (taken_in m) h l = omega (arith, v.taken, total_at (taken_at n.taken) m (dims n) h.1)
      go all_sent h l = omega (arith, v.sent)
      go all_taken h l = omega (arith, v.taken)

  -- the own sums for a dimension whose steps before agree, of pass 1 and of pass 2
  pub own_low : (k : ℕ) → k ≤ dims n → ((j : ℕ) → j < k → agrees L n 1 j ≡ true) → (f : Field) → Has (dims n) k f
      → own n k f ≤ field_limit L
  unfolding own
  own_low zero l a f h = tally_low f h
  own_low (suc k) l a f h =
      let less = has_lower (dims n) k (suc k) f (omega arith) h in
      let rest = own_low k (omega arith) (λ j m. a j (omega arith)) f less in
      added_low (own n k f) (number (first_at n k) f) (field_limit L) (first_at n k).present rest
      (λ p.
      let met = ((first_fits L n k (v.first k (omega (arith, wide)))).awaits p).1 in
      (first_agrees L n k (a k (omega arith)) met).within f h)

  pub issued_low : (k : ℕ) → k ≤ dims n → ((j : ℕ) → j < k → agrees L n 2 j ≡ true) → own_issued n k ≤ field_limit L
  unfolding own_issued
  issued_low zero l a = tally_low all_sent tt
  issued_low (suc k) l a =
      let rest = issued_low k (omega arith) (λ j m. a j (omega arith)) in
      added_low (own_issued n k) (second_at n k).issued.0 (field_limit L) (second_at n k).present rest
      (λ p.
      let met = ((second_fits L n k (v.second k (omega (arith, wide)))).awaits p).1 in
      (second_agrees L n k (a k (omega arith)) met).within)

  -- for steps up to the position
  pub own_within : (k : ℕ) → k ≤ dims n → k ≤ step_of n → (f : Field) → Has (dims n) k f → own n k f ≤ field_limit L
  own_within k l h f s = own_low k l (λ j m. v.before_first j (omega arith) (omega arith)) f s

  pub issued_within : (k : ℕ) → k ≤ dims n → dims n + k ≤ step_of n → own_issued n k ≤ field_limit L
  issued_within k l h = issued_low k l (λ j m. v.before_second j (omega arith))

-- ---- the frame due

pub due_first : (n : Node) → n.pass ≡ 1 → frame_due n ≡ first_frame n
unfolding frame_due
due_first n e = choose_yes _ _ (eq-eqb n.pass 1 e)

pub due_second : (n : Node) → n.pass ≡ 2 → frame_due n ≡ second_frame n
unfolding frame_due
due_second n e = choose_no _ _ (ne_eqb n.pass 1 (λ q. omega arith))

-- a fact of the frame due by the pass
by_pass : (n : Node) (F : Frame → Type 0) → (n.pass ≡ 1) ⊎ (n.pass ≡ 2) → (n.pass ≡ 1 → F (first_frame n))
    → (n.pass ≡ 2 → F (second_frame n)) → F (frame_due n)
by_pass n F (inl e) f g = subst F (sym (due_first n e)) (f e)
by_pass n F (inr e) f g = subst F (sym (due_second n e)) (g e)

-- its arrays have the width of the struct's
pub due_shaped : (n : Node) → Shaped (frame_due n)
unfolding frame_due
due_shaped n =
    cases Shaped (eqb n.pass 1) (first_frame n) (second_frame n) (λ e. record { sent = refl; taken = refl })
    (λ e. record { sent = refl; taken = refl })

-- the head of the frame due
pub record Headed (n : Node) (f : Frame) : Type 0 where
  pub pass : f.pass ≡ n.pass
  pub phase : f.phase ≡ n.phase
  pub dim : f.dim ≡ n.dim
  pub sender : f.sender ≡ n.number

pub due_headed : (n : Node) → (n.pass ≡ 1) ⊎ (n.pass ≡ 2) → Headed n (frame_due n)
due_headed n p =
    by_pass n (Headed n) p (λ e. record { pass = sym e; phase = refl; dim = refl; sender = refl })
    (λ e. record { pass = sym e; phase = refl; dim = refl; sender = refl })

-- a number that is given where the frame has it
given_ok : (L : Limits) (has : Bool) (x : ℕ) → (has ≡ true → x ≤ field_limit L) → number_ok L has (choose has x 0) ≡ true
given_ok L true x h = le-leb x (field_limit L) (h refl)
given_ok L false x h = refl

module _ (L : Limits) (room : L.nodes ≤ 2 ^ width) (n : Node) (v : Valid L n) (low : n.dim < dims n) where
  abbrev shown : (ℕ → Field) → ℕ → ℕ
  shown f m = choose (has_shell (dims n) n.dim m) (own n n.dim (f m)) 0

  first_numbers_lem : n.pass ≡ 1 → Numbers L (dims n) (first_frame n)
  first_numbers_lem e =
      record {
        sent = λ m h. ap (ok m) (sent_is m h) ∙ shell_ok_lem sent_in (λ m h. h) m;
        taken = λ m h. ap (ok m) (taken_is m h) ∙ shell_ok_lem taken_in (λ m h. h) m;
        issued = small all_sent tt;
        received = le-leb _ _ (small all_taken tt);
        agreed = refl;
      }
    where
      at : step_of n ≡ n.dim
      at = step_first (dims n) n.pass n.dim e

      small : (f : Field) → Has (dims n) n.dim f → own n n.dim f ≤ field_limit L
      small f h = own_within L room n v n.dim (omega arith) (omega (arith, at)) f h

      ok : ℕ → ℕ → Bool
      ok m x = number_ok L (has_shell (dims n) n.dim m) x

      shell_ok_lem : (f : ℕ → Field) → ((m : ℕ) → (n.dim ≤ m) × (m < dims n) → Has (dims n) n.dim (f m)) → (m : ℕ)
          → ok m (shown f m) ≡ true
      shell_ok_lem f has m =
          given_ok L (has_shell (dims n) n.dim m) (own n n.dim (f m))
          (λ q. small (f m) (has m (shell_known (dims n) n.dim m q)))

      sent_is : (m : ℕ) → m < width → sent_at (first_frame n).sent m ≡ shown sent_in m
      sent_is m h =
          ap (λ (x : Sent). x.0) (list_at width (λ m. sent_number (shown sent_in m)) m (sent_number 0) h)

      taken_is : (m : ℕ) → m < width → taken_at (first_frame n).taken m ≡ shown taken_in m
      taken_is m h =
          ap (λ (x : Taken). x.0) (list_at width (λ m. taken_number (shown taken_in m)) m (taken_number 0) h)

  second_numbers_lem : n.pass ≡ 2 → Numbers L (dims n) (second_frame n)
  second_numbers_lem e =
      record {
        sent = λ m h. eq-eqb _ 0 (ap (λ (x : Sent). x.0) (list_at width (λ m. sent_number 0) m (sent_number 0) h));
        taken = λ m h. eq-eqb _ 0 (ap (λ (x : Taken). x.0) (list_at width (λ m. taken_number 0) m (taken_number 0) h));
        issued =
            let at = step_second (dims n) n.pass n.dim e in
            issued_within L room n v n.dim (omega arith) (omega arith);
        received = refl;
        agreed = le-leb _ _ v.agreed;
      }

  -- the writer and the reader accept the frame
  pub due_accepted : Accepted L n.nodes (frame_due n)
  due_accepted =
      let h = due_headed n v.pass in
      record {
        board = v.board;
        pass = subst (λ p. (p ≡ 1) ⊎ (p ≡ 2)) (sym h.pass) v.pass;
        dim = omega (arith, h.dim);
        numbers =
            by_pass n (λ f. numbers_ok L (dims n) f ≡ true) v.pass
            (λ e. numbers_good L (dims n) (first_frame n) (first_numbers_lem e))
            (λ e. numbers_good L (dims n) (second_frame n) (second_numbers_lem e));
        sender = omega (arith, h.sender, v.number);
      }

  due_size : size n.nodes (frame_due n) ≡ length_due n
  due_size = let h = due_headed n v.pass in rw (h.pass, h.dim)

  -- so it is written wherever there is room
  pub due_written : (bytes : ℕ) → length_due n ≤ bytes
      → write_frame L n.nodes (frame_due n) bytes ≡ found (length_due n)
  due_written bytes h =
      write_good L n.nodes (frame_due n) bytes due_accepted (omega (arith, due_size)) ∙ ap found due_size

  -- and read back as it was
  pub due_read : field_limit L < 4294967296
      → read_frame L n.nodes (frame_bytes (dims n) (frame_due n)) ≡ found (frame_due n)
  due_read four =
      write_then_read L (record { words = four; shells = room }) n.nodes (frame_due n) (due_shaped n) (length_due n)
      (length_due n) (due_written (length_due n) (omega arith))

-- the bytes of the frame due have the length that is stated
pub due_length : (n : Node) → (n.pass ≡ 1) ⊎ (n.pass ≡ 2) → length (frame_bytes (dims n) (frame_due n)) ≡ length_due n
due_length n p = let h = due_headed n p in length_frame (dims n) (frame_due n) ∙ rw (h.pass, h.dim)

-- ---- a board of one node

module _ (P k a : ℕ) (e : dimension P ≡ 0) where
  one_run : run_of P (suc k) a ≡ root P
  unfolding run_of run_below
  one_run = let z : dimension P - suc k ≡ 0 = omega arith in rw z

  one_place : place P k a ≡ alone
  unfolding place
  one_place =
      let one : P ≤ 2 ^ 0 = rw e at (fits P) in
      let z : right_size (root P) ≡ 0 = omega arith in
      ap (λ r. place_in r a) one_run ∙ place_alone (root P) a z

  pub one_receivers : receivers P k a ≡ []
  unfolding receivers
  one_receivers = ap sends_to one_place

  pub one_awaited : awaited P k a ≡ none
  unfolding awaited
  one_awaited = ap awaits one_place

-- who has someone to send to is at a dimension of its board
pub due_dim : (L : Limits) (n : Node) → Valid L n → (first : ℕ) (rest : List ℕ) → receivers_due n ≡ first ∷ rest
    → n.dim < dims n
due_dim L n v first rest e = go (ℕ_discrete (dims n) 0)
  where
    go : Dec (dims n ≡ 0) → n.dim < dims n
    go (yes z) =
        let none : ◌≡◌ {A = List ℕ} [] (first ∷ rest) = sym (one_receivers n.nodes n.dim n.number z) ∙ e in
        let clash : ◌≡◌ {A = ℕ} 0 1 = cc in
        absurd (omega arith)
    go (no z) = v.dim (omega arith)
