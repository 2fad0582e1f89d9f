-- Laws of turns: the state and the answer of a turn are the definition's, and so are the lent bytes.
use mathlib.Core.Path.{◌≡◌, refl, sym, ap, ◌∙◌, subst}
use mathlib.Core.Bool.{true, false, not}
use mathlib.Core.List.{List, ◌∷◌, ◌++◌}
use Prim.Native.Nat.{ℕ, suc, ◌%◌, ◌≤◌, ◌<◌}
use native.Mathlib.Omega.{arith}
use lib.Dec.{ltb, eqb}
use lib.ListN.{length, drop}
use borrow.Author.Tests.{lt-ltb, lt-leb, eqb-true, ltb-false}
use Rattle.std.proofs.Common.{Result, Ok, Err}
use Rattle.base.specs.Choice.{both}
use Rattle.base.specs.Limits.{Limits}
use Rattle.base.specs.Refusal.{number, when}
use Rattle.base.specs.declared.Refusal.{Refusal}
use Rattle.base.proofs.Laws.{Stops, here, later, choose_yes, choose_no, cases, both_make}
use Rattle.frame.specs.Frame.{frame_bytes}
use Rattle.node.specs.Sums.{dims, all_taken, own}
use Rattle.node.specs.State.{valid}
use Rattle.node.specs.Agree.{no_clause}
use Rattle.node.specs.Answers.{Given, give, also, Barrier, sent, waits, moved, barrier_of}
use Rattle.node.specs.Calls.{bad_state}
use Rattle.node.specs.Change.{at}
use Rattle.node.specs.Barrier.{frame_due, length_due, receivers_due, is_due, moving, looking, barrier}
use Rattle.node.specs.Barrier.{lent_after, barrier_bytes}
use Rattle.node.specs.declared.Node.{Node}
use Rattle.node.specs.declared.Receivers.{Receivers}
use Rattle.node.proofs.Ways.{call_checks, NoneDue, call_refuses, call_sends_lem, call_looks}
use Rattle.scanned.specs.Scan.{clause_here}
use Rattle.node_turn.specs.Turn.{onward_turn, node_after, answer_of}
use Rattle.node_turn.specs.declared.Turn.{Turn}
use Rattle.node_turn.specs.declared.Turn.TheVariants.{Sends, Waits, Leaves}
use Rattle.node_decide.proofs.Clauses.{agrees_here, fails_here}

-- the state and the answer after a turn; where the call is refused nothing changes
abbrev pub turned : Node → Result Turn Refusal → Given Barrier
turned n (Ok t) = give (node_after n t) (barrier_of (Ok (answer_of t)))
turned n (Err r) = give n (barrier_of (Err r))

-- the turn of a node that looks
pub record Looks (L : Limits) (n : Node) (t : Turn) : Type 0 where
  pub reply : turned n (Ok t) ≡ looking L n
  pub bytes : (buf : List ℕ) → buf ≡ lent_after n buf (barrier_of (Ok (answer_of t)))

-- the turn of a node, or why it is refused, and what its buffer is left as
pub record Turns (L : Limits) (n : Node) (buf after : List ℕ) (t : Result Turn Refusal) : Type 0 where
  pub reply : turned n t ≡ barrier L n (length buf)
  pub bytes : after ≡ barrier_bytes L n buf

module _ (L : Limits) (n : Node) where
  turns : (buf after : List ℕ) (t : Result Turn Refusal) → turned n t ≡ barrier L n (length buf)
      → after ≡ lent_after n buf (turned n t).answer
      → Turns L n buf after t
  unfolding barrier_bytes
  turns buf after t e g = record { reply = e; bytes = g ∙ ap (λ x. lent_after n buf x.answer) e }

  -- the same turn and bytes
  pub turns_same : (buf : List ℕ) {a b : List ℕ} {s t : Result Turn Refusal} → a ≡ b → s ≡ t → Turns L n buf b t → Turns L n buf a s
  turns_same buf e f x = rw (e, f) x

  -- ---- refusals

  module _ (buf : List ℕ) where
    refuses : (r : Refusal) → Stops (call_checks L n (length buf)) (number r) → Turns L n buf buf (Err r)
    refuses r s = turns buf buf (Err r) (sym (call_refuses L n (length buf) s)) refl

    pub refuses_state : not (valid L n) ≡ true → Turns L n buf buf (Err Refusal.State)
    refuses_state e = refuses Refusal.State (here {c = bad_state L n} e)

    module _ (ok : valid L n ≡ true) where
      pub refuses_busy : n.busy ≡ true → Turns L n buf buf (Err Refusal.Working)
      refuses_busy e = refuses Refusal.Working (later (ap not ok) (here {c = when n.busy Refusal.Working} e))

      -- ---- the frame due

      module _ (b : n.busy ≡ false) where
        pub short : is_due n ≡ true → length buf < length_due n → Turns L n buf buf (Err Refusal.Buffer)
        short d l =
            let check = when (both (is_due n) (ltb (length buf) (length_due n))) Refusal.Buffer in
            refuses Refusal.Buffer (later (ap not ok) (later b (here {c = check} (both_make d (lt-ltb (length buf) (length_due n) l)))))

        pub sends : (to : Receivers) (count : ℕ) (bytes : List ℕ) → n.flag ≡ true
            → receivers_due n ≡ to.first ∷ also to.extra
            → count ≡ length_due n
            → count ≤ length buf
            → bytes ≡ frame_bytes (dims n) (frame_due n)
            → Turns L n buf (bytes ++ drop count buf) (Ok (Sends to count))
        sends to count bytes f r e l is =
            turns buf (bytes ++ drop count buf) (Ok (Sends to count))
            ((λ i. give (at n n.pass n.dim false n.agreed) (sent (sym r i) (e i)))
            ∙ sym (call_sends_lem L n (length buf) _ _ ok b f r (omega arith)))
            (ap (λ l. l ++ drop count buf) is)

  -- ---- a node that looks

  pub looks_out : dims n ≡ 0 → Looks L n Leaves
  looks_out z =
      let e : eqb (dims n) 0 ≡ true = rw z in
      record { reply = sym (choose_yes _ _ e); bytes = λ buf. refl }

  module _ (z : eqb (dims n) 0 ≡ false) where
    pub looks_on : n.dim < dims n → (t : ℕ) → (n.pass ≡ 1 → dims n ≤ suc n.dim → t ≡ own n (dims n) all_taken)
        → eqb (clause_here L n) no_clause ≡ true
        → Looks L n (onward_turn (dims n) n.pass n.dim n.agreed t)
    unfolding onward_turn
    looks_on low t same v =
        subst (Looks L n) (sym (choose_no _ _ (lt-leb (dims n) n.dim low)))
        (cases (Looks L n) (ltb (suc n.dim) (dims n)) _ _
        (λ e. record { reply = sym (moves ∙ choose_yes _ _ e); bytes = λ buf. refl })
        (λ e.
        cases (Looks L n) (eqb n.pass 1) _ _
        (λ f.
        let q = same (eqb-true _ _ f) (ltb-false _ _ e) in
        record {
          reply =
              ap (λ x. give (at n 2 0 true x) moved) q
              ∙ sym (moves ∙ choose_no _ _ e ∙ choose_yes _ _ f);
          bytes = λ buf. refl;
        })
        (λ f.
        record { reply = sym (moves ∙ choose_no _ _ e ∙ choose_no _ _ f); bytes = λ buf. refl })))
      where
        moves : looking L n ≡ moving n
        moves = choose_no _ _ z ∙ choose_yes _ _ (agrees_here L n ∙ v)

    pub looks_wait : eqb (clause_here L n) no_clause ≡ false → Looks L n (Waits (clause_here L n % 256))
    looks_wait e =
        record {
          reply =
              ap (λ i. give (at n n.pass n.dim false n.agreed) (waits i)) (sym (fails_here L n e))
              ∙ sym (choose_no _ _ z ∙ choose_no _ _ (agrees_here L n ∙ e));
          bytes = λ buf. refl;
        }

  pub looks : (buf : List ℕ) → valid L n ≡ true → n.busy ≡ false → NoneDue L n → (t : Turn) → Looks L n t
      → Turns L n buf buf (Ok t)
  looks buf ok b d t s =
      turns buf buf (Ok t) (s.reply ∙ sym (call_looks L n (length buf) ok b d)) (s.bytes buf)
