-- Frame in on a state: what the reader refuses is refused, and of bytes that it takes the sender and the phase decide.
use mathlib.Core.Path.{◌≡◌, sym, ap, ◌∙◌, subst}
use mathlib.Core.Logic.{◌≢◌}
use mathlib.Core.Bool.{Bool, true, false, not}
use mathlib.Core.Option.{Option, none, some}
use mathlib.Core.List.{List, ◌∷◌}
use Prim.Native.Nat.{ℕ}
use lib.ListN.{get_or}
use borrow.Author.Tests.{eqb-true, eq-eqb, ne_eqb}
use Rattle.base.specs.Limits.{Limits}
use Rattle.base.specs.Refusal.{refused, found, Check, when}
use Rattle.base.specs.declared.Refusal.{Refusal}
use Rattle.base.proofs.Laws.{clash, Passes, Stops, here, later, stops_before, stops_after, checks_stop, checks_known}
use Rattle.tree.specs.Tree.{awaited}
use Rattle.tree.specs.Lookups.{bad_board}
use Rattle.frame.specs.Frame.{fields_of, read_checks, read_frame, answer_of}
use Rattle.frame.specs.Timing.{timing}
use Rattle.frame.specs.declared.Frame.{Frame}
use Rattle.frame.specs.declared.Timing.{Timing}
use Rattle.frame.proofs.Answers.{answer_refused, answer_done}
use Rattle.frame.proofs.RoundTripAccepted.{Read, read_known, head_phase, head_dim, head_sender}
use Rattle.node.specs.Sums.{dims}
use Rattle.node.specs.State.{valid}
use Rattle.node.specs.Calls.{refusal, frame_in, is_awaited, by_timing}
use Rattle.node.specs.declared.Node.{Node}
use Rattle.node.proofs.Valid.{valid_known}
use Rattle.node.proofs.Ways.{frame_refuses, frame_comes}

-- ---- who is awaited

awaited_is : (o : Option ℕ) (a : ℕ) → is_awaited o a ≡ true → o ≡ some a
awaited_is none a e = clash (sym e)
awaited_is (some w) a e = ap some (eqb-true w a e)

-- ---- the call

module _ (L : Limits) (n : Node) (bs : List ℕ) (v : valid L n ≡ true) where
  abbrev got : Frame
  got = fields_of (dims n) bs

  -- the checks of the reader, after that of the board
  abbrev checks : List Check
  checks = read_checks L n.nodes bs

  abbrev all : List Check
  all = when (bad_board L n.nodes) Refusal.Board ∷ checks

  read_stops : (x : ℕ) → read_frame L n.nodes bs ≡ refused x → Stops checks x
  unfolding read_frame
  read_stops x e = go (checks_stop all got x e)
    where
      go : {y : ℕ} → Stops all y → Stops checks y
      go (here b) = clash (sym b ∙ (valid_known L n v).board)
      go (later b s) = s

  pub frame_refused : (x : ℕ) → answer_of (read_frame L n.nodes bs) ≡ refused x → frame_in L n bs ≡ refusal n x
  frame_refused x a =
      frame_refuses L n bs
      (later (ap not v) (stops_before _ (read_stops x (answer_refused (read_frame L n.nodes bs) x a))))

  module _ (a : answer_of (read_frame L n.nodes bs) ≡ found tt) where
    read_passes : Passes checks
    unfolding read_frame
    read_passes =
        let r = answer_done (read_frame L n.nodes bs) a in (checks_known all got r.0 r.1).0.1

    pub frame_read : Read L n.nodes bs got
    frame_read =
        let r = answer_done (read_frame L n.nodes bs) a in
        let k = read_known L n.nodes bs r.0 r.1 in
        subst (Read L n.nodes bs) k.fields k

    pub frame_self : get_or bs 3 0 ≡ n.number → frame_in L n bs ≡ refusal n 3
    frame_self e =
        frame_refuses L n bs
        (later (ap not v) (stops_after checks read_passes (here (eq-eqb _ _ (head_sender (dims n) bs ∙ e)))))

    module _ (e : get_or bs 3 0 ≢ n.number) where
      other : got.sender ≢ n.number
      other z = e (sym (head_sender (dims n) bs) ∙ z)

      -- whether the sender is awaited, of the fields
      same : (t : Bool) → is_awaited (awaited n.nodes (get_or bs 2 0) n.number) (get_or bs 3 0) ≡ t
          → is_awaited (awaited n.nodes got.dim n.number) got.sender ≡ t
      same t h = rw (head_dim (dims n) bs, head_sender (dims n) bs) h

      pub frame_partner : is_awaited (awaited n.nodes (get_or bs 2 0) n.number) (get_or bs 3 0) ≡ false
          → frame_in L n bs ≡ refusal n 11
      frame_partner h =
          frame_refuses L n bs
          (later (ap not v)
          (stops_after checks read_passes (later (ne_eqb _ _ other) (here (ap not (same false h))))))

      pub frame_timed : is_awaited (awaited n.nodes (get_or bs 2 0) n.number) (get_or bs 3 0) ≡ true → (t : Timing)
          → timing (get_or bs 1 0) n.phase ≡ t → frame_in L n bs ≡ by_timing n got t
      frame_timed h t z =
          frame_comes L n bs
          (record { ok = v; read = frame_read; other = other; awaits = awaited_is _ _ (same true h) })
          ∙ ap (by_timing n got) (ap (λ b. timing b n.phase) (head_phase (dims n) bs) ∙ z)
