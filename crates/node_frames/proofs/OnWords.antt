-- Frame in on words that hold a state: what is said of the frame by the tests of the words and the bytes, and what a frame
-- that is stored needs and leaves.
use mathlib.Core.Path.{◌≡◌, refl, sym, subst}
use mathlib.Core.Logic.{◌≢◌, ◌⊎◌, inl, inr}
use mathlib.Core.Bool.{Bool, true, false}
use mathlib.Core.List.{List}
use Prim.Native.Nat.{ℕ, ◌+◌, ◌≤◌, ◌<◌}
use native.Mathlib.Omega.{arith}
use lib.ListN.{length, get_or}
use borrow.Author.Tests.{eq-eqb, ne_eqb}
use Rattle.base.specs.Limits.{Limits, Fits, width}
use Rattle.base.specs.Refusal.{refused, found}
use Rattle.base.proofs.Laws.{length_list}
use Rattle.tree.specs.Tree.{awaited}
use Rattle.tree.specs.Lookups.{bad_board}
use Rattle.tree.proofs.Lookups.{place_found}
use Rattle.frame.specs.Frame.{number_at, fields_of, read_frame, answer_of}
use Rattle.frame.specs.Timing.{timing}
use Rattle.frame.specs.declared.Timing.{Timing}
use Rattle.frame.specs.declared.Timing.TheVariants.{Now, Early, Late, Foreign}
use Rattle.frame.proofs.Writing.{first_length_lem, second_length}
use Rattle.frame.proofs.RoundTripAccepted.{Read}
use Rattle.node.specs.Calls.{gotten, is_awaited, by_timing, frame_in}
use Rattle.node.specs.Answers.{Outcome, refused as barred}
use Rattle.node.proofs.Valid.{Valid, valid_known}
use Rattle.layout.specs.Places.{at_nodes, at_number, at_phase, at_dim, head_words}
use Rattle.layout.specs.Held.{word, dims_of, unpacked}
use Rattle.layout.specs.Pieces.{Passed}
use Rattle.layout.proofs.Offsets.{first_above, first_inside}
use Rattle.layout.proofs.Whole.{Whole, whole, few as narrow}
use Rattle.layout.proofs.Becomes.{Becomes}
use Rattle.frame_refusals.specs.Judged.{by_time, awaits_sender, judged}
use Rattle.frame_refusals.proofs.Judging.{judged_cases}
use Rattle.node_frames.specs.Pieces.{Judged, frame_place, frame_words, stored_words, Storable}
use Rattle.node_frames.proofs.Storing.{read_dim, read_pass, read_count, put_read}
use Rattle.node_frames.proofs.Intake.{frame_refused, frame_read, frame_self, frame_partner, frame_timed}

module _ {L : Limits} {ws : List ℕ} (fit : Fits L) (bs : List ℕ) (k : Passed L ws) where
  held : Whole L ws
  held = whole L ws k.whole

  state : Valid L (unpacked ws)
  state = valid_known L (unpacked ws) k.valid

  -- the words of the head are there, and the phase is a byte
  pub head_long : head_words ≤ length ws
  head_long = omega (arith, first_above (dims_of ws) (dims_of ws), held.long)

  pub phase_low : word ws at_phase < 256
  phase_low = held.phase

  on_board : (bad_board L (word ws at_nodes) ≡ false) × (word ws at_number < word ws at_nodes)
  unfolding unpacked
  on_board = (held.board, state.number)

  says_refused : (x : ℕ) → answer_of (read_frame L (word ws at_nodes) bs) ≡ refused x → Judged L ws bs (barred x)
  unfolding unpacked
  says_refused x a = frame_refused L (unpacked ws) bs k.valid x a

  module _ (a : answer_of (read_frame L (word ws at_nodes) bs) ≡ found tt) where
    read : Read L (word ws at_nodes) bs (fields_of (dims_of ws) bs)
    unfolding unpacked
    read = frame_read L (unpacked ws) bs k.valid a

    dim_low : get_or bs 2 0 < dims_of ws
    dim_low = read_dim L ws bs read

    -- the words of the frame have room
    fits : (get_or bs 0 0 ≡ 1) ⊎ (get_or bs 0 0 ≡ 2)
        → (12 ≤ length bs)
        × (frame_place (dims_of ws) (get_or bs 0 0) (get_or bs 2 0) + length (frame_words bs) ≤ length ws)
    fits (inl e) =
        let l = first_length_lem (dims_of ws) (get_or bs 0 0) (get_or bs 2 0) e in (
          omega (arith, read_count L ws bs read),
          rw (eq-eqb (get_or bs 0 0) 1 e, length_list 0 _ (number_at bs))
              (omega (arith, read_count L ws bs read, first_inside (dims_of ws) (get_or bs 2 0) dim_low, held.long)),
        )
    fits (inr e) =
        let l = second_length (dims_of ws) (get_or bs 0 0) (get_or bs 2 0) (λ z. omega arith) in (
          omega (arith, read_count L ws bs read),
          rw (ne_eqb (get_or bs 0 0) 1 (λ z. omega arith), length_list 0 _ (number_at bs))
              (omega (arith, read_count L ws bs read, first_inside (dims_of ws) (get_or bs 2 0) dim_low, held.long)),
        )

    few : dims_of ws ≤ width
    few = narrow L fit ws held.board

    at_dim_lem : word ws at_dim < dims_of ws
    unfolding unpacked
    at_dim_lem = state.dim (omega (arith, dim_low))

    pub storable : Storable (dims_of ws) ws bs
    storable =
        record {
          few = few;
          dim = dim_low;
          head = omega (arith, (fits (read_pass L ws bs read)).0);
          position = (omega (arith, at_dim_lem, few), head_long);
          room = (fits (read_pass L ws bs read)).1;
        }

    -- the words that it is stored in hold the state that gets it
    pub stored : Becomes L ws (stored_words (dims_of ws) ws bs) (gotten (unpacked ws) (fields_of (dims_of ws) bs))
    stored = put_read L ws bs read fit k.whole

    says_self : get_or bs 3 0 ≡ word ws at_number → Judged L ws bs (barred 3)
    unfolding unpacked
    says_self e = frame_self L (unpacked ws) bs k.valid a e

    module _ (e : get_or bs 3 0 ≢ word ws at_number) where
      says_partner : is_awaited (awaited (word ws at_nodes) (get_or bs 2 0) (word ws at_number)) (get_or bs 3 0) ≡ false
          → Judged L ws bs (barred 11)
      unfolding unpacked
      says_partner h = frame_partner L (unpacked ws) bs k.valid a e h

      -- what is said by the timing
      says_timed : is_awaited (awaited (word ws at_nodes) (get_or bs 2 0) (word ws at_number)) (get_or bs 3 0) ≡ true
          → (t : Timing) → timing (get_or bs 1 0) (word ws at_phase) ≡ t
          → frame_in L (unpacked ws) bs ≡ by_timing (unpacked ws) (fields_of (dims_of ws) bs) t
      unfolding unpacked
      says_timed h t z = frame_timed L (unpacked ws) bs k.valid a e h t z

    -- the awaited node is that of the place that is looked up
    looked : (t : Bool) → awaits_sender L (word ws at_nodes) (word ws at_number) bs ≡ t
        → is_awaited (awaited (word ws at_nodes) (get_or bs 2 0) (word ws at_number)) (get_or bs 3 0) ≡ t
    unfolding awaited
    looked t h = rw (place_found L _ _ _ on_board.0 on_board.1 dim_low) at h

    by_time_lem : (t : Timing) → frame_in L (unpacked ws) bs ≡ by_timing (unpacked ws) (fields_of (dims_of ws) bs) t
        → Judged L ws bs (by_time t)
    by_time_lem Now q = (a, q)
    by_time_lem Early q = q
    by_time_lem Late q = q
    by_time_lem Foreign q = q

  -- what is said by the board, the node's number and its phase is said of the state
  pub judged_known : (r : Outcome) → r ≡ judged L (word ws at_nodes) (word ws at_number) (word ws at_phase) bs → Judged L ws bs r
  judged_known r e =
      let when = timing (get_or bs 1 0) (word ws at_phase) in
      subst (Judged L ws bs) (sym e)
      (judged_cases L (word ws at_nodes) (word ws at_number) (word ws at_phase) bs (Judged L ws bs) says_refused says_self
      (λ a z h. says_partner a z (looked a false h))
      (λ a z h. by_time_lem a when (says_timed a z (looked a true h) when refl)))
