-- The bytes that a node writes for its position are those of the frame that the proof has it write.
use mathlib.Core.Path.{◌≡◌, refl, sym, ap, ◌∙◌, subst}
use mathlib.Core.Logic.{◌⊎◌, inl, inr}
use mathlib.Core.Bool.{true}
use Prim.Native.Nat.{ℕ, ◌+◌, ◌≤◌, ◌<◌}
use native.Mathlib.Omega.{arith}
use borrow.Author.Tests.{lt-ltb, le-leb}
use Rattle.base.specs.Choice.{choose}
use Rattle.base.specs.Limits.{Limits, width}
use Rattle.base.proofs.Laws.{choose_yes, both_make, get_d_list}
use Rattle.tree.specs.Tree.{dimension}
use Rattle.frame.specs.Frame.{sent_number, taken_number, fields_of, frame_bytes, has_shell}
use Rattle.frame.specs.declared.Sent.{Sent}
use Rattle.frame.specs.declared.Taken.{Taken}
use Rattle.node.specs.Sums.{Field, sent_in, taken_in, all_sent, all_taken, dims, number, own, own_issued}
use Rattle.node.specs.State.{valid}
use Rattle.node.specs.Calls.{step_number, first_of, second_of}
use Rattle.node.specs.Barrier.{first_frame, second_frame, frame_due}
use Rattle.node.specs.declared.Node.{Node}
use Rattle.cycle.proofs.Exact.{Entry, sent_to, taken_from, sent_all, taken_all, own_sums}
use Rattle.cycle.proofs.OnePhase.{State, confirming, frame_of, dim_of}
use Rattle.cycle.proofs.AtRest.{frame_first, frame_second, dim_first, dim_second}
use Rattle.frame.proofs.RoundTripAccepted.{Read}
use Rattle.events.proofs.Setting.{Setting, dim_low}
use Rattle.node.specs.Sums.{Has}
use Rattle.events.proofs.View.{field_of, first_entries, second_entries, view, own_is, issued_is, own_like, own2_like}
use Rattle.events.proofs.Sim.{Holds, Says}
use Rattle.node.proofs.Valid.{step_first, step_second, valid_known}
use Rattle.node.proofs.Bound.{due_first, due_second, due_read}
use Rattle.frame.proofs.RoundTripAccepted.{read_known}

-- steps and dimensions
pub dim_step : (p pass k : ℕ) → (pass ≡ 1) ⊎ (pass ≡ 2) → k < p → dim_of p (step_number p pass k) ≡ k
dim_step p pass k (inl e) l = ap (dim_of p) (step_first p pass k e) ∙ dim_first p k l
dim_step p pass k (inr e) l = ap (dim_of p) (step_second p pass k e) ∙ dim_second p k

pub step_lt : (p pass k : ℕ) → (pass ≡ 1) ⊎ (pass ≡ 2) → k < p → step_number p pass k < p + p
step_lt p pass k (inl e) l = omega (arith, step_first p pass k e)
step_lt p pass k (inr e) l = omega (arith, step_second p pass k e)

module _ {L : Limits} {P : ℕ} (setting : Setting L P) where
  abbrev p : ℕ
  p = dimension P

  module _ (a c : ℕ) (n : Node) (u : State) (h : Holds setting a c n u) (v : valid L n ≡ true) where
    dims_is : dims n ≡ p
    dims_is = ap dimension h.nodes

    wide : dims n ≤ width
    wide = omega (arith, dims_is, dim_low setting)

    low : n.dim < dims n
    low = omega (arith, h.low, dims_is)

    -- what the frame of pass 1 shows
    first_shows : (f : Field) → Has (dims n) n.dim f → number (first_of (first_frame n)) f ≡ own n n.dim f
    first_shows (sent_in m) s =
        let z : 0 + m ≡ m = omega arith in
        ap (λ (x : Sent). x.0) (get_d_list 0 width
        (λ m. sent_number (choose (has_shell (dims n) n.dim m) (own n n.dim (sent_in m)) 0)) m (sent_number 0)
        (omega (arith, wide)))
        ∙ ap (λ m. choose (has_shell (dims n) n.dim m) (own n n.dim (sent_in m)) 0) z
        ∙ choose_yes _ _ (both_make (le-leb _ _ s.0) (lt-ltb _ _ s.1))
    first_shows (taken_in m) s =
        let z : 0 + m ≡ m = omega arith in
        ap (λ (x : Taken). x.0) (get_d_list 0 width
        (λ m. taken_number (choose (has_shell (dims n) n.dim m) (own n n.dim (taken_in m)) 0)) m (taken_number 0)
        (omega (arith, wide)))
        ∙ ap (λ m. choose (has_shell (dims n) n.dim m) (own n n.dim (taken_in m)) 0) z
        ∙ choose_yes _ _ (both_make (le-leb _ _ s.0) (lt-ltb _ _ s.1))
    first_shows all_sent s = refl
    first_shows all_taken s = refl

    first_case : n.pass ≡ 1 → Says setting a c (first_frame n) u.step (frame_of p u u.step)
    first_case e =
        record {
          pass = inl refl;
          low = h.low;
          step = at_is;
          phase = h.phase;
          sender = h.number;
          first = λ q. says;
          second = λ q. absurd (omega (arith, q));
        }
      where
        at_is : n.dim ≡ u.step
        at_is = sym (step_first p n.pass n.dim e) ∙ h.like.step

        says : (f : Entry) → Has p u.step (field_of f)
            → first_entries (first_of (first_frame n)) f ≡ frame_of p u u.step f
        says f s =
            let s1 : Has p n.dim (field_of f) = subst (λ t. Has p t (field_of f)) (sym at_is) s in
            let s2 : Has (dims n) n.dim (field_of f) = subst (λ q. Has q n.dim (field_of f)) (sym dims_is) s1 in
            first_shows (field_of f) s2 ∙ own_is p n n.dim (omega (arith, h.low)) f
            ∙ own_like p (view p n) u h.like n.dim (omega (arith, h.low)) f s1
            ∙ ap (λ t. own_sums u.tallies u.stored t f) at_is
            ∙ ap (λ g. g f) (sym (frame_first p u u.step (omega (arith, h.low, at_is))))

    second_case : n.pass ≡ 2 → Says setting a c (second_frame n) u.step (frame_of p u u.step)
    second_case e =
        record {
          pass = inr refl;
          low = h.low;
          step = at_is;
          phase = h.phase;
          sender = h.number;
          first = λ q. absurd (omega (arith, q));
          second = λ q. says;
        }
      where
        at_is : p + n.dim ≡ u.step
        at_is = sym (step_second p n.pass n.dim e) ∙ h.like.step

        own2 : own_issued n n.dim ≡ own_sums u.tallies (λ i. u.stored (p + i)) n.dim sent_all
        own2 = issued_is p n n.dim ∙ own2_like p (view p n) u h.like n.dim (omega (arith, h.low))

        frame_is : (f : Entry) → confirming u.agreed
            (own_sums u.tallies (λ i. u.stored (p + i)) n.dim sent_all) f ≡ frame_of p u u.step f
        frame_is f = ap (λ g. g f) (sym (frame_second p u n.dim)) ∙ ap (λ t. frame_of p u t f) at_is

        says : (f : Entry) → Has p u.step (field_of f)
            → second_entries (second_of (second_frame n)) f ≡ frame_of p u u.step f
        says (sent_to j) s = absurd (omega (arith, at_is))
        says (taken_from j) s = absurd (omega (arith, at_is))
        says sent_all s = own2 ∙ frame_is sent_all
        says taken_all s = h.like.agreed ∙ frame_is taken_all

    says_due : (n.pass ≡ 1) ⊎ (n.pass ≡ 2) → Says setting a c (frame_due n) u.step (frame_of p u u.step)
    says_due (inl e) =
        subst (λ f. Says setting a c f u.step (frame_of p u u.step))
        (sym (due_first n e)) (first_case e)
    says_due (inr e) =
        subst (λ f. Says setting a c f u.step (frame_of p u u.step))
        (sym (due_second n e)) (second_case e)

    -- the frame is read back from its bytes
    read_due : Read L n.nodes (frame_bytes (dims n) (frame_due n)) (frame_due n)
    read_due =
        read_known L n.nodes (frame_bytes (dims n) (frame_due n)) (frame_due n)
        (due_read L setting.fit.room n (valid_known L n v) low setting.fit.four)

    pub emitted_read : Read L P (frame_bytes (dims n) (frame_due n)) (fields_of p (frame_bytes (dims n) (frame_due n)))
    emitted_read =
        let r = read_due in
        subst (λ N. Read L N (frame_bytes (dims n) (frame_due n))
        (fields_of (dimension N) (frame_bytes (dims n) (frame_due n)))) h.nodes
        (subst (Read L n.nodes (frame_bytes (dims n) (frame_due n))) r.fields r)

    pub emitted : Says setting a c (fields_of p (frame_bytes (dims n) (frame_due n))) u.step (frame_of p u u.step)
    emitted =
        let r = read_due in
        subst (λ f. Says setting a c f u.step (frame_of p u u.step))
        (r.fields ∙ ap (λ d. fields_of d (frame_bytes (dims n) (frame_due n))) dims_is) (says_due h.pass)
