-- Laws of the calls on words: what is answered where the words hold no state, and what they become where a message is
-- counted.
use mathlib.Core.Path.{◌≡◌, refl, sym, ap, ◌∙◌}
use mathlib.Core.Bool.{true, false, not}
use mathlib.Core.List.{List}
use Prim.Native.Nat.{ℕ, ◌+◌, ◌≤◌, ◌<◌}
use native.Mathlib.Omega.{arith}
use lib.ListN.{length, set, length-set}
use borrow.Author.Tests.{lt-ltb}
use Rattle.base.specs.Limits.{Limits, Fits, width}
use Rattle.base.specs.declared.Kind.{Kind}
use Rattle.base.specs.declared.Kind.TheVariants.{Job, Note}
use Rattle.base.proofs.Laws.{choose_yes}
use Rattle.frame.specs.Frame.{sent_number, taken_number, sent_at, taken_at}
use Rattle.node.specs.Sums.{all_sent, all_taken, tally}
use Rattle.node.specs.Change.{with_busy, with_sent, with_taken, at}
use Rattle.node.specs.State.{valid}
use Rattle.node.specs.Answers.{Given, Outcome, refused}
use Rattle.node.specs.Calls.{refusal, one_sent, one_taken, counted}
use Rattle.node.specs.declared.Node.{Node}
use Rattle.survey.proofs.Lists.{total_has}
use Rattle.layout.specs.Places.{at_sent, at_taken, head_words}
use Rattle.layout.specs.Held.{word, dims_of, unpacked, is_whole, answer_on, words_on}
use Rattle.layout.proofs.Offsets.{first_above}
use Rattle.layout.proofs.Whole.{whole}
use Rattle.layout.proofs.Reading.{sent_word, taken_word}
use Rattle.layout.proofs.Becomes.{Becomes, becomes_then}
use Rattle.layout.proofs.Writes.{put_busy, put_position, put_sent, put_taken}
use Rattle.layout.proofs.Answers.{fails}
use Rattle.scanned.specs.Scan.{Scanned}
use Rattle.scanned.specs.declared.Scan.{Scan}
use Rattle.scanned.proofs.Known.{failed}
use Rattle.node_take.specs.Pieces.{counted_words, woken_words}

-- no state: 13, and the words stay
pub no_state_lem : (L : Limits) → Fits L → (room : ℕ) (ws : List ℕ) (s : Scan) → Scanned L room false ws s
    → (call : Node → Given Outcome) → not s.ok ≡ true
    → (not (valid L (unpacked ws)) ≡ true → call (unpacked ws) ≡ refusal (unpacked ws) 13)
    → (refused 13 ≡ answer_on L room call ws) × (ws ≡ words_on L room call ws)
no_state_lem L fit room ws s r call o f = fails L fit call ws room (failed L room false ws s r o) f

pub counted_length : (ws : List ℕ) (at : ℕ) → length (counted_words ws at) ≡ length ws
counted_length ws at = simp length-set refl

-- the same words, the same state
becomes_is : {L : Limits} {ws after : List ℕ} {n m : Node} → n ≡ m → Becomes L ws after n → Becomes L ws after m
becomes_is {L} {ws} {after} e b = rw e at b

module _ (L : Limits) (ws : List ℕ) (e : is_whole L ws ≡ true) where
  -- the head and the tallies are there
  pub tallies_room : head_words + (dims_of ws + dims_of ws) ≤ length ws
  tallies_room = omega (arith, first_above (dims_of ws) (dims_of ws), (whole L ws e).long)

  module _ (m : ℕ) (h : m < dims_of ws) (l : m < width) where
    sent_is : sent_at (unpacked ws).sent m ≡ word ws (at_sent m)
    sent_is = sent_word ws m l ∙ choose_yes _ _ (lt-ltb _ _ h)

    taken_is : taken_at (unpacked ws).taken m ≡ word ws (at_taken (dims_of ws) m)
    taken_is = taken_word ws m l ∙ choose_yes _ _ (lt-ltb _ _ h)

    -- a tally is at most the total
    pub sent_within : word ws (at_sent m) ≤ tally (unpacked ws) all_sent
    unfolding unpacked
    sent_within = omega (arith, sent_is, total_has (sent_at (unpacked ws).sent) (dims_of ws) m h)

    pub taken_within : word ws (at_taken (dims_of ws) m) ≤ tally (unpacked ws) all_taken
    unfolding unpacked
    taken_within = omega (arith, taken_is, total_has (taken_at (unpacked ws).taken) (dims_of ws) m h)

    pub put_one_sent : Becomes L ws (set ws (at_sent m) (word ws (at_sent m) + 1)) (one_sent (unpacked ws) m)
    put_one_sent =
        becomes_is (ap (λ x. with_sent (unpacked ws) (set (unpacked ws).sent m (sent_number (x + 1)))) (sym sent_is))
        (put_sent L ws e m (word ws (at_sent m) + 1) h l)

    put_one_taken : Becomes L ws (set ws (at_taken (dims_of ws) m) (word ws (at_taken (dims_of ws) m) + 1))
        (one_taken (unpacked ws) m)
    put_one_taken =
        becomes_is (ap (λ x. with_taken (unpacked ws) (set (unpacked ws).taken m (taken_number (x + 1)))) (sym taken_is))
        (put_taken L ws e m (word ws (at_taken (dims_of ws) m) + 1) h l)

    put_counted : Becomes L ws (counted_words ws (at_taken (dims_of ws) m)) (at (one_taken (unpacked ws) m) 1 0 true 0)
    put_counted =
        let a = put_one_taken in
        becomes_then L a (becomes_is (ap (λ n. at n 1 0 true 0) a.node) (put_position L _ a.whole 1 0 true 0))

    pub put_taken_one : (kind : Kind) → Becomes L ws (woken_words kind (counted_words ws (at_taken (dims_of ws) m)))
        (counted (unpacked ws) kind m)
    put_taken_one Job =
        let a = put_counted in
        becomes_then L a (becomes_is (ap (λ n. with_busy n true) a.node) (put_busy L _ a.whole true))
    put_taken_one Note = put_counted
