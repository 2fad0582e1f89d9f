-- What the words of a stored frame, written in its place, make of the state that words hold.
use mathlib.Core.Path.{◌≡◌, sym, ap, ◌∙◌}
use mathlib.Core.Bool.{true}
use mathlib.Core.List.{List, [], ◌∷◌}
use Prim.Native.Nat.{ℕ, ◌+◌, ◌≤◌, ◌<◌}
use native.Mathlib.Decide.{ℕ_discrete, dec_lt}
use native.Mathlib.Nat.{zero-add, add-zero}
use native.Mathlib.Omega.{arith}
use lib.ListN.{length, set}
use Rattle.base.specs.Limits.{Limits, width}
use Rattle.frame.specs.Frame.{sent_number}
use Rattle.frame.specs.Parts.{pasted}
use Rattle.node.specs.Change.{with_first, with_second}
use Rattle.node.specs.declared.Stored.{Stored}
use Rattle.node.specs.declared.Confirm.{Confirm}
use Rattle.layout.specs.Places.{at_nodes, at_sent, at_taken, at_first, at_second, first_words, second_words, step_words}
use Rattle.layout.specs.Places.{mark_words}
use Rattle.layout.specs.Held.{word, dims_of, first_from, first_in, second_in, unpacked, is_whole}
use Rattle.layout.proofs.Offsets.{first_above, first_apart, first_inside}
use Rattle.layout.proofs.Whole.{whole}
use Rattle.layout.proofs.Reading.{first_in_lem, second_in_lem}
use Rattle.layout.proofs.Written.{Written, paste_here, written_paste}
use Rattle.layout.proofs.Parts.{Alike, first_alike, second_alike, first_same, second_same}
use Rattle.layout.proofs.Becomes.{Becomes}
use Rattle.layout.proofs.Writes.{sent_same, taken_same, firsts_same, firsts_set, seconds_same, seconds_set}
use Rattle.layout.proofs.Writes.{Marked, marked, tail_put}

module _ (L : Limits) (ws : List ℕ) (e : is_whole L ws ≡ true) (k : ℕ) (h : k < dims_of ws) where
  -- a write among the words of dimension k
  module _ (after : List ℕ) (from n : ℕ) (w : Written ws after from n) (low : at_first (dims_of ws) k ≤ from)
      (high : from + n ≤ at_first (dims_of ws) k + step_words (dims_of ws) k) where
    board : word after at_nodes ≡ word ws at_nodes
    board = w.low at_nodes (omega (arith, first_above (dims_of ws) k))

    -- the words of the other dimensions
    elsewhere : (j i : ℕ) → (j ≡ k → ⊥) → at_first (dims_of ws) j ≤ i → i < at_first (dims_of ws) j + step_words (dims_of ws) j
        → word after i ≡ word ws i
    elsewhere j i d a b = go (dec_lt j k)
      where
        go : Dec (j < k) → word after i ≡ word ws i
        go (yes l) = w.low i (omega (arith, first_apart (dims_of ws) j k l))
        go (no l) = w.high i (omega (arith, first_apart (dims_of ws) k j (omega arith)))

    firsts_elsewhere : (j : ℕ) → (j ≡ k → ⊥) → first_in after (dims_of ws) j ≡ first_in ws (dims_of ws) j
    firsts_elsewhere j d =
        first_same after ws (dims_of ws) j
        (λ a i b. elsewhere j (at_first (dims_of ws) j + i) d (omega arith) (omega arith))

    seconds_elsewhere : (j : ℕ) → (j ≡ k → ⊥) → second_in after (dims_of ws) j ≡ second_in ws (dims_of ws) j
    seconds_elsewhere j d =
        second_same after ws (dims_of ws) j
        (λ a i b. elsewhere j (at_second (dims_of ws) j + i) d (omega arith) (omega arith))

    store_put : (f : List Stored) (g : List Confirm) → word after (at_first (dims_of ws) k) < 2
        → word after (at_second (dims_of ws) k) < 2 → (unpacked after).first ≡ f → (unpacked after).second ≡ g
        → Becomes L ws after (with_second (with_first (unpacked ws) f) g)
    store_put f g mf mg ef eg =
        tail_put L ws e after from n w (omega (arith, first_above (dims_of ws) k)) (unpacked ws).sent (unpacked ws).taken f g
        (omega (arith, first_inside (dims_of ws) k h)) marks
        (sent_same ws after board (λ j a. w.low (at_sent j) (omega (arith, first_above (dims_of ws) k))))
        (taken_same ws after board (λ j a. w.low (at_taken (dims_of ws) j) (omega (arith, first_above (dims_of ws) k))))
        ef eg
      where
        marks : Marked after (dims_of ws)
        marks j a = go (ℕ_discrete j k)
          where
            go : Dec (j ≡ k) → (word after (at_first (dims_of ws) j) < 2) × (word after (at_second (dims_of ws) j) < 2)
            go (yes q) = rw q (mf, mg)
            go (no q) = (
              rw (elsewhere j (at_first (dims_of ws) j) q (omega arith) (omega arith)) (marked L ws e j a).0,
              rw (elsewhere j (at_second (dims_of ws) j) q (omega arith) (omega arith)) (marked L ws e j a).1,
            )

  -- words pasted among those of dimension k
  module _ (from : ℕ) (bs : List ℕ) (low : at_first (dims_of ws) k ≤ from)
      (high : from + length bs ≤ at_first (dims_of ws) k + step_words (dims_of ws) k) where
    room : from + length bs ≤ length ws
    room = omega (arith, first_inside (dims_of ws) k h, (whole L ws e).long)

    block : Written ws (pasted ws from bs) from (length bs)
    block = written_paste ws from bs room

    read_back : Alike (pasted ws from bs) from bs 0 (length bs)
    read_back i a = paste_here ws from bs room i a ∙ ap (word bs) (sym (zero-add i))

    mark_back : 0 < length bs → word (pasted ws from bs) from ≡ word bs 0
    mark_back a = ap (word (pasted ws from bs)) (sym (add-zero from)) ∙ read_back 0 a

  pub put_first : k < width → (l : List ℕ) → mark_words + length l ≡ first_words (dims_of ws) k
      → Becomes L ws (pasted ws (at_first (dims_of ws) k) (1 ∷ l))
      (with_first (unpacked ws) (set (unpacked ws).first k (first_from (1 ∷ l) (dims_of ws) k 0)))
  put_first m l q =
      let mark = mark_back from bs (omega arith) (omega arith) (omega arith) in
      store_put after from (length bs) w (omega arith) (omega arith) _ _ (rw mark (omega arith))
      (rw (w.high (at_second (dims_of ws) k) (omega arith)) (marked L ws e k h).1)
      (firsts_set ws after here k _ m
      (first_in_lem after (dims_of ws) k h
      ∙ first_alike after bs (dims_of ws) k from 0
      (λ i a. read_back from bs (omega arith) (omega arith) i (omega arith)))
      (firsts_elsewhere after from (length bs) w (omega arith) (omega arith)))
      (seconds_same ws after here (λ j. seconds j (ℕ_discrete j k)))
    where
      from : ℕ
      from = at_first (dims_of ws) k

      bs : List ℕ
      bs = 1 ∷ l

      after : List ℕ
      after = pasted ws from bs

      w : Written ws after from (length bs)
      w = block from bs (omega arith) (omega arith)

      here : word after at_nodes ≡ word ws at_nodes
      here = board after from (length bs) w (omega arith) (omega arith)

      seconds : (j : ℕ) → Dec (j ≡ k) → second_in after (dims_of ws) j ≡ second_in ws (dims_of ws) j
      seconds j (yes z) =
          second_same after ws (dims_of ws) j (λ a i b. w.high (at_second (dims_of ws) j + i) (rw z (omega arith)))
      seconds j (no z) = seconds_elsewhere after from (length bs) w (omega arith) (omega arith) j z

  pub put_second : k < width → (t s : ℕ)
      → Becomes L ws (pasted ws (at_second (dims_of ws) k) (1 ∷ t ∷ s ∷ []))
      (with_second (unpacked ws)
      (set (unpacked ws).second k (record { present = true; agreed = t; issued = sent_number s })))
  put_second m t s =
      let mark = mark_back from bs (omega arith) (omega arith) (omega arith) in
      store_put after from second_words w (omega arith) (omega arith) _ _
      (rw (w.low (at_first (dims_of ws) k) (omega arith)) (marked L ws e k h).0) (rw mark (omega arith))
      (firsts_same ws after here (λ j. firsts j (ℕ_discrete j k)))
      (seconds_set ws after here k _ m
      (second_in_lem after (dims_of ws) k h
      ∙ second_alike after bs from 0 (read_back from bs (omega arith) (omega arith)))
      (seconds_elsewhere after from second_words w (omega arith) (omega arith)))
    where
      from : ℕ
      from = at_second (dims_of ws) k

      bs : List ℕ
      bs = 1 ∷ t ∷ s ∷ []

      after : List ℕ
      after = pasted ws from bs

      w : Written ws after from second_words
      w = block from bs (omega arith) (omega arith)

      here : word after at_nodes ≡ word ws at_nodes
      here = board after from second_words w (omega arith) (omega arith)

      firsts : (j : ℕ) → Dec (j ≡ k) → first_in after (dims_of ws) j ≡ first_in ws (dims_of ws) j
      firsts j (yes z) =
          first_same after ws (dims_of ws) j
          (λ a i b. w.low (at_first (dims_of ws) j + i) (rw z (omega (arith, rw z at b))))
      firsts j (no z) = firsts_elsewhere after from second_words w (omega arith) (omega arith) j z
