-- What the writes of single words make of the state that words hold: busy or idle, the position, a tally.
use mathlib.Core.Path.{◌≡◌, refl, ap, ◌∙◌}
use mathlib.Core.Bool.{Bool, true, false}
use mathlib.Core.List.{List}
use Prim.Native.Nat.{ℕ, zero, suc, ◌+◌, ◌*◌, ◌≤◌, ◌<◌, ◌-◌}
use native.Mathlib.Omega.{arith}
use lib.Dec.{eqb}
use lib.ListN.{length, set, length-set}
use lib.Seq.{get_or-set_same, get_or-set_other}
use Rattle.base.specs.Limits.{Limits, width}
use Rattle.base.proofs.Laws.{list_same}
use Rattle.tree.specs.Tree.{dimension}
use Rattle.frame.specs.Frame.{sent_number, taken_number}
use Rattle.frame.specs.declared.Sent.{Sent}
use Rattle.frame.specs.declared.Taken.{Taken}
use Rattle.node.specs.Change.{with_busy, with_sent, with_taken, at, with_first, with_second}
use Rattle.node.specs.declared.Stored.{Stored}
use Rattle.node.specs.declared.Confirm.{Confirm}
use Rattle.node.specs.declared.Node.{Node}
use Rattle.layout.specs.Places.{at_nodes, at_busy, at_pass, at_dim, at_flag, at_agreed, at_sent, at_taken}
use Rattle.layout.specs.Places.{at_first, at_second, state_words, at_number, at_phase, head_words}
use Rattle.layout.specs.Held.{word, bit, dims_of, first_in, second_in, unpacked, is_whole}
use Rattle.layout.proofs.Offsets.{first_above}
use Rattle.layout.proofs.Whole.{whole, whole_made}
use Rattle.layout.proofs.Written.{Written, written_set, written_then, written_within, written_drop}
use Rattle.layout.proofs.Parts.{tallies_same, tallies_set, first_same, second_same, one_set}
use Rattle.layout.proofs.Becomes.{Becomes}

-- ---- A word for a yes or no

bit_low : (b : Bool) → bit b < 2
bit_low true = omega arith
bit_low false = omega arith

bit_read : (b : Bool) → eqb (bit b) 1 ≡ b
bit_read true = refl
bit_read false = refl

bit_back : (x : ℕ) → x < 2 → x ≡ bit (eqb x 1)
bit_back zero h = refl
bit_back (suc zero) h = refl
bit_back (suc (suc x)) h = absurd (omega arith)

-- ---- States with the same parts are the same

node_same : (a b : Node) → a.nodes ≡ b.nodes → a.number ≡ b.number → a.phase ≡ b.phase → a.busy ≡ b.busy
    → a.sent ≡ b.sent → a.taken ≡ b.taken → a.pass ≡ b.pass → a.dim ≡ b.dim → a.flag ≡ b.flag
    → a.first ≡ b.first → a.second ≡ b.second → a.agreed ≡ b.agreed
    → a ≡ b
node_same a b e1 e2 e3 e4 e5 e6 e7 e8 e9 e10 e11 e12 i =
    record {
      nodes = e1 i;
      number = e2 i;
      phase = e3 i;
      busy = e4 i;
      sent = e5 i;
      taken = e6 i;
      pass = e7 i;
      dim = e8 i;
      flag = e9 i;
      first = e10 i;
      second = e11 i;
      agreed = e12 i;
    }

-- ---- The parts after a write that leaves the board

module _ (ws after : List ℕ) (same : word after at_nodes ≡ word ws at_nodes) where
  dims_same : dims_of after ≡ dims_of ws
  dims_same = ap dimension same

  pub sent_same : ((j : ℕ) → j < dims_of ws → word after (at_sent j) ≡ word ws (at_sent j))
      → (unpacked after).sent ≡ (unpacked ws).sent
  unfolding unpacked
  sent_same h = rw dims_same (tallies_same sent_number (dims_of ws) (λ m. word ws (at_sent m)) (λ m. word after (at_sent m)) h)

  sent_set : (m x : ℕ) → m < dims_of ws → m < width → word after (at_sent m) ≡ x
      → ((j : ℕ) → j < dims_of ws → (j ≡ m → ⊥) → word after (at_sent j) ≡ word ws (at_sent j))
      → (unpacked after).sent ≡ set (unpacked ws).sent m (sent_number x)
  unfolding unpacked
  sent_set m x a b e h =
      rw dims_same
      (tallies_set sent_number (dims_of ws) (λ m. word ws (at_sent m)) (λ m. word after (at_sent m)) m x a b e h)

  pub taken_same : ((j : ℕ) → j < dims_of ws → word after (at_taken (dims_of ws) j) ≡ word ws (at_taken (dims_of ws) j))
      → (unpacked after).taken ≡ (unpacked ws).taken
  unfolding unpacked
  taken_same h =
      rw dims_same
      (tallies_same taken_number (dims_of ws) (λ m. word ws (at_taken (dims_of ws) m))
      (λ m. word after (at_taken (dims_of ws) m)) h)

  taken_set : (m x : ℕ) → m < dims_of ws → m < width → word after (at_taken (dims_of ws) m) ≡ x
      → ((j : ℕ) → j < dims_of ws → (j ≡ m → ⊥) → word after (at_taken (dims_of ws) j) ≡ word ws (at_taken (dims_of ws) j))
      → (unpacked after).taken ≡ set (unpacked ws).taken m (taken_number x)
  unfolding unpacked
  taken_set m x a b e h =
      rw dims_same
      (tallies_set taken_number (dims_of ws) (λ m. word ws (at_taken (dims_of ws) m))
      (λ m. word after (at_taken (dims_of ws) m)) m x a b e h)

  pub firsts_same : ((k : ℕ) → first_in after (dims_of ws) k ≡ first_in ws (dims_of ws) k)
      → (unpacked after).first ≡ (unpacked ws).first
  unfolding unpacked
  firsts_same h = rw dims_same (list_same 0 width (first_in after (dims_of ws)) (first_in ws (dims_of ws)) (λ k a b. h k))

  pub firsts_set : (k : ℕ) (x : Stored) → k < width → first_in after (dims_of ws) k ≡ x
      → ((j : ℕ) → (j ≡ k → ⊥) → first_in after (dims_of ws) j ≡ first_in ws (dims_of ws) j)
      → (unpacked after).first ≡ set (unpacked ws).first k x
  unfolding unpacked
  firsts_set k x l e h = rw dims_same (one_set (first_in ws (dims_of ws)) (first_in after (dims_of ws)) k x l e h)

  pub seconds_same : ((k : ℕ) → second_in after (dims_of ws) k ≡ second_in ws (dims_of ws) k)
      → (unpacked after).second ≡ (unpacked ws).second
  unfolding unpacked
  seconds_same h = rw dims_same (list_same 0 width (second_in after (dims_of ws)) (second_in ws (dims_of ws)) (λ k a b. h k))

  pub seconds_set : (k : ℕ) (x : Confirm) → k < width → second_in after (dims_of ws) k ≡ x
      → ((j : ℕ) → (j ≡ k → ⊥) → second_in after (dims_of ws) j ≡ second_in ws (dims_of ws) j)
      → (unpacked after).second ≡ set (unpacked ws).second k x
  unfolding unpacked
  seconds_set k x l e h = rw dims_same (one_set (second_in ws (dims_of ws)) (second_in after (dims_of ws)) k x l e h)

-- the marks of the stored frames are 0 or 1
abbrev pub Marked : List ℕ → ℕ → Type 0
Marked ws p = (k : ℕ) → k < p → (word ws (at_first p k) < 2) × (word ws (at_second p k) < 2)

-- ---- Writes that leave the board, the number and the phase

module _ (L : Limits) (ws : List ℕ) (e : is_whole L ws ≡ true) where
  pub marked : Marked ws (dims_of ws)
  marked k h = ((whole L ws e).first k h, (whole L ws e).second k h)

  module _ (after : List ℕ) (from n : ℕ) (w : Written ws after from n) (apart : at_busy ≤ from) where
    nodes : word after at_nodes ≡ word ws at_nodes
    nodes = w.low at_nodes (omega arith)

    stays_whole : word after at_busy < 2 → word after at_flag < 2 → Marked after (dims_of ws) → is_whole L after ≡ true
    stays_whole busy flag marks =
        let d : dims_of after ≡ dims_of ws = dims_same ws after nodes in
        let k = whole L ws e in
        whole_made L after
        (record {
          board = rw nodes k.board;
          long = rw (d, w.size) k.long;
          phase = rw (w.low at_phase (omega arith)) k.phase;
          busy = busy;
          flag = flag;
          first = rw d (λ j h. (marks j h).0);
          second = rw d (λ j h. (marks j h).1);
        })

    becomes : (m : Node) → word after at_busy < 2 → word after at_flag < 2 → Marked after (dims_of ws)
        → from + n ≤ state_words (dims_of ws) → unpacked after ≡ m
        → Becomes L ws after m
    becomes m busy flag marks inside q =
        record {
          whole = stays_whole busy flag marks;
          node = q;
          nodes = nodes;
          spare = rw (dims_same ws after nodes) (written_drop (state_words (dims_of ws)) inside w);
          length = w.size;
        }

  -- the stored frames after a write below them
  module _ (after : List ℕ) (from n : ℕ) (w : Written ws after from n) (below : from + n ≤ head_words + 2 * dims_of ws) where
    above : (k i : ℕ) → at_first (dims_of ws) k ≤ i → word after i ≡ word ws i
    above k i h = w.high i (omega (arith, first_above (dims_of ws) k))

    marks_stay : Marked after (dims_of ws)
    marks_stay k h = (
      rw (above k (at_first (dims_of ws) k) (omega arith)) (marked k h).0,
      rw (above k (at_second (dims_of ws) k) (omega arith)) (marked k h).1,
    )

    firsts_stay : (k : ℕ) → first_in after (dims_of ws) k ≡ first_in ws (dims_of ws) k
    firsts_stay k = first_same after ws (dims_of ws) k (λ h i l. above k (at_first (dims_of ws) k + i) (omega arith))

    seconds_stay : (k : ℕ) → second_in after (dims_of ws) k ≡ second_in ws (dims_of ws) k
    seconds_stay k = second_same after ws (dims_of ws) k (λ h i l. above k (at_second (dims_of ws) k + i) (omega arith))

  -- ---- A write in the head

  module _ (after : List ℕ) (from n : ℕ) (w : Written ws after from n) (apart : at_busy ≤ from)
      (inside : from + n ≤ head_words) where
    head_put : (busy : Bool) (pass dim : ℕ) (flag : Bool) (agreed : ℕ) → word after at_busy ≡ bit busy
        → word after at_pass ≡ pass → word after at_dim ≡ dim → word after at_flag ≡ bit flag → word after at_agreed ≡ agreed
        → Becomes L ws after (at (with_busy (unpacked ws) busy) pass dim flag agreed)
    unfolding unpacked
    head_put busy pass dim flag agreed eb ep ed ef ea =
        becomes after from n w apart (at (with_busy (unpacked ws) busy) pass dim flag agreed) (rw eb (bit_low busy))
        (rw ef (bit_low flag))
        (marks_stay after from n w (omega arith)) (omega (arith, first_above (dims_of ws) (dims_of ws)))
        (node_same (unpacked after) (at (with_busy (unpacked ws) busy) pass dim flag agreed) board
        (w.low at_number (omega arith)) (w.low at_phase (omega arith)) (ap (λ x. eqb x 1) eb ∙ bit_read busy)
        (sent_same ws after board (λ j h. w.high (at_sent j) (omega arith)))
        (taken_same ws after board (λ j h. w.high (at_taken (dims_of ws) j) (omega arith))) ep ed
        (ap (λ x. eqb x 1) ef ∙ bit_read flag)
        (firsts_same ws after board (firsts_stay after from n w (omega arith)))
        (seconds_same ws after board (seconds_stay after from n w (omega arith))) ea)
      where
        board : word after at_nodes ≡ word ws at_nodes
        board = nodes after from n w apart

  -- the head holds busy and the flag
  busy_held : word ws at_busy ≡ bit (unpacked ws).busy
  unfolding unpacked
  busy_held = bit_back (word ws at_busy) (whole L ws e).busy

  flag_held : word ws at_flag ≡ bit (unpacked ws).flag
  unfolding unpacked
  flag_held = bit_back (word ws at_flag) (whole L ws e).flag

  -- the head is there
  head_room : head_words ≤ length ws
  head_room = omega (arith, first_above (dims_of ws) (dims_of ws), (whole L ws e).long)

  pub put_busy : (b : Bool) → Becomes L ws (set ws at_busy (bit b)) (with_busy (unpacked ws) b)
  unfolding unpacked
  put_busy b =
      let w = written_set ws at_busy (bit b) in
      head_put (set ws at_busy (bit b)) at_busy 1 w (omega arith) (omega arith) b (unpacked ws).pass (unpacked ws).dim
      (unpacked ws).flag (unpacked ws).agreed (get_or-set_same ws at_busy (bit b) 0 (omega (arith, head_room)))
      (w.high at_pass (omega arith)) (w.high at_dim (omega arith)) (w.high at_flag (omega arith) ∙ flag_held)
      (w.high at_agreed (omega arith))

  pub put_flag : (b : Bool)
      → Becomes L ws (set ws at_flag (bit b)) (at (unpacked ws) (unpacked ws).pass (unpacked ws).dim b (unpacked ws).agreed)
  unfolding unpacked
  put_flag b =
      let w = written_set ws at_flag (bit b) in
      head_put (set ws at_flag (bit b)) at_flag 1 w (omega arith) (omega arith) (unpacked ws).busy
      (unpacked ws).pass (unpacked ws).dim b (unpacked ws).agreed (w.low at_busy (omega arith) ∙ busy_held)
      (w.low at_pass (omega arith)) (w.low at_dim (omega arith)) (get_or-set_same ws at_flag (bit b) 0 (omega (arith, head_room)))
      (w.high at_agreed (omega arith))

  pub put_position : (pass dim : ℕ) (flag : Bool) (agreed : ℕ)
      → Becomes L ws (set (set (set (set ws at_pass pass) at_dim dim) at_flag (bit flag)) at_agreed agreed)
      (at (unpacked ws) pass dim flag agreed)
  put_position pass dim flag agreed =
      head_put d at_pass (head_words - at_pass) w (omega arith) (omega arith) (unpacked ws).busy pass dim flag agreed
      (w.low at_busy (omega arith) ∙ busy_held)
      (z.low at_pass (omega arith) ∙ y.low at_pass (omega arith) ∙ x.low at_pass (omega arith)
      ∙ get_or-set_same ws at_pass pass 0 (omega (arith, head_room)))
      (z.low at_dim (omega arith) ∙ y.low at_dim (omega arith)
      ∙ get_or-set_same a at_dim dim 0 (omega (arith, head_room, length-set ws at_pass pass)))
      (z.low at_flag (omega arith)
      ∙ get_or-set_same b at_flag (bit flag) 0 (omega (arith, head_room, length-set ws at_pass pass, x.size)))
      (get_or-set_same c at_agreed agreed 0 (omega (arith, head_room, length-set ws at_pass pass, x.size, y.size)))
    where
      a : List ℕ
      a = set ws at_pass pass

      b : List ℕ
      b = set a at_dim dim

      c : List ℕ
      c = set b at_flag (bit flag)

      d : List ℕ
      d = set c at_agreed agreed

      x : Written a b at_dim 1
      x = written_set a at_dim dim

      y : Written b c at_flag 1
      y = written_set b at_flag (bit flag)

      z : Written c d at_agreed 1
      z = written_set c at_agreed agreed

      within : {l r : List ℕ} (i : ℕ) → at_pass ≤ i → i < head_words → Written l r i 1 → Written l r at_pass (head_words - at_pass)
      within i g h v = written_within at_pass (head_words - at_pass) g (omega arith) v

      w : Written ws d at_pass (head_words - at_pass)
      w =
          written_then
          (written_then
          (written_then (within at_pass (omega arith) (omega arith) (written_set ws at_pass pass))
          (within at_dim (omega arith) (omega arith) x))
          (within at_flag (omega arith) (omega arith) y)) (within at_agreed (omega arith) (omega arith) z)

  -- ---- A write after the head

  module _ (after : List ℕ) (from n : ℕ) (w : Written ws after from n) (apart : head_words ≤ from) where
    pub tail_put : (s : List Sent) (t : List Taken) (f : List Stored) (g : List Confirm)
        → from + n ≤ state_words (dims_of ws) → Marked after (dims_of ws) → (unpacked after).sent ≡ s
        → (unpacked after).taken ≡ t → (unpacked after).first ≡ f → (unpacked after).second ≡ g
        → Becomes L ws after (with_second (with_first (with_taken (with_sent (unpacked ws) s) t) f) g)
    unfolding unpacked
    tail_put s t f g inside marks es et ef eg =
        becomes after from n w (omega arith) _ (rw (w.low at_busy (omega arith)) (whole L ws e).busy)
        (rw (w.low at_flag (omega arith)) (whole L ws e).flag) marks inside
        (node_same (unpacked after) (with_second (with_first (with_taken (with_sent (unpacked ws) s) t) f) g)
        (w.low at_nodes (omega arith)) (w.low at_number (omega arith)) (w.low at_phase (omega arith))
        (ap (λ x. eqb x 1) (w.low at_busy (omega arith))) es et (w.low at_pass (omega arith)) (w.low at_dim (omega arith))
        (ap (λ x. eqb x 1) (w.low at_flag (omega arith))) ef eg (w.low at_agreed (omega arith)))

  -- a tally
  module _ (after : List ℕ) (i : ℕ) (w : Written ws after i 1) (apart : head_words ≤ i)
      (below : i < head_words + 2 * dims_of ws) where
    tally_put : (s : List Sent) (t : List Taken) → (unpacked after).sent ≡ s → (unpacked after).taken ≡ t
        → Becomes L ws after (with_taken (with_sent (unpacked ws) s) t)
    tally_put s t es et =
        let board : word after at_nodes ≡ word ws at_nodes = w.low at_nodes (omega arith) in
        tail_put after i 1 w apart s t (unpacked ws).first (unpacked ws).second
        (omega (arith, first_above (dims_of ws) (dims_of ws))) (marks_stay after i 1 w (omega arith)) es et
        (firsts_same ws after board (firsts_stay after i 1 w (omega arith)))
        (seconds_same ws after board (seconds_stay after i 1 w (omega arith)))

  -- a word of a tally is there
  tally_room : (i : ℕ) → i < head_words + 2 * dims_of ws → i < length ws
  tally_room i h = omega (arith, first_above (dims_of ws) (dims_of ws), (whole L ws e).long)

  pub put_sent : (m x : ℕ) → m < dims_of ws → m < width
      → Becomes L ws (set ws (at_sent m) x) (with_sent (unpacked ws) (set (unpacked ws).sent m (sent_number x)))
  put_sent m x h l =
      let after : List ℕ = set ws (at_sent m) x in
      let w = written_set ws (at_sent m) x in
      let board : word after at_nodes ≡ word ws at_nodes = w.low at_nodes (omega arith) in
      tally_put after (at_sent m) w (omega arith) (omega arith) _ _
      (sent_set ws after board m x h l (get_or-set_same ws (at_sent m) x 0 (tally_room (at_sent m) (omega arith)))
      (λ j a b. get_or-set_other ws (at_sent m) (at_sent j) x 0 (λ z. b (omega arith))))
      (taken_same ws after board (λ j a. w.high (at_taken (dims_of ws) j) (omega arith)))

  pub put_taken : (m x : ℕ) → m < dims_of ws → m < width
      → Becomes L ws (set ws (at_taken (dims_of ws) m) x)
      (with_taken (unpacked ws) (set (unpacked ws).taken m (taken_number x)))
  put_taken m x h l =
      let i : ℕ = at_taken (dims_of ws) m in
      let after : List ℕ = set ws i x in
      let w = written_set ws i x in
      let board : word after at_nodes ≡ word ws at_nodes = w.low at_nodes (omega arith) in
      tally_put after i w (omega arith) (omega arith) _ _
      (sent_same ws after board (λ j a. w.low (at_sent j) (omega arith)))
      (taken_set ws after board m x h l (get_or-set_same ws i x 0 (tally_room i (omega arith)))
      (λ j a b. get_or-set_other ws i (at_taken (dims_of ws) j) x 0 (λ z. b (omega arith))))
