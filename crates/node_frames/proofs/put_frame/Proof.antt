-- `put_frame` puts the mark, then the numbers after it.
use borrow.Author.Rules.{rules}
use borrow.Rule.Slice.PartMut.{put_mid}
use native.Mathlib.Omega.{arith}
use mathlib.Core.Path.{◌≡◌, refl, ap, ◌∙◌}
use Prim.Native.Nat.{ℕ, ◌+◌, ◌-◌, ◌/◌, ◌≤◌}
use lib.ListN.{length, set, length-set}
use Rattle.base.proofs.Laws.{length_list}
use Rattle.frame.specs.Frame.{number_at}
use Rattle.frame.specs.Parts.{pasted}
use Rattle.frame.proofs.Pasting.{length_pasted}
use Rattle.layout.specs.Places.{mark_words}
use Rattle.node_frames.specs.Pieces.{frame_words}
use Rattle.node_frames.proofs.Placing.{frame_put}
use Rattle.node_frames.proofs.put_frame.Statement.{statement}
use Rattle.node_frames.proofs.put_frame.Tie as tie

-- how many numbers there are
abbrev count : tie.Start → ℕ
count c = (length c.args.bytes.now - 4) / 4

-- they have room
room : (c : tie.Start) → c.args.at + mark_words + count c ≤ length c.args.state.now
room c = omega (arith, c.requires.1, length_list 0 (count c) (number_at c.args.bytes.now))

part-copy-numbers-end : tie.Need-slice_bounds-copy_numbers-end
part-copy-numbers-end c = simp length-set (room c.before.before)

put : (c : tie.After-copy_numbers)
    → let x = c.args in
    let from = x.at + mark_words in
    let end = from + count c.before.before.before.before in
    put_mid from (end - from) (set x.state.now x.at 1) c.copy_numbers.new.words
    ≡ pasted x.state.now x.at (frame_words x.bytes.now)
put c =
    let s = c.before.before.before.before in
    frame_put s.args.state.now s.args.bytes.now _ s.args.at (count s) _ _ refl refl (room s)
    (let h = s.requires.0 in omega arith) c.copy_numbers.ensures

same_length : tie.Need-shape_of-state
same_length c =
    let s = c in
    ap length (put c.before.before)
    ∙ length_pasted s.args.state.now s.args.at (frame_words s.args.bytes.now) s.requires.1

returns : tie.Need-returns
returns c = put c.before.before

pub put_frame_spec : {M : Type 1} → statement M
put_frame_spec =
    tie.close
    (tie.spec (λ c. search rules) (λ c. search rules) (λ c. search rules) (λ c. search rules) (λ c. search rules)
    (λ c. search rules) (λ c. search rules) (λ c. search rules) part-copy-numbers-end (λ c κs. search rules) same_length
    returns)
