-- `put_first`: the frame of pass 1, where its sums are there.
use borrow.Author.Rules.{rules}
use borrow.Author.Tests.{not-true, not-false, leb-true}
use mathlib.Core.Path.{◌≡◌, sym, ap, ◌∙◌}
use mathlib.Core.List.{List, ◌∷◌}
use Prim.Native.Nat.{ℕ, ◌%◌, ◌≤◌, ◌<◌}
use native.Mathlib.Nat.{mod-eq_of_lt}
use native.Mathlib.Omega.{arith}
use lib.Dec.{leb}
use lib.ListN.{length}
use Rattle.base.proofs.Laws.{choose_yes, choose_no, both_true}
use Rattle.frame.specs.Numbers.{bytes_of}
use Rattle.layout.specs.Places.{sum_words}
use Rattle.second_frame.specs.Putting.{put_length, put_bytes}
use Rattle.due_frame.specs.Frames.{first_numbers}
use Rattle.due_frame.proofs.put_first.Statement.{statement}
use Rattle.due_frame.proofs.put_first.Tie as tie

returns : tie.Need-returns-then-not-has_sums
returns c =
    let no = sym c.has_sums.ensures ∙ c.if-not-has_sums.true in
    (sym (choose_no _ _ no), sym (choose_no _ _ no))

-- the sums are there
module _ (e : tie.Else-not-has_sums) where
  abbrev begun : tie.Start
  begun = e.before.before.before.before

  abbrev k : ℕ
  k = begun.args.dim

  there : (k ≤ begun.args.p) × (sum_words begun.args.p ≤ length begun.args.sums.now)
  there =
      let p = begun.args.p in
      let words = length begun.args.sums.now in
      let t = sym e.has_sums.ensures ∙ e.if-not-has_sums.false in
      let q = both_true (leb k p) (leb (sum_words p) words) t in
      (leb-true k p q.0, leb-true (sum_words p) words q.1)

  -- the dimension is a byte
  byte : k % 256 ≡ k
  byte = let low : k < 256 = omega (arith, there.0, begun.ranges.dim.fits) in mod-eq_of_lt low

  -- its bytes, with the byte or with the dimension
  abbrev bytes : ℕ → List ℕ
  bytes d =
      1
      ∷ begun.args.phase
      ∷ k % 256
      ∷ begun.args.sender
      ∷ bytes_of (first_numbers begun.args.sums.now begun.args.p d)

put-pass-1-requires : tie.Need-put_pass_1-requires
put-pass-1-requires c κs =
    let e = c.before in
    (omega (arith, byte e, (there e).0), (there e).1)

returns_2 : tie.Need-returns
returns_2 c =
    let f = c in
    let e = f.before.before.before.before in
    let buf = (begun e).args.buf.now in
    let can = sym e.has_sums.ensures ∙ e.if-not-has_sums.false in (
      f.put_pass_1.ensures.0 ∙ ap (λ d. put_length (bytes e d) (length buf)) (byte e) ∙ sym (choose_yes _ _ can),
      f.put_pass_1.ensures.1 ∙ ap (λ d. put_bytes (bytes e d) buf) (byte e) ∙ sym (choose_yes _ _ can),
    )

pub put_first_spec : {M : Type 1} → statement M
put_first_spec =
    tie.close
    (tie.spec (λ c κs. search rules) returns (λ c. search rules) put-pass-1-requires (λ c. search rules) returns_2)
