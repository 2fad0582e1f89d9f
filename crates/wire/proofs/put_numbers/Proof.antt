-- `put_numbers`: before the i-th number is put, those before it are.
use borrow.Author.Rules.{rules}
use native.Mathlib.Omega.{arith}
use mathlib.Core.Path.{◌≡◌}
use Prim.Native.Nat.{◌+◌, ◌-◌, ◌*◌, ◌≤◌}
use lib.ListN.{length, take}
use Rattle.frame.specs.Numbers.{bytes_of}
use Rattle.frame.specs.Parts.{pasted}
use Rattle.wire.proofs.Copies.{put_none, put_more, put_no, put_yes}
use Rattle.wire.proofs.put_numbers.Statement.{statement}
use Rattle.wire.proofs.put_numbers.Tie as tie

abbrev invariant-loop : tie.invariant-loop-i
invariant-loop buf₀ at words to₀ i₀ i-end buf to i =
    (i ≤ i-end)
    × (to ≡ at + 4 * i)
    × (length buf ≡ length buf₀)
    × (buf ≡ pasted buf₀ at (bytes_of (take i words)))

abbrev decreases-loop : tie.decreases-loop-i
decreases-loop buf₀ at words to₀ i₀ i-end buf to i = i-end - i

returns : tie.Need-returns-then-buf-to invariant-loop decreases-loop
returns c = let x = c.args in put_no x.buf.now x.words.now x.at (omega arith)

returns_2 : tie.Need-returns-then-buf-to-2 invariant-loop decreases-loop
returns_2 c =
    let x = c.args in put_no x.buf.now x.words.now x.at (omega arith)

loop_holds : tie.Need-loop-i-init invariant-loop decreases-loop
loop_holds c =
    let x = c.args in
    (search rules, search rules, search rules, put_none _ x.words.now _)

loop_again : tie.Need-loop-i-preserved invariant-loop decreases-loop
loop_again c =
    let l = c in
    let x = l.args in (
      search rules,
      search rules,
      search rules,
      put_more _ _ _ x.words.now x.at _ l.loop-i.i (omega arith) (omega arith) l.loop-i.invariant.1
          l.loop-i.invariant.3 c.put_word.ensures,
    )

returns_3 : tie.Need-returns invariant-loop decreases-loop
returns_3 c =
    let x = c.args in
    let l = c.loop-i in
    put_yes x.buf.now _ x.words.now x.at l.i (omega arith) (omega arith) l.invariant.3

pub put_numbers_spec : {M : Type 1} → statement M
put_numbers_spec =
    tie.close
    (tie.spec invariant-loop decreases-loop returns (λ c. search rules) returns_2 loop_holds (λ c. search rules) (λ c. search rules)
    (λ c κs. search rules) (λ c. search rules) (λ c. search rules) (λ c. search rules) loop_again (λ c. search rules)
    returns_3)
