-- `write` refuses as it is to; otherwise the recording's bytes are put, and it answers where they end.
use borrow.Author.Rules.{rules}
use native.Mathlib.Omega.{arith}
use mathlib.Core.Bool.{false}
use mathlib.Core.List.{List}
use mathlib.Core.Path.{◌≡◌, sym, ◌∙◌}
use Prim.Native.Nat.{ℕ}
use Rattle.printing.proofs.Putting.{Written}
use Rattle.recording.specs.Recording.{Recording, made, bytes_of}
use Rattle.recording.specs.Test.{is_bad}
use Rattle.recording.proofs.Sizes.{Sized, sized}
use Rattle.recording.proofs.Survives.{length_bytes_of}
use Rattle.recording_write.proofs.Writing.{bad, short, whole, inside, pieces}
use Rattle.recording_write.proofs.write.Statement.{statement}
use Rattle.recording_write.proofs.write.Tie as tie

module _ (s : tie.Start) where
  abbrev held : Recording
  held = made s.args.nodes s.args.counts.now s.args.events.now

  abbrev lent : List ℕ
  lent = s.args.buf.now

abbrev start : tie.Else-is_refused → tie.Start
start e = e.before.before.before.before.before

good : (e : tie.Else-is_refused) → is_bad (held (start e)) ≡ false
good e = sym e.is_refused.ensures ∙ e.if-is_refused.false

sizes : (e : tie.Else-is_refused) → Sized (held (start e))
sizes e = sized (held (start e)) (good e)

returns : tie.Need-returns-then-is_refused
returns c =
    let s = c.before.before.before.before.before in
    bad (held s) (lent s) (sym c.is_refused.ensures ∙ c.if-is_refused.true)

returns_2 : tie.Need-returns-then-buf-size
returns_2 c =
    let e = c.before in short (held (start e)) (lent (start e)) (good e) c.if-buf-size.true

cast-put-two : tie.Need-overflow_cast-nodes
cast-put-two c = let s = sizes c.before.before in omega arith

cast-put-two-2 : tie.Need-overflow_cast-counts
cast-put-two-2 c = let s = sizes c.before.before in omega arith

put-table-requires : tie.Need-put_table-after-requires
put-table-requires c κs =
    let two = c in
    let s = sizes two.before.before.before.before.before.before in
    (inside _ _ _ _ _ two.put_two-at.ensures, s.sections, omega arith)

module _ (c : tie.After-slice_known-4-1) where
  abbrev third : tie.After-put_bytes-end
  third = c.before.before

  abbrev second : tie.After-put_table-after
  second = third.before.before.before.before

  abbrev first : tie.After-put_two-at
  first = second.before.before.before.before

  abbrev fits : tie.Else-buf-size
  fits = first.before.before

  abbrev s : tie.Start
  s = start fits.before

  put_whole : Written (lent s) 0 (bytes_of (held s)) third.put_bytes-end.new.out third.put_bytes-end.result
  put_whole =
      pieces s.args.nodes s.args.counts.now s.args.events.now (lent s) first.put_two-at.new.out
      second.put_table-after.new.buf third.put_bytes-end.new.out first.put_two-at.result second.put_table-after.result
      third.put_bytes-end.result first.put_two-at.ensures second.put_table-after.ensures third.put_bytes-end.ensures

cast-t23 : tie.Need-overflow_cast-result
cast-t23 c =
    let e = (fits c).before in
    let w = (put_whole c).1 in
    let s = sizes e in
    omega (arith, length_bytes_of (held (start e)))

returns_3 : tie.Need-returns
returns_3 c =
    let e = (fits c).before in
    whole (held (start e)) (lent (start e)) (good e) (fits c).if-buf-size.false _ _ (put_whole c)

pub write_spec : {M : Type 1} → statement M
write_spec =
    tie.close
    (tie.spec (λ c κs. search rules) returns (λ c. search rules) (λ c. search rules) (λ c. search rules) returns_2
    cast-put-two cast-put-two-2 (λ c κs. search rules) put-table-requires (λ c κs. search rules) cast-t23
    (λ c. search rules) returns_3)
