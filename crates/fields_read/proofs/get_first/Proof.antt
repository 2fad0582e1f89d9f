-- `get_first`: the tallies sent, the tallies taken, both totals.
use borrow.Author.Rules.{rules}
use native.Mathlib.Omega.{arith}
use mathlib.Core.List.{List}
use Prim.Native.Nat.{ℕ, ◌-◌, ◌*◌, ◌/◌}
use lib.ListN.{length}
use Rattle.fields_read.proofs.Rows.{length_rest, head_known, row_known, rows_known, first_put_lem}
use Rattle.fields_read.proofs.get_first.Statement.{statement}
use Rattle.fields_read.proofs.get_first.Tie as tie

abbrev bytes : tie.Start → List ℕ
bytes s = s.args.bytes.now

abbrev words : tie.Start → List ℕ
words s = s.args.fields.now

-- how many shells the frame has
abbrev count : tie.Start → ℕ
count s = (length (bytes s) - 12) / 8

part_get_row_end : tie.Need-slice_bounds-get_row-end
part_get_row_end c = let s = c.before.before.before in omega (arith, (head_known (bytes s) (words s) s.requires.0).0)

abbrev begun : tie.After-get_row → tie.Start
begun g = g.before.before.before.before.before

part-get-row-end-3 : tie.Need-slice_bounds-get_row-end-3
part-get-row-end-3 c =
    let g = c.before.before.before in
    let s = begun g in
    omega (arith, (row_known (bytes s) (words s) s.requires.0 (count s) _ g.get_row.ensures).0)

get-row-requires-2 : tie.Need-get_row-requires-2
get-row-requires-2 c κs =
    let g = c.before.before.before.before in
    let s = begun g in (
      (row_known (bytes s) (words s) s.requires.0 (count s) _ g.get_row.ensures).1,
      s.requires.2,
      omega (arith, s.requires.1, length_rest (bytes s) (4 * count s)),
    )

part-copy-numbers-end-2 : tie.Need-slice_bounds-copy_numbers-end-2
part-copy-numbers-end-2 c =
    let h = c in
    let g = h.before.before.before.before.before.before.before.before in
    let s = begun g in
    omega (
      arith,
      rows_known (bytes s) (words s) s.requires.0 (count s) _ g.get_row.ensures _ h.get_row-2.ensures,
    )

returns : tie.Need-returns
returns c =
    let t = c in
    let h = t in
    let g = h.before.before.before.before.before.before.before.before.before.before.before.before in
    let s = begun g in
    first_put_lem (bytes s) (words s) s.requires.0 (count s) _ g.get_row.ensures _ h.get_row-2.ensures _
    (omega (arith, s.requires.1)) t.copy_numbers.ensures

pub get_first_spec : {M : Type 1} → statement M
get_first_spec =
    tie.close
    (tie.spec (λ c. search rules) (λ c. search rules) (λ c. search rules) (λ c. search rules) (λ c. search rules)
    part_get_row_end (λ c κs. search rules) (λ c. search rules) (λ c. search rules) (λ c. search rules)
    (λ c. search rules) (λ c. search rules) (λ c. search rules) part-get-row-end-3 get-row-requires-2
    (λ c. search rules) (λ c. search rules) (λ c. search rules) (λ c. search rules) (λ c. search rules)
    (λ c. search rules) part-copy-numbers-end-2 (λ c κs. search rules) (λ c. search rules) returns)
