-- `get_row` puts numbers into a row.
use borrow.Author.Rules.{rules}
use borrow.Rule.Slice.PartMut.{put_mid}
use mathlib.Core.Path.{◌≡◌, refl}
use Prim.Native.Nat.{◌+◌, ◌-◌, ◌≤◌}
use lib.ListN.{length}
use Rattle.base.specs.Choice.{list}
use Rattle.base.specs.Limits.{width}
use Rattle.frame.specs.Frame.{shell_at}
use Rattle.fields_read.proofs.Rows.{row_put}
use Rattle.fields_read.proofs.get_row.Statement.{statement}
use Rattle.fields_read.proofs.get_row.Tie as tie

-- the row has room
room : (s : tie.Start) → s.args.k + s.args.n ≤ length s.args.row.now
room s = rw s.requires.0 s.requires.1

part-copy-numbers-end : tie.Need-slice_bounds-copy_numbers-end
part-copy-numbers-end c = room c.before.before

put : (c : tie.After-copy_numbers)
    → let x = c.args in
    let end = x.k + x.n in
    put_mid x.k (end - x.k) x.row.now c.copy_numbers.new.words
    ≡ list 0 width (shell_at end x.k x.bytes.now 0)
put c =
    let s = c in
    row_put s.args.bytes.now s.args.k s.args.n s.requires.1 s.args.row.now _ _ s.requires.0 refl
    s.requires.2 c.copy_numbers.ensures

returns : tie.Need-returns
returns c = put c.before.before

pub get_row_spec : {M : Type 1} → statement M
get_row_spec =
    tie.close
    (tie.spec (λ c. search rules) (λ c. search rules) (λ c. search rules) (λ c. search rules) part-copy-numbers-end
    (λ c κs. search rules) (λ c. search rules) returns)
