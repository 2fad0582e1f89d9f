-- A node whose arrays have the width of the struct's.
use mathlib.Core.Path.{◌≡◌}
use mathlib.Core.List.{List}
use lib.ListN.{length}
use Rattle.base.specs.Limits.{width}
use Rattle.frame.specs.declared.Sent.{Sent}
use Rattle.frame.specs.declared.Taken.{Taken}
use Rattle.node.specs.declared.Stored.{Stored}
use Rattle.node.specs.declared.Confirm.{Confirm}
use Rattle.node.specs.declared.Node.{Node}

pub record Widths (a : List Sent) (b : List Taken) (c : List Stored) (d : List Confirm) : Type 0 where
  pub sent : length a ≡ width
  pub taken : length b ≡ width
  pub first : length c ≡ width
  pub second : length d ≡ width

abbrev pub Sized : Node → Type 0
Sized n = Widths n.sent n.taken n.first n.second
