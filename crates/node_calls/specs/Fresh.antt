-- A fresh node in lent words, as `node_fresh` defines it.
pub use Rattle.node_fresh.specs.Fresh.{with_room, put_state}
unfoldable pub use Rattle.node_fresh.specs.Fresh.{fresh_on, fresh_words}
