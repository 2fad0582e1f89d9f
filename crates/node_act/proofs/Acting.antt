-- The words after a turn hold the state after it, and the words after the state stay.
use Rattle.std.proofs.Common.{◌≡◌, ℕ, ◌+◌, ◌%◌, true, false, List, ◌∙◌, arith, le-leb}
use Rattle.base.specs.Limits.{Limits, Fits}
use Rattle.base.proofs.Laws.{choose_yes}
use Rattle.layout.specs.Places.{at_phase}
use Rattle.layout.specs.Held.{word, dims_of, unpacked, is_whole, holding}
use Rattle.layout.proofs.Whole.{whole}
use Rattle.layout.proofs.Becomes.{becomes_words}
use Rattle.layout.proofs.Writes.{put_flag, put_position}
use Rattle.layout.proofs.Fresh.{put_fresh}
use Rattle.node_turn.specs.Turn.{node_after, freshened, words_after}
use Rattle.node_turn.specs.declared.Turn.{Turn}
use Rattle.node_turn.specs.declared.Turn.TheVariants.{Sends, Waits, Moves, Leaves}

module _ (L : Limits) (fit : Fits L) (ws : List ℕ) (e : is_whole L ws ≡ true) where
  left : freshened ws (dims_of ws) ≡ holding ws (node_after (unpacked ws) Leaves)
  unfolding unpacked
  left =
      choose_yes _ _ (le-leb _ _ (whole L ws e).long)
      ∙ becomes_words L fit (put_fresh L ws e ((word ws at_phase + 1) % 256) (omega arith))

  pub acted : (t : Turn) → words_after ws (dims_of ws) t ≡ holding ws (node_after (unpacked ws) t)
  acted (Sends to length) = becomes_words L fit (put_flag L ws e false)
  acted (Waits clause) = becomes_words L fit (put_flag L ws e false)
  acted (Moves pass k agreed) = becomes_words L fit (put_position L ws e pass k true agreed)
  acted Leaves = left
