-- What is printed of a node, by the words that hold it.
use mathlib.Core.Path.{◌≡◌, refl}
use mathlib.Core.List.{List}
use Prim.Native.Nat.{ℕ}
use lib.Dec.{eqb}
use Rattle.layout.specs.Places.{at_phase, at_busy, at_pass, at_dim, at_flag}
use Rattle.layout.specs.Held.{word, unpacked}
use Rattle.turn_text.specs.declared.Shown.{Shown}
use Rattle.lines.specs.Printed.{shown}

-- the words that are read of a state
abbrev pub shown_words : List ℕ → Shown
shown_words ws =
    record {
      phase = word ws at_phase;
      pass = word ws at_pass;
      dim = word ws at_dim;
      flag = eqb (word ws at_flag) 1;
      busy = eqb (word ws at_busy) 1;
    }

pub shown_held : (ws : List ℕ) → shown_words ws ≡ shown (unpacked ws)
unfolding unpacked
shown_held ws = refl
