-- The bytes of the frame that is due by the words of a state.
use Rattle.std.specs.Prelude.{Bool, true, List, [], ◌∷◌, ◌++◌, ℕ, ◌%◌, leb, eqb, length}
use Rattle.base.specs.Choice.{choose, both}
use Rattle.frame.specs.Numbers.{bytes_of}
use Rattle.layout.specs.Places.{at_number, at_phase, at_pass, at_dim, at_agreed, head_words}
use Rattle.layout.specs.Held.{word}
pub use Rattle.second_frame.specs.Putting.{has_sums}
pub use Rattle.due_frame.specs.Frames.{sent_part, taken_part, first_numbers}

-- the bytes of the frame for the position, by the sums of pass 1 and the own sum of total sent for pass 2
abbrev pub due_bytes : List ℕ → List ℕ → ℕ → ℕ → List ℕ
due_bytes ws sums p issued =
    let k = word ws at_dim in
    let head = word ws at_phase % 256 ∷ k % 256 ∷ word ws at_number % 256 ∷ [] in
    choose (eqb (word ws at_pass) 1)
    (1 ∷ (head ++ bytes_of (first_numbers sums p k)))
    (2 ∷ (head ++ bytes_of (word ws at_agreed ∷ issued ∷ [])))

-- the numbers of the frame are there
abbrev pub can_send : List ℕ → ℕ → ℕ → Bool
can_send ws p words =
    both (leb head_words (length ws)) (choose (eqb (word ws at_pass) 1) (has_sums p (word ws at_dim) words) true)
