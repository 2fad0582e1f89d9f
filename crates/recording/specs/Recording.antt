-- A recording of a board (rule K1): what it holds, its bytes, and what bytes hold.
use Rattle.std.specs.Prelude.{List, [], ◌∷◌, ◌++◌, ℕ, ◌+◌, ◌*◌, ◌/◌, ◌%◌, length, get_or, drop}
use Rattle.base.specs.Choice.{list}

-- the node count, how many events each section has, and the events of all sections in their order, four bytes each:
-- the letter of the rehearsal's line, its first number, its second or 0, and the answer
pub record Recording : Type 0 where
  pub nodes : ℕ
  pub counts : List ℕ
  pub events : List ℕ

abbrev pub made : ℕ → List ℕ → List ℕ → Recording
made nodes counts events = record { nodes = nodes; counts = counts; events = events }

abbrev pub event_count : Recording → ℕ
event_count r = length r.events / 4

-- byte j of event i
abbrev pub event_byte : List ℕ → ℕ → ℕ → ℕ
event_byte events i j = get_or events (4 * i + j) 0

-- ---- Its bytes

-- a number in the table: two bytes, low byte first
abbrev pub two_bytes : ℕ → List ℕ
two_bytes x = (x % 256) ∷ (x / 256 % 256) ∷ []

-- where the first body begins: after both counts and the table
abbrev pub bodies : ℕ → ℕ
bodies sections = 2 + 4 * sections

-- the table of contents: where each section's body begins, the first at `at`, and how many events it has
unfoldable pub table : ℕ → List ℕ → List ℕ
table at [] = []
table at (n ∷ counts) = two_bytes at ++ (two_bytes n ++ table (at + 4 * n) counts)

unfoldable pub bytes_of : Recording → List ℕ
bytes_of r = r.nodes ∷ length r.counts ∷ (table (bodies (length r.counts)) r.counts ++ r.events)

-- ---- What bytes hold

abbrev pub sections_in : List ℕ → ℕ
sections_in bs = get_or bs 1 0

abbrev pub number_at : List ℕ → ℕ → ℕ
number_at bs at = get_or bs at 0 + 256 * get_or bs (at + 1) 0

-- of section i: where the table says that its body begins, and how many events it has
abbrev pub start_at : List ℕ → ℕ → ℕ
start_at bs i = number_at bs (2 + 4 * i)

abbrev pub count_at : List ℕ → ℕ → ℕ
count_at bs i = number_at bs (4 + 4 * i)

unfoldable pub recording_in : List ℕ → Recording
recording_in bs =
    record {
      nodes = get_or bs 0 0;
      counts = list 0 (sections_in bs) (count_at bs);
      events = drop (bodies (sections_in bs)) bs;
    }
