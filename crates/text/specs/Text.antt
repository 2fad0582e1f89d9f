-- What is printed (rule S9).
use Rattle.std.specs.Prelude.{Bool, List, [], ◌∷◌, ◌++◌, ℕ}
use Rattle.base.specs.Choice.{choose}
use Rattle.node.specs.declared.Node.{Node}
use Rattle.printing.specs.Put.{digits}

abbrev pub bit : Bool → ℕ
bit b = choose b 49 48

-- the first line, in letters: node answer phase pass dim flag busy
abbrev pub header : List ℕ
header =
    110 ∷ 111 ∷ 100 ∷ 101 ∷ 32
    ∷ 97 ∷ 110 ∷ 115 ∷ 119 ∷ 101 ∷ 114 ∷ 32
    ∷ 112 ∷ 104 ∷ 97 ∷ 115 ∷ 101 ∷ 32
    ∷ 112 ∷ 97 ∷ 115 ∷ 115 ∷ 32
    ∷ 100 ∷ 105 ∷ 109 ∷ 32
    ∷ 102 ∷ 108 ∷ 97 ∷ 103 ∷ 32
    ∷ 98 ∷ 117 ∷ 115 ∷ 121 ∷ 10 ∷ []

-- an event's line: the acting node, the answer, and of that node phase, pass, dimension, flag and busy
unfoldable pub row_text : ℕ → ℕ → ℕ → ℕ → ℕ → Bool → Bool → List ℕ
row_text actor answer phase pass dim flag busy =
    digits actor
    ++ (32
    ∷ (digits answer
    ++ (32
    ∷ (digits phase
    ++ (32
    ∷ (digits pass
    ++ (32 ∷ (digits dim ++ (32 ∷ bit flag ∷ 32 ∷ bit busy ∷ 10 ∷ [])))))))))

abbrev pub turn_text : ℕ → ℕ → Node → List ℕ
turn_text actor answer n = row_text actor answer n.phase n.pass n.dim n.flag n.busy

-- in letters: stop N at line L
unfoldable pub stop_text : ℕ → ℕ → List ℕ
stop_text why line =
    115 ∷ 116 ∷ 111 ∷ 112 ∷ 32
    ∷ (digits why
    ++ (32 ∷ 97 ∷ 116 ∷ 32 ∷ 108 ∷ 105 ∷ 110 ∷ 101 ∷ 32 ∷ (digits line ++ (10 ∷ []))))

-- the bytes that the program `rehearse` lends for what is printed (rule S1)
abbrev pub text_room : ℕ
text_room = 65536
