-- Definitions that only the contracts of private functions cite: a frame of pass 2 in lent words.
use Rattle.std.specs.Prelude.{List, ℕ}
use Rattle.frame.specs.Frame.{sent_number}
use Rattle.layout.specs.Places.{agreed_place, confirmed_place}
use Rattle.layout.specs.Held.{word}
use Rattle.pass_two.specs.declared.Confirmed.{Confirmed}

-- the mark, T and total sent
abbrev pub confirmed_in : List ℕ → Confirmed
confirmed_in ss = record { mark = word ss 0; agreed = word ss (agreed_place 0); issued = sent_number (word ss (confirmed_place 0)) }
