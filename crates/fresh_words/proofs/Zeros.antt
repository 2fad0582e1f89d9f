-- Words of which those from a place on are 0, up to one place and up to the next.
use Rattle.std.proofs.Common.{replicate}
use mathlib.Core.Path.{◌≡◌, refl, sym, ap, ◌∙◌}
use mathlib.Core.List.{List, [], ◌∷◌, ◌++◌, append_assoc}
use Prim.Native.Nat.{ℕ, zero, suc, ◌+◌, ◌-◌, ◌≤◌, ◌<◌}
use native.Mathlib.Numerals.{add-one}
use native.Mathlib.Omega.{arith}
use lib.ListN.{length, take, drop, set, get_or, length-append, take-append-drop}
use lib.Seq.{length-take-le, drop-cons, set_at, take_at, drop-append-add, drop-drop}
use Rattle.base.specs.Choice.{list}
use Rattle.base.proofs.Laws.{length_list, list_more}

-- n zeros
abbrev pub zeros : ℕ → List ℕ
zeros n = list 0 n (λ i. 0)

-- the words from one place to another are 0
abbrev pub cleared : List ℕ → ℕ → ℕ → List ℕ
cleared ws from end = take from ws ++ (zeros (end - from) ++ drop end ws)

pub zeros_are : (start n : ℕ) → replicate n 0 ≡ list start n (λ (i : ℕ). zero)
zeros_are start zero = refl
zeros_are start (suc n) = ap (λ l. 0 ∷ l) (zeros_are (suc start) n)

-- a head in the place of as many words, and zeros after it
pub cleared_after : (ws head : List ℕ) (from end : ℕ) → length head ≡ from → from ≤ end
    → cleared (head ++ drop from ws) from end ≡ head ++ (zeros (end - from) ++ drop end ws)
cleared_after ws head from end e h =
    let z : from + (end - from) ≡ end = omega arith in
    let y : length head + (end - from) ≡ end = omega arith in
    let d : drop end (head ++ drop from ws) ≡ drop end ws =
    ap (λ n. drop n (head ++ drop from ws)) (sym y)
    ∙ drop-append-add head (drop from ws) (end - from)
    ∙ drop-drop (end - from) from ws
    ∙ ap (λ n. drop n ws) z in
    rw (take_at head (drop from ws) from e, d)
