-- A board's items at places: the oldest of a link found, one put after the last, one taken out.
use mathlib.Core.Path.{◌≡◌, refl, ap, ◌∙◌, subst}
use mathlib.Core.Option.{Option, none, some}
use mathlib.Core.List.{List, [], ◌∷◌, ◌++◌}
use Prim.Native.Nat.{ℕ, suc, ◌+◌, ◌≤◌, ◌<◌}
use native.Mathlib.Omega.{arith}
use lib.ListN.{length, get_or}
use Rattle.base.specs.Choice.{choose}
use Rattle.base.proofs.Laws.{cases, choose_yes, choose_no}
use Rattle.events.specs.Board.{Item, on_link, oldest, without}
use Rattle.items.specs.Places.{no_item, on_link as heads, place_from}
use Rattle.items.specs.declared.Item.{Item as Header}

-- where the oldest item of a link stands; their number where there is none
abbrev pub place_in : ℕ → ℕ → List Item → ℕ
place_in a b [] = 0
place_in a b (m ∷ ms) = choose (on_link a b m) 0 (suc (place_in a b ms))

-- the items stand one after the other, the first at place i
abbrev pub Stand : (ℕ → Item → Type 0) → ℕ → List Item → Type 0
Stand At i [] = Unit {0}
Stand At i (m ∷ ms) = At i m × Stand At (suc i) ms

-- items that stand so and then otherwise
module _ (F G : ℕ → Item → Type 0) where
  -- one more item, after the last
  pub stand_more : (i : ℕ) (ms : List Item) (x : Item) → ((j : ℕ) (m : Item) → j < i + length ms → F j m → G j m)
      → G (i + length ms) x → Stand F i ms → Stand G i (ms ++ x ∷ [])
  stand_more i [] x f g s = let e : i + 0 ≡ i = omega arith in (subst (λ k. G k x) e g, tt)
  stand_more i (m ∷ ms) x f g s =
      let e : i + suc (length ms) ≡ suc i + length ms = omega arith in (
        f i m (omega arith) s.0,
        stand_more (suc i) ms x (λ j m h. f j m (omega arith)) (subst (λ k. G k x) e g) s.1,
      )

  -- all of them one place down
  pub stand_down : (i : ℕ) (ms : List Item)
      → ((j : ℕ) (m : Item) → i ≤ j → j < i + length ms → F (suc j) m → G j m) → Stand F (suc i) ms → Stand G i ms
  stand_down i [] f s = tt
  stand_down i (m ∷ ms) f s = (
    f i m (omega arith) (omega arith) s.0,
    stand_down (suc i) ms (λ j m h l. f j m (omega arith) (omega arith)) s.1,
  )

  -- the oldest of a link is taken out, and those after it move down
  pub stand_less : (a b i : ℕ) (ms : List Item) → ((j : ℕ) (m : Item) → j < i + place_in a b ms → F j m → G j m)
      → ((j : ℕ) (m : Item) → i + place_in a b ms ≤ j → suc j < i + length ms → F (suc j) m → G j m) → Stand F i ms
      → Stand G i (without a b ms)
  stand_less a b i [] f g s = tt
  stand_less a b i (m ∷ ms) f g s =
      cases (Stand G i) (on_link a b m) ms (m ∷ without a b ms)
      (λ e.
      let z : place_in a b (m ∷ ms) ≡ 0 = choose_yes _ _ e in
      stand_down i ms (λ j m h l. g j m (omega arith) (omega arith)) s.1)
      (λ e.
      let z : place_in a b (m ∷ ms) ≡ suc (place_in a b ms) = choose_no _ _ e in (
        f i m (omega arith) s.0,
        stand_less a b (suc i) ms (λ j m h. f j m (omega arith)) (λ j m h l. g j m (omega arith) (omega arith))
            s.1,
      ))

module _ (a b : ℕ) where
  pub length_less : (ms : List Item) → place_in a b ms < length ms → suc (length (without a b ms)) ≡ length ms
  length_less [] h = absurd (omega arith)
  length_less (m ∷ ms) h =
      cases (λ l. suc (length l) ≡ suc (length ms)) (on_link a b m) ms (m ∷ without a b ms) (λ e. refl)
      (λ e.
      let z : place_in a b (m ∷ ms) ≡ suc (place_in a b ms) = choose_no _ _ e in
      ap suc (length_less ms (omega arith)))

  -- what is found at that place
  pub data Found (F : ℕ → Item → Type 0) (i : ℕ) (ms : List Item) : Option Item → Type 0 where
    nothing : place_in a b ms ≡ length ms → Found F i ms none
    there : (m : Item) → place_in a b ms < length ms → F (i + place_in a b ms) m → Found F i ms (some m)

  -- not the first item
  further : (F : ℕ → Item → Type 0) (i : ℕ) (m : Item) (ms : List Item) {o : Option Item}
      → place_in a b (m ∷ ms) ≡ suc (place_in a b ms) → Found F (suc i) ms o → Found F i (m ∷ ms) o
  further F i m ms z (nothing n) = nothing (z ∙ ap suc n)
  further F i m ms z (there x l h) =
      let y : suc i + place_in a b ms ≡ i + place_in a b (m ∷ ms) = omega arith in
      there x (omega arith) (subst (λ k. F k x) y h)

  pub found : (F : ℕ → Item → Type 0) (i : ℕ) (ms : List Item) → Stand F i ms → Found F i ms (oldest a b ms)
  found F i [] s = nothing refl
  found F i (m ∷ ms) s =
      cases (Found F i (m ∷ ms)) (on_link a b m) (some m) (oldest a b ms)
      (λ e.
      let z : place_in a b (m ∷ ms) ≡ 0 = choose_yes _ _ e in
      let y : i ≡ i + place_in a b (m ∷ ms) = omega arith in there m (omega arith) (subst (λ k. F k m) y s.0))
      (λ e. further F i m ms (choose_no _ _ e) (found F (suc i) ms s.1))

  -- the headers at those places name the ends of the items
  pub place_found : (headers : List Header) (F : ℕ → Item → Type 0)
      → ((j : ℕ) (m : Item) → F j m → ((get_or headers j no_item).from ≡ m.from) × ((get_or headers j no_item).to ≡ m.to))
      → (i : ℕ) (ms : List Item) → Stand F i ms → place_from headers a b i (length ms) ≡ i + place_in a b ms
  unfolding place_from
  place_found headers F f i [] s = omega arith
  place_found headers F f i (m ∷ ms) s =
      let ends = f i m s.0 in
      let same : heads (get_or headers i no_item) a b ≡ on_link a b m = rw (ends.0, ends.1) in
      let next : i + 1 ≡ suc i = omega arith in
      let rest = place_found headers F f (suc i) ms s.1 in
      cases (λ x. choose (heads (get_or headers i no_item) a b) i (place_from headers a b (i + 1) (length ms)) ≡ i + x)
      (on_link a b m) 0 (suc (place_in a b ms)) (λ e. choose_yes _ _ (same ∙ e) ∙ omega arith)
      (λ e.
      choose_no _ _ (same ∙ e)
      ∙ ap (λ k. place_from headers a b k (length ms)) next
      ∙ rest
      ∙ omega arith)
