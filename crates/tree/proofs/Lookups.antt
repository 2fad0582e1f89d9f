-- Laws of the lookups: what an answer says of the numbers handed.
use mathlib.Core.Path.{◌≡◌, refl, sym}
use mathlib.Core.Logic.{◌≢◌}
use mathlib.Core.Bool.{Bool, true, false}
use mathlib.Core.List.{[], ◌∷◌}
use Prim.Native.Nat.{ℕ, ◌≤◌, ◌<◌}
use native.Mathlib.Omega.{arith}
use lib.Dec.{ltb, leb, eqb}
use borrow.Author.Tests.{ltb-false, leb-false, eqb-false, lt-leb, ne_eqb}
use Rattle.base.specs.Choice.{choose, either}
use Rattle.base.specs.Limits.{Limits}
use Rattle.base.specs.Refusal.{Answered, refused, found, when}
use Rattle.base.specs.declared.Refusal.{Refusal}
use Rattle.base.proofs.Laws.{clash, checks_known}
use Rattle.tree.specs.Tree.{dimension, Place, place, distance}
use Rattle.tree.specs.Lookups.{bad_board, dimension_lookup, place_lookup, distance_lookup}

-- what is found is not refused
pub not_refused : {A B : Type 0} {x : ℕ} {a : A} → ◌≡◌ {A = Answered A} (refused x) (found a) → B
not_refused e = let z : ◌≡◌ {A = ℕ} 0 1 = cc in absurd (omega arith)

pub found_same : {A : Type 0} {a b : A} → ◌≡◌ {A = Answered A} (found a) (found b) → a ≡ b
found_same e = cc

pub refused_same : {A : Type 0} {x y : ℕ} → ◌≡◌ {A = Answered A} (refused x) (refused y) → x ≡ y
refused_same e = cc

-- a board within the limits
pub board_good : (L : Limits) (P : ℕ) → bad_board L P ≡ false → (0 < P) × (P ≤ L.nodes)
board_good L P e = go (eqb P 0) refl e
  where
    go : (t : Bool) → eqb P 0 ≡ t → either t (ltb L.nodes P) ≡ false → (0 < P) × (P ≤ L.nodes)
    go true f q = clash q
    go false f q = (omega (arith, eqb-false P 0 f), ltb-false L.nodes P q)

pub dimension_refused : (L : Limits) (P x : ℕ) → dimension_lookup L P ≡ refused x → (bad_board L P ≡ true) × (x ≡ 1)
unfolding dimension_lookup
dimension_refused L P x e = go (bad_board L P) e
  where
    go : (t : Bool) → ◌≡◌ {A = Answered ℕ} (choose t (refused 1) (found (dimension P))) (refused x) → (t ≡ true) × (x ≡ 1)
    go true q = (refl, refused_same (sym q))
    go false q = not_refused (sym q)

pub dimension_found : (L : Limits) (P p : ℕ) → dimension_lookup L P ≡ found p → (bad_board L P ≡ false)
    × (p ≡ dimension P)
unfolding dimension_lookup
dimension_found L P p e =
    let r = checks_known (when (bad_board L P) Refusal.Board ∷ []) (dimension P) p e in (r.0.0, sym r.1)

-- ---- of nodes on a good board the lookups find what they look for

pub place_found : (L : Limits) (P a k : ℕ) → bad_board L P ≡ false → a < P → k < dimension P
    → place_lookup L P k a ≡ found (place P k a)
unfolding place_lookup
place_found L P a k g h l = rw (g, lt-leb P a h, lt-leb (dimension P) k l)

-- and of no others
pub place_known : (L : Limits) (P k a : ℕ) (x : Place) → place_lookup L P k a ≡ found x
    → (bad_board L P ≡ false) × (a < P) × (x ≡ place P k a)
unfolding place_lookup
place_known L P k a x e =
    let r =
    checks_known
    (when (bad_board L P) Refusal.Board
    ∷ when (leb P a) Refusal.Stranger
    ∷ when (leb (dimension P) k) Refusal.Field
    ∷ [])
    (place P k a) x e in
    (r.0.0, leb-false P a r.0.1.0, sym r.1)

pub distance_found : (L : Limits) (P a : ℕ) → bad_board L P ≡ false → a < P → (b : ℕ) → b < P → b ≢ a
    → distance_lookup L P a b ≡ found (distance P a b)
unfolding distance_lookup
distance_found L P a g h b l e = rw (g, lt-leb P a h, lt-leb P b l, ne_eqb a b (λ z. e (sym z)))
