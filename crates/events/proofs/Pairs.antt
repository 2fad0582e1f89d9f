-- The items of the board beside the items of the ledger: two lists in step.
use mathlib.Core.Path.{◌≡◌, refl, sym, ap, ◌∙◌, subst}
use mathlib.Core.Bool.{Bool, true, false}
use mathlib.Core.Option.{some}
use mathlib.Core.List.{List, [], ◌∷◌, ◌++◌, Memᴰ}
use Prim.Native.Nat.{ℕ, zero, suc}
use native.Mathlib.Omega.{arith}
use lib.Dec.{eqb}
use borrow.Author.Tests.{eqb-true, eq-eqb}
use Rattle.base.specs.Choice.{choose}
use Rattle.base.proofs.Laws.{clash, both_true, both_make}
use Rattle.events.specs.Board.{Item, on_link, oldest, without, less_one}
use Rattle.cycle.proofs.Lists.{All}

-- where a value of a list stands
pub record Placed {A : Type 0} (x : A) (l : List A) : Type 0 where
  pub pre : List A
  pub post : List A
  pub whole : l ≡ pre ++ x ∷ post

pub placed : {A : Type 0} (x : A) (l : List A) → Memᴰ x l → Placed x l
placed x l (Memᴰ.head {x = y} {xs = ys} e) = record { pre = []; post = ys; whole = ap (λ z. z ∷ ys) (sym e) }
placed x l (Memᴰ.tail {x = y} {xs = ys} k) =
    let r = placed x ys k in record { pre = y ∷ r.pre; post = r.post; whole = ap (λ l. y ∷ l) r.whole }

module _ {A B : Type 0} (R : A → B → Type 0) where
  abbrev pub Pair : List A → List B → Type 0
  Pair [] [] = Unit {0}
  Pair [] (y ∷ ys) = ⊥
  Pair (x ∷ xs) [] = ⊥
  Pair (x ∷ xs) (y ∷ ys) = R x y × Pair xs ys

  pub pair_append : (xs us : List A) (ys vs : List B) → Pair xs ys → Pair us vs → Pair (xs ++ us) (ys ++ vs)
  pair_append [] us [] vs h k = k
  pair_append [] us (y ∷ ys) vs h k = absurd h
  pair_append (x ∷ xs) us [] vs h k = absurd h
  pair_append (x ∷ xs) us (y ∷ ys) vs h k = (h.0, pair_append xs us ys vs h.1 k)

  pub record Cut (xs zs : List A) (x : A) (ms : List B) : Type 0 where
    pub pre : List B
    pub post : List B
    pub one : B
    pub whole : ms ≡ pre ++ one ∷ post
    pub related : R x one
    pub before : Pair xs pre
    pub after : Pair zs post

  pub cut : (xs zs : List A) (x : A) (ms : List B) → Pair (xs ++ x ∷ zs) ms → Cut xs zs x ms
  cut [] zs x [] h = absurd h
  cut [] zs x (m ∷ ms) h =
      record { pre = []; post = ms; one = m; whole = refl; related = h.0; before = tt; after = h.1 }
  cut (y ∷ xs) zs x [] h = absurd h
  cut (y ∷ xs) zs x (m ∷ ms) h =
      let r = cut xs zs x ms h.1 in
      record {
        pre = m ∷ r.pre;
        post = r.post;
        one = r.one;
        whole = ap (λ l. m ∷ l) r.whole;
        related = r.related;
        before = (h.0, r.before);
        after = r.after;
      }

  pub mate : (x : A) (l : List A) (ms : List B) (at : Placed x l) → Pair l ms → Cut at.pre at.post x ms
  mate x l ms at h = cut at.pre at.post x ms (subst (λ l. Pair l ms) at.whole h)

  pub pair_all : (F : A → Type 0) (G : B → Type 0) → ((x : A) (y : B) → R x y → F x → G y) → (xs : List A) (ys : List B)
      → Pair xs ys → All F xs → All G ys
  pair_all F G f [] [] h k = tt
  pair_all F G f [] (y ∷ ys) h k = absurd h
  pair_all F G f (x ∷ xs) [] h k = absurd h
  pair_all F G f (x ∷ xs) (y ∷ ys) h k = (f x y h.0 k.0, pair_all F G f xs ys h.1 k.1)

-- ---- the oldest of a link

pub record Found (a b : ℕ) (is : List Item) (m : Item) : Type 0 where
  pub pre : List Item
  pub post : List Item
  pub whole : is ≡ pre ++ m ∷ post
  pub rest : without a b is ≡ pre ++ post
  pub from_is : m.from ≡ a
  pub to_is : m.to ≡ b
  pub none_before : All (λ k. (k.from ≡ a) × (k.to ≡ b) → ⊥) pre

pub found : (a b : ℕ) (is : List Item) (m : Item) → oldest a b is ≡ some m → Found a b is m
found a b [] m e = let z : ◌≡◌ {A = ℕ} 0 1 = cc in absurd (omega arith)
found a b (k ∷ is) m e = go (on_link a b k) refl (λ q. found a b is m q) e
  where
    go : (t : Bool) → on_link a b k ≡ t → (oldest a b is ≡ some m → Found a b is m)
        → choose t (some k) (oldest a b is) ≡ some m → Found a b (k ∷ is) m
    go true o r q =
        let z : k ≡ m = cc in
        let l = both_true (eqb k.from a) (eqb k.to b) o in
        subst (Found a b (k ∷ is)) z
        (record {
          pre = [];
          post = is;
          whole = refl;
          rest = ap (λ t. choose t is (k ∷ without a b is)) o;
          from_is = eqb-true k.from a l.0;
          to_is = eqb-true k.to b l.1;
          none_before = tt;
        })
    go false o r q =
        let f = r q in
        record {
          pre = k ∷ f.pre;
          post = f.post;
          whole = ap (λ l. k ∷ l) f.whole;
          rest = ap (λ t. choose t is (k ∷ without a b is)) o ∙ ap (λ l. k ∷ l) f.rest;
          from_is = f.from_is;
          to_is = f.to_is;
          none_before = ((λ s. off s), f.none_before);
        }
      where
        off : (k.from ≡ a) × (k.to ≡ b) → ⊥
        off s = clash (sym (both_make (eq-eqb k.from a s.0) (eq-eqb k.to b s.1)) ∙ o)

-- ---- any item

pub data Lost (is : List Item) : List Item → Type 0 where
  nothing : Lost is is
  one : (pre post : List Item) (m : Item) → is ≡ pre ++ m ∷ post → Lost is (pre ++ post)

pub lost : (j : ℕ) (is : List Item) → Lost is (less_one j is)
lost j [] = nothing
lost zero (m ∷ is) = one [] is m refl
lost (suc j) (m ∷ is) = go (less_one j is) (lost j is)
  where
    go : (l : List Item) → Lost is l → Lost (m ∷ is) (m ∷ l)
    go l nothing = nothing
    go l (one pre post k e) = one (m ∷ pre) post k (ap (λ l. m ∷ l) e)
