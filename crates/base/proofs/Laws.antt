-- Laws of choice, of joined tests, of refusals in order and of values listed by a rule.
use mathlib.Core.Path.{◌≡◌, refl, sym, ap, ◌∙◌, subst}
use mathlib.Core.Bool.{Bool, true, false}
use mathlib.Core.List.{List, [], ◌∷◌, ◌++◌}
use Prim.Native.Nat.{ℕ, zero, suc, ◌+◌, ◌-◌, ◌≤◌, ◌<◌}
use native.Mathlib.Decide.{ℕ_discrete}
use native.Mathlib.Nat.{zero-add}
use native.Mathlib.Numerals.{add-one}
use native.Mathlib.Omega.{arith}
use lib.ListN.{length, get_or, set}
use Rattle.base.specs.Choice.{choose, both, either, every, list}
use Rattle.base.specs.Refusal.{refused, found, Check, in_order, number}

-- true is not false
pub clash : {A : Type 0} → ◌≡◌ {A = Bool} true false → A
clash q = let z : ◌≡◌ {A = ℕ} 0 1 = cc in absurd (omega arith)

pub choose_yes : {A : Type 0} {t : Bool} (a b : A) → t ≡ true → choose t a b ≡ a
choose_yes a b e = rw e

pub choose_no : {A : Type 0} {t : Bool} (a b : A) → t ≡ false → choose t a b ≡ b
choose_no a b e = rw e

-- a fact by the cases of a test
pub cases : {A : Type 0} (F : A → Type 0) (t : Bool) (a b : A) → (t ≡ true → F a) → (t ≡ false → F b) → F (choose t a b)
cases F true a b f g = f refl
cases F false a b f g = g refl

pub both_true : (s t : Bool) → both s t ≡ true → (s ≡ true) × (t ≡ true)
both_true true t e = (refl, e)
both_true false t e = clash (sym e)

pub both_make : {s t : Bool} → s ≡ true → t ≡ true → both s t ≡ true
both_make a b = rw (a, b)

pub either_false : (s t : Bool) → either s t ≡ false → (s ≡ false) × (t ≡ false)
either_false true t e = clash e
either_false false t e = (refl, e)

pub every_at : (start count : ℕ) (f : ℕ → Bool) → every start count f ≡ true → (i : ℕ) → start ≤ i → i < start + count
    → f i ≡ true
every_at start zero f e i a b = absurd (omega arith)
every_at start (suc count) f e i a b =
    let q = both_true (f start) (every (suc start) count f) e in
    go q.0 (λ l. every_at (suc start) count f q.1 i l (omega arith)) (ℕ_discrete i start)
  where
    go : f start ≡ true → (suc start ≤ i → f i ≡ true) → Dec (i ≡ start) → f i ≡ true
    go h r (yes z) = ap f z ∙ h
    go h r (no z) = r (omega arith)

pub every_make : (start count : ℕ) (f : ℕ → Bool) → ((i : ℕ) → start ≤ i → i < start + count → f i ≡ true)
    → every start count f ≡ true
every_make start zero f h = refl
every_make start (suc count) f h =
    both_make (h start (omega arith) (omega arith))
    (every_make (suc start) count f (λ i a b. h i (omega arith) (omega arith)))

-- tests that are the same where they are made
pub every_same : (start count : ℕ) (f g : ℕ → Bool) → ((i : ℕ) → start ≤ i → i < start + count → f i ≡ g i)
    → every start count f ≡ every start count g
every_same start zero f g h = refl
every_same start (suc count) f g h =
    rw (
      h start (omega arith) (omega arith),
      every_same (suc start) count f g (λ i a b. h i (omega arith) (omega arith)),
    )

-- the first of the tests that are left, and the rest
pub every_here : (i n : ℕ) (f : ℕ → Bool) → i < n → every i (n - i) f ≡ both (f i) (every (i + 1) (n - (i + 1)) f)
every_here i n f h = let e : n - i ≡ suc (n - (i + 1)) = omega arith in rw (e, add-one)

pub every_end : (i n : ℕ) (f : ℕ → Bool) → n ≤ i → every i (n - i) f ≡ true
every_end i n f h = let e : n - i ≡ 0 = omega arith in rw e

-- ---- refusals in order

-- no check is met
abbrev pub Passes : List Check → Type 0
Passes [] = Unit {0}
Passes (c ∷ cs) = (c.met ≡ false) × Passes cs

-- a check is met and none before it, and this is the number of its word
pub data Stops : List Check → ℕ → Type 0 where
  here : {c : Check} {cs : List Check} → c.met ≡ true → Stops (c ∷ cs) (number c.word)
  later : {c : Check} {cs : List Check} {x : ℕ} → c.met ≡ false → Stops cs x → Stops (c ∷ cs) x

module _ {A : Type 0} (refuse : ℕ → A) where
  pub order_passes : (cs : List Check) (a : A) → Passes cs → in_order refuse cs a ≡ a
  order_passes [] a h = refl
  order_passes (c ∷ cs) a h = choose_no (refuse (number c.word)) _ h.0 ∙ order_passes cs a h.1

  pub order_stops : {cs : List Check} {x : ℕ} (a : A) → Stops cs x → in_order refuse cs a ≡ refuse x
  order_stops a (here e) = choose_yes _ _ e
  order_stops a (later {c = c} e s) = choose_no (refuse (number c.word)) _ e ∙ order_stops a s

  -- a fact by the check that is met, or by none being met
  pub order_cases : (F : A → Type 0) (cs : List Check) (a : A) → ((x : ℕ) → Stops cs x → F (refuse x))
      → (Passes cs → F a)
      → F (in_order refuse cs a)
  order_cases F [] a f g = g tt
  order_cases F (c ∷ cs) a f g =
      cases F c.met _ _ (λ e. f (number c.word) (here e))
      (λ e. order_cases F cs a (λ x s. f x (later e s)) (λ h. g (e, h)))

-- what stops at a check, stops there with more checks after it, and after checks that are passed
pub stops_before : {cs : List Check} {x : ℕ} (ds : List Check) → Stops cs x → Stops (cs ++ ds) x
stops_before ds (here e) = here e
stops_before ds (later e s) = later e (stops_before ds s)

pub stops_after : (cs : List Check) {ds : List Check} {x : ℕ} → Passes cs → Stops ds x → Stops (cs ++ ds) x
stops_after [] h s = s
stops_after (c ∷ cs) h s = later h.0 (stops_after cs h.1 s)

-- what is refused, is refused because a check is met
pub checks_stop : {A : Type 0} (cs : List Check) (a : A) (x : ℕ) → in_order refused cs (found a) ≡ refused x → Stops cs x
checks_stop [] a x e = let z : ◌≡◌ {A = ℕ} 0 1 = cc in absurd (omega arith)
checks_stop (c ∷ cs) a x e = go c.met refl (checks_stop cs a x) e
  where
    go : (t : Bool) → c.met ≡ t → (in_order refused cs (found a) ≡ refused x → Stops cs x)
        → choose t (refused (number c.word)) (in_order refused cs (found a)) ≡ refused x
        → Stops (c ∷ cs) x
    go true m rest q = let z : number c.word ≡ x = cc in subst (Stops (c ∷ cs)) z (here m)
    go false m rest q = later m (rest q)

-- what is found, is found because no check is met
pub checks_known : {A : Type 0} (cs : List Check) (a b : A) → in_order refused cs (found a) ≡ found b
    → Passes cs × (a ≡ b)
checks_known [] a b e = (tt, cc)
checks_known (c ∷ cs) a b e = go c.met refl (checks_known cs a b) e
  where
    go : (t : Bool) → c.met ≡ t → (in_order refused cs (found a) ≡ found b → Passes cs × (a ≡ b))
        → choose t (refused (number c.word)) (in_order refused cs (found a)) ≡ found b
        → ((c.met ≡ false) × Passes cs) × (a ≡ b)
    go true m rest q = let z : ◌≡◌ {A = ℕ} 0 1 = cc in absurd (omega arith)
    go false m rest q = let r = rest q in ((m, r.0), r.1)

-- ---- values listed by a rule

pub length_list : {A : Type 0} (start count : ℕ) (f : ℕ → A) → length (list start count f) ≡ count
length_list start zero f = refl
length_list start (suc count) f = ap suc (length_list (suc start) count f)

pub get_d_list : {A : Type 0} (start count : ℕ) (f : ℕ → A) (i : ℕ) (d : A) → i < count
    → get_or (list start count f) i d ≡ f (start + i)
get_d_list start zero f i d h = absurd (omega arith)
get_d_list start (suc count) f zero d h = let e : start ≡ start + 0 = omega arith in ap f e
get_d_list start (suc count) f (suc i) d h =
    let e : suc start + i ≡ start + suc i = omega arith in get_d_list (suc start) count f i d (omega arith) ∙ ap f e

pub list_at : {A : Type 0} (count : ℕ) (f : ℕ → A) (i : ℕ) (d : A) → i < count → get_or (list 0 count f) i d ≡ f i
list_at count f i d h = get_d_list 0 count f i d h ∙ ap f (zero-add i)

-- a list of one value has it everywhere
pub list_one : {A : Type 0} (start count : ℕ) (x : A) (i : ℕ) → get_or (list start count (λ m. x)) i x ≡ x
list_one start zero x i = refl
list_one start (suc count) x zero = refl
list_one start (suc count) x (suc i) = list_one (suc start) count x i

-- a list is the list of what stands at its places
pub list_whole : {A : Type 0} (l : List A) (d : A) (start count : ℕ) (f : ℕ → A) → length l ≡ count
    → ((i : ℕ) → i < count → f (start + i) ≡ get_or l i d) → list start count f ≡ l
list_whole [] d start zero f e h = refl
list_whole [] d start (suc count) f e h = absurd (omega arith)
list_whole (a ∷ l) d start zero f e h = absurd (omega arith)
list_whole (a ∷ l) d start (suc count) f e h =
    let u : f start ≡ a = ap f (omega arith) ∙ h 0 (omega arith) in
    rw (u, list_whole l d (suc start) count f (omega arith) (λ i b. ap f (omega arith) ∙ h (suc i) (omega arith)))

-- one value more at the end
pub list_more : {A : Type 0} (start count : ℕ) (f : ℕ → A)
    → list start (count + 1) f ≡ list start count f ++ (f (start + count) ∷ [])
list_more start count f = rw add-one (go start count)
  where
    go : (start count : ℕ) → list start (suc count) f ≡ list start count f ++ (f (start + count) ∷ [])
    go start zero = let e : start + 0 ≡ start = omega arith in rw e
    go start (suc count) =
        let e : start + suc count ≡ suc start + count = omega arith in
        rw e (ap (λ l. f start ∷ l) (go (suc start) count))

-- the rules agree where values are listed
pub list_same : {A : Type 0} (start count : ℕ) (f g : ℕ → A)
    → ((i : ℕ) → start ≤ i → i < start + count → f i ≡ g i) → list start count f ≡ list start count g
list_same start zero f g h = refl
list_same start (suc count) f g h =
    rw (h start (omega arith) (omega arith), list_same (suc start) count f g (λ i a b. h i (omega arith) (omega arith)))

-- the rules agree but at one place, where the value is set
pub list_set : {A : Type 0} (start count : ℕ) (f g : ℕ → A) (i : ℕ) → i < count
    → ((j : ℕ) → start ≤ j → j < start + count → (j ≡ start + i → ⊥) → f j ≡ g j)
    → set (list start count f) i (g (start + i)) ≡ list start count g
list_set start zero f g i l h = absurd (omega arith)
list_set start (suc count) f g zero l h =
    let e : start + 0 ≡ start = omega arith in
    rw e
    (ap (λ r. g start ∷ r)
    (list_same (suc start) count f g (λ j a b. h j (omega arith) (omega arith) (λ z. omega arith))))
list_set start (suc count) f g (suc i) l h =
    let e : start + suc i ≡ suc start + i = omega arith in
    rw (e, h start (omega arith) (omega arith) (λ z. omega arith))
    (ap (λ r. g start ∷ r)
    (list_set (suc start) count f g i (omega arith)
    (λ j a b n. h j (omega arith) (omega arith) (λ z. n (omega arith)))))
