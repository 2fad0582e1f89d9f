-- Work messages under way are counted: all, and those of a link.
use mathlib.Core.Path.{◌≡◌, refl, sym, ◌∙◌}
use mathlib.Core.Logic.{◌≢◌, ◌⊎◌, inl, inr}
use mathlib.Core.List.{List, [], ◌∷◌, ◌++◌}
use Prim.Native.Nat.{ℕ, suc, ◌+◌}
use native.Mathlib.Decide.{ℕ_discrete}
use native.Mathlib.Omega.{arith}
use Rattle.cycle.proofs.Sums.{update, update_same, update_other, pick}
use Rattle.cycle.proofs.Exact.{Entries}
use Rattle.cycle.proofs.OnePhase.{Content, message, report, Parcel, posts, OnLink, one_more}
use Rattle.cycle.proofs.Newest.{on_link_lem}

-- ---- counting work under way

abbrev pub is_message : Content → ℕ
is_message message = 1
is_message (report s x) = 0

abbrev pub messages : List Parcel → ℕ
messages [] = 0
messages (i ∷ is) = is_message i.load + messages is

abbrev pub messages_on : ℕ → ℕ → List Parcel → ℕ
messages_on y z [] = 0
messages_on y z (i ∷ is) = pick (on_link_lem y z i) (is_message i.load) 0 + messages_on y z is

pub messages_append : (xs ys : List Parcel) → messages (xs ++ ys) ≡ messages xs + messages ys
messages_append [] ys = omega arith
messages_append (i ∷ is) ys = let r = messages_append is ys in omega arith

pub messages_on_append : (y z : ℕ) (xs ys : List Parcel)
    → messages_on y z (xs ++ ys) ≡ messages_on y z xs + messages_on y z ys
messages_on_append y z [] ys = omega arith
messages_on_append y z (i ∷ is) ys = let r = messages_on_append y z is ys in omega arith

pub report_on : (y z : ℕ) (a c s : ℕ) (x : Entries)
    → pick (on_link_lem y z (record { from = a; to = c; load = report s x })) (is_message (report s x)) 0 ≡ 0
report_on y z a c s x = go (on_link_lem y z (record { from = a; to = c; load = report s x }))
  where
    go : (d : Dec (OnLink y z (record { from = a; to = c; load = report s x }))) → pick {A = ℕ} d 0 0 ≡ 0
    go (yes q) = refl
    go (no q) = refl

pub messages_reports : (a s : ℕ) (x : Entries) (rs : List ℕ) → messages (posts a (report s x) rs) ≡ 0
messages_reports a s x [] = refl
messages_reports a s x (r ∷ rs) = omega (arith, messages_reports a s x rs)

pub messages_on_reports : (y z a s : ℕ) (x : Entries) (rs : List ℕ) → messages_on y z (posts a (report s x) rs) ≡ 0
messages_on_reports y z a s x [] = refl
messages_on_reports y z a s x (r ∷ rs) = omega (arith, messages_on_reports y z a s x rs, report_on y z a r s x)

-- one more from a to c
pub more_hit : (m : ℕ → ℕ → ℕ) (a c y z : ℕ)
    → one_more m a c y z ≡ m y z + pick (on_link_lem y z (record { from = a; to = c; load = message })) 1 0
more_hit m a c y z = go (ℕ_discrete y a) (ℕ_discrete z c) (on_link_lem y z (record { from = a; to = c; load = message }))
  where
    go : (d : Dec (y ≡ a)) (e : Dec (z ≡ c)) (o : Dec (OnLink y z (record { from = a; to = c; load = message })))
        → one_more m a c y z ≡ m y z + pick {A = ℕ} o 1 0
    go (yes d) (yes e) (yes o) =
        rw (d, e, update_same m a (update (m a) c (suc (m a c))), update_same (m a) c (suc (m a c))) (omega arith)
    go (yes d) (yes e) (no o) = absurd (o (sym d, sym e))
    go (yes d) (no e) (yes o) = absurd (e (sym o.1))
    go (yes d) (no e) (no o) =
        rw (d, update_same m a (update (m a) c (suc (m a c))), update_other (m a) c (suc (m a c)) z e) (omega arith)
    go (no d) e (yes o) = absurd (d (sym o.0))
    go (no d) e (no o) = rw (update_other m a (update (m a) c (suc (m a c))) y d) (omega arith)

pub more_column : (m : ℕ → ℕ → ℕ) (a c y : ℕ) → one_more m a c y c ≡ update (λ y. m y c) a (suc (m a c)) y
more_column m a c y = go (ℕ_discrete y a)
  where
    go : (d : Dec (y ≡ a)) → pick {A = ℕ → ℕ} d (update (m a) c (suc (m a c))) (m y) c ≡ pick {A = ℕ} d (suc (m a c))
        (m y c)
    go (yes d) = update_same (m a) c (suc (m a c))
    go (no d) = refl

pub more_other : (m : ℕ → ℕ → ℕ) (a c y z : ℕ) → (y ≢ a) ⊎ (z ≢ c) → one_more m a c y z ≡ m y z
more_other m a c y z (inl n) = rw (update_other m a (update (m a) c (suc (m a c))) y n) refl
more_other m a c y z (inr n) = go (ℕ_discrete y a)
  where
    go : (d : Dec (y ≡ a)) → pick {A = ℕ → ℕ} d (update (m a) c (suc (m a c))) (m y) z ≡ m y z
    go (yes d) = update_other (m a) c (suc (m a c)) z n ∙ rw d refl
    go (no d) = refl
