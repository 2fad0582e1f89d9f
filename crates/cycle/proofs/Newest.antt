-- The latest frame of a step on a link, among the items under way, or else what is stored.
use mathlib.Core.Path.{◌≡◌, refl, ap, ◌∙◌}
use mathlib.Core.Logic.{◌≢◌}
use mathlib.Core.Option.{Option, some}
use mathlib.Core.List.{List, [], ◌∷◌, ◌++◌}
use Prim.Native.Nat.{ℕ}
use native.Mathlib.Decide.{ℕ_discrete}
use Rattle.cycle.proofs.Sums.{pick}
use Rattle.cycle.proofs.Exact.{Entries}
use Rattle.cycle.proofs.OnePhase.{Content, message, report, Parcel}
use Rattle.cycle.proofs.OnePhase.{posts, OnLink, First}

unfoldable pub on_link_lem : (a c : ℕ) (i : Parcel) → Dec (OnLink a c i)
on_link_lem a c i = go (ℕ_discrete i.from a) (ℕ_discrete i.to c)
  where
    go : Dec (i.from ≡ a) → Dec (i.to ≡ c) → Dec (OnLink a c i)
    go (yes e) (yes f) = yes (e, f)
    go (yes e) (no f) = no (λ q. f q.1)
    go (no e) (yes f) = no (λ q. e q.0)
    go (no e) (no f) = no (λ q. e q.0)

abbrev pub newest : ℕ → Content → Option Entries → Option Entries
newest s message o = o
newest s (report s' x) o = pick (ℕ_discrete s' s) (some x) o

abbrev pub newer : ℕ → ℕ → ℕ → Parcel → Option Entries → Option Entries
newer s w c i o = pick (on_link_lem w c i) (newest s i.load o) o

abbrev pub latest : ℕ → ℕ → ℕ → List Parcel → Option Entries → Option Entries
latest s w c [] o = o
latest s w c (i ∷ is) o = latest s w c is (newer s w c i o)

pub latest_append : (s w c : ℕ) (xs ys : List Parcel) (o : Option Entries)
    → latest s w c (xs ++ ys) o ≡ latest s w c ys (latest s w c xs o)
latest_append s w c [] ys o = refl
latest_append s w c (i ∷ is) ys o = latest_append s w c is ys (newer s w c i o)

pub newer_off : (s w c : ℕ) (i : Parcel) (o : Option Entries) → (OnLink w c i → ⊥) → newer s w c i o ≡ o
newer_off s w c i o n = go (on_link_lem w c i)
  where
    go : (d : Dec (OnLink w c i)) → pick d (newest s i.load o) o ≡ o
    go (yes q) = absurd (n q)
    go (no q) = refl

pub newer_on : (s w c : ℕ) (i : Parcel) (o : Option Entries) → OnLink w c i → newer s w c i o ≡ newest s i.load o
newer_on s w c i o n = go (on_link_lem w c i)
  where
    go : (d : Dec (OnLink w c i)) → pick d (newest s i.load o) o ≡ newest s i.load o
    go (yes q) = refl
    go (no q) = absurd (q n)

pub newer_message : (s w c a r : ℕ) (o : Option Entries)
    → newer s w c (record { from = a; to = r; load = message }) o ≡ o
newer_message s w c a r o = go (on_link_lem w c (record { from = a; to = r; load = message }))
  where
    go : (d : Dec (OnLink w c (record { from = a; to = r; load = message }))) → pick d o o ≡ o
    go (yes q) = refl
    go (no q) = refl

pub newer_else : (s w c a r s' : ℕ) (x : Entries) (o : Option Entries) → s' ≢ s
    → newer s w c (record { from = a; to = r; load = report s' x }) o ≡ o
newer_else s w c a r s' x o n = go (on_link_lem w c (record { from = a; to = r; load = report s' x })) (ℕ_discrete s' s)
  where
    go : (d : Dec (OnLink w c (record { from = a; to = r; load = report s' x }))) (e : Dec (s' ≡ s))
        → pick d (pick e (some x) o) o ≡ o
    go (yes q) (yes e) = absurd (n e)
    go (yes q) (no e) = refl
    go (no q) e = refl

pub latest_none : (s w c : ℕ) (xs : List Parcel) (o : Option Entries) → First xs w c → latest s w c xs o ≡ o
latest_none s w c [] o h = refl
latest_none s w c (i ∷ is) o h = rw (newer_off s w c i o h.0) (latest_none s w c is o h.1)

-- an item that changes nothing can be taken out
pub latest_skip : (s w c : ℕ) (xs ys : List Parcel) (i : Parcel) (o : Option Entries)
    → ((o : Option Entries) → newer s w c i o ≡ o) → latest s w c (xs ++ i ∷ ys) o ≡ latest s w c (xs ++ ys) o
latest_skip s w c xs ys i o h =
    rw (latest_append s w c xs (i ∷ ys) o, latest_append s w c xs ys o, h (latest s w c xs o)) refl

-- the oldest of a link goes from the link into the store
pub latest_first : (s w c : ℕ) (xs ys : List Parcel) (i : Parcel) (o : Option Entries) → First xs w c
    → latest s w c (xs ++ i ∷ ys) o ≡ latest s w c (xs ++ ys) (newer s w c i o)
latest_first s w c xs ys i o h =
    rw (
      latest_append s w c xs (i ∷ ys) o,
      latest_append s w c xs ys (newer s w c i o),
      latest_none s w c xs o h,
      latest_none s w c xs (newer s w c i o) h,
    ) refl

-- a frame that goes to c, among others, is the latest there
latest_posts : (s a c : ℕ) (x : Entries) (rs : List ℕ) → latest s a c (posts a (report s x) rs) (some x) ≡ some x
latest_posts s a c x [] = refl
latest_posts s a c x (r ∷ rs) =
    ap (λ o. latest s a c (posts a (report s x) rs) o)
    (go (on_link_lem a c (record { from = a; to = r; load = report s x })) (ℕ_discrete s s)) ∙ latest_posts s a c x rs
  where
    go : (d : Dec (OnLink a c (record { from = a; to = r; load = report s x }))) (e : Dec (s ≡ s))
        → pick d (pick e (some x) (some x)) (some x) ≡ some x
    go (yes q) (yes e) = refl
    go (yes q) (no e) = refl
    go (no q) e = refl

pub newest_same : (s : ℕ) (x : Entries) (o : Option Entries) → newest s (report s x) o ≡ some x
newest_same s x o = go (ℕ_discrete s s)
  where
    go : (e : Dec (s ≡ s)) → pick e (some x) o ≡ some x
    go (yes e) = refl
    go (no e) = absurd (e refl)

pub latest_put : (s a c : ℕ) (x : Entries) (xs ys : List ℕ) (o : Option Entries)
    → latest s a c (posts a (report s x) (xs ++ c ∷ ys)) o ≡ some x
latest_put s a c x [] ys o =
    ap (λ o. latest s a c (posts a (report s x) ys) o)
    (newer_on s a c (record { from = a; to = c; load = report s x }) o (refl, refl) ∙ newest_same s x o)
    ∙ latest_posts s a c x ys
latest_put s a c x (r ∷ rs) ys o =
    latest_put s a c x rs ys (newer s a c (record { from = a; to = r; load = report s x }) o)

pub latest_posts_else : (s w c a s' : ℕ) (x : Entries) (rs : List ℕ) (o : Option Entries) → s' ≢ s
    → latest s w c (posts a (report s' x) rs) o ≡ o
latest_posts_else s w c a s' x [] o n = refl
latest_posts_else s w c a s' x (r ∷ rs) o n =
    ap (λ o. latest s w c (posts a (report s' x) rs) o) (newer_else s w c a r s' x o n)
    ∙ latest_posts_else s w c a s' x rs o n

pub latest_posts_off : (s w c a s' : ℕ) (x : Entries) (rs : List ℕ) (o : Option Entries) → a ≢ w
    → latest s w c (posts a (report s' x) rs) o ≡ o
latest_posts_off s w c a s' x [] o n = refl
latest_posts_off s w c a s' x (r ∷ rs) o n =
    ap (λ o. latest s w c (posts a (report s' x) rs) o)
    (newer_off s w c (record { from = a; to = r; load = report s' x }) o (λ q. n q.0))
    ∙ latest_posts_off s w c a s' x rs o n
