-- The items of one phase among the items of all.
use mathlib.Core.Path.{◌≡◌, refl, sym, ap, ◌∙◌}
use mathlib.Core.Logic.{◌≢◌}
use mathlib.Core.List.{List, [], ◌∷◌, ◌++◌, map, append-nil}
use Prim.Native.Nat.{ℕ}
use native.Mathlib.Decide.{ℕ_discrete}
use Rattle.cycle.proofs.Sums.{pick}
use Rattle.cycle.proofs.Lists.{All}
use Rattle.cycle.proofs.OnePhase.{Parcel, OnLink, First}
use Rattle.cycle.proofs.Ledger.{Dated, of_phase, phase_append}

phase_cons : (n : ℕ) (m : Dated) (ms : List Dated) → m.phase ≡ n → of_phase n (m ∷ ms) ≡ m.item ∷ of_phase n ms
phase_cons n m ms e = go (ℕ_discrete m.phase n)
  where
    go : (d : Dec (m.phase ≡ n)) → pick {A = List Parcel} d (m.item ∷ of_phase n ms)
        (of_phase n ms) ≡ m.item ∷ of_phase n ms
    go (yes q) = refl
    go (no q) = absurd (q e)

phase_skip : (n : ℕ) (m : Dated) (ms : List Dated) → m.phase ≢ n → of_phase n (m ∷ ms) ≡ of_phase n ms
phase_skip n m ms e = go (ℕ_discrete m.phase n)
  where
    go : (d : Dec (m.phase ≡ n)) → pick {A = List Parcel} d (m.item ∷ of_phase n ms) (of_phase n ms) ≡ of_phase n ms
    go (yes q) = absurd (e q)
    go (no q) = refl

abbrev pub dated : ℕ → List Parcel → List Dated
dated n is = map (λ i. record { phase = n; item = i }) is

phase_tag : (n : ℕ) (is : List Parcel) → of_phase n (dated n is) ≡ is
phase_tag n [] = refl
phase_tag n (i ∷ is) =
    phase_cons n (record { phase = n; item = i }) (dated n is) refl ∙ ap (λ l. i ∷ l) (phase_tag n is)

phase_tag_else : (k n : ℕ) (is : List Parcel) → k ≢ n → of_phase k (dated n is) ≡ []
phase_tag_else k n [] q = refl
phase_tag_else k n (i ∷ is) q =
    phase_skip k (record { phase = n; item = i }) (dated n is) (λ e. q (sym e)) ∙ phase_tag_else k n is q

pub phase_more : (n : ℕ) (ms : List Dated) (is : List Parcel) → of_phase n (ms ++ dated n is) ≡ of_phase n ms ++ is
phase_more n ms is = phase_append n ms (dated n is) ∙ ap (λ l. of_phase n ms ++ l) (phase_tag n is)

pub phase_more_else : (k n : ℕ) (ms : List Dated) (is : List Parcel) → k ≢ n
    → of_phase k (ms ++ dated n is) ≡ of_phase k ms
phase_more_else k n ms is q =
    phase_append k ms (dated n is) ∙ ap (λ l. of_phase k ms ++ l) (phase_tag_else k n is q) ∙ append-nil (of_phase k ms)

pub phase_mid : (n : ℕ) (xs ys : List Dated) (m : Dated) → m.phase ≡ n
    → of_phase n (xs ++ m ∷ ys) ≡ of_phase n xs ++ m.item ∷ of_phase n ys
phase_mid n xs ys m e = phase_append n xs (m ∷ ys) ∙ ap (λ l. of_phase n xs ++ l) (phase_cons n m ys e)

pub phase_mid_else : (n : ℕ) (xs ys : List Dated) (m : Dated) → m.phase ≢ n
    → of_phase n (xs ++ ys) ≡ of_phase n (xs ++ m ∷ ys)
phase_mid_else n xs ys m e =
    phase_append n xs ys ∙ ap (λ l. of_phase n xs ++ l) (sym (phase_skip n m ys e)) ∙ sym (phase_append n xs (m ∷ ys))

abbrev pub FirstDated : List Dated → ℕ → ℕ → Type 0
FirstDated xs a c = All (λ m. OnLink a c m.item → ⊥) xs

pub phase_first : (n : ℕ) (xs : List Dated) (a c : ℕ) → FirstDated xs a c → First (of_phase n xs) a c
phase_first n [] a c h = tt
phase_first n (m ∷ ms) a c h = go (phase_first n ms a c h.1) (ℕ_discrete m.phase n)
  where
    go : First (of_phase n ms) a c → (d : Dec (m.phase ≡ n))
        → First (pick {A = List Parcel} d (m.item ∷ of_phase n ms) (of_phase n ms)) a c
    go r (yes q) = (h.0, r)
    go r (no q) = r
