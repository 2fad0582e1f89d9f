-- Items under way are within one phase of their receiver, so the byte of a phase tells the phase.
use mathlib.Core.Path.{◌≡◌, refl, sym, ap, ◌∙◌, subst}
use mathlib.Core.Bool.{Bool, true, false}
use mathlib.Core.Option.{Option, none, some}
use mathlib.Core.List.{List, [], ◌∷◌, ◌++◌}
use Prim.Native.Nat.{ℕ, suc, ◌≤◌}
use native.Mathlib.Decide.{ℕ_discrete}
use native.Mathlib.Omega.{arith}
use Rattle.cycle.proofs.Sums.{update, update_all, update_same, update_other}
use Rattle.cycle.proofs.Lists.{All, all_append, all_map, all_mid}
use Rattle.cycle.proofs.OnePhase.{Content, message, report, OnLink}
use Rattle.cycle.proofs.Ledger.{Dated}

-- ---- the order on each link

abbrev pub SameLink : Dated → Dated → Type 0
SameLink m k = OnLink m.item.from m.item.to k.item

abbrev pub Ordered : List Dated → Type 0
Ordered [] = Unit {0}
Ordered (m ∷ ms) = All (λ k. SameLink m k → m.phase ≤ k.phase) ms × Ordered ms

ordered_less : (xs ys : List Dated) (m : Dated) → Ordered (xs ++ m ∷ ys) → Ordered (xs ++ ys)
ordered_less [] ys m h = h.1
ordered_less (x ∷ xs) ys m h =
    ((all_mid (λ k. SameLink x k → x.phase ≤ k.phase) xs ys m h.0).1, ordered_less xs ys m h.1)

ordered_snoc : (xs : List Dated) (m : Dated) → Ordered xs → All (λ k. SameLink k m → k.phase ≤ m.phase) xs
    → Ordered (xs ++ (m ∷ []))
ordered_snoc [] m h a = (tt, tt)
ordered_snoc (x ∷ xs) m h a = (
  all_append (λ k. SameLink x k → x.phase ≤ k.phase) xs (m ∷ []) h.0 (a.0, tt),
  ordered_snoc xs m h.1 a.1,
)

-- what is left of a link once its oldest is off is no older
after_first : (xs ys : List Dated) (m : Dated) → Ordered (xs ++ m ∷ ys) → All (λ k. SameLink m k → ⊥) xs
    → All (λ k. SameLink m k → m.phase ≤ k.phase) (xs ++ ys)
after_first [] ys m h f = h.0
after_first (x ∷ xs) ys m h f = ((λ s. absurd (f.0 s)), after_first xs ys m h.1 f.1)

abbrev pub report_step : Content → Option ℕ
report_step message = none
report_step (report s x) = some s

-- the phase of an item is not above its sender's
abbrev pub Sent : (ℕ → ℕ) → Dated → Type 0
Sent phase m = m.phase ≤ phase m.item.from

-- on the link from a to c, it is not below the receiver's
abbrev pub Later : (ℕ → ℕ) → ℕ → ℕ → Dated → Type 0
Later phase a c m = OnLink a c m.item → phase c ≤ m.phase

-- for a frame, it is at most one below the receiver's
abbrev pub Close : (ℕ → ℕ) → Dated → Type 0
Close phase m = (s : ℕ) → report_step m.item.load ≡ some s → phase m.item.to ≤ suc m.phase

module _ (awaited : ℕ → ℕ → Option ℕ) where
  -- a frame goes to who awaits it
  abbrev pub Partnered : Dated → Type 0
  Partnered m = (s : ℕ) → report_step m.item.load ≡ some s → awaited s m.item.to ≡ some m.item.from

  -- holds c s: node c has stored a frame for step s in its phase
  pub record Window (phase : ℕ → ℕ) (holds : ℕ → ℕ → Bool) (items : List Dated) : Type 0 where
    -- phases along a link do not fall, and are not above the sender's
    pub order : Ordered items
    pub sent : All (Sent phase) items
    -- what follows a stored frame on its link is of its phase or a later one
    pub heard : (c a s : ℕ) → awaited s c ≡ some a → holds c s ≡ true → All (Later phase a c) items
    pub behind : (c a s : ℕ) → awaited s c ≡ some a → holds c s ≡ true → phase c ≤ phase a
    -- frames
    pub partner : All Partnered items
    pub window : All (Close phase) items

  pub data Move (phase : ℕ → ℕ) (holds : ℕ → ℕ → Bool) (items : List Dated) : (ℕ → ℕ) → (ℕ → ℕ → Bool) → List Dated
      → Type 0 where
    -- an item goes out
    out : (m : Dated) → m.phase ≡ phase m.item.from → phase m.item.to ≤ suc m.phase
        → ((s : ℕ) → report_step m.item.load ≡ some s → awaited s m.item.to ≡ some m.item.from)
        → Move phase holds items phase holds (items ++ (m ∷ []))
    -- an item goes off, by a take, a loss or because it is late
    off : (xs ys : List Dated) (m : Dated) → items ≡ xs ++ m ∷ ys → Move phase holds items phase holds (xs ++ ys)
    -- the oldest of a link is stored
    store : (xs ys : List Dated) (m : Dated) (s : ℕ) → items ≡ xs ++ m ∷ ys → All (λ k. SameLink m k → ⊥) xs
        → report_step m.item.load ≡ some s → m.phase ≡ phase m.item.to
        → Move phase holds items phase (update holds m.item.to (update (holds m.item.to) s true)) (xs ++ ys)
    -- a node leaves: it has a frame for every step that awaits one
    leave : (c : ℕ) → ((a s : ℕ) → awaited s c ≡ some a → holds c s ≡ true)
        → Move phase holds items (update phase c (suc (phase c))) (update holds c (λ s. false)) items

  true≢false : {A : Type 0} → ◌≡◌ {A = Bool} false true → A
  true≢false q = let y : ◌≡◌ {A = ℕ} 0 1 = cc in absurd (omega arith)

  window_off : (phase : ℕ → ℕ) (holds : ℕ → ℕ → Bool) (items xs ys : List Dated) (m : Dated) → items ≡ xs ++ m ∷ ys
      → Window phase holds items → Window phase holds (xs ++ ys)
  window_off phase holds items xs ys m e i =
      record {
        order = ordered_less xs ys m (subst Ordered e i.order);
        sent = (all_mid (Sent phase) xs ys m (subst (All (Sent phase)) e i.sent)).1;
        heard =
            λ c a s aw h. (all_mid (Later phase a c) xs ys m (subst (All (Later phase a c)) e (i.heard c a s aw h))).1;
        behind = i.behind;
        partner = (all_mid Partnered xs ys m (subst (All Partnered) e i.partner)).1;
        window = (all_mid (Close phase) xs ys m (subst (All (Close phase)) e i.window)).1;
      }

  pub window_keeps : {phase : ℕ → ℕ} {holds : ℕ → ℕ → Bool} {items : List Dated} {phase' : ℕ → ℕ}
      {holds' : ℕ → ℕ → Bool} {items' : List Dated}
      → Move phase holds items phase' holds' items' → Window phase holds items → Window phase' holds' items'
  window_keeps {phase} {holds} {items} (out m e w pa) i =
      record {
        order = ordered_snoc items m i.order (all_map (Sent phase) (λ k. SameLink k m → k.phase ≤ m.phase)
            (λ k l s. let z : phase m.item.from ≡ phase k.item.from = ap phase s.0 in omega arith) items
            i.sent);
        sent = all_append (Sent phase) items (m ∷ []) i.sent (omega arith, tt);
        heard =
            λ c a s aw h. all_append (Later phase a c) items (m ∷ []) (i.heard c a s aw h) (
              (λ o. let z : phase m.item.from ≡ phase a = ap phase o.0 in omega (arith, i.behind c a s aw h)),
              tt,
            );
        behind = i.behind;
        partner = all_append Partnered items (m ∷ []) i.partner (pa, tt);
        window = all_append (Close phase) items (m ∷ []) i.window ((λ s q. w), tt);
      }
  window_keeps {phase} {holds} {items} (off xs ys m e) i = window_off phase holds items xs ys m e i
  window_keeps {phase} {holds} {items} (store xs ys m s e f q p) i =
      let r = window_off phase holds items xs ys m e i in
      record {
        order = r.order;
        sent = r.sent;
        partner = r.partner;
        window = r.window;
        heard =
            update_all (λ c g. (a s : ℕ) → awaited s c ≡ some a → g s ≡ true
            → All (Later phase a c) (xs ++ ys)) holds c₀ (update (holds c₀) s true)
            (λ a t aw h. new a t aw h (ℕ_discrete t s)) (λ c n a t aw h. r.heard c a t aw h);
        behind =
            update_all (λ c g. (a s : ℕ) → awaited s c ≡ some a → g s ≡ true → phase c ≤ phase a) holds c₀
            (update (holds c₀) s true)
            (λ a t aw h. new_behind a t aw h (ℕ_discrete t s)) (λ c n a t aw h. i.behind c a t aw h);
      }
    where
      c₀ : ℕ
      c₀ = m.item.to

      mine : awaited s c₀ ≡ some m.item.from
      mine = (all_mid Partnered xs ys m
          (subst (All Partnered) e i.partner)).0 s q

      sent_m : m.phase ≤ phase m.item.from
      sent_m = (all_mid (Sent phase) xs ys m (subst (All (Sent phase)) e i.sent)).0

      from_is : (a t : ℕ) → awaited t c₀ ≡ some a → t ≡ s → m.item.from ≡ a
      from_is a t aw z = let aw' : awaited s c₀ ≡ some a = subst (λ t. awaited t c₀ ≡ some a) z aw in let k = mine in cc

      new : (a t : ℕ) → awaited t c₀ ≡ some a → update (holds c₀) s true t ≡ true → Dec (t ≡ s)
          → All (Later phase a c₀) (xs ++ ys)
      new a t aw h (yes z) =
          let fa = from_is a t aw z in
          all_map (λ k. SameLink m k → m.phase ≤ k.phase) (Later phase a c₀)
          (λ k l o. omega (arith, l (o.0 ∙ sym fa, o.1), p)) (xs ++ ys)
          (after_first xs ys m (subst Ordered e i.order) f)
      new a t aw h (no z) =
          (all_mid (Later phase a c₀) xs ys m
          (subst (All (Later phase a c₀)) e (i.heard c₀ a t aw (sym (update_other (holds c₀) s true t z) ∙ h)))).1

      new_behind : (a t : ℕ) → awaited t c₀ ≡ some a → update (holds c₀) s true t ≡ true → Dec (t ≡ s)
          → phase c₀ ≤ phase a
      new_behind a t aw h (yes z) = let k = ap phase (from_is a t aw z) in omega (arith, sent_m, p)
      new_behind a t aw h (no z) = i.behind c₀ a t aw (sym (update_other (holds c₀) s true t z) ∙ h)
  window_keeps {phase} {holds} {items} (leave c st) i =
      record {
        order = i.order;
        sent =
            all_map (Sent phase) (Sent (update phase c (suc (phase c))))
            (λ m l. omega (arith, grows m.item.from)) items i.sent;
        heard =
            update_all (λ d g. (a s : ℕ) → awaited s d ≡ some a → g s ≡ true
            → All (Later (update phase c (suc (phase c))) a d) items) holds c (λ s. false) (λ a s aw h. true≢false h)
            (λ d n a s aw h. subst (λ q. All (λ m. OnLink a d m.item → q ≤ m.phase) items)
            (sym (update_other phase c (suc (phase c)) d n)) (i.heard d a s aw h));
        behind =
            update_all (λ d g. (a s : ℕ) → awaited s d ≡ some a → g s ≡ true
            → update phase c (suc (phase c)) d ≤ update phase c (suc (phase c)) a) holds c (λ s. false)
            (λ a s aw h. true≢false h)
            (λ d n a s aw h. omega (arith, update_other phase c (suc (phase c)) d n, i.behind d a s aw h, grows a));
        partner = i.partner;
        window = both items i.partner i.window (λ a s aw. i.heard c a s aw (st a s aw));
      }
    where
      grows : (y : ℕ) → phase y ≤ update phase c (suc (phase c)) y
      grows = update_all (λ y x. phase y ≤ x) phase c (suc (phase c)) (omega arith) (λ y n. omega arith)

      one : (m : Dated) (s : ℕ) → awaited s m.item.to ≡ some m.item.from → phase m.item.to ≤ suc m.phase
          → ((a s : ℕ) → awaited s c ≡ some a → OnLink a c m.item → phase c ≤ m.phase) → Dec (m.item.to ≡ c)
          → update phase c (suc (phase c)) m.item.to ≤ suc m.phase
      one m s aw w h (yes z) =
          let aw' : awaited s c ≡ some m.item.from = subst (λ d. awaited s d ≡ some m.item.from) z aw in
          let k : update phase c (suc (phase c)) m.item.to ≡ suc (phase c) = ap (update phase c (suc (phase c))) z
          ∙ update_same phase c (suc (phase c)) in
          omega (arith, h m.item.from s aw' (refl, z))
      one m s aw w h (no z) = omega (arith, update_other phase c (suc (phase c)) m.item.to z)

      both : (ms : List Dated) → All Partnered ms → All (Close phase) ms
          → ((a s : ℕ) → awaited s c ≡ some a → All (Later phase a c) ms)
          → All (Close (update phase c (suc (phase c)))) ms
      both [] pa wi he = tt
      both (m ∷ ms) pa wi he = (
        (λ s q. one m s (pa.0 s q) (wi.0 s q) (λ a s aw. (he a s aw).0) (ℕ_discrete m.item.to c)),
        both ms pa.1 wi.1 (λ a s aw. (he a s aw).1),
      )
