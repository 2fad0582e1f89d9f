-- A call that is handed a slice which the caller keeps: the laws that a walk over a lent slice cites at each call. They
-- say nothing of a crate, and assume `Logic`, and that the table of calls is monotone under a frame, as every `Tables`
-- is.
--     opened, closed   a `&mut [T]` is opened, and closed at another list of the same length
--     looked, shut     a `&[T]` is looked into, and shut, where T is Copy
--     Changes          what a callee does with a `&mut [T]` at ys, at any lifetime: it returns some x, and leaves some
--                      list zs as long as ys, with φ x zs
--     calls-lent       the call rule for it, of a caller that holds the slice at ys beside its lifetime's token, and
--                      holds it at zs after the call: a lifetime is made, the slice is lent again for it, the callee
--                      runs, the lifetime is ended and the slice comes back
--     Reads            what a callee does that takes a `&[T]`
--     calls-read       of a caller that has a `&mut [T]`, which is shared out for the call and comes back as it was,
--                      where T is Copy
--     calls-shared     of a caller that has a `&[T]` itself, and passes a copy
--     Answers          what a callee does that takes plain values, and calls-plain, its call rule
--     calls-lent₂      of a callee that takes two `&mut [T]` at once (Changes₂)
--     changes, looks-at, answers     Changes, Reads and Answers from a contract that the callee meets
--     takes            what a function has at entry whose first parameter is its one reference
--     loc, fieldv, ptrv, lets, lands-in     a walk's commonest lines: a local's value, a field's, a slice's pointer; a
--                      local that is set, or takes a result
--     ends-local       the local whose cell is entry n is freed, whatever it holds
-- Operands are read with two entries in front of the rest of the context (with one at calls-plain, four at
-- calls-lent₂), so they stand at the places where they stood before the rule.
use mathlib.Core.Path.{◌≡◌, refl, sym, ap, subst, ◌∙◌}
use Prim.Native.Nat.{ℕ, zero, ◌+◌}
use mathlib.Core.List.{List, [], ◌∷◌}
use lib.ListN.{length}
use seplogic.Ra.Ura.{Ura}
use base.Fraction.{full_share}
use mathlib.Core.Option.{some as found}
use prog.Memory.{field_at}
use mir.Syntax.{Callee, Sym, Ty, Tys, ty_struct, ty_ref, Lifetime, Mutability, field, deref, addr_of, Place, place, copy}
use mir.Syntax.{Opd as Operand, Rv as RValue, Body, seq, assign, call, named}
use lib.Dec.{T as Holds}
use mir.Val.{Val, Vals, vstruct, vptr, has_ty, WT}
use mir.Fields.{get_v}
use base.Logic.{SProp, ent, sep, id⊢, emp, via, mono_l, mono_r, assoc', emp∗, comm∗}
use base.Fml.{Lft, GName, Share, Fml, ftrue, feq, fat, froom, fdies, fsep, flft, fdead, fobs, fauth, flent, fobor}
use base.Fml.{fhide, Incl, Incl-refl}
use ghost.Rules.{Toks, span}
use prog.Wp.{Env, Spot, spot_of, Calls, Loops}
use types.Logic.{Logic, sem, lfts}
use contract.Monad.{Fun, fact, fact_mono}
use sound.WpLaws.{FmC, fm→mono_c}
use types.Kit.{Item, ‵, raw, ◌⊛◌, some, later, given, mean, ⋆, nth, del, put, pull, Post, Goal, prop, Soaks}
use types.Kit.{runs, lands, frees, Seq, Step, step, ◌$◌, ◌∵◌, !, qed, move, keep, use0, use1, use2, use3, drop}
use types.Kit.{split, join, pick, learn, rewrite, fsplit, fjoin, feq_i, feq_l, frame, await, updating, now as at_once}
use types.Kit.{show, check, done}
use types.Run.{Opd, Opds, Rv, Walks, look, init, stop, hop, fld, from, load, addr, assigns, land}
use types.Part.{Part, whole, sub, look_in}
use types.Tokens.{lft_new, lft_end, lent_back}
use types.SemTy.{cells, Arr}
use types.Share.{arr_parts}
use denote.RattleType.{RattleType, RowLaws}
use denote.Shadow.{pure_l, pure_i}
use denote.Memory.{mem, shares}
use denote.Bor.{Bor}
use denote.Ref.{MutBor}
use denote.Copied.{Copied}
use denote.Opens.{Shut}
use denote.Slice.{slice_val, slice_ty, MutSlice, ShrSlice, heres, Room, finally, shr_slice_at, mut_slice_at, coded_holeys, shr_slice_copy, elements_shared}
use denote.Lend.{Held, lends_slice, slice_back, lends_shr_slice}
use denote.Index.{row, whole_out, whole_in, opens_slice, closes_slice, looks_slice, shuts_slice}
use denote.Laws.{Is, Tells, shows}
use denote.Steps.{only, nothing, heard, facts}
use denote.Triple.Call.{calls_from}
use denote.Triple.Statement.{Contract, Triple}
use denote.Triple.Walked.{says, needs}

-- a reference to the elements at (b, o), under a name, at a list
abbrev pub at_list : (R : RattleType) (b o : ℕ) → GName → List R.Denot → MutBor (List R.Denot)
at_list R b o δ ys = record { ref_ptr = (b, o); ghost_name = δ; now = ys }

-- a shared reference to the elements at (b, o), at a list
abbrev pub at_shared : (R : RattleType) (b o : ℕ) → List R.Denot → Bor (List R.Denot)
at_shared R b o ys = record { ref_ptr = (b, o); now = ys }

-- the machine values are the pointer's and the count's, and the elements fit into memory
abbrev pub Sits : (R : RattleType) (b o : ℕ) → List R.Denot → List Val → Type 0
Sits R b o ys us = (us ≡ slice_val (b, o) (length ys) ∷ []) × Room R (length ys)

module _ (R : RattleType) (κ κ' : Lft) (q : Share) (γ : GName) (b o : ℕ) where
  -- what the holder of the `&κ mut [T]` keeps while it is lent again for κ' under γ₁
  abbrev pub LentAgain : GName → List R.Denot → Fml
  LentAgain γ₁ ys = fsep (flent κ' (Held R (length ys) b o γ₁))
      (fsep (fobor κ q (Held R (length ys) b o γ)) (fsep (fobs γ ((coded_holeys R).code (heres R ys)))
      (fauth γ ((coded_holeys R).code (heres R ys)))))

  -- the same while it is shared out for κ'
  abbrev pub SharedOut : List R.Denot → Fml
  SharedOut ys = fsep (flent κ' ((arr_parts (shares R) (length ys)).part full_share ys b o))
      (fsep (fobor κ q (Held R (length ys) b o γ)) (fsep (fobs γ ((coded_holeys R).code (heres R ys)))
      (fauth γ ((coded_holeys R).code (heres R ys)))))

  module _ {M : Type 1} {𝓤 : Ura M} (𝓛 : Logic 𝓤) (ys : List R.Denot)
      (us : List Val) where
    open 𝓛 use {H, A}

    abbrev Again : Item 𝓤
    Again = given (Sits R b o ys us)
        (some (λ (δ : GName). ‵ ((MutSlice (named 0) κ' R).own_val (at_list R b o δ ys) us) ⊛ ‵ (LentAgain δ ys)))

    lends_again : ent 𝓤 (sep 𝓤 (sem 𝓛 ((MutSlice (named 0) κ R).own_val (at_list R b o γ ys) us)) (A.lft κ q))
        (mean 𝓛 (later Again))
    lends_again =
        qed 𝓛 (‵ ((MutSlice (named 0) κ R).own_val (at_list R b o γ ys) us) ∷ ‵ (flft κ q) ∷ []) ∵
        updating ! $ fsplit ! $ pure_l ! (mut_slice_at R (at_list R b o γ ys) us)
        (λ p. fsplit ! $ opens_slice ! tt R ys b o $
        use1 𝓛 (‵ (cells (mem R) ys b o)) (whole_in 𝓛 R ys b o) $
        use1 𝓛 (later (some (λ (δ : GName). ‵ ((MutSlice (named 0) κ' R).own_val (at_list R b o δ ys)
        (slice_val (b, o) (length ys) ∷ [])) ⊛ ‵ (flent κ' (Held R (length ys) b o δ)))))
        (lends_slice 𝓛 R (named 0) κ' ys b o p.1) $ await ! tt $ pick ! (λ δ. split ! $
        rewrite ! 0 (λ (vs : List Val). ‵ ((MutSlice (named 0) κ' R).own_val (at_list R b o δ ys) vs)) (sym p.0) refl $
        at_once ! $ check ! p $
        show ! (λ (δ' : GName). sep 𝓤 (sem 𝓛 ((MutSlice (named 0) κ' R).own_val (at_list R b o δ' ys) us))
        (sem 𝓛 (LentAgain δ' ys))) δ $ frame ! $
        move ! (2 ∷ 3 ∷ []) $ fjoin ! $ move ! (2 ∷ 0 ∷ []) $ fjoin ! $ move ! (1 ∷ 0 ∷ []) $ fjoin ! $ done !))

    comes_back : Sits R b o ys us → (δ : GName) (zs : List R.Denot) → length zs ≡ length ys
        → ent 𝓤 (sep 𝓤 (A.dead κ') (sep 𝓤 (sem 𝓛 (LentAgain δ ys)) (sem 𝓛 (finally R δ zs))))
        (H.⇛ (sep 𝓤 (sem 𝓛 ((MutSlice (named 0) κ R).own_val (at_list R b o γ zs) us)) (A.lft κ q)))
    comes_back p δ zs e =
        qed 𝓛 (‵ (fdead κ') ∷ ‵ (LentAgain δ ys) ∷ ‵ (finally R δ zs) ∷ []) ∵
        updating ! $ move ! (1 ∷ []) $ fsplit ! $ move ! (2 ∷ 0 ∷ 3 ∷ []) $
        use3 𝓛 (later (‵ ((Arr (mem R) (length ys)).own_at zs b o))) (slice_back 𝓛 R κ' δ zs (length ys) b o) $
        await ! tt $ fsplit ! $ drop ! $ use1 𝓛 (‵ (row R full_share zs b o)) (whole_out 𝓛 R zs b o) $
        move ! (1 ∷ []) $ fsplit ! $ move ! (1 ∷ []) $ fsplit ! $ move ! (3 ∷ 2 ∷ 0 ∷ 1 ∷ []) $
        closes_slice ! tt R ys zs e b o $ at_once ! $
        fjoin ! $ pure_i ! (mut_slice_at R (at_list R b o γ zs) us) (tt, (tt, tt))
        (p.0 ∙ ap (λ (m : ℕ). slice_val (b, o) m ∷ []) (sym e), subst (Room R) (sym e) p.1) $ fjoin ! $ done !

    abbrev Out : Toks → Item 𝓤
    Out ts = given (Sits R b o ys us)
        (‵ ((ShrSlice (named 0) κ' R).own_val (at_shared R b o ys) us) ⊛ (‵ (SharedOut ys) ⊛ raw (lfts 𝓛 ts)))

    shares_out : Copied 𝓛 R → (ts : Toks) → Incl (span ts) κ'
        → ent 𝓤 (sep 𝓤 (sem 𝓛 ((MutSlice (named 0) κ R).own_val (at_list R b o γ ys) us))
        (sep 𝓤 (A.lft κ q) (lfts 𝓛 ts)))
        (mean 𝓛 (later (Out ts)))
    shares_out c ts inc =
        qed 𝓛 (‵ ((MutSlice (named 0) κ R).own_val (at_list R b o γ ys) us) ∷ ‵ (flft κ q) ∷ raw (lfts 𝓛 ts) ∷ []) ∵
        updating ! $ fsplit ! $ pure_l ! (mut_slice_at R (at_list R b o γ ys) us)
        (λ p. fsplit ! $ opens_slice ! tt R ys b o $
        feq_i ! ℕ (length ys) (length ys) refl $ fjoin ! $ move ! (0 ∷ 4 ∷ []) $
        use2 𝓛 (later ((‵ ((ShrSlice (named 0) κ' R).own_val (at_shared R b o ys) (slice_val (b, o) (length ys) ∷ []))
        ⊛ ‵ (flent κ' ((arr_parts (shares R) (length ys)).part full_share ys b o))) ⊛ raw (lfts 𝓛 ts)))
        (lends_shr_slice 𝓛 R (named 0) κ' full_share ys b o p.1 κ' (c.shares full_share κ') ts inc inc) $ await ! tt $
        split ! $ split ! $
        rewrite ! 0 (λ (vs : List Val). ‵ ((ShrSlice (named 0) κ' R).own_val (at_shared R b o ys) vs)) (sym p.0) refl $
        at_once ! $ check ! p $ frame ! $
        move ! (3 ∷ 4 ∷ []) $ fjoin ! $ move ! (3 ∷ 0 ∷ []) $ fjoin ! $ move ! (1 ∷ 0 ∷ []) $ fjoin ! $ frame ! $ done !)

    as_it_was : Sits R b o ys us → ent 𝓤 (sep 𝓤 (A.dead κ') (sem 𝓛 (SharedOut ys)))
        (H.⇛ (sep 𝓤 (sem 𝓛 ((MutSlice (named 0) κ R).own_val (at_list R b o γ ys) us)) (A.lft κ q)))
    as_it_was p =
        qed 𝓛 (‵ (fdead κ') ∷ ‵ (SharedOut ys) ∷ []) ∵ updating ! $ move ! (1 ∷ []) $ fsplit ! $ move ! (2 ∷ 0 ∷ []) $
        lent_back ! tt $ fsplit ! $ drop ! $
        move ! (1 ∷ []) $ fsplit ! $ move ! (1 ∷ []) $ fsplit ! $ move ! (3 ∷ 2 ∷ 0 ∷ 1 ∷ []) $
        closes_slice ! tt R ys ys refl b o $ at_once ! $
        fjoin ! $ pure_i ! (mut_slice_at R (at_list R b o γ ys) us) (tt, (tt, tt)) p $ fjoin ! $ done !

-- ---- a `&mut [T]` is opened, and closed at another list of the same length
abbrev Open : {M : Type 1} (𝓤 : Ura M) (R : RattleType) (κ : Lft) (q : Share) (γ : GName) (b o : ℕ) → List R.Denot
    → List R.Denot → List (Item 𝓤) → List (Item 𝓤)
Open 𝓤 R κ q γ b o ys zs Γ = ‵ (row R full_share zs b o) ∷ ‵ (fobor κ q (Held R (length ys) b o γ))
    ∷ ‵ (fobs γ ((coded_holeys R).code (heres R ys))) ∷ ‵ (fauth γ ((coded_holeys R).code (heres R ys))) ∷ Γ

module _ {M : Type 1} {𝓤 : Ura M} {𝓛 : Logic 𝓤} {K : Type 0} {Γ : List (Item 𝓤)}
    {G : Goal 𝓤 𝓛.H} (t : K) (z : Soaks G) (R : RattleType) (κ : Lft) (q : Share) (γ : GName) (b o : ℕ) (us : List Val)
    (ys : List R.Denot) where
  pub opened : (Sits R b o ys us → Seq K 𝓛 (Open 𝓤 R κ q γ b o ys ys Γ) G)
      → Seq K 𝓛 (‵ ((MutSlice (named 0) κ R).own_val (at_list R b o γ ys) us) ∷ ‵ (flft κ q) ∷ Γ) G
  opened k = fsplit t $ pure_l t (mut_slice_at R (at_list R b o γ ys) us) (λ p. fsplit t $ opens_slice t z R ys b o $ k p)

  pub closed : Sits R b o ys us → (zs : List R.Denot) → length zs ≡ length ys
      → Step K 𝓛 (‵ ((MutSlice (named 0) κ R).own_val (at_list R b o γ zs) us) ∷ ‵ (flft κ q) ∷ Γ) G
      (Open 𝓤 R κ q γ b o ys zs Γ) G
  closed p zs e = step (λ s. closes_slice t z R ys zs e b o $ fjoin t $
      pure_i t (mut_slice_at R (at_list R b o γ zs) us) (tt, (tt, tt))
      (p.0 ∙ ap (λ (m : ℕ). slice_val (b, o) m ∷ []) (sym e), subst (Room R) (sym e) p.1) $ fjoin t $ s)

-- ---- a `&[T]` is looked into, and shut
abbrev Looked : {M : Type 1} {𝓤 : Ura M} (𝓛 : Logic 𝓤) (R : RattleType) (κ : Lft) (q : Share) (b o : ℕ) → Share
    → List R.Denot → List (Item 𝓤) → List (Item 𝓤)
Looked 𝓛 R κ q b o q' ys Γ =
    ‵ (row R q' ys b o) ∷ Shut 𝓛 κ q (row R q' ys b o) ∷ ‵ (fhide (elements_shared R ys b o κ)) ∷ Γ

module _ {M : Type 1} {𝓤 : Ura M} {𝓛 : Logic 𝓤} {K : Type 0} {Γ : List (Item 𝓤)}
    {G : Goal 𝓤 𝓛.H} (t : K) (z : Soaks G) (R : RattleType) (κ : Lft) (q : Share) (b o : ℕ) (us : List Val)
    (ys : List R.Denot) where
  pub looked : Copied 𝓛 R
      → ((q' : Share) → Sits R b o ys us → Seq K 𝓛 (Looked 𝓛 R κ q b o q' ys Γ) G)
      → Seq K 𝓛 (‵ ((ShrSlice (named 0) κ R).own_val (at_shared R b o ys) us) ∷ ‵ (flft κ q) ∷ Γ) G
  looked c k = fsplit t $ pure_l t (shr_slice_at R (at_shared R b o ys) us) (λ p.
      looks_slice t z R c ys b o (λ q'. k q' p))

  pub shut : Sits R b o ys us → (q' : Share)
      → Step K 𝓛 (‵ ((ShrSlice (named 0) κ R).own_val (at_shared R b o ys) us) ∷ ‵ (flft κ q) ∷ Γ) G
      (Looked 𝓛 R κ q b o q' ys Γ) G
  shut p q' = step (λ s. shuts_slice t z R q' ys b o $ move t (1 ∷ []) $
      pure_i t (shr_slice_at R (at_shared R b o ys) us) (tt, (tt, tt)) p $ fjoin t $ s)

-- ---- what a callee does, and the call rules. Res is the type of its result, and vals how a result's machine values
-- are spelled
module _ {M : Type 1} {𝓤 : Ura M} (𝓛 : Logic 𝓤) (run : Fun 𝓤) (Res : RattleType)
    (vals : Res.Denot → List Val) where
  open 𝓛 use {A}

  module _ (R : RattleType) (b o : ℕ) (ys : List R.Denot) (us : List Val) where
    -- what is had once the call that was lent the slice for κ under δ has returned w
    abbrev pub Left : (Res.Denot → List R.Denot → Type 0) → Lft → Share → GName → Val → Item 𝓤
    Left φ κ q δ w = later
        (some (λ (x : Res.Denot). some (λ (zs : List R.Denot).
        (‵ (flft κ q) ⊛ (‵ (finally R δ zs) ⊛ ‵ (Res.own_val x (w ∷ [])))) ⊛ raw
        (fact 𝓤 ((length zs ≡ length ys) × φ x zs)))))

    pub record Changes (φ : Res.Denot → List R.Denot → Type 0) (vs : List Val) : Type 1 where
      pub tells : Tells Res (Is Res) vals
      pub does : (κ : Lft) (q : Share) (δ : GName)
          → ent 𝓤 (sep 𝓤 (A.lft κ q) (sem 𝓛 ((MutSlice (named 0) κ R).own_val (at_list R b o δ ys) us)))
          (run vs (λ w. mean 𝓛 (Left φ κ q δ w)))

    abbrev pub Seen : (Res.Denot → Type 0) → Lft → Share → Val → Item 𝓤
    Seen φ κ q w = later (some (λ (x : Res.Denot). (‵ (flft κ q) ⊛ ‵ (Res.own_val x (w ∷ []))) ⊛ raw (fact 𝓤 (φ x))))

    pub record Reads (φ : Res.Denot → Type 0) (vs : List Val) : Type 1 where
      pub tells : Tells Res (Is Res) vals
      pub does : (κ : Lft) (q : Share)
          → ent 𝓤 (sep 𝓤 (A.lft κ q) (sem 𝓛 ((ShrSlice (named 0) κ R).own_val (at_shared R b o ys) us)))
          (run vs (λ w. mean 𝓛 (Seen φ κ q w)))

  abbrev pub Told : (Res.Denot → Type 0) → Val → Item 𝓤
  Told φ w = later (some (λ (x : Res.Denot). ‵ (Res.own_val x (w ∷ [])) ⊛ raw (fact 𝓤 (φ x))))

  pub record Answers (φ : Res.Denot → Type 0) (vs : List Val) : Type 1 where
    pub tells : Tells Res (Is Res) vals
    pub does : ent 𝓤 (emp 𝓤) (run vs (λ w. mean 𝓛 (Told φ w)))

-- what holds of nothing, side by side, and beside what is to be shown
pub both_hold : {M : Type 1} (𝓤 : Ura M) {P Q : SProp 𝓤} → ent 𝓤 (emp 𝓤) P → ent 𝓤 (emp 𝓤) Q → ent 𝓤 (emp 𝓤) (sep 𝓤 P Q)
both_hold 𝓤 {P} {Q} h k = via 𝓤 (sep 𝓤 (emp 𝓤) (emp 𝓤)) (emp∗ 𝓤 (emp 𝓤))
    (via 𝓤 (sep 𝓤 P (emp 𝓤)) (mono_l 𝓤 (emp 𝓤) h) (mono_r 𝓤 P k))

pub holds : {M : Type 1} {𝓤 : Ura M} {𝓛 : Logic 𝓤} {K : Type 0} {Γ : List (Item 𝓤)} → K
    → {P Q : SProp 𝓤} → ent 𝓤 (emp 𝓤) Q → Step K 𝓛 Γ (prop P) Γ (prop (sep 𝓤 P Q))
holds {𝓤 = 𝓤} t {P} {Q} h =
    step (λ s. record {
      prf =
          via 𝓤 P s.prf (via 𝓤 (sep 𝓤 (emp 𝓤) P) (emp∗ 𝓤 P) (via 𝓤 (sep 𝓤 Q P) (mono_l 𝓤 P h) (comm∗ 𝓤 Q P)));
    })

-- two facts side by side are one
pub both_facts : {M : Type 1} (𝓤 : Ura M) (a b : Type 0) → ent 𝓤 (sep 𝓤 (fact 𝓤 a) (fact 𝓤 b)) (fact 𝓤 (a × b))
both_facts 𝓤 a b = needs 𝓤 b (fact 𝓤 a) (λ y. fact_mono 𝓤 a (a × b) (λ x. (x, y)))

pub more_facts : {M : Type 1} (𝓤 : Ura M) (a b : Type 0) (P : SProp 𝓤) → ent 𝓤 P (fact 𝓤 b)
    → ent 𝓤 (sep 𝓤 (fact 𝓤 a) P) (fact 𝓤 (a × b))
more_facts 𝓤 a b P h = via 𝓤 (sep 𝓤 (fact 𝓤 a) (fact 𝓤 b)) (mono_r 𝓤 (fact 𝓤 a) h) (both_facts 𝓤 a b)

-- what an `ensured` says of the last list of a `&mut [T]`, which stands at some place of the last values
pub last_at : {M : Type 1} {𝓤 : Ura M} (𝓛 : Logic 𝓤) (R : RattleType)
    (ys : List R.Denot) (δ : GName) (Z : Type 0) (at : Z → List R.Denot) (L : Z → Fml) (said : Z → SProp 𝓤)
    (φ : List R.Denot → Type 0)
    → ((z : Z) → ent 𝓤 (sem 𝓛 (L z)) (sem 𝓛 (fsep (finally R δ (at z)) (feq ℕ (length (at z)) (length ys)))))
    → ((z : Z) → ent 𝓤 (said z) (fact 𝓤 (φ (at z))))
    → ent 𝓤 (mean 𝓛 (some (λ (z : Z). ‵ (L z) ⊛ raw (said z))))
    (mean 𝓛 (some (λ (zs : List R.Denot). ‵ (finally R δ zs) ⊛ raw
    (fact 𝓤 ((length zs ≡ length ys) × φ zs)))))
last_at {𝓤 = 𝓤} 𝓛 R ys δ Z at L said φ k told =
    qed 𝓛 (some (λ (z : Z). ‵ (L z) ⊛ raw (said z)) ∷ []) ∵ pick !
    (λ z. split ! $ move ! (1 ∷ []) $ use1 𝓛 (raw (fact 𝓤 (φ (at z)))) (told z) $ heard ! (φ (at z)) (λ e.
    use1 𝓛 (‵ (fsep (finally R δ (at z)) (feq ℕ (length (at z)) (length ys)))) (k z) $ fsplit ! $ move ! (1 ∷ []) $
    feq_l ! (λ l. show ! (λ (zs : List R.Denot). mean 𝓛
    (‵ (finally R δ zs) ⊛ raw (fact 𝓤 ((length zs ≡ length ys) × φ zs)))) (at z) $ says ! (l, e) $ done !)))

-- of one that is the first parameter, where the `ensures` states one fact
pub last_is : {M : Type 1} {𝓤 : Ura M} (𝓛 : Logic 𝓤) (R : RattleType)
    (ys : List R.Denot) (δ : GName) (Z : Type 0) (L : List R.Denot × Z → Fml) (φ : List R.Denot → Type 0)
    → ((z : List R.Denot × Z)
    → ent 𝓤 (sem 𝓛 (L z)) (sem 𝓛 (fsep (finally R δ z.0) (feq ℕ (length z.0) (length ys)))))
    → ent 𝓤 (mean 𝓛 (some (λ (z : List R.Denot × Z). ‵ (L z) ⊛ raw (fact 𝓤 (φ z.0)))))
    (mean 𝓛 (some (λ (zs : List R.Denot). ‵ (finally R δ zs) ⊛ raw
    (fact 𝓤 ((length zs ≡ length ys) × φ zs)))))
last_is {𝓤 = 𝓤} 𝓛 R ys δ Z L φ k = last_at 𝓛 R ys δ (List R.Denot × Z) (λ z. z.0) L (λ z. fact 𝓤 (φ z.0)) φ k
    (λ z. id⊢ 𝓤 _)

-- and where no parameter has a last value
pub said_is : {M : Type 1} {𝓤 : Ura M} (𝓛 : Logic 𝓤) (Z : Type 0) (more : Z → Fml)
    (φ : Type 0) → ent 𝓤 (mean 𝓛 (some (λ (z : Z). ‵ (more z) ⊛ raw (fact 𝓤 φ)))) (fact 𝓤 φ)
said_is {𝓤 = 𝓤} 𝓛 Z more φ = qed 𝓛 (some (λ (z : Z). ‵ (more z) ⊛ raw (fact 𝓤 φ)) ∷ []) ∵
    pick ! (λ z. split ! $ drop ! $ done !)

-- ---- the three from a contract c that the callee meets. x is what c's triple binds outside, at a lifetime and a name
-- of the call; E is its `ensured`
module _ {M : Type 1} {𝓤 : Ura M} (𝓛 : Logic 𝓤) (C : Calls 𝓤 𝓛.H)
    (fm : FmC 𝓤 𝓛.H 𝓛.laws C) (f : Callee) (c : Contract 𝓤) (known : Triple 𝓤 (C f) c) (Res : RattleType)
    (vals : Res.Denot → List Val) (tl : Tells Res (Is Res) vals) where
  open 𝓛 use {H, A}

  pub runs_so : (y : c.Ghost) (P : SProp 𝓤) (Q : Val → SProp 𝓤) → ent 𝓤 P (c.pre y)
      → ((w : Val) → ent 𝓤 (c.post y w) (Q w)) → ent 𝓤 P (C f (c.args y) Q)
  runs_so y P Q goes leaves =
      via 𝓤 (c.pre y) goes (via 𝓤 (C f (c.args y) (c.post y)) (known y)
      (fm→mono_c 𝓤 H 𝓛.laws C fm f (c.args y) (c.post y) Q leaves))

  module _ (R : RattleType) (b o : ℕ) (ys : List R.Denot) (us vs : List Val) (x : Lft → Share → GName → c.Ghost)
      (e : (κ : Lft) (q : Share) (δ : GName) → c.args (x κ q δ) ≡ vs) (E : Lft → GName → Res.Denot → SProp 𝓤) where
    -- what the post of a contract with one lifetime is, before its `ensured` is opened
    abbrev Posts : Lft → Share → GName → Val → Item 𝓤
    Posts κ q δ w = later
        (some (λ (r : Res.Denot). ((‵ (flft κ q) ⊛ ‵ ftrue) ⊛ ‵ (Res.own_val r (w ∷ []))) ⊛ raw (E κ δ r)))

    pub changes : (φ : Res.Denot → List R.Denot → Type 0) →
        ((κ : Lft) (q : Share) (δ : GName)
        → ent 𝓤 (sep 𝓤 (A.lft κ q) (sem 𝓛 ((MutSlice (named 0) κ R).own_val (at_list R b o δ ys) us)))
        (c.pre (x κ q δ)))
        → ((κ : Lft) (q : Share) (δ : GName) (w : Val) → ent 𝓤 (c.post (x κ q δ) w) (mean 𝓛 (Posts κ q δ w)))
        → ((κ : Lft) (q : Share) (δ : GName) (r : Res.Denot) → ent 𝓤 (E κ δ r)
        (mean 𝓛 (some (λ (zs : List R.Denot). ‵ (finally R δ zs) ⊛ raw
        (fact 𝓤 ((length zs ≡ length ys) × φ r zs))))))
        → Changes 𝓛 (C f) Res vals R b o ys us φ vs
    changes φ goes posts told =
        record {
          tells = tl;
          does = λ κ q δ. subst (λ (ws : List Val). ent 𝓤 (Lent κ q δ) (C f ws (Q κ q δ))) (e κ q δ)
              (runs_so (x κ q δ) (Lent κ q δ) (Q κ q δ) (goes κ q δ)
              (λ w. via 𝓤 (mean 𝓛 (Posts κ q δ w)) (posts κ q δ w)
              (leaves κ q δ w)));
        }
      where
        Lent : Lft → Share → GName → SProp 𝓤
        Lent κ q δ = sep 𝓤 (A.lft κ q) (sem 𝓛 ((MutSlice (named 0) κ R).own_val (at_list R b o δ ys) us))

        Q : Lft → Share → GName → Val → SProp 𝓤
        Q κ q δ w = mean 𝓛 (Left 𝓛 (C f) Res vals R b o ys us φ κ q δ w)

        leaves : (κ : Lft) (q : Share) (δ : GName) (w : Val) → ent 𝓤 (mean 𝓛 (Posts κ q δ w)) (Q κ q δ w)
        leaves κ q δ w =
            qed 𝓛 (Posts κ q δ w ∷ []) ∵ updating ! $ await ! tt $ pick ! (λ r. split ! $ move ! (1 ∷ []) $
            use1 𝓛 (some (λ (zs : List R.Denot). ‵ (finally R δ zs) ⊛ raw
            (fact 𝓤 ((length zs ≡ length ys) × φ r zs)))) (told κ q δ r) $
            pick ! (λ zs. split ! $ move ! (1 ∷ []) $ heard ! ((length zs ≡ length ys) × φ r zs) (λ h.
            move ! (1 ∷ []) $ split ! $ split ! $ move ! (0 ∷ 3 ∷ 2 ∷ []) $ at_once ! $
            show ! (λ (r' : Res.Denot). mean 𝓛
            (some (λ (zs' : List R.Denot). (‵ (flft κ q) ⊛ (‵ (finally R δ zs') ⊛ ‵ (Res.own_val r' (w ∷ []))))
            ⊛ raw (fact 𝓤 ((length zs' ≡ length ys) × φ r' zs'))))) r $
            show ! (λ (zs' : List R.Denot). mean 𝓛
            ((‵ (flft κ q) ⊛ (‵ (finally R δ zs') ⊛ ‵ (Res.own_val r (w ∷ [])))) ⊛ raw
            (fact 𝓤 ((length zs' ≡ length ys) × φ r zs')))) zs $
            says ! h $ keep ! (0 ∷ 1 ∷ 2 ∷ []) $ done !)))

  module _ (R : RattleType) (b o : ℕ) (ys : List R.Denot) (us vs : List Val) (x : Lft → Share → c.Ghost)
      (e : (κ : Lft) (q : Share) → c.args (x κ q) ≡ vs) (E : Lft → Res.Denot → SProp 𝓤) where
    abbrev Shows : Lft → Share → Val → Item 𝓤
    Shows κ q w = later
        (some (λ (r : Res.Denot). ((‵ (flft κ q) ⊛ ‵ ftrue) ⊛ ‵ (Res.own_val r (w ∷ []))) ⊛ raw (E κ r)))

    pub looks_at_lem : (φ : Res.Denot → Type 0) → ((κ : Lft) (q : Share)
        → ent 𝓤 (sep 𝓤 (A.lft κ q) (sem 𝓛 ((ShrSlice (named 0) κ R).own_val (at_shared R b o ys) us)))
        (c.pre (x κ q)))
        → ((κ : Lft) (q : Share) (w : Val) → ent 𝓤 (c.post (x κ q) w) (mean 𝓛 (Shows κ q w)))
        → ((κ : Lft) (r : Res.Denot) → ent 𝓤 (E κ r) (fact 𝓤 (φ r)))
        → Reads 𝓛 (C f) Res vals R b o ys us φ vs
    looks_at_lem φ goes posts told =
        record {
          tells = tl;
          does = λ κ q. subst (λ (ws : List Val). ent 𝓤 (Lent κ q) (C f ws (Q κ q))) (e κ q)
              (runs_so (x κ q) (Lent κ q) (Q κ q) (goes κ q) (λ w. via 𝓤 (mean 𝓛 (Shows κ q w))
              (posts κ q w)
              (leaves κ q w)));
        }
      where
        Lent : Lft → Share → SProp 𝓤
        Lent κ q = sep 𝓤 (A.lft κ q) (sem 𝓛 ((ShrSlice (named 0) κ R).own_val (at_shared R b o ys) us))

        Q : Lft → Share → Val → SProp 𝓤
        Q κ q w = mean 𝓛 (Seen 𝓛 (C f) Res vals R b o ys us φ κ q w)

        leaves : (κ : Lft) (q : Share) (w : Val) → ent 𝓤 (mean 𝓛 (Shows κ q w)) (Q κ q w)
        leaves κ q w =
            qed 𝓛 (Shows κ q w ∷ []) ∵ updating ! $ await ! tt $
            pick ! (λ r. split ! $ move ! (1 ∷ []) $ use1 𝓛 (raw (fact 𝓤 (φ r))) (told κ r) $
            heard ! (φ r) (λ h. split ! $ split ! $ move ! (0 ∷ 2 ∷ []) $ at_once ! $
            show ! (λ (r' : Res.Denot). mean 𝓛 ((‵ (flft κ q) ⊛ ‵ (Res.own_val r' (w ∷ []))) ⊛ raw (fact 𝓤 (φ r'))))
            r $ says ! h $ keep ! (0 ∷ 1 ∷ []) $ done !))

  pub answers : (y : c.Ghost) (E : Res.Denot → SProp 𝓤) (φ : Res.Denot → Type 0) → ent 𝓤 (emp 𝓤) (c.pre y)
      → ((w : Val) → ent 𝓤 (c.post y w)
      (mean 𝓛 (later (some (λ (r : Res.Denot). (‵ ftrue ⊛ ‵ (Res.own_val r (w ∷ []))) ⊛ raw (E r))))))
      → ((r : Res.Denot) → ent 𝓤 (E r) (fact 𝓤 (φ r)))
      → Answers 𝓛 (C f) Res vals φ (c.args y)
  answers y E φ goes posts told = record {
    tells = tl;
    does =
        runs_so y (emp 𝓤) (λ w. mean 𝓛 (Told 𝓛 (C f) Res vals φ w)) goes
        (λ w. via 𝓤 (mean 𝓛 (Posted w)) (posts w) (leaves w));
  }
    where
      Posted : Val → Item 𝓤
      Posted w = later (some (λ (r : Res.Denot). (‵ ftrue ⊛ ‵ (Res.own_val r (w ∷ []))) ⊛ raw (E r)))

      leaves : (w : Val) → ent 𝓤 (mean 𝓛 (Posted w)) (mean 𝓛 (Told 𝓛 (C f) Res vals φ w))
      leaves w =
          qed 𝓛 (Posted w ∷ []) ∵ updating ! $ await ! tt $ pick !
          (λ r. split ! $ move ! (1 ∷ []) $ use1 𝓛 (raw (fact 𝓤 (φ r))) (told r) $
          heard ! (φ r) (λ h. split ! $ drop ! $ at_once ! $
          show ! (λ (r' : Res.Denot). mean 𝓛 (‵ (Res.own_val r' (w ∷ [])) ⊛ raw (fact 𝓤 (φ r')))) r $ says ! h $
          done !))

module _ {M : Type 1} {𝓤 : Ura M} {𝓛 : Logic 𝓤} {K : Type 0} {Γ : List (Item 𝓤)}
    {E : Env 𝓤 𝓛.H} {C : Calls 𝓤 𝓛.H} {Λ : Loops 𝓤 𝓛.H} {Q : Post 𝓤 𝓛.H} {d : Place} {rest : Body} where
  -- the result's machine value is the one that is spelled, and what a result owns is let go
  pub lands_as : K → (Res : RattleType) (vals : Res.Denot → List Val) → Tells Res (Is Res) vals
      → (x : Res.Denot) (w : Val) → (Is Res x (vals x) → Seq K 𝓛 Γ (lands C Λ E d (only (vals x)) rest Q))
      → Seq K 𝓛 (‵ (Res.own_val x (w ∷ [])) ∷ Γ) (lands C Λ E d w rest Q)
  lands_as t Res vals tl x w k = facts t Res (Is Res) (shows 𝓛 Res) x (w ∷ [])
      (λ u. subst (λ (v : Val). Seq K 𝓛 Γ (lands C Λ E d v rest Q)) (sym (ap only (tl x (w ∷ []) u)))
      (k (subst (Is Res x) (tl x (w ∷ []) u) u)))

-- ---- the two halves of a loan, for a call that takes more than one `&mut [T]`
module _ {M : Type 1} {𝓤 : Ura M} {𝓛 : Logic 𝓤} {K : Type 0} {Γ : List (Item 𝓤)}
    {G : Goal 𝓤 𝓛.H} (t : K) (z : Soaks G) (R : RattleType) (κ : Lft) (q : Share) (γ : GName) (b o : ℕ) (us : List Val)
    (ys : List R.Denot) where
  -- the slice is lent again for a new lifetime ν under δ
  pub lend : ((ν : ℕ) (δ : GName) → Sits R b o ys us → Seq K 𝓛
      (‵ (flft (ν ∷ []) full_share) ∷ ‵ ((MutSlice (named 0) (ν ∷ []) R).own_val (at_list R b o δ ys) us)
      ∷ ‵ (LentAgain R κ (ν ∷ []) q γ b o δ ys) ∷ Γ) G)
      → Seq K 𝓛 (‵ ((MutSlice (named 0) κ R).own_val (at_list R b o γ ys) us) ∷ ‵ (flft κ q) ∷ Γ) G
  lend k = lft_new t z (λ ν. move t (1 ∷ 2 ∷ []) $ use2 𝓛 (later (Again R κ (ν ∷ []) q γ b o 𝓛 ys us))
      (lends_again R κ (ν ∷ []) q γ b o 𝓛 ys us) $ await t z $
      learn t (λ p. pick t (λ δ. split t $ move t (2 ∷ 0 ∷ []) $ k ν δ p)))

  -- ν is ended, and the slice comes back at the list zs that it was left at
  pub back : Sits R b o ys us → (ν : ℕ) (δ : GName) (zs : List R.Denot) → length zs ≡ length ys
      → Step K 𝓛 (‵ ((MutSlice (named 0) κ R).own_val (at_list R b o γ zs) us) ∷ ‵ (flft κ q) ∷ Γ) G
      (‵ (flft (ν ∷ []) full_share) ∷ ‵ (finally R δ zs) ∷ ‵ (LentAgain R κ (ν ∷ []) q γ b o δ ys) ∷ Γ) G
  back p ν δ zs e = step (λ s. lft_end t z $ move t (0 ∷ 2 ∷ 1 ∷ []) $
      use3 𝓛 (later (‵ ((MutSlice (named 0) κ R).own_val (at_list R b o γ zs) us) ⊛ ‵ (flft κ q)))
      (comes_back R κ (ν ∷ []) q γ b o 𝓛 ys us p δ zs e) $ await t z $ split t $ s)

module _ {M : Type 1} {𝓤 : Ura M} {𝓛 : Logic 𝓤} {K : Type 0} {Γ : List (Item 𝓤)}
    {E : Env 𝓤 𝓛.H} {C : Calls 𝓤 𝓛.H} {Λ : Loops 𝓤 𝓛.H} {Q : Post 𝓤 𝓛.H} {d : Place} {rest : Body} where
  open 𝓛 use {H}

  module _ {Res : RattleType} {vals : Res.Denot → List Val} {f : Callee} {xs : List Operand} {vs : List Val} where
    module _ (t : K) (fm : FmC 𝓤 H 𝓛.laws C) (R : RattleType) (κ : Lft) (q : Share) (γ : GName) (b o : ℕ)
        (us : List Val) (ys : List R.Denot) where
      pub calls_lent : {φ : Res.Denot → List R.Denot → Type 0} → Changes 𝓛 (C f) Res vals R b o ys us φ vs
          → ((i j : Item 𝓤) → Opds K 𝓛 (i ∷ j ∷ Γ) E xs vs)
          → ((x : Res.Denot) (zs : List R.Denot) → length zs ≡ length ys → φ x zs → Is Res x (vals x)
          → Seq K 𝓛 (‵ ((MutSlice (named 0) κ R).own_val (at_list R b o γ zs) us) ∷ ‵ (flft κ q) ∷ Γ)
          (lands C Λ E d (only (vals x)) rest Q))
          → Seq K 𝓛 (‵ ((MutSlice (named 0) κ R).own_val (at_list R b o γ ys) us) ∷ ‵ (flft κ q) ∷ Γ)
          (runs C Λ E (seq (call f xs d) rest) Q)
      calls_lent {φ} ch os k =
          lend t tt R κ q γ b o us ys (λ ν δ p. join t $
          calls_from t fm (‵ (flft (ν ∷ []) full_share) ⊛ ‵ ((MutSlice (named 0) (ν ∷ []) R).own_val (at_list R b o δ ys) us))
          vs (λ w. mean 𝓛 (Left 𝓛 (C f) Res vals R b o ys us φ (ν ∷ []) full_share δ w))
          (ch.does (ν ∷ []) full_share δ) (os _ _) (λ w.
          use1 𝓛 (Left 𝓛 (C f) Res vals R b o ys us φ (ν ∷ []) full_share δ w) (id⊢ 𝓤 _) $ await t tt $
          pick t (λ x. pick t (λ zs. split t $ move t (1 ∷ []) $
          heard t ((length zs ≡ length ys) × φ x zs) (λ e. split t $ move t (1 ∷ []) $ split t $
          -- [the last list; the result; ν's token; what is kept; …]
          move t (1 ∷ 2 ∷ 0 ∷ []) $ lands_as t Res vals ch.tells x w
          (λ u. back t tt R κ q γ b o us ys p ν δ zs e.0 $ k x zs e.0 e.1 u))))))

      pub calls_read : Copied 𝓛 R → {φ : Res.Denot → Type 0} → Reads 𝓛 (C f) Res vals R b o ys us φ vs
          → ((i j : Item 𝓤) → Opds K 𝓛 (i ∷ j ∷ Γ) E xs vs)
          → ((x : Res.Denot) → φ x → Is Res x (vals x) → Seq K 𝓛
          (‵ ((MutSlice (named 0) κ R).own_val (at_list R b o γ ys) us) ∷ ‵ (flft κ q) ∷ Γ)
          (lands C Λ E d (only (vals x)) rest Q))
          → Seq K 𝓛 (‵ ((MutSlice (named 0) κ R).own_val (at_list R b o γ ys) us) ∷ ‵ (flft κ q) ∷ Γ)
          (runs C Λ E (seq (call f xs d) rest) Q)
      calls_read c {φ} ch os k =
          lft_new t tt (λ ν. use1 𝓛 (raw (lfts 𝓛 (Tok ν))) (id⊢ 𝓤 _) $ move t (1 ∷ 2 ∷ 0 ∷ []) $
          use3 𝓛 (later (Out R κ (ν ∷ []) q γ b o 𝓛 ys us (Tok ν)))
          (shares_out R κ (ν ∷ []) q γ b o 𝓛 ys us c (Tok ν) (Incl-refl (ν ∷ []))) $ await t tt $
          learn t (λ p. split t $ move t (1 ∷ []) $ split t $ move t (1 ∷ []) $
          use1 𝓛 (‵ (flft (ν ∷ []) full_share)) (id⊢ 𝓤 _) $ move t (0 ∷ 2 ∷ 1 ∷ []) $ join t $
          calls_from t fm (‵ (flft (ν ∷ []) full_share) ⊛ ‵ ((ShrSlice (named 0) (ν ∷ []) R).own_val (at_shared R b o ys) us))
          vs (λ w. mean 𝓛 (Seen 𝓛 (C f) Res vals R b o ys us φ (ν ∷ []) full_share w))
          (ch.does (ν ∷ []) full_share) (os _ _) (λ w.
          use1 𝓛 (Seen 𝓛 (C f) Res vals R b o ys us φ (ν ∷ []) full_share w) (id⊢ 𝓤 _) $ await t tt $
          pick t (λ x. split t $ move t (1 ∷ []) $ heard t (φ x) (λ e. split t $ lft_end t tt $
          move t (1 ∷ 0 ∷ []) $ lands_as t Res vals ch.tells x w (λ u.
          use2 𝓛 (later (‵ ((MutSlice (named 0) κ R).own_val (at_list R b o γ ys) us) ⊛ ‵ (flft κ q)))
          (as_it_was R κ (ν ∷ []) q γ b o 𝓛 ys us p) $ await t tt $ split t $ k x e u))))))
        where
          Tok : ℕ → Toks
          Tok ν = (ν ∷ [], full_share) ∷ []

      -- of a caller that has a `&[T]` itself: it passes a copy
      pub calls_shared : RowLaws R → {φ : Res.Denot → Type 0} → Reads 𝓛 (C f) Res vals R b o ys us φ vs
          → ((i j : Item 𝓤) → Opds K 𝓛 (i ∷ j ∷ Γ) E xs vs)
          → ((x : Res.Denot) → φ x → Is Res x (vals x) → Seq K 𝓛
          (‵ ((ShrSlice (named 0) κ R).own_val (at_shared R b o ys) us) ∷ ‵ (flft κ q) ∷ Γ)
          (lands C Λ E d (only (vals x)) rest Q))
          → Seq K 𝓛 (‵ ((ShrSlice (named 0) κ R).own_val (at_shared R b o ys) us) ∷ ‵ (flft κ q) ∷ Γ)
          (runs C Λ E (seq (call f xs d) rest) Q)
      calls_shared L {φ} ch os k =
          use1 𝓛 (‵ ((ShrSlice (named 0) κ R).own_val (at_shared R b o ys) us)
          ⊛ ‵ ((ShrSlice (named 0) κ R).own_val (at_shared R b o ys) us))
          ((shr_slice_copy 𝓛 (named 0) κ R L).twice (at_shared R b o ys) us) $ split t $ move t (2 ∷ 0 ∷ []) $
          join t $
          calls_from t fm (‵ (flft κ q) ⊛ ‵ ((ShrSlice (named 0) κ R).own_val (at_shared R b o ys) us)) vs
          (λ w. mean 𝓛 (Seen 𝓛 (C f) Res vals R b o ys us φ κ q w)) (ch.does κ q) (os _ _) (λ w.
          use1 𝓛 (Seen 𝓛 (C f) Res vals R b o ys us φ κ q w) (id⊢ 𝓤 _) $ await t tt $
          pick t (λ x. split t $ move t (1 ∷ []) $ heard t (φ x) (λ e. split t $
          move t (1 ∷ 2 ∷ 0 ∷ []) $ lands_as t Res vals ch.tells x w (λ u. k x e u))))

    pub calls_plain : K → FmC 𝓤 H 𝓛.laws C → {φ : Res.Denot → Type 0} → Answers 𝓛 (C f) Res vals φ vs
        → ((i : Item 𝓤) → Opds K 𝓛 (i ∷ Γ) E xs vs)
        → ((x : Res.Denot) → φ x → Is Res x (vals x) → Seq K 𝓛 Γ (lands C Λ E d (only (vals x)) rest Q))
        → Seq K 𝓛 Γ (runs C Λ E (seq (call f xs d) rest) Q)
    calls_plain t fm {φ} ch os k =
        use0 𝓛 (raw (emp 𝓤)) (id⊢ 𝓤 _) $ calls_from t fm (raw (emp 𝓤)) vs
        (λ w. mean 𝓛 (Told 𝓛 (C f) Res vals φ w)) ch.does (os _) (λ w.
        use1 𝓛 (Told 𝓛 (C f) Res vals φ w) (id⊢ 𝓤 _) $ await t tt $
        pick t (λ x. split t $ move t (1 ∷ []) $ heard t (φ x)
        (λ e. lands_as t Res vals ch.tells x w (λ u. k x e u))))

module _ {M : Type 1} {𝓤 : Ura M} {𝓛 : Logic 𝓤} {K : Type 0} {Γ : List (Item 𝓤)} where
  -- what a function has at entry whose first parameter is its one reference: that parameter, and the lifetime's token.
  -- What the others own is made anew where it is asked for
  open 𝓛 use {H}

  pub takes : K → {P S L : Fml} {G : Goal 𝓤 H} → Step K 𝓛 (‵ P ∷ ‵ L ∷ Γ) G ((‵ L ⊛ ‵ ftrue) ∷ ‵ (fsep P S) ∷ Γ) G
  takes t = step (λ s. split t $ move t (2 ∷ []) $ fsplit t $ move t (0 ∷ 2 ∷ []) $ move t (2 ∷ []) $ drop t $
      move t (2 ∷ []) $ drop t $ s)

  -- a local's value, at entry n; and a local that is set, or takes a call's result, where entry n is room for it
  module _ {E : Env 𝓤 H} where
    pub loc : K → (n : ℕ) {i : ℕ} {q : Share} {v : Val} → nth 𝓛 n Γ ≡
        ‵ (fat q (spot_of 𝓤 H E i).0 (spot_of 𝓤 H E i).1 (spot_of 𝓤 H E i).2 v) → Opd K 𝓛 Γ E (copy (place i [])) v
    loc t n e = load t (from t (stop t)) (look t n e)

    -- field k of the struct that the local holds, and where the slice that the local holds points
    pub fieldv : K → (n k : ℕ) {i : ℕ} {q : Share} {ν : Sym} {τs : Tys} {l : ℕ} {vs : Vals} {τ : Ty} {d : ℕ}
        → nth 𝓛 n Γ ≡ ‵ (fat q (ty_struct ν τs) l 0 (vstruct vs)) → spot_of 𝓤 H E i ≡ (ty_struct ν τs, l, 0)
        → field_at zero τs k ≡ found (τ, d)
        → Opd K 𝓛 Γ E (copy (place i (field k ∷ []))) (get_v vs k)
    fieldv t n k {i} {q} {ν} {τs} {l} {vs} {τ} {d} e h f = load t
        (from t (subst (λ (sp : Spot 𝓤 H). Walks K 𝓛 Γ E sp (field k ∷ []) (τ, l, 0 + d)) (sym h) (fld t f (stop t))))
        (look_in t n (sub t k f
        (subst (λ (j : Item 𝓤). Part K 𝓛 j q (ty_struct ν τs) l 0 (vstruct vs)
        (λ u. ‵ (fat q (ty_struct ν τs) l 0 u))) (sym e) (whole t))))

    pub ptrv : K → (n : ℕ) {i : ℕ} {q : Share} {ℓ : Lifetime} {μ : Mutability} {σ τ : Ty} {l b o m : ℕ}
        → nth 𝓛 n Γ ≡ ‵ (fat q (slice_ty (ty_ref ℓ μ σ)) l 0 (slice_val (b, o) m))
        → spot_of 𝓤 H E i ≡ (slice_ty (ty_ref ℓ μ σ), l, 0) → Rv K 𝓛 Γ E (addr_of (place i (field 0 ∷ deref τ ∷ [])))
        (vptr b o)
    ptrv t n {i} {q} {ℓ} {μ} {σ} {τ} {l} {b} {o} {m} e h = addr t
        (from t (subst (λ (sp : Spot 𝓤 H). Walks K 𝓛 Γ E sp (field 0 ∷ deref τ ∷ []) (τ, b, o)) (sym h)
        (fld t refl (hop t
        (look_in t n (sub t 0 refl
        (subst (λ (j : Item 𝓤). Part K 𝓛 j q (slice_ty (ty_ref ℓ μ σ)) l 0 (slice_val (b, o) m)
        (λ u. ‵ (fat q (slice_ty (ty_ref ℓ μ σ)) l 0 u))) (sym e) (whole t)))) (stop t)))))

    module _ {C : Calls 𝓤 H} {Λ : Loops 𝓤 H} {Q : Post 𝓤 H} where
      pub lets : K → {i : ℕ} {rv : RValue} {rest : Body} {v : Val} → Rv K 𝓛 Γ E rv v → (n : ℕ)
          → nth 𝓛 n Γ ≡ ‵ (froom (spot_of 𝓤 H E i).0 (spot_of 𝓤 H E i).1 (spot_of 𝓤 H E i).2)
          → Holds (has_ty (spot_of 𝓤 H E i).0 v) × WT v
          → Step K 𝓛 (put 𝓛 n (‵ (fat full_share (spot_of 𝓤 H E i).0 (spot_of 𝓤 H E i).1 (spot_of 𝓤 H E i).2 v)) Γ)
          (runs C Λ E rest Q) Γ (runs C Λ E (seq (assign (place i []) rv) rest) Q)
      lets t r n e wt = assigns t r (from t (stop t)) (init t n e wt)

      pub lands_in : K → (n : ℕ) {i : ℕ} {rest : Body} {v : Val}
          → nth 𝓛 n Γ ≡ ‵ (froom (spot_of 𝓤 H E i).0 (spot_of 𝓤 H E i).1 (spot_of 𝓤 H E i).2)
          → Holds (has_ty (spot_of 𝓤 H E i).0 v) × WT v
          → Step K 𝓛 (put 𝓛 n (‵ (fat full_share (spot_of 𝓤 H E i).0 (spot_of 𝓤 H E i).1 (spot_of 𝓤 H E i).2 v)) Γ)
          (runs C Λ E rest Q) Γ (lands C Λ E (place i []) v rest Q)
      lands_in t n e wt = land t (from t (stop t)) (init t n e wt)

  -- where a contract has no `requires`
  pub asks_nothing : K → {P : SProp 𝓤} → Step K 𝓛 Γ (prop P) Γ (prop (sep 𝓤 P (emp 𝓤)))
  asks_nothing t {P} =
      step (λ s. record { prf = via 𝓤 P s.prf (via 𝓤 (sep 𝓤 (emp 𝓤) P) (emp∗ 𝓤 P) (comm∗ 𝓤 (emp 𝓤) P)) })

  -- a local's cell and its leave to end, which stands behind it
  pub ends_local : K → (n : ℕ) {τ : Ty} {l : ℕ} {v : Val} {E : Env 𝓤 H} {g : Goal 𝓤 H}
      → nth 𝓛 n Γ ≡ ‵ (fat full_share τ l zero v) → nth 𝓛 n (del 𝓛 n Γ) ≡ ‵ (fdies τ l)
      → Step K 𝓛 (del 𝓛 n (del 𝓛 n Γ)) (frees E g) Γ (frees ((τ, l) ∷ E) g)
  ends_local t n {τ} {l} {v} e e' = step (λ s. record {
    prf =
        via 𝓤 (sep 𝓤 (H.at full_share τ l zero v) (⋆ 𝓛 (del 𝓛 n Γ)))
        (subst (λ (j : Item 𝓤). ent 𝓤 (⋆ 𝓛 Γ) (sep 𝓤 (mean 𝓛 j) (⋆ 𝓛 (del 𝓛 n Γ)))) e
        (pull 𝓛 n Γ))
        (via 𝓤 (sep 𝓤 (H.room τ l zero) (⋆ 𝓛 (del 𝓛 n Γ)))
        (mono_l 𝓤 (⋆ 𝓛 (del 𝓛 n Γ)) (𝓛.laws.at_room τ l zero v))
        (via 𝓤 (sep 𝓤 (H.room τ l zero) (sep 𝓤 (H.dies τ l) (⋆ 𝓛 (del 𝓛 n (del 𝓛 n Γ)))))
        (mono_r 𝓤 (H.room τ l zero)
        (subst (λ (j : Item 𝓤). ent 𝓤 (⋆ 𝓛 (del 𝓛 n Γ))
        (sep 𝓤 (mean 𝓛 j) (⋆ 𝓛 (del 𝓛 n (del 𝓛 n Γ))))) e' (pull 𝓛 n (del 𝓛 n Γ))))
        (via 𝓤 (sep 𝓤 (sep 𝓤 (H.room τ l zero) (H.dies τ l)) (⋆ 𝓛 (del 𝓛 n (del 𝓛 n Γ))))
        (assoc' 𝓤 (H.room τ l zero) (H.dies τ l) (⋆ 𝓛 (del 𝓛 n (del 𝓛 n Γ))))
        (mono_r 𝓤 (sep 𝓤 (H.room τ l zero) (H.dies τ l)) s.prf))));
  })

-- ---- the same for two slices at once
module _ {M : Type 1} {𝓤 : Ura M} (𝓛 : Logic 𝓤) (run : Fun 𝓤) (Res : RattleType)
    (vals : Res.Denot → List Val)
    (R : RattleType) (b o : ℕ) (ys : List R.Denot) (us : List Val) (R' : RattleType) (b' o' : ℕ)
    (ys' : List R'.Denot) (us' : List Val) where
  abbrev pub Left₂ : (Res.Denot → List R.Denot → List R'.Denot → Type 0) → Lft → Share → GName → Lft → Share
      → GName → Val → Item 𝓤
  Left₂ φ κ q δ κ' q' δ' w =
      later (some (λ (x : Res.Denot). some (λ (zs : List R.Denot). some (λ (zs' : List R'.Denot).
      (((‵ (flft κ q) ⊛ ‵ (finally R δ zs)) ⊛ (‵ (flft κ' q') ⊛ ‵ (finally R' δ' zs'))) ⊛ ‵ (Res.own_val x (w ∷ []))) ⊛ raw
      (fact 𝓤 ((length zs ≡ length ys) × ((length zs' ≡ length ys') × φ x zs zs')))))))

  abbrev pub Given₂ : Lft → Share → GName → Lft → Share → GName → Item 𝓤
  Given₂ κ q δ κ' q' δ' = (‵ (flft κ q) ⊛ ‵ ((MutSlice (named 0) κ R).own_val (at_list R b o δ ys) us))
      ⊛ (‵ (flft κ' q') ⊛ ‵ ((MutSlice (named 0) κ' R').own_val (at_list R' b' o' δ' ys') us'))

  pub record Changes₂ (φ : Res.Denot → List R.Denot → List R'.Denot → Type 0) (vs : List Val) : Type 1 where
    pub tells : Tells Res (Is Res) vals
    pub does : (κ : Lft) (q : Share) (δ : GName) (κ' : Lft) (q' : Share) (δ' : GName)
        → ent 𝓤 (mean 𝓛 (Given₂ κ q δ κ' q' δ')) (run vs (λ w. mean 𝓛 (Left₂ φ κ q δ κ' q' δ' w)))

module _ {M : Type 1} {𝓤 : Ura M} {𝓛 : Logic 𝓤} {K : Type 0} {Γ : List (Item 𝓤)}
    {E : Env 𝓤 𝓛.H} {C : Calls 𝓤 𝓛.H} {Λ : Loops 𝓤 𝓛.H} {Q : Post 𝓤 𝓛.H} {d : Place} {rest : Body} {Res : RattleType}
    {vals : Res.Denot → List Val} {f : Callee} {xs : List Operand} {vs : List Val} where
  open 𝓛 use {H}

  pub calls_lent₂ : (t : K) (fm : FmC 𝓤 H 𝓛.laws C) (R : RattleType) (κ : Lft) (q : Share) (γ : GName) (b o : ℕ)
      (us : List Val) (ys : List R.Denot) (R' : RattleType) (κ' : Lft) (q' : Share) (γ' : GName) (b' o' : ℕ)
      (us' : List Val) (ys' : List R'.Denot)
      {φ : Res.Denot → List R.Denot → List R'.Denot → Type 0}
      → Changes₂ 𝓛 (C f) Res vals R b o ys us R' b' o' ys' us' φ vs
      → ((h i j k : Item 𝓤) → Opds K 𝓛 (h ∷ i ∷ j ∷ k ∷ Γ) E xs vs)
      → ((x : Res.Denot) (zs : List R.Denot) (zs' : List R'.Denot) → length zs ≡ length ys
      → length zs' ≡ length ys' → φ x zs zs' → Is Res x (vals x)
      → Seq K 𝓛 (‵ ((MutSlice (named 0) κ R).own_val (at_list R b o γ zs) us) ∷ ‵ (flft κ q)
      ∷ ‵ ((MutSlice (named 0) κ' R').own_val (at_list R' b' o' γ' zs') us') ∷ ‵ (flft κ' q') ∷ Γ)
      (lands C Λ E d (only (vals x)) rest Q))
      → Seq K 𝓛 (‵ ((MutSlice (named 0) κ R).own_val (at_list R b o γ ys) us) ∷ ‵ (flft κ q)
      ∷ ‵ ((MutSlice (named 0) κ' R').own_val (at_list R' b' o' γ' ys') us') ∷ ‵ (flft κ' q') ∷ Γ)
      (runs C Λ E (seq (call f xs d) rest) Q)
  calls_lent₂ t fm R κ q γ b o us ys R' κ' q' γ' b' o' us' ys' {φ} ch os k =
      lend t tt R κ q γ b o us ys (λ ν δ p. move t (3 ∷ 4 ∷ []) $
      lend t tt R' κ' q' γ' b' o' us' ys' (λ ν' δ' p'. join t $ move t (2 ∷ 3 ∷ []) $ join t $ move t (0 ∷ 1 ∷ []) $
      join t $ nothing t $ move t (1 ∷ 0 ∷ []) $
      -- [both slices for ν and ν'; true; what is kept of each; …]
      calls_from t fm (Given₂ 𝓛 (C f) Res vals R b o ys us R' b' o' ys' us' (ν ∷ []) full_share δ (ν' ∷ []) full_share
      δ') vs (λ w. mean 𝓛 (Left₂ 𝓛 (C f) Res vals R b o ys us R' b' o' ys' us' φ (ν ∷ []) full_share δ
      (ν' ∷ []) full_share δ' w))
      (ch.does (ν ∷ []) full_share δ (ν' ∷ []) full_share δ') (os _ _ _ _) (λ w.
      use1 𝓛 (Left₂ 𝓛 (C f) Res vals R b o ys us R' b' o' ys' us' φ (ν ∷ []) full_share δ (ν' ∷ []) full_share δ' w)
      (id⊢ 𝓤 _) $ await t tt $ pick t (λ x. pick t (λ zs. pick t (λ zs'. split t $ move t (1 ∷ []) $
      heard t ((length zs ≡ length ys) × ((length zs' ≡ length ys') × φ x zs zs'))
      (λ e. split t $ move t (1 ∷ []) $ lands_as t Res vals ch.tells x w
      (λ u. split t $ move t (1 ∷ []) $ split t $
      -- [ν''s token; its last list; those of ν; true; what is kept of each; …]
      move t (0 ∷ 1 ∷ 4 ∷ []) $ back t tt R' κ' q' γ' b' o' us' ys' p' ν' δ' zs' e.1.0 $ move t (2 ∷ []) $ split t $
      move t (0 ∷ 1 ∷ 5 ∷ []) $ back t tt R κ q γ b o us ys p ν δ zs e.0 $
      move t (4 ∷ []) $ drop t $ k x zs zs' e.0 e.1.0 e.1.1 u))))))))
