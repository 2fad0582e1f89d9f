-- A local array that is lent as a `&mut [T]` for one call, beside whatever else the callee takes. The laws say nothing
-- of a crate, and assume `Logic`, and that the table of calls is monotone under a frame.
--     array-fits       the machine value of [x; n] is of the array's type
--     array-in         [x; n] in its cell, as it was written, is n elements side by side
--     array-room       elements side by side are room for an array
--     ChangesWith      what a callee does with a `&mut [T]` at ys and with i: it leaves some list zs as long as ys, j,
--                      and a result x with φ x zs
--     calls-array      the call rule for it, of a caller that has the elements themselves: they are lent for a lifetime
--                      of the call, and come back at zs
use mathlib.Core.Path.{◌≡◌, refl}
use Prim.Native.Nat.{ℕ, zero, suc}
use mathlib.Core.List.{List, [], ◌∷◌}
use lib.ListN.{length, replicate, length-replicate}
use seplogic.Ra.Ura.{Ura}
use base.Fraction.{full_share}
use mir.Syntax.{Callee, Place, Opd as Operand, Body, seq, call, named, ty_array}
use mir.Val.{Val, WT, has_ty}
use lib.Dec.{T as Holds}
use base.Logic.{ent, sep, id⊢}
use base.Fml.{Lft, GName, Share, fat, froom, flft, flent, fsep}
use prog.Wp.{Env, Calls, Loops}
use types.Logic.{Logic, sem}
use contract.Monad.{Fun, fact}
use sound.WpLaws.{FmC}
use types.Kit.{Item, ‵, raw, ◌⊛◌, some, later, mean, Post, runs, lands, Seq, ◌$◌, ◌∵◌, !, qed, move, keep, use1}
use types.Kit.{use3, drop, split, join, pick, rewrite, fsplit, fjoin, fpick, fpack, feq_l, await, done}
use types.Run.{Opds}
use types.Tokens.{lft_new, lft_end}
use types.SemTy.{cells, Arr}
use types.Share.{arr_parts}
use denote.RattleType.{RattleType}
use denote.Shadow.{shadow}
use denote.Laws.{Is, Tells, Copy, Lawful}
use denote.Memory.{cell_at, lone, part_at, mem, shares, part_of}
use denote.Array.{Array, array_val, each, Array-repeat, Array-Lawful}
use denote.ArrayMemory.{Single, Array-apart, Array-whole}
use denote.Slice.{slice_val, MutSlice, Room, finally}
use denote.Lend.{Held, lends_slice, slice_back}
use denote.Index.{row, whole_in, whole_out}
use denote.Steps.{only, heard}
use denote.Triple.Call.{calls_from}
use Rattle.walks.proofs.Calls.{at_list, lands_as}

-- each of n copies is as the one is, and so is the array's machine value
copies : (R : RattleType) (x : R.Denot) (u : Val) → Is R x (u ∷ []) → (n : ℕ)
    → shadow (each R.Denot R.own_val (replicate n x) (replicate n u))
copies R x u h zero = tt
copies R x u h (suc n) = (h, copies R x u h n)

pub array_fits : {M : Type 1} {𝓤 : Ura M} (𝓛 : Logic 𝓤) (R : RattleType) → Lawful 𝓛 R
    → (n : ℕ) (x : R.Denot) (u : Val) → Is R x (u ∷ []) → Holds
    (has_ty (ty_array (lone R.mir) n) (array_val (replicate n u))) × WT (array_val (replicate n u))
array_fits 𝓛 R L n x u h = ((Array-Lawful 𝓛 R L n).typed (replicate n x) (array_val (replicate n u) ∷ [])
    (replicate n u, ((refl, length-replicate n x), copies R x u h n))).0

module _ {M : Type 1} {𝓤 : Ura M} (𝓛 : Logic 𝓤) (R : RattleType) (n : ℕ) (b o : ℕ) where
  open 𝓛 use {H}

  pub array_in : Single R.mir → Copy 𝓛 R → (x : R.Denot) (u : Val)
      → ent 𝓤 (sep 𝓤 (H.at full_share (ty_array (lone R.mir) n) b o (array_val (replicate n u)))
      (sem 𝓛 (R.own_val x (u ∷ [])))) (sem 𝓛 (cells (mem R) (replicate n x) b o))
  unfolding part_of
  array_in one Cp x u =
      qed 𝓛 (‵ (fat full_share (ty_array (lone R.mir) n) b o (array_val (replicate n u))) ∷ ‵ (R.own_val x (u ∷ [])) ∷ [])
      ∵
      use1 𝓛 (‵ (cell_at full_share (Array R n).mir (array_val (replicate n u) ∷ []) b o))
      (𝓛.laws.at_raw full_share (ty_array (lone R.mir) n) b o (array_val (replicate n u))) $
      move ! (1 ∷ []) $ use1 𝓛 (‵ ((Array R n).own_val (replicate n x) (array_val (replicate n u) ∷ [])))
      (Array-repeat 𝓛 R Cp n x u) $ move ! (1 ∷ 0 ∷ []) $ fjoin ! $
      fpack ! (List Val) (λ vs. fsep (cell_at full_share (Array R n).mir vs b o) ((Array R n).own_val (replicate n x) vs))
      (array_val (replicate n u) ∷ []) $
      use1 𝓛 (‵ ((arr_parts (shares R) n).part full_share (replicate n x) b o))
      (Array-apart 𝓛 R full_share one n (replicate n x) b o) $ fsplit ! $ drop ! $
      use1 𝓛 (‵ (cells (mem R) (replicate n x) b o)) (whole_in 𝓛 R (replicate n x) b o) $ done !

  pub array_room : (zs : List R.Denot) → ent 𝓤 (sem 𝓛 ((Arr (mem R) n).own_at zs b o))
      (H.room (ty_array (lone R.mir) n) b o)
  unfolding part_of
  array_room zs =
      qed 𝓛 (‵ ((Arr (mem R) n).own_at zs b o) ∷ []) ∵ fsplit ! $ move ! (1 ∷ []) $
      use1 𝓛 (‵ (row R full_share zs b o)) (whole_out 𝓛 R zs b o) $ move ! (1 ∷ 0 ∷ []) $ fjoin ! $
      use1 𝓛 (‵ (part_at (Array R n) full_share zs b o)) (Array-whole 𝓛 R full_share n zs b o) $
      fpick ! (λ vs. fsplit ! $ move ! (1 ∷ []) $ fpick ! (λ us. fsplit ! $ fsplit ! $ feq_l ! (λ e.
      move ! (2 ∷ []) $ rewrite ! 0 (λ (ws : List Val). ‵ (cell_at full_share (Array R n).mir ws b o)) e refl $
      use1 𝓛 (‵ (fat full_share (ty_array (lone R.mir) n) b o (array_val us)))
      (𝓛.laws.raw_at full_share (ty_array (lone R.mir) n) b o (array_val us)) $
      use1 𝓛 (‵ (froom (ty_array (lone R.mir) n) b o)) (𝓛.laws.at_room (ty_array (lone R.mir) n) b o
      (array_val us)) $ keep ! (0 ∷ []) $ done !)))

-- ---- what a callee does, and the call rule
module _ {M : Type 1} {𝓤 : Ura M} (𝓛 : Logic 𝓤) (run : Fun 𝓤) (Res : RattleType)
    (vals : Res.Denot → List Val) (R : RattleType) (b o : ℕ) (ys : List R.Denot) (us : List Val)
    (i j : Item 𝓤) where
  abbrev pub LeftWith : (Res.Denot → List R.Denot → Type 0) → Lft → Share → GName → Val → Item 𝓤
  LeftWith φ κ q δ w =
      later (some (λ (x : Res.Denot). some (λ (zs : List R.Denot).
      (‵ (flft κ q) ⊛ (‵ (finally R δ zs) ⊛ (‵ (Res.own_val x (w ∷ [])) ⊛ j))) ⊛ raw
      (fact 𝓤 ((length zs ≡ length ys) × φ x zs)))))

  pub record ChangesWith (φ : Res.Denot → List R.Denot → Type 0) (vs : List Val) : Type 1 where
    pub tells : Tells Res (Is Res) vals
    pub does : (κ : Lft) (q : Share) (δ : GName)
        → ent 𝓤 (mean 𝓛 ((‵ (flft κ q) ⊛ ‵ ((MutSlice (named 0) κ R).own_val (at_list R b o δ ys) us)) ⊛ i))
        (run vs (λ w. mean 𝓛 (LeftWith φ κ q δ w)))

module _ {M : Type 1} {𝓤 : Ura M} {𝓛 : Logic 𝓤} {K : Type 0} {Γ : List (Item 𝓤)}
    {E : Env 𝓤 𝓛.H} {C : Calls 𝓤 𝓛.H} {Λ : Loops 𝓤 𝓛.H} {Q : Post 𝓤 𝓛.H} {d : Place} {rest : Body} {Res : RattleType}
    {vals : Res.Denot → List Val} {f : Callee} {xs : List Operand} {vs : List Val} where
  open 𝓛 use {H}

  pub calls_array : (t : K) (fm : FmC 𝓤 H 𝓛.laws C) (R : RattleType) (b o : ℕ) (ys : List R.Denot)
      → Room R (length ys) → {i j : Item 𝓤} {φ : Res.Denot → List R.Denot → Type 0}
      → ChangesWith 𝓛 (C f) Res vals R b o ys (slice_val (b, o) (length ys) ∷ []) i j φ vs
      → ((k l : Item 𝓤) → Opds K 𝓛 (k ∷ l ∷ Γ) E xs vs)
      → ((x : Res.Denot) (zs : List R.Denot) → φ x zs → Is Res x (vals x)
      → Seq K 𝓛 (‵ ((Arr (mem R) (length ys)).own_at zs b o) ∷ j ∷ Γ) (lands C Λ E d (only (vals x)) rest Q))
      → Seq K 𝓛 (‵ (cells (mem R) ys b o) ∷ i ∷ Γ) (runs C Λ E (seq (call f xs d) rest) Q)
  calls_array t fm R b o ys room {i} {j} {φ} ch os k =
      lft_new t tt (λ ν. move t (1 ∷ []) $
      use1 𝓛 (later (some (λ (δ : GName). ‵ ((MutSlice (named 0) (ν ∷ []) R).own_val (at_list R b o δ ys)
      (slice_val (b, o) (length ys) ∷ [])) ⊛ ‵ (flent (ν ∷ []) (Held R (length ys) b o δ)))))
      (lends_slice 𝓛 R (named 0) (ν ∷ []) ys b o room) $ await t tt $ pick t (λ δ. split t $
      -- [the slice for ν; the lender's part; ν's token; i; …]
      move t (2 ∷ 0 ∷ []) $ join t $ move t (0 ∷ 2 ∷ []) $ join t $
      calls_from t fm ((‵ (flft (ν ∷ []) full_share) ⊛ ‵ ((MutSlice (named 0) (ν ∷ []) R).own_val (at_list R b o δ ys)
      (slice_val (b, o) (length ys) ∷ []))) ⊛ i) vs
      (λ w. mean 𝓛 (LeftWith 𝓛 (C f) Res vals R b o ys (slice_val (b, o) (length ys) ∷ []) i j φ (ν ∷ [])
      full_share δ w)) (ch.does (ν ∷ []) full_share δ) (os _ _) (λ w.
      use1 𝓛 (LeftWith 𝓛 (C f) Res vals R b o ys (slice_val (b, o) (length ys) ∷ []) i j φ (ν ∷ []) full_share δ w)
      (id⊢ 𝓤 _) $ await t tt $
      pick t (λ x. pick t (λ zs. split t $ move t (1 ∷ []) $ heard t ((length zs ≡ length ys) × φ x zs) (λ e.
      split t $ lft_end t tt $ move t (1 ∷ []) $ split t $ move t (1 ∷ []) $ split t $
      -- [the result; j; the last list; ν is dead; the lender's part; …]
      lands_as t Res vals ch.tells x w (λ u. move t (2 ∷ 3 ∷ 1 ∷ []) $
      use3 𝓛 (later (‵ ((Arr (mem R) (length ys)).own_at zs b o))) (slice_back 𝓛 R (ν ∷ []) δ zs (length ys) b o) $
      await t tt $ k x zs e.1 u)))))))
