-- What a line says, by the numbers in it.
use mathlib.Core.Path.{◌≡◌, refl, sym, ◌∙◌}
use mathlib.Core.Bool.{Bool, true, false}
use mathlib.Core.List.{List}
use Prim.Native.Nat.{ℕ}
use Rattle.base.specs.Choice.{choose, both}
use Rattle.base.proofs.Laws.{choose_no, clash}
use Rattle.std.proofs.Common.{Option, Some, None}
use Rattle.line_parts.specs.Parts.{is_number, value_after, is_nodes, is_letter}
use Rattle.line_forms.specs.declared.Line.TheVariants.{Bad}
use Rattle.line_forms.specs.Forms.{one_number, two_numbers}

-- what the answer of a reader says of the bytes
module _ (s : List ℕ) (r : Option ℕ) (e : r ≡ choose (is_number s) (Some (value_after 0 s)) None) where
  pub number_none : r ≡ None → is_number s ≡ false
  number_none n = go (is_number s) (sym e ∙ n)
    where
      go : (t : Bool) → choose t (Some (value_after 0 s)) None ≡ None → t ≡ false
      go true q = clash (cc)
      go false q = refl

  pub number_is : (x : ℕ) → r ≡ Some x → (is_number s ≡ true) × (x ≡ value_after 0 s)
  number_is x n = go (is_number s) (sym e ∙ n)
    where
      go : (t : Bool) → choose t (Some (value_after 0 s)) None ≡ Some x → (t ≡ true) × (x ≡ value_after 0 s)
      go true q = (refl, cc)
      go false q = clash (cc)

choose_same : {A : Type 0} (t : Bool) {a b z : A} → a ≡ z → b ≡ z → choose t a b ≡ z
choose_same true p q = p
choose_same false p q = q

pub one_bad : (w x : List ℕ) → is_number x ≡ false → one_number w x ≡ Bad
one_bad w x e =
    choose_same (is_nodes w) (choose_no _ _ e)
    (choose_same (is_letter 105 w) (choose_no _ _ e) (choose_same (is_letter 98 w) (choose_no _ _ e) refl))

pub two_bad : (w x y : List ℕ) → both (is_number x) (is_number y) ≡ false → two_numbers w x y ≡ Bad
two_bad w x y e =
    choose_same (is_letter 115 w) (choose_no _ _ e)
    (choose_same (is_letter 116 w) (choose_no _ _ e) (choose_same (is_letter 100 w) (choose_no _ _ e) refl))
