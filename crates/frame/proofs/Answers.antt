-- Laws of the reader's answers: each refusal in its order, and what is found when none is met.
use Rattle.std.proofs.Common.{◌≡◌, ℕ, ◌<◌, ◌≤◌, true, false, List, length, get_or, refl, arith, le-ltb, lt-ltb, eq-eqb, ne_eqb, le-leb}
use borrow.Author.Tests.{lt-leb}
use mathlib.Core.Path.{sym, ap}
use Rattle.base.specs.Limits.{Limits}
use Rattle.base.specs.Refusal.{Answered, refused, found}
use Rattle.tree.specs.Tree.{dimension}
use Rattle.tree.specs.Lookups.{bad_board}
use Rattle.tree.proofs.Lookups.{not_refused, refused_same}
use Rattle.frame.specs.declared.Frame.{Frame}
use Rattle.frame.specs.Frame.{bad_step, frame_length, numbers_ok, fields_of, read_frame, answer_of}

module _ (L : Limits) (P : ℕ) (bs : List ℕ) where
  pub read_board : bad_board L P ≡ true → read_frame L P bs ≡ refused 1
  unfolding read_frame
  read_board g = rw g

  module _ (p : ℕ) (g : bad_board L P ≡ false) (e : p ≡ dimension P) where
    pub read_short : length bs < 4 → read_frame L P bs ≡ refused 9
    unfolding read_frame
    read_short h = rw (g, lt-ltb (length bs) 4 h)

    module _ (h : 4 ≤ length bs) where
      pub read_step : bad_step p (get_or bs 0 0) (get_or bs 2 0) ≡ true → read_frame L P bs ≡ refused 10
      unfolding read_frame
      read_step s = rw (g, le-ltb (length bs) 4 h, ← e, s)

      module _ (s : bad_step p (get_or bs 0 0) (get_or bs 2 0) ≡ false) where
        pub read_length : (length bs ≡ frame_length p (get_or bs 0 0) (get_or bs 2 0) → ⊥) → read_frame L P bs ≡ refused 9
        unfolding read_frame
        read_length l = rw (g, le-ltb (length bs) 4 h, ← e, s, ne_eqb _ _ l)

        module _ (l : length bs ≡ frame_length p (get_or bs 0 0) (get_or bs 2 0)) where
          pub read_numbers : numbers_ok L p (fields_of p bs) ≡ false → read_frame L P bs ≡ refused 10
          unfolding read_frame
          read_numbers n = rw (g, le-ltb (length bs) 4 h, ← e, s, eq-eqb _ _ l, n)

          module _ (n : numbers_ok L p (fields_of p bs) ≡ true) where
            pub read_stranger : P ≤ get_or bs 3 0 → read_frame L P bs ≡ refused 2
            unfolding read_frame
            read_stranger r = rw (g, le-ltb (length bs) 4 h, ← e, s, eq-eqb _ _ l, n, le-leb P (get_or bs 3 0) r)

            pub read_found : get_or bs 3 0 < P → read_frame L P bs ≡ found (fields_of p bs)
            unfolding read_frame
            read_found r = rw (g, le-ltb (length bs) 4 h, ← e, s, eq-eqb _ _ l, n, lt-leb P (get_or bs 3 0) r)

-- ---- what is answered beside the fields

pub answer_refused : (r : Answered Frame) (x : ℕ) → answer_of r ≡ refused x → r ≡ refused x
answer_refused (refused y) x q = ap refused (refused_same q)
answer_refused (found f) x q = not_refused (sym q)

pub answer_done : (r : Answered Frame) → answer_of r ≡ found tt → (f : Frame) × (r ≡ found f)
answer_done (refused y) q = not_refused q
answer_done (found f) q = (f, refl)
