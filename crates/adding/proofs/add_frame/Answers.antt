-- `add_frame`: the test of the lengths, the totals, then the shells above k run by run.
use Rattle.std.proofs.Common.{◌≡◌, ◌+◌, ◌≤◌, List, ℕ, true, sym, ◌∙◌, subst}
use Rattle.base.proofs.Laws.{clash}
use Rattle.node.specs.Sums.{Field, number}
use Rattle.node.specs.declared.Stored.{Stored}
use Rattle.layout.specs.Held.{first_from, sum_of}
use Rattle.adding.specs.Adding.{Framed, Within}
use Rattle.adding.specs.Pieces.{AddedTotals}
use Rattle.adding.proofs.Adding.{InShells, AddedShells, sent_over, taken_over, shells_added, shells_fine, within, added}
use Rattle.adding.proofs.Places.{above, still}
use Rattle.adding.proofs.Fitting.{fitting_known}
use Rattle.adding.proofs.add_frame.Goals.{After-add_all}
use Rattle.adding.proofs.add_frame.Goals as goal

-- the numbers sent are added, after the totals
module _ (c : After-add_all) where
  abbrev ws : List ℕ
  ws = c.args.s.now

  abbrev before : List ℕ
  before = c.args.sums.now

  abbrev p : ℕ
  p = c.args.p

  abbrev k : ℕ
  k = c.args.k

  abbrev limit : ℕ
  limit = c.args.limit

  abbrev mid : List ℕ
  mid = c.add_totals.new.sums

  abbrev x : Stored
  x = first_from ws p k 0

  here : Framed ws before p k
  here = fitting_known p k ws before (sym c.first_fits.ensures ∙ c.if-not-first_fits.false)

  summed : AddedTotals p x limit before mid true
  summed = subst (AddedTotals p x limit before mid) c.if-not-add_totals.false c.add_totals.ensures

  -- the sums have still room
  room : Framed ws mid p k
  room = still ws before p k here mid summed.length

  fine : Within limit p k x before → (f : Field) → InShells k p f → sum_of p mid f + number x f ≤ limit
  fine = shells_fine ws before p k limit mid summed

pub returns-then-not-add_all : goal.returns-then-not-add_all
returns-then-not-add_all c =
    let d = (goal.at.returns-then-not-add_all c).After-add_all in
    record {
      there = λ q. clash (sym q);
      within = λ q. clash (sym q);
      over = λ q h w. sent_over (ws d) (mid d) (p d) (k d) (limit d) (room d) _ _ d.add_all.ensures c.if-not-add_all.true (fine d w);
      added = λ q. clash (sym q);
      length = d.add_all.ensures.length ∙ (summed d).length;
    }

pub add_all-requires-2 : goal.add_all-requires-2
add_all-requires-2 c =
    let d = (goal.at.add_all-requires-2 c).After-add_all in
    (above (ws d) _ (p d) (k d) (still (ws d) (mid d) (p d) (k d) (room d) _ d.add_all.ensures.length)).taken_run

pub returns : goal.returns
returns c =
    let d = (goal.at.returns c).After-add_all in
    let f = c.add_all-2 in
    let good = c.if-not-add_all.false in
    let sums : f.result ≡ true → AddedShells (p d) (k d) (x d) (limit d) (mid d) f.new.sums true = λ q.
    shells_added (ws d) (mid d) (p d) (k d) (limit d) (room d) _ _ d.add_all.ensures good _ _ f.ensures q in
    record {
      there = λ q. here d;
      within = λ q. within (ws d) (before d) (p d) (k d) (limit d) (mid d) (summed d) _ (sums q);
      over = λ q h w.
          taken_over (ws d) (mid d) (p d) (k d) (limit d) (room d) _ _ d.add_all.ensures good _ _ f.ensures q (fine d w);
      added = λ q. added (ws d) (before d) (p d) (k d) (limit d) (mid d) (summed d) _ (sums q);
      length = f.ensures.length ∙ d.add_all.ensures.length ∙ (summed d).length;
    }
