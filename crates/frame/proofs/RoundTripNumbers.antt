-- The numbers of a frame stand where the reader looks for them, and its arrays hold the tallies of its shells.
use Rattle.std.proofs.Common.{◌≡◌, ℕ, zero, suc, ◌+◌, ◌-◌, ◌*◌, ◌<◌, ◌≤◌, List, [], ◌∷◌, ◌++◌, length, get_or, sym, refl, ap, ◌∙◌, subst, arith, ext_get_or}
use Rattle.base.specs.Choice.{list}
use Rattle.base.specs.Limits.{width}
use Rattle.base.proofs.Laws.{list_at}
use Rattle.frame.specs.Frame.{sent_number, taken_number, sent_at, taken_at, numbers_of, number_at, shell_at}
use Rattle.frame.specs.declared.Sent.{Sent}
use Rattle.frame.specs.declared.Taken.{Taken}
use Rattle.frame.specs.declared.Frame.{Frame}
use Rattle.frame.proofs.Shells.{shell_there}
use Rattle.frame.proofs.Writing.{first_row, second_row}
use Rattle.frame.proofs.RoundTripRows.{Gives, gives_join, gives_list, gives_rest}

-- ---- arrays of tallies

-- a kind of tally, with the ways to it from a number and back
pub record Kind (A : Type 0) : Type 0 where
  pub tally : ℕ → A
  pub number : A → ℕ
  pub whole : (a : A) → tally (number a) ≡ a
  pub same : (x : ℕ) → number (tally x) ≡ x

abbrev pub sents : Kind Sent
sents = record { tally = sent_number; number = λ a. a.0; whole = λ a. refl; same = λ x. refl }

abbrev pub takens : Kind Taken
takens = record { tally = taken_number; number = λ a. a.0; whole = λ a. refl; same = λ x. refl }

-- the tallies of shells k to p − 1 are what g gives from a start on
abbrev pub Tallies : ℕ → ℕ → (ℕ → ℕ) → ℕ → (ℕ → ℕ) → Type 0
Tallies p k g start tallies = (m : ℕ) → k ≤ m → m < p → tallies m ≡ g (start + (m - k))

module _ {A : Type 0} (kind : Kind A) where
  abbrev pub tally_at : List A → ℕ → ℕ
  tally_at l m = kind.number (get_or l m (kind.tally 0))

  abbrev pub array : (ℕ → ℕ) → List A
  array g = list 0 width (λ m. kind.tally (g m))

  array_at : (g : ℕ → ℕ) (m : ℕ) (d : A) → m < width → get_or (array g) m d ≡ kind.tally (g m)
  array_at g m d h = list_at width (λ m. kind.tally (g m)) m d h

  -- an array is the one that lists its numbers
  pub array_back : (l : List A) → length l ≡ width → (g : ℕ → ℕ) → ((m : ℕ) → m < width → g m ≡ tally_at l m)
      → array g ≡ l
  array_back l n g h =
      ext_get_or (kind.tally 0) (array g) l (sym n)
      (λ m b. array_at g m _ b ∙ ap kind.tally (h m b) ∙ kind.whole (get_or l m (kind.tally 0)))

  -- an array that lists the shells of bytes has their numbers
  pub array_reads : (p k : ℕ) → p ≤ width → (bs : List ℕ) (start : ℕ)
      → Tallies p k (number_at bs) start (tally_at (array (shell_at p k bs start)))
  array_reads p k fits bs start m a b =
      ap kind.number (array_at (shell_at p k bs start) m (kind.tally 0) (omega arith))
      ∙ kind.same (shell_at p k bs start m)
      ∙ shell_there p k bs start m a b

-- ---- the numbers of a frame are what g gives

pub record First (p : ℕ) (f : Frame) (g : ℕ → ℕ) : Type 0 where
  pub sent : Tallies p f.dim g 0 (sent_at f.sent)
  pub taken : Tallies p f.dim g (p - f.dim) (taken_at f.taken)
  pub issued : f.issued.0 ≡ g (2 * (p - f.dim))
  pub received : f.received.0 ≡ g (2 * (p - f.dim) + 1)

pub record Second (f : Frame) (g : ℕ → ℕ) : Type 0 where
  pub agreed : f.agreed ≡ g 0
  pub issued : f.issued.0 ≡ g 1

module _ (p : ℕ) (f : Frame) where
  abbrev k : ℕ
  k = f.dim

  abbrev d : ℕ
  d = p - f.dim

  abbrev totals : List ℕ
  totals = f.issued.0 ∷ f.received.0 ∷ []

  abbrev row : List ℕ
  row = list k d (sent_at f.sent) ++ (list k d (taken_at f.taken) ++ totals)

  module _ (g : ℕ → ℕ) where
    pub first_known : f.pass ≡ 1 → f.dim < p → Gives g (numbers_of p f) → First p f g
    first_known e low h =
        let whole : Gives g row = subst (Gives g) (first_row p f e) h in
        let rest = gives_rest g k d (sent_at f.sent) _ whole in
        let last = gives_rest (λ i. g (d + i)) k d (taken_at f.taken) totals rest in
        record {
          sent =
              λ m a b.
              let z : m - k ≡ 0 + (m - k) = omega arith in
              gives_list g k d (sent_at f.sent) _ whole m a (omega arith) ∙ ap g z;
          taken = λ m a b. gives_list (λ i. g (d + i)) k d (taken_at f.taken) totals rest m a (omega arith);
          issued = let z : d + (d + 0) ≡ 2 * d = omega arith in last 0 (omega arith) ∙ ap g z;
          received = let z : d + (d + 1) ≡ 2 * d + 1 = omega arith in last 1 (omega arith) ∙ ap g z;
        }

    pub first_good : f.pass ≡ 1 → f.dim < p → First p f g → Gives g (numbers_of p f)
    first_good e low h =
        subst (Gives g) (sym (first_row p f e))
        (gives_join g k d (sent_at f.sent) _
        (λ m a b. let z : 0 + (m - k) ≡ m - k = omega arith in h.sent m a (omega arith) ∙ ap g z)
        (gives_join (λ i. g (d + i)) k d (taken_at f.taken) totals (λ m a b. h.taken m a (omega arith)) last))
      where
        last : Gives (λ i. g (d + (d + i))) totals
        last zero l = let z : 2 * d ≡ d + (d + 0) = omega arith in h.issued ∙ ap g z
        last (suc zero) l = let z : 2 * d + 1 ≡ d + (d + 1) = omega arith in h.received ∙ ap g z
        last (suc (suc i)) l = absurd (omega arith)

    pub second_known : f.pass ≡ 2 → Gives g (numbers_of p f) → Second f g
    second_known e h =
        let whole : Gives g (f.agreed ∷ f.issued.0 ∷ []) = subst (Gives g) (second_row p f (λ q. omega arith)) h in
        record { agreed = whole 0 (omega arith); issued = whole 1 (omega arith) }

    pub second_good : f.pass ≡ 2 → Second f g → Gives g (numbers_of p f)
    second_good e h = subst (Gives g) (sym (second_row p f (λ q. omega arith))) both
      where
        both : Gives g (f.agreed ∷ f.issued.0 ∷ [])
        both zero l = h.agreed
        both (suc zero) l = h.issued
        both (suc (suc i)) l = absurd (omega arith)
