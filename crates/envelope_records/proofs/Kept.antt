-- The records of an envelope that are read so far, as a reader keeps them.
use Prim.Native.Nat.{ℕ, ◌+◌, ◌<◌}
use mathlib.Core.Bool.{false≢true}
use mathlib.Core.List.{List}
use mathlib.Core.Path.{◌≡◌, refl, sym, ◌∙◌}
use native.Mathlib.Omega.{arith}
use native.Mathlib.Numerals.{add-one}
use lib.ListN.{length, get_or, set}
use borrow.Author.Count.{below_more}
use Rattle.std.proofs.Common.{get_or-set_other, get_or-set_same}
use Rattle.envelope_file.proofs.Meaning.{Means, is_held_lem, is_under, kind_iff}
use Rattle.envelope_file.proofs.Passing.{next_start, held_true, under_false}
use Rattle.envelope_file.specs.File.{start_of, is_held}
use Rattle.envelope_file.specs.Reads.{Located, Placed, Falling, Next}
use Rattle.envelope_file.specs.Record.{envelope_kind}
use Rattle.envelope_file.specs.declared.Kind.TheVariants.{Held, Under}

-- none
pub none_located : {file starts : List ℕ} → Located file starts 0
none_located = record { few = omega arith; begins = λ k l. absurd (omega arith); within = λ k l. absurd (omega arith) }

pub none_placed : {file places : List ℕ} → Placed file places 0
none_placed = record { own = λ k l. absurd (omega arith); given = λ k l. absurd (omega arith) }

pub none_falling : {file : List ℕ} → Falling file 0
none_falling = record { falls = λ k l. absurd (omega arith) }

pub first_here : (file : List ℕ) → 12 ≡ start_of file 0
unfolding start_of
first_here file = refl

-- one more
module _ {file : List ℕ} {k size place : ℕ} (n : Next file k size place) where
  pub next_here : start_of file (k + 1) ≡ start_of file k + size
  next_here = rw add-one (omega (arith, next_start file k (is_held file k) refl, n.sized))

  pub more_located : (starts : List ℕ) → length starts ≡ 64 → (at : ℕ) → at ≡ start_of file k → Located file starts k → Located file (set starts k at) (k + 1)
  more_located starts long at here table = record {
    few = omega (arith, n.few);
    begins = below_more _ _ before last;
    within = below_more _ _ table.within (rw (← add-one) (omega (arith, next_here, n.within)));
  }
    where
      before : (j : ℕ) → j < k → get_or (set starts k at) j 0 ≡ start_of file j
      before j l = let other : j ≡ k → ⊥ = omega arith in rw get_or-set_other (table.begins j l)

      last : get_or (set starts k at) k 0 ≡ start_of file k
      last = let room : k < length starts = omega (arith, n.few) in rw get_or-set_same here

  pub more_falling : Falling file k → Falling file (k + 1)
  more_falling f = record { falls = below_more _ _ f.falls n.falls }

  pub more_placed : (places : List ℕ) → length places ≡ 64 → Placed file places k → Placed file (set places k place) (k + 1)
  more_placed places long table = record {
    own = below_more _ _ (λ j l e. before j l (table.own j l e)) (λ e. last (n.own e));
    given = below_more _ _ (λ j l e. before j l (table.given j l e)) (λ e. last (n.given e));
  }
    where
      before : (j : ℕ) → j < k → {p : ℕ} → get_or places j 0 ≡ p → get_or (set places k place) j 0 ≡ p
      before j l e = let other : j ≡ k → ⊥ = omega arith in rw get_or-set_other e

      last : {p : ℕ} → place ≡ p → get_or (set places k place) k 0 ≡ p
      last e = let room : k < length places = omega (arith, n.few) in rw get_or-set_same e

-- what the kind of the next record says of it
module _ (file : List ℕ) (k : ℕ) where
  pub next_held : envelope_kind file k ≡ Held → Next file k 42 k
  next_held e = go ((kind_iff file k Held).0 e)
    where
      go : Means file k Held → Next file k 42 k
      go (is_held_lem w n first) = record {
        few = n.fits;
        sized = rw (held_true w) refl;
        within = omega (arith, w.whole);
        own = λ h. refl;
        given = λ h. absurd (false≢true (sym h ∙ held_true w));
        falls = λ h. absurd (false≢true (sym h ∙ held_true w));
      }

  pub next_under : {place : ℕ} → envelope_kind file k ≡ Under place → Next file k 11 place
  next_under {place} e = go ((kind_iff file k (Under place)).0 e)
    where
      go : {p : ℕ} → Means file k (Under p) → Next file k 11 p
      go (is_under w n later falls) = record {
        few = n.fits;
        sized = rw (under_false w) refl;
        within = omega (arith, w.whole);
        own = λ h. absurd (false≢true (sym (under_false w) ∙ h));
        given = λ h. refl;
        falls = λ h. falls;
      }
