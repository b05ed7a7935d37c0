-- Laws of the two searches, and of the name of the label found.
use Rattle.std.specs.Prelude.{MatchOption, None, Option, Some}
use Prim.Native.Nat.{ℕ, suc, ◌+◌, ◌-◌, ◌*◌, ◌≤◌, ◌<◌}
use mathlib.Core.Bool.{Bool, true, false, not, false≢true}
use mathlib.Core.List.{List}
use mathlib.Core.Logic.{◌≢◌}
use mathlib.Core.Path.{◌≡◌, refl, sym, ap, ◌∙◌}
use native.Mathlib.Decide.{dec_le, ℕ_discrete}
use native.Mathlib.Omega.{arith}
use lib.ListN.{length, get_or}
use Rattle.faults.specs.Faults.{no_name, name_found, Inside, is_no_lower}
use Rattle.format.proofs.Search.{FoundAt, not_found, found_at, first_same}
use Rattle.format.specs.Form.{Sign, letter, digit, NameForm}
use Rattle.format.specs.Search.{first_from}
use Rattle.lists.proofs.Tables.{get_d_listed}
use Rattle.lists.specs.Tables.{listed}
use Rattle.order.specs.declared.Pair.{Pair}
use Rattle.policy_file.specs.File.{name_of}
use Rattle.policy_file.specs.Whole.{is_lower}

pub opposite : (t : Bool) {b : Bool} → not t ≡ b → t ≡ not b
opposite true e = ap not e
opposite false e = ap not e

-- what a search of the numbers from a up to b found is the first that has p
pub first_found : (p : ℕ → Bool) (a b : ℕ) (r : Option ℕ)
    → MatchOption r ((k : ℕ) → a ≤ k → k < b → p k ≡ false) (λ i. (a ≤ i) × (i < b) × (p i ≡ true) × ((k : ℕ) → a ≤ k → k < i → p k ≡ false)) → r ≡ first_from p a (b - a)
first_found p a b None none = go (first_from p a (b - a)) refl
  where
    go : (o : Option ℕ) → first_from p a (b - a) ≡ o → None ≡ first_from p a (b - a)
    go None e = sym e
    go (Some k) e = let f = found_at p (b - a) a k e in absurd (false≢true (sym (none k f.from (omega (arith, f.from, f.below))) ∙ f.here))
first_found p a b (Some i) h = go (first_from p a (b - a)) refl
  where
    go : (o : Option ℕ) → first_from p a (b - a) ≡ o → Some i ≡ first_from p a (b - a)
    go None e = absurd (false≢true (sym (not_found p (b - a) a e i h.0 (omega (arith, h.0, h.1))) ∙ h.2))
    go (Some k) e = by (ℕ_discrete i k) (found_at p (b - a) a k e)
      where
        by : Dec (i ≡ k) → FoundAt p a (b - a) k → Some i ≡ first_from p a (b - a)
        by (yes same) f = ap Some same ∙ sym e
        by (no other) f = away (dec_le (suc i) k)
          where
            away : Dec (suc i ≤ k) → Some i ≡ first_from p a (b - a)
            away (yes less) = absurd (false≢true (sym (f.before i h.0 less) ∙ h.2))
            away (no more) = absurd (false≢true (sym (h.3 k f.from (omega arith)) ∙ f.here))

-- the labels that a table of lowers lacks are those that are not the lower of a pair
abbrev pub lacks : List Bool → ℕ → Bool
lacks lower m = not (get_or lower m false)

pub no_lowers : (over : List Pair) (pairs labels : ℕ) (lower : List Bool) → lower ≡ listed (is_lower over pairs) 256 → labels ≤ 64
    → first_from (lacks lower) 1 (labels - 1) ≡ first_from (is_no_lower over pairs) 1 (labels - 1)
unfolding is_no_lower
no_lowers over pairs labels lower found few =
    first_same (lacks lower) (is_no_lower over pairs) (labels - 1) 1 (λ m h.
    ap not (ap (λ (l : List Bool). get_or l m false) found ∙ get_d_listed (is_lower over pairs) 256 m false (omega arith)))

-- the name of the label found
pub name_at : (policy : List ℕ) (m : ℕ) {found : Option ℕ} → found ≡ Some m → name_found policy found ≡ name_of policy m
unfolding name_found
name_at policy m e = rw e

pub name_none : (policy : List ℕ) {found : Option ℕ} → found ≡ None → name_found policy found ≡ no_name
unfolding name_found
name_none policy e = rw e

-- what is found among labels that lie within the file does so too
pub found_inside : (policy : List ℕ) (p : ℕ → Bool) (i n : ℕ) {found : Option ℕ} → found ≡ first_from p i n
    → ((m : ℕ) → i ≤ m → m < i + n → 12 * m + 12 ≤ length policy) → Inside policy found
found_inside policy p i n e within m at = let f = found_at p n i m (sym e ∙ at) in within m f.from f.below

-- a well-formed name is not eight spaces
pub not_spaces : {name : List ℕ} → NameForm name → name ≢ no_name
not_spaces {name} form e = go (form.sign 0 form.some) (ap (λ (s : List ℕ). get_or s 0 0) e)
  where
    go : {b : ℕ} → Sign b → b ≡ 32 → ⊥
    go (letter h l) z = omega arith
    go (digit h l) z = omega arith
