-- A name passes the test of its form exactly when it has the form.
use Prim.Native.Nat.{ℕ, zero, suc, ◌≤◌, ◌<◌}
use mathlib.Core.Bool.{Bool, true, false, cond, ◌&&◌, false≢true}
use mathlib.Core.List.{List, [], ◌∷◌}
use mathlib.Core.Logic.{◌↔◌}
use mathlib.Core.Path.{◌≡◌, refl, sym, ◌∙◌}
use native.Mathlib.Nat.{le_of_suc-le-suc}
use native.Mathlib.Omega.{arith}
use borrow.Author.Tests.{le-leb, leb-true, eqb-true, eqb-false}
use lib.Dec.{leb, eqb}
use lib.ListN.{length, get_or}
use Rattle.format.proofs.Bytes.{and_true}
use Rattle.format.specs.Form.{Sign, letter, digit, NameForm}
use Rattle.format.specs.Names.{class_of, is_space, padding, formed_by, formed, some_no_space, well_formed}
use Rattle.format.specs.declared.Class.TheVariants.{Letter, Digit, Space, Refused}
use Rattle.format.specs.declared.Class.{Class}

-- what a byte of a class is
data ByteOf (b : ℕ) : Class → Type 0 where
  a_letter : 65 ≤ b → b ≤ 90 → ByteOf b Letter
  a_digit : 48 ≤ b → b ≤ 57 → ByteOf b Digit
  a_space : b ≡ 32 → ByteOf b Space
  neither : (Sign b → ⊥) → (b ≡ 32 → ⊥) → ByteOf b Refused

-- a number between two others passes both tests, and no other does
between_not : (low high b : ℕ) → leb low b && leb b high ≡ false → low ≤ b → b ≤ high → ⊥
between_not low high b e l h = false≢true (sym e ∙ rw (le-leb low b l, le-leb b high h))

class_is : (b : ℕ) → ByteOf b (class_of b)
unfolding class_of
class_is b = go (leb 65 b && leb b 90) (leb 48 b && leb b 57) (eqb b 32) refl refl refl
  where
    go : (l d s : Bool) → leb 65 b && leb b 90 ≡ l → leb 48 b && leb b 57 ≡ d → eqb b 32 ≡ s
        → ByteOf b (cond l Letter (cond d Digit (cond s Space Refused)))
    go true d s el ed es = let h = and_true (leb 65 b) (leb b 90) el in a_letter (leb-true 65 b h.0) (leb-true b 90 h.1)
    go false true s el ed es = let h = and_true (leb 48 b) (leb b 57) ed in a_digit (leb-true 48 b h.0) (leb-true b 57 h.1)
    go false false true el ed es = a_space (eqb-true b 32 es)
    go false false false el ed es = neither no_sign (eqb-false b 32 es)
      where
        no_sign : Sign b → ⊥
        no_sign (letter l h) = between_not 65 90 b el l h
        no_sign (digit l h) = between_not 48 57 b ed l h

-- a sign counts as a letter or a digit, and a space as a space
abbrev SignClass : Class → Type 0
SignClass k = (is_space k ≡ false) × ((rest pad : Bool) → formed_by k rest pad ≡ rest)

sign_class : (b : ℕ) → Sign b → SignClass (class_of b)
sign_class b s = go (class_is b)
  where
    not_space : Sign b → b ≡ 32 → ⊥
    not_space (letter l h) e = omega arith
    not_space (digit l h) e = omega arith

    go : {k : Class} → ByteOf b k → SignClass k
    go (a_letter l h) = (refl, λ rest pad. refl)
    go (a_digit l h) = (refl, λ rest pad. refl)
    go (a_space e) = absurd (not_space s e)
    go (neither n m) = absurd (n s)

space_class : (b : ℕ) → b ≡ 32 → class_of b ≡ Space
unfolding class_of
space_class b e = rw e

-- so many signs from the start on, then spaces to the end
record Signs (name : List ℕ) (n : ℕ) : Type 0 where
  within : n ≤ length name
  sign : (i : ℕ) → i < n → Sign (get_or name i 0)
  space : (i : ℕ) → n ≤ i → i < length name → get_or name i 0 ≡ 32

one_more_lem : (b : ℕ) (bs : List ℕ) (n : ℕ) → Sign b → Signs bs n → Signs (b ∷ bs) (suc n)
one_more_lem b bs n s r = record { within = omega (arith, r.within); sign = sign; space = space }
  where
    sign : (i : ℕ) → i < suc n → Sign (get_or (b ∷ bs) i 0)
    sign zero l = s
    sign (suc i) l = r.sign i (le_of_suc-le-suc l)

    space : (i : ℕ) → suc n ≤ i → i < suc (length bs) → get_or (b ∷ bs) i 0 ≡ 32
    space zero l h = absurd (omega arith)
    space (suc i) l h = r.space i (le_of_suc-le-suc l) (le_of_suc-le-suc h)

one_less : (b : ℕ) (bs : List ℕ) (n : ℕ) → Signs (b ∷ bs) (suc n) → Signs bs n
one_less b bs n r = record {
  within = omega (arith, r.within);
  sign = λ i l. r.sign (suc i) (omega arith);
  space = λ i l h. r.space (suc i) (omega arith) (omega arith);
}

-- spaces only
padding_spaces : (bs : List ℕ) → padding bs ≡ true → (i : ℕ) → i < length bs → get_or bs i 0 ≡ 32
unfolding padding
padding_spaces [] e i h = absurd (omega arith)
padding_spaces (b ∷ bs) e i h =
    let both = and_true (is_space (class_of b)) (padding bs) e in
    go (class_is b) both.0 i h (padding_spaces bs both.1)
  where
    go : {k : Class} → ByteOf b k → is_space k ≡ true → (i : ℕ) → i < suc (length bs)
        → ((j : ℕ) → j < length bs → get_or bs j 0 ≡ 32) → get_or (b ∷ bs) i 0 ≡ 32
    go (a_space e) t zero h rest = e
    go (a_space e) t (suc i) h rest = rest i (le_of_suc-le-suc h)
    go (a_letter l u) t i h rest = absurd (false≢true t)
    go (a_digit l u) t i h rest = absurd (false≢true t)
    go (neither n m) t i h rest = absurd (false≢true t)

spaces_padding : (bs : List ℕ) → ((i : ℕ) → i < length bs → get_or bs i 0 ≡ 32) → padding bs ≡ true
unfolding padding
spaces_padding [] all = refl
spaces_padding (b ∷ bs) all = rw (space_class b (all 0 (omega arith)), spaces_padding bs (λ i h. all (suc i) (omega arith)))

spaces_none : (bs : List ℕ) → ((i : ℕ) → i < length bs → get_or bs i 0 ≡ 32) → some_no_space bs ≡ false
unfolding some_no_space
spaces_none [] all = refl
spaces_none (b ∷ bs) all = rw (space_class b (all 0 (omega arith)), spaces_none bs (λ i h. all (suc i) (omega arith)))

-- signs and then spaces, from the test and back
formed_signs : (name : List ℕ) → formed name ≡ true → (n : ℕ) × Signs name n
unfolding formed
formed_signs [] e = (0, record { within = omega arith; sign = λ i l. absurd (omega arith); space = λ i l h. absurd (omega arith) })
formed_signs (b ∷ bs) e = go (class_is b) e (formed_signs bs)
  where
    go : {k : Class} → ByteOf b k → formed_by k (formed bs) (padding bs) ≡ true → (formed bs ≡ true → (n : ℕ) × Signs bs n)
        → (n : ℕ) × Signs (b ∷ bs) n
    go (a_letter l h) t rest = let r = rest t in (suc r.0, one_more_lem b bs r.0 (letter l h) r.1)
    go (a_digit l h) t rest = let r = rest t in (suc r.0, one_more_lem b bs r.0 (digit l h) r.1)
    go (a_space e) t rest = (0, record { within = omega arith; sign = λ i l. absurd (omega arith); space = space })
      where
        space : (i : ℕ) → 0 ≤ i → i < suc (length bs) → get_or (b ∷ bs) i 0 ≡ 32
        space zero l h = e
        space (suc i) l h = padding_spaces bs t i (le_of_suc-le-suc h)
    go (neither n m) t rest = absurd (false≢true t)

signs_formed : (name : List ℕ) (n : ℕ) → Signs name n → formed name ≡ true
unfolding formed
signs_formed [] n r = refl
signs_formed (b ∷ bs) zero r =
    rw (space_class b (r.space 0 (omega arith) (omega arith)))
    (spaces_padding bs (λ i h. r.space (suc i) (omega arith) (omega arith)))
signs_formed (b ∷ bs) (suc n) r =
    rw (sign_class b (r.sign 0 (omega arith))).1 (signs_formed bs n (one_less b bs n r))

signs_some : (name : List ℕ) (n : ℕ) → Signs name (suc n) → some_no_space name ≡ true
unfolding some_no_space
signs_some [] n r = absurd (omega (arith, r.within))
signs_some (b ∷ bs) n r = rw (sign_class b (r.sign 0 (omega arith))).0

-- `well_formed` holds of a name exactly when the name has the form of 01's sentence
pub well_formed_iff : (name : List ℕ) → (well_formed name ≡ true) ↔ NameForm name
unfolding well_formed
well_formed_iff name = (there, back)
  where
    there : formed name && some_no_space name ≡ true → NameForm name
    there e = let both = and_true (formed name) (some_no_space name) e in go (formed_signs name both.0) both.1
      where
        go : (n : ℕ) × Signs name n → some_no_space name ≡ true → NameForm name
        go (zero, r) t = absurd (false≢true (sym (spaces_none name (λ i h. r.space i (omega arith) h)) ∙ t))
        go (suc n, r) t = record { signs = suc n; some = omega arith; within = r.within; sign = r.sign; space = r.space }

    back : NameForm name → formed name && some_no_space name ≡ true
    back f = go f.signs f.some (record { within = f.within; sign = f.sign; space = f.space })
      where
        go : (n : ℕ) → 0 < n → Signs name n → formed name && some_no_space name ≡ true
        go zero l r = absurd (omega arith)
        go (suc n) l r = rw (signs_formed name (suc n) r, signs_some name n r)

-- so a name has its form or not, and without it fails the test
pub form? : (name : List ℕ) → Dec (NameForm name)
form? name = go (well_formed name) refl
  where
    go : (t : Bool) → well_formed name ≡ t → Dec (NameForm name)
    go true e = yes ((well_formed_iff name).0 e)
    go false e = no (λ form. false≢true (sym e ∙ (well_formed_iff name).1 form))

pub malformed_false : (name : List ℕ) → (NameForm name → ⊥) → well_formed name ≡ false
malformed_false name n = go (well_formed name) refl
  where
    go : (t : Bool) → well_formed name ≡ t → t ≡ false
    go true e = absurd (n ((well_formed_iff name).0 e))
    go false e = refl
