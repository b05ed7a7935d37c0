-- Label m's record, part by part: its mark, its name, and the secret that it holds or the place that it gives.
use Prim.Native.Nat.{ℕ}
use mathlib.Core.Bool.{Bool, true, false, cond}
use mathlib.Core.List.{List, [], ◌∷◌}
use mathlib.Core.Logic.{◌⊎◌, inl, inr}
use mathlib.Core.Path.{◌≡◌, refl, ap, ◌∙◌}
use native.Mathlib.Omega.{arith}
use lib.ListN.{length, get_or, take, length-append}
use lib.Seq.{take_at, drop_at, take_all, get_or_at}
use Rattle.envelope_file.specs.File.{record_size}
use Rattle.format.specs.Bytes.{bytes_at}
use Rattle.format.specs.Marks.{KS, KD}
use Rattle.trees.proofs.Lists.{answers}
use Rattle.trees.specs.Weights.{in_smallest}
use Rattle.envelopes.specs.Envelope.{held_record, under_record, place_below, record_of}
use Rattle.envelopes.specs.Secrets.{secret_of}

-- what stands in any record
marked : (held : Bool) (name secret : List ℕ) (place : ℕ) → bytes_at (cond held (held_record name secret) (under_record name place)) 0 2 ≡ cond held KS KD
marked true name secret place = refl
marked false name secret place = refl

held_secret : (name secret : List ℕ) → length name ≡ 8 → length secret ≡ 32 → bytes_at (held_record name secret) 10 32 ≡ secret
held_secret name secret h k = ap (λ (r : List ℕ). take 32 r) (drop_at name secret 8 h) ∙ take_all 32 secret (omega arith)

under_place : (name : List ℕ) (place : ℕ) → length name ≡ 8 → get_or (under_record name place) 10 0 ≡ place
under_place name place h = get_or_at name place [] 0 8 h

module _ (name : ℕ → List ℕ) (le : ℕ → ℕ → Bool) (parent : ℕ → ℕ) (root : List ℕ) (l m : ℕ) (eight : length (name m) ≡ 8) where
  abbrev one : List ℕ
  one = record_of name le parent root l m

  abbrev held : Bool
  held = in_smallest le parent l m

  abbrev secret : List ℕ
  secret = secret_of name parent root m

  -- "`KS` .. for a label in the smallest set", "`KD` .. otherwise"
  pub record_mark : bytes_at one 0 2 ≡ cond held KS KD
  unfolding record_of
  record_mark = rw marked refl

  -- "32-byte secret"
  pub record_secret : length secret ≡ 32 → held ≡ true → bytes_at one 10 32 ≡ secret
  unfolding record_of
  record_secret h e = rw e (held_secret (name m) secret eight h)

  -- "the place of the parent's record"
  pub record_place_lem : held ≡ false → get_or one 10 0 ≡ place_below le l (parent m)
  unfolding record_of
  record_place_lem e = rw e (under_place (name m) (place_below le l (parent m)) eight)

  pub record_name : bytes_at one 2 8 ≡ name m
  unfolding record_of
  record_name = go (answers held)
    where
      go : (held ≡ true) ⊎ (held ≡ false) → bytes_at one 2 8 ≡ name m
      go (inl e) = rw e (take_at (name m) secret 8 eight)
      go (inr e) = rw e (take_at (name m) (place_below le l (parent m) ∷ []) 8 eight)

  -- "(42 bytes)", "(11 bytes)"
  pub record_size_lem : length secret ≡ 32 → length one ≡ record_size held
  unfolding record_of
  record_size_lem h = go (answers held)
    where
      go : (held ≡ true) ⊎ (held ≡ false) → length one ≡ record_size held
      go (inl e) = rw e (omega (arith, length-append (name m) secret))
      go (inr e) = rw e (omega (arith, length-append (name m) (place_below le l (parent m) ∷ [])))
