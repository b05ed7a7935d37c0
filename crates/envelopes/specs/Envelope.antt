-- The envelope of an account at label l (01, "Secrets, keys and the envelope"), over the labels' names, the order's test le, a tree and the
-- root secret.
use Rattle.std.specs.Prelude.{ℕ, zero, suc, ◌+◌, Bool, cond, List, [], ◌∷◌, ◌++◌, map}
use Rattle.envelope_file.specs.File.{is_held, name_in, secret_in}
use Rattle.envelope_file.specs.Whole.{records_of}
use Rattle.format.specs.Bytes.{number_bytes}
use Rattle.format.specs.Marks.{EN, KS, KD}
use Rattle.trees.specs.Sums.{select}
use Rattle.trees.specs.Weights.{in_smallest}
use Rattle.envelopes.specs.Secrets.{secret_of}

-- "`KS`, name, 32-byte secret (42 bytes)"
abbrev pub held_record : (name secret : List ℕ) → List ℕ
held_record name secret = KS ++ name ++ secret

-- "`KD`, name, one byte (11 bytes)"
abbrev pub under_record : (name : List ℕ) (place : ℕ) → List ℕ
under_record name place = KD ++ name ++ (place ∷ [])

-- "`EN`, account number (2 bytes), the account's label name"
abbrev pub header : (account : ℕ) (name : List ℕ) → List ℕ
header account name = EN ++ number_bytes account ++ name

-- how many labels before m are at or below l: "the place of [m's] record, counted from 0 within this envelope"
unfoldable pub place_below : (le : ℕ → ℕ → Bool) (l m : ℕ) → ℕ
place_below le l zero = 0
place_below le l (suc m) = place_below le l m + cond (le m l) 1 0

module _ (name : ℕ → List ℕ) (le : ℕ → ℕ → Bool) (parent : ℕ → ℕ) (root : List ℕ) (l : ℕ) where
  -- label m's record: `KS` "for a label in the smallest set", "`KD` .. otherwise: the place of the parent's record"
  unfoldable pub record_of : ℕ → List ℕ
  record_of m =
      cond (in_smallest le parent l m)
      (held_record (name m) (secret_of name parent root m))
      (under_record (name m) (place_below le l (parent m)))

  -- "one record for each label at or below it, in policy order": those of the labels before m
  unfoldable pub records_below : ℕ → List ℕ
  records_below zero = []
  records_below (suc m) = records_below m ++ cond (le m l) (record_of m) []

  -- the whole envelope, for n labels
  unfoldable pub envelope_of : (n account : ℕ) → List ℕ
  envelope_of n account = header account (name l) ++ records_below n

-- the tree steps to label m from the label of the smallest set that it is reached from, going up at most `steps` parents
unfoldable pub steps_from : (le : ℕ → ℕ → Bool) (parent : ℕ → ℕ) (l steps m : ℕ) → ℕ
steps_from le parent l zero m = 0
steps_from le parent l (suc steps) m = cond (in_smallest le parent l m) 0 (steps_from le parent l steps (parent m) + 1)

unfoldable pub steps_to : (le : ℕ → ℕ → Bool) (parent : ℕ → ℕ) (l m : ℕ) → ℕ
steps_to le parent l m = steps_from le parent l m m

-- The secrets that a file holds as the desk reads it, and the names that they are held under: those of its `KS` records, in their order.
unfoldable pub held_secrets : List ℕ → List (List ℕ)
held_secrets file = map (secret_in file) (select (is_held file) (records_of file))

unfoldable pub held_names : List ℕ → List (List ℕ)
held_names file = map (name_in file) (select (is_held file) (records_of file))
