-- What `derive` answers for an envelope and a name asked for.
use Rattle.std.specs.Prelude.{ℕ, zero, suc, ◌+◌, true, false, cond, List, ◌≡◌, eqb, length, replicate, None, Option, Some}
use Rattle.hmac.specs.Secrets.{child_secret, label_key}
use Rattle.envelope_file.specs.File.{is_held, name_in, secret_in, place_in, record_named}
use Rattle.envelope_file.specs.Whole.{envelope_refusal, records_of}
use Rattle.envelope_file.specs.declared.Derived.{Derived}
use Rattle.envelope_file.specs.declared.Walk.{Walk}

-- The path to record k, in words: "the tree steps from the held secret", and the secret that they lead to. A `KS` record holds its secret;
-- that of a `KD` record is one step from the secret of the record at its place.
pub data Path (file : List ℕ) : (k steps : ℕ) → (secret : List ℕ) → Type 0 where
  held : {k : ℕ} → is_held file k ≡ true → Path file k 0 (secret_in file k)
  down : {k steps : ℕ} {secret : List ℕ} → is_held file k ≡ false → Path file (place_in file k) steps secret
      → Path file k (suc steps) (child_secret secret (name_in file k))

-- the same worked out: no path to record k has more than k steps, since places fall
abbrev pub held_walk : List ℕ → ℕ → Walk
held_walk file k = record { secret = secret_in file k; steps = 0 }

abbrev pub step_down : Walk → List ℕ → Walk
step_down above name = record { secret = child_secret above.secret name; steps = above.steps + 1 }

unfoldable pub walked : ℕ → List ℕ → ℕ → Walk
walked zero file k = held_walk file k
walked (suc n) file k = cond (is_held file k) (held_walk file k) (step_down (walked n file (place_in file k)) (name_in file k))

unfoldable pub walk_to : List ℕ → ℕ → Walk
walk_to file k = walked k file k

-- "With a refusal every number in the answer is 0, .. a key .. is 32 zero bytes"
abbrev pub refused_derived : ℕ → Derived
refused_derived number = record { refusal = number; key = replicate 32 0; applications = 0 }

-- "The key comes back with the number of applications of F made: the tree steps from the held secret, plus one for the key"
unfoldable pub derived_at : List ℕ → ℕ → Derived
derived_at file k = record {
  refusal = 0;
  key = label_key (walk_to file k).secret (name_in file k);
  applications = (walk_to file k).steps + 1;
}

-- 20, "name asked for is not in it"
abbrev pub on_found : List ℕ → Option ℕ → Derived
on_found file (Some k) = derived_at file k
on_found file None = refused_derived 20

-- "or not 8 bytes"
unfoldable pub record_asked : List ℕ → ℕ → List ℕ → Option ℕ
record_asked file records name = cond (eqb (length name) 8) (record_named file records name) None

-- 20 comes "after the whole envelope"
unfoldable pub derived_of : List ℕ → List ℕ → Derived
derived_of file name =
    cond (eqb (envelope_refusal file) 0) (on_found file (record_asked file (records_of file) name)) (refused_derived (envelope_refusal file))
