-- Where refusals are given: the parts of that text, and its length.
use Prim.Native.Nat.{ℕ, suc, ◌+◌, ◌≤◌, ◌<◌}
use mathlib.Core.Bool.{Bool, true, false, cond, ◌&&◌}
use mathlib.Core.List.{List, ◌++◌}
use mathlib.Core.Path.{◌≡◌, refl}
use native.Mathlib.Omega.{arith}
use borrow.Author.Tests.{eq-eqb, ne_eqb, le-leb, lt-leb}
use lib.Dec.{eqb, leb}
use lib.ListN.{length, length-append}
use Rattle.decimals.proofs.Digits.{decimal_short}
use Rattle.decimals.specs.Decimal.{decimal, capped}
use Rattle.decimals.specs.Worded.{space}
use Rattle.decimals.specs.Text.{bytes_of}
use Rattle.places.specs.Told.{record_place, policy_place, envelope_place}

-- a record
module _ (records : List ℕ) (read number : ℕ) (e : number ≡ capped read) where
  pub record_parts : record_place records read ≡ records ++ (space ++ decimal (number + 1)) ++ bytes_of ": "
  unfolding record_place
  record_parts = rw e

  pub record_length : length (record_place records read) ≡ length records + suc (length (decimal (number + 1))) + 2
  unfolding bytes_of
  record_length = rw record_parts (simp length-append (omega arith))

pub record_short : (records : List ℕ) (read : ℕ) → length (record_place records read) ≤ length records + 13
record_short records read =
    omega (arith, record_length records read (capped read) refl, decimal_short (capped read + 1))

-- a policy, and an envelope
module _ (number read : ℕ) where
  pub policy_record : 2 ≤ number → number ≤ 9 → policy_place number read ≡ record_place (bytes_of "policy record") read
  unfolding policy_place
  policy_record h l = rw (le-leb 2 number h, le-leb number 9 l)

  pub policy_before : number < 2 → policy_place number read ≡ bytes_of "policy file: "
  unfolding policy_place
  policy_before h = rw (lt-leb 2 number h)

  pub policy_after : 9 < number → policy_place number read ≡ bytes_of "policy file: "
  unfolding policy_place
  policy_after h = rw (le-leb 2 number (omega arith), lt-leb number 9 h)

  pub policy_short : length (policy_place number read) ≤ 28
  unfolding policy_place bytes_of
  policy_short = go (leb 2 number && leb number 9)
    where
      go : (t : Bool) → length (cond t (record_place (bytes_of "policy record") read) (bytes_of "policy file: ")) ≤ 28
      go true = omega (arith, record_short (bytes_of "policy record") read)
      go false = omega arith

  pub envelope_header : number ≡ 17 → envelope_place number read ≡ bytes_of "envelope header: "
  unfolding envelope_place
  envelope_header e = rw (eq-eqb number 17 e)

  pub envelope_record : (number ≡ 17 → ⊥) → envelope_place number read ≡ record_place (bytes_of "envelope record") read
  unfolding envelope_place
  envelope_record ne = rw (ne_eqb number 17 ne)

  pub envelope_short : length (envelope_place number read) ≤ 28
  unfolding envelope_place bytes_of
  envelope_short = go (eqb number 17)
    where
      go : (t : Bool) → length (cond t (bytes_of "envelope header: ") (record_place (bytes_of "envelope record") read)) ≤ 28
      go true = omega arith
      go false = omega (arith, record_short (bytes_of "envelope record") read)
