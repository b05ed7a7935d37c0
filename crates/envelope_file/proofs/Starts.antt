-- Laws of where records start, and of tables that say so.
use Prim.Native.Nat.{ℕ, zero, suc, ◌+◌, ◌≤◌, ◌<◌}
use mathlib.Core.Bool.{Bool, true, false}
use mathlib.Core.List.{List}
use mathlib.Core.Path.{◌≡◌, refl, sym, ap, ap₂, ◌∙◌}
use mathlib.Core.Logic.{⊎_elim}
use native.Mathlib.Nat.{eq-or-lt_of_le, le_of_suc-le-suc}
use native.Mathlib.Omega.{arith}
use lib.ListN.{length, get_or}
use Rattle.format.specs.Bytes.{bytes_at, same_bytes}
use Rattle.format.specs.Marks.{KS}
use Rattle.envelope_file.proofs.Passing.{next_start}
use Rattle.envelope_file.specs.File.{head_name, start_of, is_held, name_in, secret_in, place_in, carries}
use Rattle.envelope_file.specs.Reads.{Located, Placed, Falling}

-- a record has at least 11 bytes
eleven : (file : List ℕ) (k : ℕ) → start_of file k + 11 ≤ start_of file (suc k)
eleven file k = go (is_held file k) refl
  where
    go : (held : Bool) → is_held file k ≡ held → start_of file k + 11 ≤ start_of file (suc k)
    go true e = omega (arith, next_start file k true e)
    go false e = omega (arith, next_start file k false e)

-- a later record starts no earlier
pub start_up : (file : List ℕ) (j k : ℕ) → j ≤ k → start_of file j ≤ start_of file k
start_up file j zero l = let z : j ≡ 0 = omega arith in rw z (omega arith)
start_up file j (suc k) l =
    ⊎_elim (λ same. rw same (omega arith)) (λ more. omega (arith, start_up file j k (le_of_suc-le-suc more), eleven file k)) (eq-or-lt_of_le l)

-- what is read where record k starts
module _ (file : List ℕ) (k at : ℕ) (here : at ≡ start_of file k) where
  pub mark_there : (mark : List ℕ) → same_bytes (bytes_at file at 2) mark ≡ same_bytes (bytes_at file (start_of file k) 2) mark
  mark_there mark = rw here

  pub held_there : same_bytes (bytes_at file at 2) KS ≡ is_held file k
  unfolding is_held
  held_there = mark_there KS

  pub name_there : {read : List ℕ} → read ≡ bytes_at file (at + 2) 8 → read ≡ name_in file k
  unfolding name_in
  name_there e = e ∙ rw here

  pub secret_there : {read : List ℕ} → read ≡ bytes_at file (at + 10) 32 → read ≡ secret_in file k
  unfolding secret_in
  secret_there e = e ∙ rw here

  pub place_there : get_or file (at + 10) 0 ≡ place_in file k
  unfolding place_in
  place_there = rw here

  -- a comparison of its name with the header's
  pub head_compared : {name head : List ℕ} → name ≡ bytes_at file (at + 2) 8 → head ≡ bytes_at file 4 8
      → same_bytes name head ≡ same_bytes (name_in file k) (head_name file)
  unfolding head_name
  head_compared n h = ap₂ same_bytes (name_there n) h

-- a record whose start was read from a table
module _ (file starts : List ℕ) (records : ℕ) (table : Located file starts records) (k : ℕ) (l : k < records) where
  pub room : get_or starts k 0 + 11 ≤ length file
  room = omega (arith, table.begins k l, table.within k l, eleven file k)

  pub held_room : is_held file k ≡ true → get_or starts k 0 + 42 ≤ length file
  held_room e = omega (arith, table.begins k l, table.within k l, next_start file k true e)

  -- a comparison with its name
  pub name_compared : (name read : List ℕ) → read ≡ bytes_at file (get_or starts k 0 + 2) 8 → carries file name k ≡ same_bytes read name
  unfolding carries
  name_compared name read e =
      ap (λ (n : List ℕ). same_bytes n name) (sym (name_there file k (get_or starts k 0) (table.begins k l) e))

-- a record whose place was read from a table
module _ (file places : List ℕ) (records : ℕ) (table : Placed file places records) (f : Falling file records) (k : ℕ) (l : k < records) where
  -- it is held exactly when that is its own
  pub own_held : get_or places k 0 ≡ k → is_held file k ≡ true
  own_held e = go (is_held file k) refl
    where
      go : (held : Bool) → is_held file k ≡ held → held ≡ true
      go true h = refl
      go false h = absurd (omega (arith, f.falls k l h, table.given k l h))

  pub other_under : (get_or places k 0 ≡ k → ⊥) → is_held file k ≡ false
  other_under d = go (is_held file k) refl
    where
      go : (held : Bool) → is_held file k ≡ held → held ≡ false
      go true h = absurd (d (table.own k l h))
      go false h = refl

  -- and never after it
  pub place_bound : get_or places k 0 ≤ k
  place_bound = go (is_held file k) refl
    where
      go : (held : Bool) → is_held file k ≡ held → get_or places k 0 ≤ k
      go true h = omega (arith, table.own k l h)
      go false h = omega (arith, f.falls k l h, table.given k l h)

-- fewer records
pub located_fewer : {file starts : List ℕ} {m n : ℕ} → m ≤ n → Located file starts n → Located file starts m
located_fewer l table = record {
  few = omega (arith, table.few);
  begins = λ k h. table.begins k (omega arith);
  within = λ k h. table.within k (omega arith);
}

pub placed_fewer : {file places : List ℕ} {m n : ℕ} → m ≤ n → Placed file places n → Placed file places m
placed_fewer l table = record { own = λ k h. table.own k (omega arith); given = λ k h. table.given k (omega arith) }

pub falling_fewer : {file : List ℕ} {m n : ℕ} → m ≤ n → Falling file n → Falling file m
falling_fewer l f = record { falls = λ k h. f.falls k (omega arith) }
