-- What the functions that read records ask of those read before.
use Rattle.std.specs.Prelude.{ℕ, suc, ◌+◌, ◌≤◌, ◌<◌, true, false, List, ◌≡◌, length, get_or}
use Rattle.envelope_file.specs.File.{record_size, start_of, is_held, place_in}

-- so many records lie within the file, and the table says where each starts
pub record Located (file starts : List ℕ) (records : ℕ) : Type 0 where
  pub few : records ≤ 64
  pub begins : (k : ℕ) → k < records → get_or starts k 0 ≡ start_of file k
  pub within : (k : ℕ) → k < records → start_of file (suc k) ≤ length file

-- the table says which place each of them gives: its own if it holds its secret, else the one in the file
pub record Placed (file places : List ℕ) (records : ℕ) : Type 0 where
  pub own : (k : ℕ) → k < records → is_held file k ≡ true → get_or places k 0 ≡ k
  pub given : (k : ℕ) → k < records → is_held file k ≡ false → get_or places k 0 ≡ place_in file k

-- the place in a record that holds no secret is less than its own
pub record Falling (file : List ℕ) (records : ℕ) : Type 0 where
  pub falls : (k : ℕ) → k < records → is_held file k ≡ false → place_in file k < k

-- the record after k others has so many bytes, within the file, and is kept with this place: its own if it holds its secret, else the one in the
-- file, which is less
pub record Next (file : List ℕ) (k size place : ℕ) : Type 0 where
  pub few : k < 64
  pub sized : size ≡ record_size (is_held file k)
  pub within : start_of file k + size ≤ length file
  pub own : is_held file k ≡ true → place ≡ k
  pub given : is_held file k ≡ false → place ≡ place_in file k
  pub falls : is_held file k ≡ false → place_in file k < k
