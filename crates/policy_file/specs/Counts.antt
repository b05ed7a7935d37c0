-- A policy file with other counts of accounts (02, Ask 4: "Where a roster is given its counts replace those in `LB`"). Every other byte stays.
use Rattle.std.specs.Prelude.{ℕ, zero, suc, ◌+◌, ◌*◌, ◌<◌, List, ◌≡◌, length, get_or}
use Rattle.format.specs.Bytes.{number_bytes}
use Rattle.lists.specs.Buffer.{pasted}
use Rattle.policy_file.specs.File.{name_of, count_of}
use Rattle.policy_file.specs.Whole.{label_count, pairs_of, AcceptedPolicy}

-- the file with this count at label l: two bytes behind the label's mark and name
unfoldable pub with_count : List ℕ → (l count : ℕ) → List ℕ
with_count file l count = pasted file (12 * l + 10) (number_bytes count)

-- the file with these counts at the first n labels
unfoldable pub recounted : List ℕ → (count : ℕ → ℕ) → (n : ℕ) → List ℕ
recounted file count zero = file
recounted file count (suc n) = with_count (recounted file count n) n (count n)

-- an accepted policy file and another one that has the accounts `count` instead of its own and is the same in everything else
pub record OtherCounts (file other : List ℕ) (count : ℕ → ℕ) : Type 0 where
  pub accepted : AcceptedPolicy other
  -- it can be handed in, as a file of bytes, if the first can
  pub bytes : ((i : ℕ) → get_or file i 0 < 256) → (i : ℕ) → get_or other i 0 < 256
  pub long : length other ≡ length file
  pub labels : label_count other ≡ label_count file
  pub names : (m : ℕ) → m < label_count file → name_of other m ≡ name_of file m
  pub pairs : pairs_of other ≡ pairs_of file
  pub counts : (m : ℕ) → m < label_count file → count_of other m ≡ count m
