-- How many records of a roster file are read (02, Ask 4). 01: "The first refused record refuses its whole file".
use Rattle.std.specs.Prelude.{ℕ, zero, suc, ◌+◌, cond, List, eqb, leb, length}
use Rattle.policy_file.specs.Whole.{policy_refusal, label_count}
use Rattle.roster_file.specs.File.{entry_at, size_of}
use Rattle.roster_answers.specs.Rostered.{roster_stop}

-- how many records start before byte `end`, from byte `at` on, up to n of them; a record that is refused as it is read, of size 0, ends the count
unfoldable pub records_before : ℕ → (policy : List ℕ) (labels : ℕ) → List ℕ → (end at : ℕ) → ℕ
records_before zero policy labels file end at = 0
records_before (suc n) policy labels file end at =
    cond (leb end at) 0
    (let size = size_of (entry_at policy labels file at) in cond (eqb size 0) 0 (suc (records_before n policy labels file end (at + size))))

-- what `records_read` answers: the records before the first refused one, or all of them if none is; a file has fewer records than bytes. None is read if
-- the policy is refused.
unfoldable pub roster_records_read : (policy roster : List ℕ) → ℕ
roster_records_read policy roster =
    cond (eqb (policy_refusal policy) 0) (records_before (length roster) policy (label_count policy) roster (roster_stop policy roster).at 0) 0
