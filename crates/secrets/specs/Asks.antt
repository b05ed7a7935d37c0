-- What the functions that make secrets and write an envelope ask of the policy's labels, and what their tables say.
use Rattle.std.specs.Prelude.{ℕ, ◌*◌, ◌≤◌, ◌<◌, Bool, true, false, List, [], ◌≢◌, ◌≡◌, length, get_or}
use Rattle.policy_file.specs.File.{name_of}
use Rattle.trees.specs.Trees.{top}
use Rattle.weights.specs.Tables.{entries}
use Rattle.envelopes.specs.Secrets.{secret_of}

-- each of so many labels but the top has a parent of a smaller number
abbrev pub ParentsFall : (parents : List ℕ) (labels : ℕ) → Type 0
ParentsFall parents labels = (m : ℕ) → m < labels → m ≢ top → entries parents m < m

-- and they lie within the file
pub record Hung (file parents : List ℕ) (labels : ℕ) : Type 0 where
  pub few : labels ≤ 64
  pub within : 12 * labels ≤ length file
  pub falls : ParentsFall parents labels
  pub under : entries parents top < 64

-- whether a table of marks has label m marked
abbrev pub is_marked : List Bool → ℕ → Bool
is_marked marks m = get_or marks m false

-- the held labels are marked as needed, and so is the parent of each needed label of number `from` or more
pub record Needed (held needed : List Bool) (parents : List ℕ) (from labels : ℕ) : Type 0 where
  pub kept : (m : ℕ) → is_marked held m ≡ true → is_marked needed m ≡ true
  pub above : (m : ℕ) → from ≤ m → m < labels → is_marked needed m ≡ true → is_marked needed (entries parents m) ≡ true

-- label m's secret, by the file's names and the table of parents
abbrev pub table_secret : (file parents root : List ℕ) → ℕ → List ℕ
table_secret file parents root m = secret_of (name_of file) (entries parents) root m

-- a table of secrets by label
abbrev pub secret_at : List (List ℕ) → ℕ → List ℕ
secret_at secrets m = get_or secrets m []

-- the table has the secret of each marked label
pub record Made (file parents root : List ℕ) (marks : List Bool) (secrets : List (List ℕ)) (labels : ℕ) : Type 0 where
  pub secret : (m : ℕ) → m < labels → is_marked marks m ≡ true → secret_at secrets m ≡ table_secret file parents root m
