-- 01's table "Refusals by the place of checking" for a tree file, in words: what each number says of the file. n is the label count, and
-- R m l says that label m is at or below label l. Each row holds only when it is reached: the checks of the rows before it have passed.
use Rattle.std.specs.Prelude.{ℕ, ◌+◌, ◌≤◌, ◌<◌, List, ◌≢◌, ◌≡◌, length}
use Rattle.format.specs.Bytes.{bytes_at}
use Rattle.format.specs.Marks.{TR}
use Rattle.trees.specs.Trees.{top, Above, Tree}
use Rattle.plan_answers.specs.TreeFile.{parent_in}

-- 2, "a single byte left (in a tree file, none or one), or a mark not belonging to this file"
pub data NoTreeMark (tree : List ℕ) : Type 0 where
  none_or_one : length tree < 2 → NoTreeMark tree
  other_mark : 2 ≤ length tree → bytes_at tree 0 2 ≢ TR → NoTreeMark tree

-- the file opens with the mark
pub record Marked (tree : List ℕ) : Type 0 where
  pub two : 2 ≤ length tree
  pub mark : bytes_at tree 0 2 ≡ TR

-- 11, "length is not 2 plus the label count"
pub record OtherLength (n : ℕ) (tree : List ℕ) : Type 0 where
  pub marked : Marked tree
  pub other : length tree ≢ 2 + n

-- "the mark `TR` and one byte for each label"
pub record ByteEach (n : ℕ) (tree : List ℕ) : Type 0 where
  pub marked : Marked tree
  pub whole : length tree ≡ 2 + n

-- a byte that "is no strictly higher label, or top's byte not 0"
pub data WrongByte (n : ℕ) (R : ℕ → ℕ → Type 0) (tree : List ℕ) : Type 0 where
  top_byte_lem : parent_in tree top ≢ 0 → WrongByte n R tree
  not_higher : (m : ℕ) → m < n → m ≢ top → ¬ Above n R (parent_in tree m) m → WrongByte n R tree

-- 12
pub record NoParent (n : ℕ) (R : ℕ → ℕ → Type 0) (tree : List ℕ) : Type 0 where
  pub form : ByteEach n tree
  pub byte : WrongByte n R tree

-- no row refuses the file: it has its form, "the top's byte is 0", and it gives a derivation tree of the policy
pub record GivesTree (n : ℕ) (R : ℕ → ℕ → Type 0) (tree : List ℕ) : Type 0 where
  pub form : ByteEach n tree
  pub top_byte : parent_in tree top ≡ 0
  pub hung : Tree n R (parent_in tree)

-- the answers to a tree file, by their numbers
pub data TreeAnswered (n : ℕ) (R : ℕ → ℕ → Type 0) (tree : List ℕ) : ℕ → Type 0 where
  row_2 : NoTreeMark tree → TreeAnswered n R tree 2
  row_11 : OtherLength n tree → TreeAnswered n R tree 11
  row_12 : NoParent n R tree → TreeAnswered n R tree 12
  read : GivesTree n R tree → TreeAnswered n R tree 0
