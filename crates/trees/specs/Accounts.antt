-- Single accounts, and the number of those that may open one label but not another (01, "Tree, weights and key sets").
use Rattle.std.specs.Prelude.{ℕ, ◌≤◌, ◌<◌, ◌↔◌, ◌≡◌, length}
use mathlib.Core.List.{List, Memᴰ}
use Rattle.trees.specs.Trees.{Once}

-- an account: its label, and its number there
pub record Account : Type 0 where
  pub label : ℕ
  pub number : ℕ

-- the accounts that there are: count l of them at label l, with the numbers from 1 on (01, row 14: "account number 0 or above the label's count")
pub record Exists (n : ℕ) (count : ℕ → ℕ) (u : Account) : Type 0 where
  pub label : u.label < n
  pub some : 0 < u.number
  pub within : u.number ≤ count u.label

-- "An account may open the labels at or below its own"
abbrev pub MayOpen : (R : ℕ → ℕ → Type 0) → Account → (m : ℕ) → Type 0
MayOpen R u m = R m u.label

-- an account that may open label m but not label p
pub record OpensBut (n : ℕ) (count : ℕ → ℕ) (R : ℕ → ℕ → Type 0) (p m : ℕ) (u : Account) : Type 0 where
  pub exists : Exists n count u
  pub opens : MayOpen R u m
  pub but_not : ¬ MayOpen R u p

-- k is the number of the accounts that have P: there is a list of exactly these, each once, and k is its length
pub record NumberOf (P : Account → Type 0) (k : ℕ) : Type 0 where
  pub list : List Account
  pub once : Once list
  pub exactly : (u : Account) → Memᴰ u list ↔ P u
  pub long : length list ≡ k
