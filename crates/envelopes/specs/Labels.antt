-- The labels that envelopes are written for: an order, a derivation tree, and names as an accepted policy has them.
use Rattle.std.specs.Prelude.{ℕ, ◌≤◌, ◌<◌, Bool, List, ◌≡◌, length}
use Rattle.format.specs.Form.{NameForm}
use Rattle.trees.specs.Order.{Order}
use Rattle.trees.specs.Trees.{Tree}

pub record Labels (n : ℕ) (R : ℕ → ℕ → Type 0) (le : ℕ → ℕ → Bool) (name : ℕ → List ℕ) (parent : ℕ → ℕ) : Type 0 where
  pub order : Order n R le
  pub tree : Tree n R parent
  pub few : n ≤ 64
  pub eight : (m : ℕ) → m < n → length (name m) ≡ 8
  pub formed : (m : ℕ) → m < n → NameForm (name m)
  pub distinct : (i j : ℕ) → i < n → j < n → name i ≡ name j → i ≡ j

-- what an envelope is written for: a label, an "account number (2 bytes)" that is not 0, and a root secret of "32 bytes"
pub record Issue (n l account : ℕ) (root : List ℕ) : Type 0 where
  pub label : l < n
  pub some : 0 < account
  pub fits : account < 65_536
  pub secret : length root ≡ 32
