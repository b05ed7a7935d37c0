-- `tree_file::read_parents` meets its contract: the bytes after the mark are the parents of the labels.
use Prim.Native.Nat.{ℕ, ◌+◌, ◌-◌, ◌≤◌, ◌<◌}
use mathlib.Core.List.{List, ◌++◌}
use mathlib.Core.Path.{◌≡◌, sym, ap₂, ◌∙◌}
use native.Mathlib.Omega.{arith}
use lib.ListN.{length, get_or, take, drop, replicate}
use lib.Seq.{ext_get_or}
use Rattle.std.proofs.lemmas.List.{drop-replicate, get_or-take, get_or-drop, length-take, length-drop}
use Rattle.lists.proofs.Tables.{length_listed, get_d_listed}
use Rattle.lists.specs.Tables.{listed, filled}
use Rattle.plan_answers.specs.TreeFile.{parent_in}
use Rattle.tree_file.proofs.read_parents.Goals as goal

-- n bytes from the mark on, and zeros after them
module _ (tree : List ℕ) (n : ℕ) (enough : 2 + n ≤ length tree) where
  long : length (take (2 + n - 2) (drop 2 tree)) ≡ n
  long = omega (arith, length-take (2 + n - 2) (drop 2 tree), length-drop 2 tree)

  byte_at : (k : ℕ) → k < n → get_or (take (2 + n - 2) (drop 2 tree)) k 0 ≡ parent_in tree k
  unfolding parent_in
  byte_at k l = get_or-take (2 + n - 2) (drop 2 tree) k 0 (omega arith) ∙ get_or-drop 2 tree k 0 ∙ (let e : 2 + k ≡ k + 2 = omega arith in rw e)

  parents_read : (s : List ℕ) → s ≡ take (2 + n - 2) (drop 2 tree) → s ++ drop n (replicate 64 0) ≡ filled 64 0 (parent_in tree) n
  parents_read s e =
      ap₂ (λ (x y : List ℕ). x ++ y)
      (e ∙ ext_get_or 0 (take (2 + n - 2) (drop 2 tree)) (listed (parent_in tree) n) (long ∙ sym (length_listed (parent_in tree) n)) (λ k l. byte_at k (omega (arith, long)) ∙ sym (get_d_listed (parent_in tree) n k 0 (omega (arith, long)))))
      (drop-replicate n 64 0)

pub returns : goal.returns
returns c = parents_read c.args.tree.now c.args.labels (omega arith) c.copy_from_slice.new.self c.copy_from_slice.ensures.after
