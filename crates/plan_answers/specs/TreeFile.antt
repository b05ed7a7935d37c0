-- An offered tree (01, "Tree, weights and key sets"): "A tree file is the mark `TR` and one byte for each label in order, the parent's
-- number; the top's byte is 0." n is the label count and le the test of the order.
use Rattle.std.specs.Prelude.{ℕ, ◌+◌, Bool, cond, ◌&&◌, List, eqb, ltb, length, get_or}
use Rattle.format.specs.Bytes.{bytes_at, same_bytes}
use Rattle.format.specs.Marks.{TR}
use Rattle.lists.specs.Tables.{every_below}
use Rattle.trees.specs.Trees.{top}

-- label m's byte
unfoldable pub parent_in : List ℕ → ℕ → ℕ
parent_in tree m = get_or tree (m + 2) 0

-- whether label m's byte is in order: a strictly higher label, and the top's byte 0
unfoldable pub hangs_at : (le : ℕ → ℕ → Bool) → List ℕ → ℕ → Bool
hangs_at le tree m = cond (eqb m top) (eqb (parent_in tree m) top) (ltb (parent_in tree m) m && le m (parent_in tree m))

-- 2, "a single byte left (in a tree file, none or one), or a mark not belonging to this file"; 11, "length is not 2 plus the label count";
-- 12, "first byte that is no strictly higher label, or top's byte not 0"
unfoldable pub tree_refusal : (n : ℕ) (le : ℕ → ℕ → Bool) → List ℕ → ℕ
tree_refusal n le tree =
    cond (ltb (length tree) 2) 2
    (cond (same_bytes (bytes_at tree 0 2) TR)
    (cond (eqb (length tree) (2 + n))
    (cond (every_below (hangs_at le tree) n) 0 12)
    11)
    2)
