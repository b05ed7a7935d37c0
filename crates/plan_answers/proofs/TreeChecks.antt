-- The checks of a tree file one by one: what each test's answer makes of the file's number.
use Prim.Native.Nat.{ℕ, ◌+◌, ◌≤◌, ◌<◌}
use mathlib.Core.Bool.{Bool, true, false}
use mathlib.Core.List.{List}
use mathlib.Core.Logic.{◌≢◌}
use mathlib.Core.Path.{◌≡◌}
use borrow.Author.Tests.{lt-ltb, le-ltb, eq-eqb, ne_eqb}
use lib.ListN.{length}
use Rattle.format.specs.Bytes.{bytes_at, same_bytes}
use Rattle.format.specs.Marks.{TR}
use Rattle.lists.proofs.Tables.{every_miss}
use Rattle.lists.specs.Tables.{every_below}
use Rattle.plan_answers.specs.TreeFile.{hangs_at, tree_refusal}

module _ (n : ℕ) (le : ℕ → ℕ → Bool) (tree : List ℕ) where
  pub number_short : length tree < 2 → tree_refusal n le tree ≡ 2
  unfolding tree_refusal
  number_short l = rw (lt-ltb (length tree) 2 l)

  module _ (two : 2 ≤ length tree) where
    pub number_foreign : same_bytes (bytes_at tree 0 2) TR ≡ false → tree_refusal n le tree ≡ 2
    unfolding tree_refusal
    number_foreign e = rw (le-ltb (length tree) 2 two, e)

    module _ (mark : same_bytes (bytes_at tree 0 2) TR ≡ true) where
      pub number_length : length tree ≢ 2 + n → tree_refusal n le tree ≡ 11
      unfolding tree_refusal
      number_length ne = rw (le-ltb (length tree) 2 two, mark, ne_eqb (length tree) (2 + n) ne)

      module _ (whole : length tree ≡ 2 + n) where
        pub number_byte : (m : ℕ) → m < n → hangs_at le tree m ≡ false → tree_refusal n le tree ≡ 12
        unfolding tree_refusal
        number_byte m l e =
            rw (le-ltb (length tree) 2 two, mark, eq-eqb (length tree) (2 + n) whole, every_miss (hangs_at le tree) n m l e)

        pub number_none : every_below (hangs_at le tree) n ≡ true → tree_refusal n le tree ≡ 0
        unfolding tree_refusal
        number_none e = rw (le-ltb (length tree) 2 two, mark, eq-eqb (length tree) (2 + n) whole, e)
