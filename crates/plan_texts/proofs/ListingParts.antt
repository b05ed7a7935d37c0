-- The parts of a listing, and their lengths.
use Prim.Native.Nat.{ℕ, suc, ◌+◌}
use mathlib.Core.List.{List, ◌++◌}
use mathlib.Core.Path.{◌≡◌, refl}
use native.Mathlib.Omega.{arith}
use borrow.Author.Tests.{eq-eqb, ne_eqb}
use lib.ListN.{length, get_or, length-append}
use Rattle.format.specs.Names.{unpadded}
use Rattle.policy_file.specs.File.{name_of, count_of}
use Rattle.plan_answers.specs.declared.Plan.{Plan}
use Rattle.decimals.specs.Decimal.{decimal}
use Rattle.decimals.specs.Worded.{newline, worded}
use Rattle.plan_texts.specs.Listing.{dash, parent_name, names, numbers, line, lines, total_word, last_line, listing}

pub numbers_length : (weight size count : ℕ) → length (numbers weight size count)
    ≡ suc (length (decimal weight)) + suc (length (decimal size)) + suc (length (decimal count))
unfolding numbers
numbers_length weight size count = simp length-append (omega arith)

module _ (file : List ℕ) (plan : Plan) (m : ℕ) where
  -- the parent's name: a dash for the top
  pub parent_top : m ≡ 0 → parent_name file plan m ≡ dash
  unfolding parent_name
  parent_top e = rw (eq-eqb m 0 e)

  pub parent_other : (m ≡ 0 → ⊥) → parent_name file plan m ≡ unpadded (name_of file (get_or plan.parents m 0))
  unfolding parent_name
  parent_other ne = rw (ne_eqb m 0 ne)

  pub names_length : length (names file plan m) ≡ length (unpadded (name_of file m)) + 1 + length (parent_name file plan m)
  unfolding names
  names_length = simp length-append

  module _ (count : ℕ) (e : count ≡ count_of file m) where
    pub line_parts : line file plan m ≡ names file plan m ++ numbers (get_or plan.weights m 0) (get_or plan.sizes m 0) count ++ newline
    unfolding line
    line_parts = rw e

    pub line_length : length (line file plan m)
        ≡ length (names file plan m) + length (numbers (get_or plan.weights m 0) (get_or plan.sizes m 0) count) + 1
    line_length = rw line_parts (simp length-append)

-- the whole text: its lines, and the last
module _ (file : List ℕ) (plan : Plan) where
  pub listing_parts : listing file plan ≡ lines file plan plan.labels ++ worded total_word plan.total
  unfolding listing last_line
  listing_parts = refl

  pub listing_length : length (listing file plan) ≡ length (lines file plan plan.labels) + length (worded total_word plan.total)
  listing_length = rw listing_parts (length-append (lines file plan plan.labels) (worded total_word plan.total))
