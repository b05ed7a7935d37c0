-- The parts of a drawing, and their lengths.
use Prim.Native.Nat.{ℕ, suc, ◌+◌}
use mathlib.Core.List.{List, [], ◌++◌}
use mathlib.Core.Path.{◌≡◌, refl}
use native.Mathlib.Omega.{arith}
use borrow.Author.Tests.{eq-eqb, ne_eqb}
use lib.ListN.{length, get_or, length-append}
use Rattle.format.specs.Names.{unpadded}
use Rattle.lists.specs.Tables.{concat_below}
use Rattle.policy_file.specs.File.{name_of, count_of}
use Rattle.plan_answers.specs.declared.Plan.{Plan}
use Rattle.decimals.specs.Decimal.{decimal}
use Rattle.plan_texts.specs.Drawing.{header, labelled, arrow, node_end, edge_end, accounts_word, weight_word, keys_word, total_label, between, field, fields, node, edge, drawn, ending, drawing}

pub between_length : (file : List ℕ) (a : ℕ) (sign : List ℕ) (b : ℕ) → length (between file a sign b)
    ≡ 3 + length (unpadded (name_of file a)) + length sign + length (unpadded (name_of file b))
unfolding between
between_length file a sign b = simp length-append

pub field_length : (word : List ℕ) (x : ℕ) → length (field word x) ≡ length word + suc (length (decimal x))
unfolding field
field_length word x = simp length-append (omega arith)

pub fields_length : (count weight size : ℕ) → length (fields count weight size)
    ≡ length (field accounts_word count) + length (field weight_word weight) + length (field keys_word size)
unfolding fields
fields_length count weight size = simp length-append

pub ending_length : (plan : Plan) → length (ending plan) ≡ length (field total_label plan.total) + 5
unfolding ending
ending_length plan = simp length-append

module _ (file : List ℕ) (plan : Plan) (m : ℕ) where
  -- the box of a label
  module _ (count : ℕ) (e : count ≡ count_of file m) where
    pub node_parts : node file plan m ≡ between file m labelled m ++ fields count (get_or plan.weights m 0) (get_or plan.sizes m 0) ++ node_end
    unfolding node
    node_parts = rw e

    pub node_length : length (node file plan m)
        ≡ length (between file m labelled m) + length (fields count (get_or plan.weights m 0) (get_or plan.sizes m 0)) + 4
    node_length = rw node_parts (simp length-append)

  -- the arrow from the parent: none for the top
  pub edge_top : m ≡ 0 → edge file plan m ≡ []
  unfolding edge
  edge_top e = rw (eq-eqb m 0 e)

  module _ (ne : m ≡ 0 → ⊥) where
    pub edge_other : edge file plan m ≡ between file (get_or plan.parents m 0) arrow m ++ edge_end
    unfolding edge
    edge_other = rw (ne_eqb m 0 ne)

    pub edge_length : length (edge file plan m) ≡ length (between file (get_or plan.parents m 0) arrow m) + 3
    edge_length = rw edge_other (simp length-append)

  pub drawn_length : length (drawn file plan m) ≡ length (node file plan m) + length (edge file plan m)
  unfolding drawn
  drawn_length = simp length-append

-- the whole drawing
module _ (file : List ℕ) (plan : Plan) where
  pub drawing_parts : drawing file plan ≡ header ++ concat_below (drawn file plan) plan.labels ++ ending plan
  unfolding drawing
  drawing_parts = refl

  pub drawing_length : length (drawing file plan) ≡ 35 + length (concat_below (drawn file plan) plan.labels) + length (ending plan)
  drawing_length = rw drawing_parts (simp length-append)
