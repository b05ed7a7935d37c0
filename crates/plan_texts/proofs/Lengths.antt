-- 8,192 bytes always have room for the drawing of a policy file.
use Prim.Native.Nat.{ℕ, ◌+◌, ◌≤◌}
use mathlib.Core.List.{List}
use mathlib.Core.Path.{◌≡◌, refl}
use native.Mathlib.Decide.{ℕ_discrete}
use native.Mathlib.Omega.{arith}
use lib.ListN.{length, get_or}
use Rattle.lists.proofs.Concat.{concat_short}
use Rattle.policy_file.specs.File.{count_of}
use Rattle.plan_answers.specs.Planned.{plan_of}
use Rattle.plan_answers.specs.declared.Plan.{Plan}
use Rattle.decimals.proofs.Digits.{decimal_short}
use Rattle.plan_texts.proofs.Plans.{name_short, plan_printable}
use Rattle.plan_texts.specs.Drawing.{labelled, arrow, accounts_word, weight_word, keys_word, total_label, between, field, node, edge, drawn, drawing, dot_text}
use Rattle.plan_texts.proofs.DrawingParts.{between_length, field_length, fields_length, ending_length, node_length, edge_top, edge_length, drawn_length, drawing_length}

field_short : (word : List ℕ) (x : ℕ) → length (field word x) ≤ length word + 11
field_short word x = omega (arith, field_length word x, decimal_short x)

module _ (file : List ℕ) where
  between_short : (a : ℕ) (sign : List ℕ) (b : ℕ) → length (between file a sign b) ≤ 19 + length sign
  between_short a sign b = omega (arith, between_length file a sign b, name_short file a, name_short file b)

  module _ (plan : Plan) where
    -- a box has at most 90 bytes
    node_short : (m : ℕ) → length (node file plan m) ≤ 90
    node_short m =
        let count = count_of file m in
        let weight = get_or plan.weights m 0 in
        let size = get_or plan.sizes m 0 in
        omega (
          arith,
          node_length file plan m count refl,
          between_short m labelled m,
          fields_length count weight size,
          field_short accounts_word count,
          field_short weight_word weight,
          field_short keys_word size,
        )

    -- an arrow has at most 28
    edge_short : (m : ℕ) → length (edge file plan m) ≤ 28
    edge_short m = go (ℕ_discrete m 0)
      where
        go : Dec (m ≡ 0) → length (edge file plan m) ≤ 28
        go (yes e) = rw (edge_top file plan m e) (omega arith)
        go (no ne) = omega (arith, edge_length file plan m ne, between_short (get_or plan.parents m 0) arrow m)

    drawn_short : (m : ℕ) → length (drawn file plan m) ≤ 118
    drawn_short m = omega (arith, drawn_length file plan m, node_short m, edge_short m)

    drawing_short : plan.labels ≤ 64 → length (drawing file plan) ≤ 7617
    drawing_short few =
        omega (
          arith,
          drawing_length file plan,
          concat_short (drawn file plan) 118 drawn_short plan.labels,
          ending_length plan,
          field_short total_label plan.total,
        )

-- 35 bytes, 64 labels of 118, and 30: a buffer of 8,192 bytes has room for every drawing
pub dot_suffices : (file : List ℕ) → length (dot_text file) ≤ 7617
unfolding dot_text
dot_suffices file = drawing_short file (plan_of file) (plan_printable file).few
