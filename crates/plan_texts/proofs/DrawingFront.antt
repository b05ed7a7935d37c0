-- The drawing of a policy file follows from the file's first 2,828 bytes.
use Prim.Native.Nat.{ℕ, ◌≤◌, ◌<◌}
use mathlib.Core.List.{List}
use mathlib.Core.Path.{◌≡◌}
use native.Mathlib.Omega.{arith}
use lib.ListN.{length, get_or, take}
use Rattle.lists.proofs.Concat.{concat_same}
use Rattle.policy_file.proofs.Front.{Agree}
use Rattle.policy_file.specs.Whole.{policy_refusal}
use Rattle.plan_answers.specs.declared.Plan.{Plan}
use Rattle.plan_texts.proofs.Front.{front_same}
use Rattle.decimals.proofs.Printed.{printed_short}
use Rattle.plan_texts.proofs.Printed.{printed_same}
use Rattle.plan_texts.specs.Printable.{Printable}
use Rattle.plan_texts.specs.DrawingAnswer.{printed_drawing}
use Rattle.plan_texts.specs.Drawing.{between, node, edge, drawn, drawing, dot_text}
use Rattle.plan_texts.proofs.Lengths.{dot_suffices}

module _ (a b : List ℕ) (same : Agree a b) (p : Plan) (ok : Printable b p) where
  drawn_same : (m : ℕ) → m < p.labels → drawn a p m ≡ drawn b p m
  unfolding drawn node edge between
  drawn_same m h =
      let parent : get_or p.parents m 0 < p.labels = ok.parents m h in
      rw (same.names m (omega (arith, ok.few)), same.names (get_or p.parents m 0) (omega (arith, ok.few)), same.counts m (omega (arith, ok.few)))

  drawing_same : drawing a p ≡ drawing b p
  unfolding drawing
  drawing_same = rw (concat_same (drawn a p) (drawn b p) p.labels drawn_same)

-- any front part of at least 2,828 bytes
pub dot_front : (n : ℕ) → 2828 ≤ n → (file : List ℕ) → dot_text file ≡ dot_text (take n file)
unfolding dot_text
dot_front n enough file = front_same drawing drawing_same n enough file

-- what the program prints: 8,192 bytes have room for it, and the first 2,828 bytes decide it
pub printed_suffices : (file : List ℕ) → length (printed_drawing file) ≤ 7617
unfolding printed_drawing
printed_suffices file = printed_short (policy_refusal file) (dot_text file) 7617 (omega arith) (dot_suffices file)

pub drawing_front : (n : ℕ) → 2828 ≤ n → (file : List ℕ) → printed_drawing file ≡ printed_drawing (take n file)
unfolding printed_drawing
drawing_front n enough file = printed_same n enough file (dot_front n enough file)
