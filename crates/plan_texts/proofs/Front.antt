-- The text of a policy file's plan follows from the file's first 2,828 bytes.
use Prim.Native.Nat.{ℕ, ◌≤◌, ◌<◌}
use mathlib.Core.List.{List}
use mathlib.Core.Path.{◌≡◌, ap, ◌∙◌}
use native.Mathlib.Omega.{arith}
use lib.ListN.{get_or, take}
use Rattle.lists.proofs.Concat.{concat_same}
use Rattle.policy_file.proofs.Front.{Agree, front_agrees}
use Rattle.plan_answers.proofs.Front.{agree_plan}
use Rattle.plan_answers.specs.Planned.{plan_of}
use Rattle.plan_answers.specs.declared.Plan.{Plan}
use Rattle.plan_texts.specs.Listing.{parent_name, names, line, listing, plan_text}
use Rattle.plan_texts.specs.Printable.{Printable}
use Rattle.plan_texts.proofs.Plans.{plan_printable}

-- names and accounts of labels
module _ (a b : List ℕ) (same : Agree a b) (p : Plan) (ok : Printable b p) where
  line_same : (m : ℕ) → m < p.labels → line a p m ≡ line b p m
  unfolding line names parent_name
  line_same m h =
      let parent : get_or p.parents m 0 < p.labels = ok.parents m h in
      rw (same.names m (omega (arith, ok.few)), same.names (get_or p.parents m 0) (omega (arith, ok.few)), same.counts m (omega (arith, ok.few)))

  listing_same : listing a p ≡ listing b p
  unfolding listing
  listing_same = rw (concat_same (line a p) (line b p) p.labels line_same)

-- any text of a file and its plan that is the same for files that agree, and any front part of at least 2,828 bytes
pub front_same : (text : List ℕ → Plan → List ℕ) → ((a b : List ℕ) → Agree a b → (p : Plan) → Printable b p → text a p ≡ text b p)
    → (n : ℕ) → 2828 ≤ n → (file : List ℕ) → text file (plan_of file) ≡ text (take n file) (plan_of (take n file))
front_same text same n enough file =
    let front = take n file in
    let agree = front_agrees n enough file in
    ap (text file) (agree_plan file front agree) ∙ same file front agree (plan_of front) (plan_printable front)

pub text_front : (n : ℕ) → 2828 ≤ n → (file : List ℕ) → plan_text file ≡ plan_text (take n file)
unfolding plan_text
text_front n enough file = front_same listing listing_same n enough file
