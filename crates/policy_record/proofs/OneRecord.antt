-- Laws of one record: its kind by the tests that led there, and that an over-pair has no name beside it.
use Prim.Native.Nat.{ℕ, ◌-◌, ◌≤◌, ◌<◌}
use mathlib.Core.Bool.{Bool, true, false, cond}
use mathlib.Core.List.{List}
use mathlib.Core.Path.{◌≡◌, refl}
use lib.Dec.{leb}
use lib.ListN.{length}
use borrow.Author.Tests.{lt-ltb, le-ltb, eq-eqb, ne_eqb}
use Rattle.format.proofs.Bytes.{same_eq}
use Rattle.format.specs.Bytes.{bytes_at, same_bytes}
use Rattle.format.specs.Marks.{LB, OV}
use Rattle.order.specs.declared.Pair.{Pair}
use Rattle.policy_file.specs.File.{place_of, pair_at}
use Rattle.policy_file.specs.Record.{label_kind, over_kind, marked_kind, policy_kind, unnamed_of, with_name}
use Rattle.policy_file.specs.declared.Kind.TheVariants.{Over, End, Refused}
use Rattle.policy_file.specs.declared.Kind.{Kind}

-- the record after so many labels and pairs, by the tests that led there
module _ (file : List ℕ) (labels pairs : ℕ) where
  abbrev pub left : ℕ
  left = length file - place_of labels pairs

  abbrev pub mark : List ℕ
  mark = bytes_at file (place_of labels pairs) 2

  pub kind_end : left ≡ 0 → policy_kind file labels pairs ≡ End
  unfolding policy_kind
  kind_end e = rw (eq-eqb left 0 e)

  pub kind_single : left ≡ 1 → policy_kind file labels pairs ≡ Refused 2
  unfolding policy_kind
  kind_single e = rw e

  pub kind_marked : (left ≡ 0 → ⊥) → (left ≡ 1 → ⊥) → policy_kind file labels pairs ≡ marked_kind file labels pairs left
  unfolding policy_kind
  kind_marked e f = rw (ne_eqb left 0 e, ne_eqb left 1 f)

  module _ (lb : same_bytes mark LB ≡ true) where
    pub label_short : left < 12 → marked_kind file labels pairs left ≡ Refused 3
    unfolding marked_kind
    label_short h = rw (lb, lt-ltb left 12 h)

    pub label_late : 12 ≤ left → 0 < pairs → marked_kind file labels pairs left ≡ Refused 4
    unfolding marked_kind
    label_late h late = rw (lb, le-ltb left 12 h, lt-ltb 0 pairs late)

    pub label_read : 12 ≤ left → pairs ≤ 0 → marked_kind file labels pairs left ≡ label_kind file labels
    unfolding marked_kind
    label_read h none = rw (lb, le-ltb left 12 h, le-ltb 0 pairs none)

  pub kind_foreign : same_bytes mark LB ≡ false → same_bytes mark OV ≡ false → marked_kind file labels pairs left ≡ Refused 2
  unfolding marked_kind
  kind_foreign lb ov = rw (lb, ov)

  module _ (ov : same_bytes mark OV ≡ true) where
    no_label : same_bytes mark LB ≡ false
    unfolding same_bytes
    no_label = rw (same_eq mark OV ov)

    pub over_short : left < 4 → marked_kind file labels pairs left ≡ Refused 3
    unfolding marked_kind
    over_short h = rw (no_label, ov, lt-ltb left 4 h)

    pub over_read : 4 ≤ left → marked_kind file labels pairs left ≡ over_kind file labels pairs
    unfolding marked_kind
    over_read h = rw (no_label, ov, le-ltb left 4 h)

-- what holds of both sides of a test holds of what the test picks
either : (P : Kind → Type 0) (b : Bool) (x y : Kind) → (b ≡ true → P x) → (b ≡ false → P y) → P (cond b x y)
either P true x y f g = f refl
either P false x y f g = g refl

-- an over-pair has no name beside it
abbrev Unnamed : List ℕ → ℕ → Kind → Type 0
Unnamed file labels k = with_name file labels k ≡ unnamed_of k

refusal_unnamed : (file : List ℕ) (labels n : ℕ) → Unnamed file labels (Refused n)
unfolding with_name
refusal_unnamed file labels n = refl

pair_unnamed : (file : List ℕ) (labels : ℕ) (p : Pair) → Unnamed file labels (Over p)
unfolding with_name
pair_unnamed file labels p = refl

pub over_unnamed : (file : List ℕ) (labels pairs : ℕ) → with_name file labels (over_kind file labels pairs) ≡ unnamed_of (over_kind file labels pairs)
unfolding over_kind
over_unnamed file labels pairs =
    let p = pair_at file labels pairs in
    let P = Unnamed file labels in
    let no = refusal_unnamed file labels in
    either P (leb 512 pairs) _ _ (λ e. no 5) (λ e.
    either P (leb labels p.upper) _ _ (λ e. no 8) (λ e.
    either P (leb labels p.lower) _ _ (λ e. no 8) (λ e.
    either P (leb p.lower p.upper) _ _ (λ e. no 9) (λ e. pair_unnamed file labels p))))
