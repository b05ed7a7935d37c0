-- A policy's answers follow from its first 2,828 bytes: the records of an accepted policy take at most 2,816 bytes, and every
-- record is judged by its first 12.
use Prim.Native.Nat.{ℕ, zero, suc, ◌+◌, ◌*◌, ◌≤◌}
use mathlib.Core.Bool.{cond}
use mathlib.Core.List.{List, ◌++◌}
use mathlib.Core.Path.{◌≡◌, refl, sym, ap, ap₂, ◌∙◌}
use native.Mathlib.Decide.{dec_le}
use native.Mathlib.Omega.{arith}
use borrow.Author.Tests.{le-ltb}
use lib.Dec.{ltb}
use lib.ListN.{length, take, drop, length-append, take-append-drop, get_or-append}
use lib.Seq.{length-take-le, take_all}
use Rattle.format.proofs.Bytes.{front_bytes}
use Rattle.format.proofs.Search.{first_same}
use Rattle.format.specs.Bytes.{same_bytes}
use Rattle.format.specs.Marks.{LB, OV}
use Rattle.order.specs.Table.{order_table}
use Rattle.order.specs.declared.Pair.{Pair}
use Rattle.policy_file.proofs.Answered.{started}
use Rattle.lists.proofs.Listed.{listed_same}
use Rattle.policy_file.proofs.Meaning.{Means, is_end, is_refused, is_label, is_over, meaning, kind_of, marked}
use Rattle.policy_file.proofs.Verdict.{bounds}
use Rattle.policy_file.specs.File.{place_of, name_of, count_of, pair_at, is_named, label_named}
use Rattle.policy_file.specs.Record.{label_kind, over_kind, marked_kind, policy_kind}
use Rattle.policy_file.specs.Rows.{bytes_left, mark_of}
use Rattle.lists.specs.Tables.{listed}
use Rattle.policy_file.specs.Whole.{nothing_read, with_label, with_pair, on_policy_kind, scan_from, stop_of, policy_records_read, on_stop, policy_of, label_count, pair_count, pairs_of, order_of}
use Rattle.policy_file.specs.declared.Kind.TheVariants.{Refused}
use Rattle.policy_file.specs.declared.Kind.{Kind}
use Rattle.policy_file.specs.declared.Policy.{Policy}

-- two files that say the same of their first 64 labels and 512 pairs, are read as far, and are accepted or refused alike
pub record Agree (a b : List ℕ) : Type 0 where
  pub stop : stop_of a ≡ stop_of b
  pub verdict : policy_of a ≡ policy_of b
  pub names : (i : ℕ) → i ≤ 64 → name_of a i ≡ name_of b i
  pub counts : (i : ℕ) → i ≤ 64 → count_of a i ≡ count_of b i
  pub pairs : (labels k : ℕ) → labels ≤ 64 → k ≤ 512 → pair_at a labels k ≡ pair_at b labels k

-- a record with at least 12 bytes from its start on
long_kind : (file : List ℕ) (labels pairs : ℕ) → 12 ≤ bytes_left file labels pairs → policy_kind file labels pairs
    ≡ cond (same_bytes (mark_of file labels pairs) LB) (cond (ltb 0 pairs) (Refused 4) (label_kind file labels))
    (cond (same_bytes (mark_of file labels pairs) OV) (over_kind file labels pairs) (Refused 2))
unfolding marked_kind
long_kind file labels pairs h =
    marked file labels pairs (omega arith)
    ∙ rw (le-ltb (bytes_left file labels pairs) 12 h, le-ltb (bytes_left file labels pairs) 4 (omega arith))

-- labels with the same names are found alike
named_same : (a b : List ℕ) → ((i : ℕ) → i ≤ 64 → name_of a i ≡ name_of b i)
    → (labels : ℕ) (name : List ℕ) → labels ≤ 64 → label_named a labels name ≡ label_named b labels name
unfolding label_named is_named
named_same a b same labels name h =
    first_same (is_named a name) (is_named b name) labels 0 (λ k l. ap (λ (n : List ℕ). same_bytes n name) (same k (omega arith)))

module _ (front back : List ℕ) (long : 2828 ≤ length front) where
  name_same : (i : ℕ) → i ≤ 64 → name_of (front ++ back) i ≡ name_of front i
  unfolding name_of
  name_same i h = front_bytes front back (12 * i + 2) 8 (omega arith)

  count_same : (i : ℕ) → i ≤ 64 → count_of (front ++ back) i ≡ count_of front i
  unfolding count_of
  count_same i h =
      rw (get_or-append front back 0 (12 * i + 10) (omega arith), get_or-append front back 0 (12 * i + 10 + 1) (omega arith))

  pair_same : (labels k : ℕ) → labels ≤ 64 → k ≤ 512 → pair_at (front ++ back) labels k ≡ pair_at front labels k
  unfolding pair_at
  pair_same labels k l h =
      rw (
        get_or-append front back 0 (place_of labels k + 2) (omega arith),
        get_or-append front back 0 (place_of labels k + 3) (omega arith),
      )

  kind_same : (labels pairs : ℕ) → labels ≤ 64 → pairs ≤ 512 → policy_kind (front ++ back) labels pairs ≡ policy_kind front labels pairs
  unfolding label_kind over_kind
  kind_same labels pairs l p =
      long_kind (front ++ back) labels pairs (simp length-append (omega arith))
      ∙ rw (
        front_bytes front back (place_of labels pairs) 2 (omega arith),
        name_same labels l,
        named_same (front ++ back) front name_same labels (name_of front labels) l,
        count_same labels l,
        pair_same labels pairs l p,
      )
      (sym (long_kind front labels pairs (omega arith)))

  scan_same : (n : ℕ) (s : Policy) → s.labels ≤ 64 → s.pairs ≤ 512 → scan_from n (front ++ back) s ≡ scan_from n front s
  unfolding scan_from
  scan_same zero s l p = refl
  scan_same (suc n) s l p =
      let m = meaning front s.labels s.pairs in
      rw (kind_same s.labels s.pairs l p, kind_of front s.labels s.pairs m.1) (go (scan_same n) m.1)
    where
      go : ((t : Policy) → t.labels ≤ 64 → t.pairs ≤ 512 → scan_from n (front ++ back) t ≡ scan_from n front t)
          → {k : Kind} → Means front s.labels s.pairs k
          → on_policy_kind (scan_from n (front ++ back)) s k ≡ on_policy_kind (scan_from n front) s k
      go rest (is_end e) = refl
      go rest (is_refused r) = refl
      go rest (is_label r) = rest (with_label s (count_of front s.labels)) (omega (arith, r.label.fits)) p
      go rest (is_over r) = rest (with_pair s (pair_at front s.labels s.pairs)) l (omega (arith, r.over.fits))

  stop_same : stop_of (front ++ back) ≡ stop_of front
  stop_same = scan_same 577 nothing_read (omega arith) (omega arith)

  answer_same : policy_of (front ++ back) ≡ policy_of front
  answer_same = started (front ++ back) (simp length-append (omega arith)) ∙ ap on_stop stop_same ∙ sym (started front (omega arith))

  long_agrees : Agree (front ++ back) front
  long_agrees = record { stop = stop_same; verdict = answer_same; names = name_same; counts = count_same; pairs = pair_same }

-- two files that agree have the same pairs and order, and their labels are found alike
module _ (a b : List ℕ) (same : Agree a b) where
  pub agree_pairs : pairs_of a ≡ pairs_of b
  unfolding pairs_of
  agree_pairs =
      let l = (bounds b).0 in
      let p = (bounds b).1 in
      ap (λ (s : Policy). listed (pair_at a s.labels) s.pairs) same.verdict
      ∙ listed_same (pair_at a (label_count b)) (pair_at b (label_count b)) (pair_count b) (λ k h. same.pairs (label_count b) k l (omega arith))

  pub agree_order : order_of a ≡ order_of b
  unfolding order_of
  agree_order = ap₂ (λ (s : Policy) (pairs : List Pair). order_table s.labels pairs) same.verdict agree_pairs

  pub agree_named : (labels : ℕ) (name : List ℕ) → labels ≤ 64 → label_named a labels name ≡ label_named b labels name
  agree_named = named_same a b same.names

-- A file says the same as any front part of at least 2,828 bytes, so it has its answers.
module _ (n : ℕ) (enough : 2828 ≤ n) (file : List ℕ) where
  pub front_agrees : Agree file (take n file)
  front_agrees = go (dec_le (length file) n)
    where
      go : Dec (length file ≤ n) → Agree file (take n file)
      go (yes short) =
          rw (take_all n file short)
          (record { stop = refl; verdict = refl; names = λ i h. refl; counts = λ i h. refl; pairs = λ labels k l h. refl })
      go (no long) =
          let front = take n file in
          let most : 2828 ≤ length front = rw (length-take-le n file (omega arith)) enough in
          rw (take-append-drop n file) at (long_agrees front (drop n file) most)

  pub front_answers : policy_of file ≡ policy_of (take n file)
  front_answers = front_agrees.verdict

  pub front_records : policy_records_read file ≡ policy_records_read (take n file)
  unfolding policy_records_read
  front_records = ap (λ (s : Policy). s.labels + s.pairs) front_agrees.stop
