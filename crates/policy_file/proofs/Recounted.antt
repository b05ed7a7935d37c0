-- Another count at a label changes two bytes of a policy file: the file is accepted again, with the same labels and pairs. So do other counts at all
-- labels.
use Prim.Native.Nat.{ℕ, zero, suc, ◌+◌, ◌*◌, ◌/◌, ◌%◌, ◌≤◌, ◌<◌}
use lib.Dec.{eqb}
use mathlib.Core.Bool.{cond}
use mathlib.Core.List.{List, [], ◌∷◌}
use mathlib.Core.Logic.{◌≢◌}
use mathlib.Core.Path.{◌≡◌, refl, sym, ap, ap₂, ◌∙◌}
use borrow.Author.Tests.{eq-eqb, ne_eqb}
use native.Mathlib.Decide.{ℕ_discrete}
use native.Mathlib.Numerals.{add-one}
use native.Mathlib.Omega.{arith}
use lib.ListN.{length, get_or, set, drop, length-set, length-take, length-drop}
use lib.Seq.{sets-eq, ext_get_or, get_or-set_same, get_or-set_other, get_or-take, get_or-drop}
use Rattle.format.specs.Bytes.{bytes_at}
use Rattle.lists.proofs.Listed.{listed_same}
use Rattle.lists.specs.Buffer.{pasted}
use Rattle.lists.specs.Tables.{listed}
use Rattle.order.specs.declared.Pair.{Pair}
use Rattle.policy_file.proofs.Demand1.{accepted_iff, accepted_numbers}
use Rattle.policy_file.proofs.Lawful.{lawful}
use Rattle.policy_file.specs.Counts.{with_count, recounted, OtherCounts}
use Rattle.policy_file.specs.File.{place_of, name_of, count_of, pair_at}
use Rattle.policy_file.specs.Rows.{mark_of, LabelAt, OverAt, PolicyPasses, start, label, over, stop_at, NoneRefuses}
use Rattle.policy_file.specs.Whole.{label_count, pair_count, pairs_of, AcceptedPolicy, policy_of}
use Rattle.policy_file.specs.declared.Policy.{Policy}

-- lists of one length have the same n bytes from a place on if these agree one by one
bytes_same : (a b : List ℕ) → length a ≡ length b → (at n : ℕ) → ((i : ℕ) → at ≤ i → i < at + n → get_or a i 0 ≡ get_or b i 0) → bytes_at a at n ≡ bytes_at b at n
bytes_same a b e at n same =
    ext_get_or 0 (bytes_at a at n) (bytes_at b at n) (simp (length-take, length-drop, e)) (λ i h. byte i (omega (arith, length-take n (drop at a))))
  where
    byte : (i : ℕ) → i < n → get_or (bytes_at a at n) i 0 ≡ get_or (bytes_at b at n) i 0
    byte i h =
        get_or-take n (drop at a) i 0 h
        ∙ get_or-drop at a i 0
        ∙ same (at + i) (omega arith) (omega arith)
        ∙ sym (get_or-take n (drop at b) i 0 h ∙ get_or-drop at b i 0)

-- two bytes written over those at a place, and at the next
module _ (s : List ℕ) (at a b : ℕ) (h : at + 2 ≤ length s) where
  abbrev written : List ℕ
  written = pasted s at (a ∷ b ∷ [])

  stored : written ≡ set (set s at a) (at + 1) b
  unfolding pasted
  stored = rw add-one (sym (sets-eq (a ∷ b ∷ []) s at h))

  written_length : length written ≡ length s
  written_length = rw (stored, length-set, length-set)

  first_byte : get_or written at 0 ≡ a
  first_byte = rw stored (get_or-set_other (set s at a) (at + 1) at b 0 (λ e. omega arith) ∙ get_or-set_same s at a 0 (omega arith))

  second_byte : get_or written (at + 1) 0 ≡ b
  second_byte = rw stored (get_or-set_same (set s at a) (at + 1) b 0 (omega (arith, length-set s at a)))

  other_byte : (i : ℕ) → (i ≢ at) × (i ≢ at + 1) → get_or written i 0 ≡ get_or s i 0
  other_byte i ne = rw stored (get_or-set_other (set s at a) (at + 1) i b 0 ne.1 ∙ get_or-set_other s at i a 0 ne.0)

module _ (file : List ℕ) (l count : ℕ) (within : 12 * l + 12 ≤ length file) where
  -- where the count stands
  abbrev at : ℕ
  at = 12 * l + 10

  abbrev high : ℕ
  high = count / 256 % 256

  abbrev low : ℕ
  low = count % 256

  same_length : length (with_count file l count) ≡ length file
  unfolding with_count
  same_length = written_length file at high low (omega arith)

  byte_kept : (i : ℕ) → (i ≢ at) × (i ≢ at + 1) → get_or (with_count file l count) i 0 ≡ get_or file i 0
  unfolding with_count
  byte_kept = other_byte file at high low (omega arith)

  bytes_kept : ((i : ℕ) → get_or file i 0 < 256) → (i : ℕ) → get_or (with_count file l count) i 0 < 256
  unfolding with_count
  bytes_kept bytes i = go (ℕ_discrete i at) (ℕ_discrete i (at + 1))
    where
      go : Dec (i ≡ at) → Dec (i ≡ at + 1) → get_or (with_count file l count) i 0 < 256
      go (yes e) d = rw (e, first_byte file at high low (omega arith)) (omega arith)
      go (no n) (yes e) = rw (e, second_byte file at high low (omega arith)) (omega arith)
      go (no n) (no d) = rw (byte_kept i (n, d)) (bytes i)

  -- ---- every mark, name and pair is kept, and every other count

  label_mark : (labels pairs : ℕ) → pairs ≡ 0 → mark_of (with_count file l count) labels pairs ≡ mark_of file labels pairs
  label_mark labels pairs none = bytes_same (with_count file l count) file same_length (place_of labels pairs) 2 (λ i from to. byte_kept i (omega arith))

  over_mark : (labels pairs : ℕ) → l < labels → mark_of (with_count file l count) labels pairs ≡ mark_of file labels pairs
  over_mark labels pairs h = bytes_same (with_count file l count) file same_length (place_of labels pairs) 2 (λ i from to. byte_kept i (omega arith))

  name_kept : (i : ℕ) → name_of (with_count file l count) i ≡ name_of file i
  unfolding name_of
  name_kept i = bytes_same (with_count file l count) file same_length (12 * i + 2) 8 (λ k from to. byte_kept k (omega arith))

  pair_kept : (labels k : ℕ) → l < labels → pair_at (with_count file l count) labels k ≡ pair_at file labels k
  unfolding pair_at
  pair_kept labels k h = rw (byte_kept (place_of labels k + 2) (omega arith), byte_kept (place_of labels k + 3) (omega arith))

  -- a number below 65,536 is read back from its two bytes
  count_new : count < 65_536 → count_of (with_count file l count) l ≡ count
  unfolding with_count count_of
  count_new h = rw (first_byte file at high low (omega arith), second_byte file at high low (omega arith)) (omega arith)

  count_kept : (m : ℕ) → m ≢ l → count_of (with_count file l count) m ≡ count_of file m
  unfolding count_of
  count_kept m ne = rw (byte_kept (12 * m + 10) (omega arith), byte_kept (12 * m + 10 + 1) (omega arith))

  -- its own count leaves a file of bytes as it was
  count_own : ((i : ℕ) → get_or file i 0 < 256) → count ≡ count_of file l → with_count file l count ≡ file
  unfolding with_count count_of
  count_own bytes e = ext_get_or 0 (with_count file l count) file same_length (λ i h. go i (ℕ_discrete i at) (ℕ_discrete i (at + 1)))
    where
      go : (i : ℕ) → Dec (i ≡ at) → Dec (i ≡ at + 1) → get_or (with_count file l count) i 0 ≡ get_or file i 0
      go i (yes d) f = rw d (first_byte file at high low (omega arith) ∙ omega (arith, bytes at, bytes (at + 1)))
      go i (no n) (yes d) = rw d (second_byte file at high low (omega arith) ∙ omega (arith, bytes at, bytes (at + 1)))
      go i (no n) (no d) = byte_kept i (n, d)

  -- ---- what passes, passes again

  label_kept : {labels pairs : ℕ} → LabelAt file labels pairs → LabelAt (with_count file l count) labels pairs
  label_kept {labels} {pairs} r = record {
    label = record {
      record_at_lem = record {
        mark = label_mark labels pairs r.label.in_time ∙ r.label.record_at_lem.mark;
        whole = rw same_length r.label.record_at_lem.whole;
      };
      in_time = r.label.in_time;
      fits = r.label.fits;
    };
    formed = rw (name_kept labels) r.formed;
    new = λ i h e. r.new i h (sym (name_kept i) ∙ e ∙ name_kept labels);
  }

  over_kept : {labels pairs : ℕ} → l < labels → OverAt file labels pairs → OverAt (with_count file l count) labels pairs
  over_kept {labels} {pairs} h r = record {
    over = record {
      record_at_lem = record {
        mark = over_mark labels pairs h ∙ r.over.record_at_lem.mark;
        whole = rw same_length r.over.record_at_lem.whole;
      };
      fits = r.over.fits;
    };
    lower = rw (pair_kept labels pairs h) r.lower;
    falls = rw (pair_kept labels pairs h) r.falls;
  }

  passes_kept : {labels pairs : ℕ} → PolicyPasses file labels pairs → (0 < pairs → l < labels) → PolicyPasses (with_count file l count) labels pairs
  passes_kept start h = start
  passes_kept (label before r) h = label (passes_kept before (λ some. absurd (omega (arith, r.label.in_time)))) (label_kept r)
  passes_kept (over before r) h = let behind = h (omega arith) in over (passes_kept before (λ some. behind)) (over_kept behind r)

  none_refuses : {labels pairs : ℕ} → l < labels → NoneRefuses file labels pairs → NoneRefuses (with_count file l count) labels pairs
  none_refuses {labels} {pairs} h r = record {
    some = rw same_length r.some;
    passes = passes_kept r.passes (λ some. h);
    ends = rw same_length r.ends;
    placed = λ m hm under.
        let p = r.placed m hm under in
        record { pair = p.pair; below = p.below; lower = ap (λ (q : Pair). q.lower) (pair_kept labels p.pair h) ∙ p.lower };
  }

-- the file with another count at one label; its counts are its own
one_count : (file : List ℕ) → AcceptedPolicy file → (l count : ℕ) → l < label_count file → OtherCounts file (with_count file l count) (count_of (with_count file l count))
unfolding pairs_of
one_count file ok l count hl = record {
  accepted = ap (λ (p : Policy). p.refusal) read;
  bytes = bytes_kept file l count within;
  long = same_length file l count within;
  labels = ap (λ (p : Policy). p.labels) read;
  names = λ m hm. name_kept file l count within m;
  pairs =
      ap (λ (p : Policy). listed (pair_at (with_count file l count) p.labels) p.pairs) read
      ∙ listed_same (pair_at (with_count file l count) (label_count file)) (pair_at file (label_count file)) (pair_count file)
      (λ k h. pair_kept file l count within (label_count file) k hl);
  counts = λ m hm. refl;
}
  where
    within : 12 * l + 12 ≤ length file
    within = omega (arith, (lawful file ok).whole)

    read : policy_of (with_count file l count) ≡ stop_at (with_count file l count) 0 (label_count file) (pair_count file)
    read = accepted_numbers (with_count file l count) (label_count file) (pair_count file) (none_refuses file l count within hl ((accepted_iff file).0 ok))

-- ---- the counts of several labels

pub recounted_length : (file : List ℕ) (count : ℕ → ℕ) (n : ℕ) → 12 * n ≤ length file → length (recounted file count n) ≡ length file
unfolding recounted
recounted_length file count zero h = refl
recounted_length file count (suc n) h =
    let before = recounted_length file count n (omega arith) in
    same_length (recounted file count n) n (count n) (omega (arith, before)) ∙ before

-- by counts that agree
pub recounted_same : (file : List ℕ) (f g : ℕ → ℕ) (n : ℕ) → ((m : ℕ) → m < n → f m ≡ g m) → recounted file f n ≡ recounted file g n
unfolding recounted
recounted_same file f g zero same = refl
recounted_same file f g (suc n) same =
    ap₂ (λ (s : List ℕ) (count : ℕ). with_count s n count) (recounted_same file f g n (λ m h. same m (omega arith))) (same n (omega arith))

-- a label whose count is replaced, and one further on
pub recounted_new : (file : List ℕ) (count : ℕ → ℕ) (n : ℕ) → 12 * n ≤ length file → (m : ℕ) → m < n → count m < 65_536
    → count_of (recounted file count n) m ≡ count m
unfolding recounted
recounted_new file count zero h m hm few = absurd (omega arith)
recounted_new file count (suc n) h m hm few = go (ℕ_discrete m n) (λ less. recounted_new file count n (omega arith) m less few)
  where
    within : 12 * n + 12 ≤ length (recounted file count n)
    within = omega (arith, recounted_length file count n (omega arith))

    go : Dec (m ≡ n) → (m < n → count_of (recounted file count n) m ≡ count m) → count_of (recounted file count (suc n)) m ≡ count m
    go (yes e) before = rw e (count_new (recounted file count n) n (count n) within (rw (sym e) few))
    go (no ne) before = count_kept (recounted file count n) n (count n) within m ne ∙ before (omega arith)

pub recounted_old : (file : List ℕ) (count : ℕ → ℕ) (n : ℕ) → 12 * n ≤ length file → (m : ℕ) → n ≤ m → count_of (recounted file count n) m ≡ count_of file m
unfolding recounted
recounted_old file count zero h m hm = refl
recounted_old file count (suc n) h m hm =
    count_kept (recounted file count n) n (count n) (omega (arith, recounted_length file count n (omega arith))) m (omega arith)
    ∙ recounted_old file count n (omega arith) m (omega arith)

-- the file with other counts at its first n labels; its counts are its own
some_counts : (file : List ℕ) → AcceptedPolicy file → (count : ℕ → ℕ) (n : ℕ) → n ≤ label_count file
    → OtherCounts file (recounted file count n) (count_of (recounted file count n))
unfolding recounted
some_counts file ok count zero h = record {
  accepted = ok;
  bytes = λ bytes. bytes;
  long = refl;
  labels = refl;
  names = λ m hm. refl;
  pairs = refl;
  counts = λ m hm. refl;
}
some_counts file ok count (suc n) h =
    let so = some_counts file ok count n (omega arith) in
    let one = one_count (recounted file count n) so.accepted n (count n) (omega (arith, so.labels)) in
    record {
      accepted = one.accepted;
      bytes = λ bytes. one.bytes (so.bytes bytes);
      long = one.long ∙ so.long;
      labels = one.labels ∙ so.labels;
      names = λ m hm. one.names m (omega (arith, so.labels)) ∙ so.names m hm;
      pairs = one.pairs ∙ so.pairs;
      counts = λ m hm. refl;
    }

-- its accounts by another name
pub with_counts : {file other : List ℕ} {old count : ℕ → ℕ} → OtherCounts file other old
    → ((m : ℕ) → m < label_count file → count_of other m ≡ count m) → OtherCounts file other count
with_counts so counts = record {
  accepted = so.accepted;
  bytes = so.bytes;
  long = so.long;
  labels = so.labels;
  names = so.names;
  pairs = so.pairs;
  counts = counts;
}

-- one label's count replaced
pub count_replaced : (file : List ℕ) → AcceptedPolicy file → (l count : ℕ) → l < label_count file → count < 65_536
    → OtherCounts file (with_count file l count) (λ m. cond (eqb m l) count (count_of file m))
count_replaced file ok l count hl few = with_counts (one_count file ok l count hl) (λ m hm. go m (ℕ_discrete m l))
  where
    within : 12 * l + 12 ≤ length file
    within = omega (arith, (lawful file ok).whole)

    go : (m : ℕ) → Dec (m ≡ l) → count_of (with_count file l count) m ≡ cond (eqb m l) count (count_of file m)
    go m (yes e) = rw (e, eq-eqb l l refl) (count_new file l count within few)
    go m (no ne) = rw (ne_eqb m l ne) (count_kept file l count within m ne)

-- all labels' counts replaced
pub counts_replaced : (file : List ℕ) → AcceptedPolicy file → (count : ℕ → ℕ) → ((m : ℕ) → m < label_count file → count m < 65_536)
    → OtherCounts file (recounted file count (label_count file)) count
counts_replaced file ok count few =
    with_counts (some_counts file ok count (label_count file) (omega arith))
    (λ m hm. recounted_new file count (label_count file) (omega (arith, (lawful file ok).whole)) m hm (few m hm))

-- by its own counts a file of bytes stays as it is
pub recounted_own : (file : List ℕ) → ((i : ℕ) → get_or file i 0 < 256) → (n : ℕ) → 12 * n ≤ length file → recounted file (count_of file) n ≡ file
unfolding recounted
recounted_own file bytes zero h = refl
recounted_own file bytes (suc n) h =
    ap (λ (s : List ℕ). with_count s n (count_of file n)) (recounted_own file bytes n (omega arith))
    ∙ count_own file n (count_of file n) (omega arith) bytes refl
