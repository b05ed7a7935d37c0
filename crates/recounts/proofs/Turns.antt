-- A policy file at the start of a buffer, with other counts: the bytes behind it stay.
use Prim.Native.Nat.{ℕ, zero, suc, ◌+◌, ◌*◌, ◌≤◌, ◌<◌}
use mathlib.Core.List.{List, ◌++◌, append_assoc}
use mathlib.Core.Path.{◌≡◌, refl, sym, ap, ◌∙◌}
use native.Mathlib.Decide.{dec_le}
use native.Mathlib.Numerals.{add-one}
use native.Mathlib.Omega.{arith}
use borrow.Author.Tests.{le-leb, lt-leb}
use lib.ListN.{length, take, drop}
use lib.Seq.{take-append-le, drop-append-le}
use Rattle.buffers.proofs.Handed.{room_handed, handed_within}
use Rattle.buffers.specs.Handed.{handed, handed_into}
use Rattle.buffers.specs.declared.Written.{Written}
use Rattle.format.specs.Bytes.{number_bytes}
use Rattle.lists.specs.Buffer.{pasted}
use Rattle.policy_file.proofs.Recounted.{recounted_length}
use Rattle.policy_file.specs.Counts.{with_count, recounted}

-- one more label
pub recounted_next : (file : List ℕ) (count : ℕ → ℕ) (n : ℕ) → with_count (recounted file count n) n (count n) ≡ recounted file count (n + 1)
unfolding recounted
recounted_next file count n = rw (add-one n) refl

-- bytes written at a buffer's start
pasted_start : (d s : List ℕ) → pasted d 0 s ≡ s ++ drop (length s) d
unfolding pasted
pasted_start d s = let e : 0 + length s ≡ length s = omega arith in ap (λ (k : ℕ). s ++ drop k d) e

-- bytes written within the first of two lists
pasted_within : (s t : List ℕ) (at : ℕ) (b : List ℕ) → at + length b ≤ length s → pasted (s ++ t) at b ≡ pasted s at b ++ t
unfolding pasted
pasted_within s t at b h =
    rw (take-append-le at s t (omega arith), drop-append-le (at + length b) s t h) (sym (append_assoc (take at s ++ b) (drop (at + length b) s) t))

recounted_within : (s t : List ℕ) (count : ℕ → ℕ) (n : ℕ) → 12 * n ≤ length s → recounted (s ++ t) count n ≡ recounted s count n ++ t
unfolding recounted with_count
recounted_within s t count zero h = refl
recounted_within s t count (suc n) h =
    ap (λ (file : List ℕ). pasted file (12 * n + 10) (number_bytes (count n))) (recounted_within s t count n (omega arith))
    ∙ pasted_within (recounted s count n) t (12 * n + 10) (number_bytes (count n)) (omega (arith, recounted_length s count n (omega arith)))

module _ (policy : List ℕ) (count : ℕ → ℕ) (n : ℕ) (within : 12 * n ≤ length policy) where
  -- the same length is answered
  pub as_long : (room : ℕ) → handed policy room ≡ handed (recounted policy count n) room
  unfolding handed
  as_long room = rw (recounted_length policy count n within) refl

  -- with room for the file, and without
  pub with_room : (out : List ℕ) → length policy ≤ length out → recounted (handed_into policy out) count n ≡ handed_into (recounted policy count n) out
  unfolding handed_into
  with_room out h =
      rw (le-leb (length policy) (length out) h, recounted_length policy count n within, le-leb (length policy) (length out) h)
      (ap (λ (file : List ℕ). recounted file count n) (pasted_start out policy)
      ∙ recounted_within policy (drop (length policy) out) count n within
      ∙ ap (λ (k : ℕ). recounted policy count n ++ drop k out) (sym (recounted_length policy count n within))
      ∙ sym (pasted_start out (recounted policy count n)))

  pub no_room : (out : List ℕ) → length out < length policy → handed_into policy out ≡ handed_into (recounted policy count n) out
  unfolding handed_into
  no_room out h = rw (recounted_length policy count n within, lt-leb (length policy) (length out) h) refl

-- a policy that was handed out has room there
pub had_room : (policy out : List ℕ) → (handed policy (length out)).refusal ≡ 0 → length policy ≤ length out
unfolding handed
had_room policy out h = go (dec_le (length policy) (length out))
  where
    go : Dec (length policy ≤ length out) → length policy ≤ length out
    go (yes d) = d
    go (no d) = absurd (omega (arith, rw (lt-leb (length policy) (length out) (omega arith)) at h))

pub lacked_room : (policy out : List ℕ) → ¬ ((handed policy (length out)).refusal ≡ 0) → length out < length policy
unfolding handed
lacked_room policy out h = go (dec_le (length policy) (length out))
  where
    go : Dec (length policy ≤ length out) → length out < length policy
    go (yes d) = absurd (h (rw (le-leb (length policy) (length out) d) refl))
    go (no d) = omega arith

-- a buffer that a policy was handed out into has room for it
pub room_left : (policy out after : List ℕ) (w : Written) → w ≡ handed policy (length out) → after ≡ handed_into policy out → w.refusal ≡ 0 → length policy ≤ length after
room_left policy out after w e f none =
    let room = had_room policy out (ap (λ (v : Written). v.refusal) (sym e) ∙ none) in
    omega (arith, handed_within policy out w after e f, ap (λ (v : Written). v.length) (e ∙ room_handed policy (length out) room))
