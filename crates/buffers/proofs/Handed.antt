-- What is handed out into a buffer, with room and with none.
use Prim.Native.Nat.{ℕ, ◌+◌, ◌≤◌, ◌<◌}
use mathlib.Core.Bool.{Bool, true, false}
use mathlib.Core.List.{List}
use mathlib.Core.Path.{◌≡◌, refl, sym, ap, ◌∙◌}
use native.Mathlib.Omega.{arith}
use borrow.Author.Tests.{le-leb, lt-leb, leb-true, eq-eqb, ne_eqb}
use lib.Dec.{leb}
use lib.ListN.{length, take, drop, length-append, length-drop}
use lib.Seq.{take_at}
use Rattle.lists.specs.Buffer.{pasted}
use Rattle.buffers.specs.Handed.{wrote, refused_written, handed, handed_into, written_unless, buffer_unless}
use Rattle.buffers.specs.Put.{Put}
use Rattle.buffers.specs.declared.Written.{Written}
use Rattle.buffers.proofs.Writes.{put_front}

-- the answer
module _ (s : List ℕ) (room : ℕ) where
  pub handed_room : length s ≤ room → wrote (length s) ≡ handed s room
  unfolding handed
  handed_room h = rw (le-leb (length s) room h)

  pub handed_none : room < length s → refused_written 16 ≡ handed s room
  unfolding handed
  handed_none h = rw (lt-leb (length s) room h)

  pub room_handed : length s ≤ room → handed s room ≡ wrote (length s)
  room_handed h = sym (handed_room h)

-- what is left in the buffer
module _ (s out : List ℕ) where
  pub left_room : length s ≤ length out → {after : List ℕ} → after ≡ pasted out 0 s → after ≡ handed_into s out
  unfolding handed_into
  left_room h e = rw (le-leb (length s) (length out) h) e

  pub left_none : length out < length s → out ≡ handed_into s out
  unfolding handed_into
  left_none h = rw (lt-leb (length s) (length out) h)

  -- with room, its first bytes are those handed out
  pub left_front : length s ≤ length out → take (length s) (handed_into s out) ≡ s
  unfolding handed_into pasted
  left_front h = rw (le-leb (length s) (length out) h) (take_at s (drop (0 + length s) out) (length s) refl)

  -- with room, it is a write at the buffer's start
  pub handed_put : length s ≤ length out → {w : Written} {after : List ℕ} → w ≡ handed s (length out) → after ≡ handed_into s out
      → Put out after 0 s w.length
  unfolding handed_into
  handed_put h {w} {after} e f =
      let size : w.length ≡ length s = ap (λ (v : Written). v.length) (e ∙ room_handed s (length out) h) in
      record { fits = omega arith; behind = omega arith; written = rw (le-leb (length s) (length out) h) at f }

  pasted_length : length s ≤ length out → length (pasted out 0 s) ≡ length out
  unfolding pasted
  pasted_length h = simp (length-append, length-drop) (omega arith)

  -- the length that is answered lies within the buffer
  pub handed_within : (w : Written) (after : List ℕ) → w ≡ handed s (length out) → after ≡ handed_into s out → w.length ≤ length after
  unfolding handed handed_into
  handed_within w after e f = go (leb (length s) (length out)) refl
    where
      go : (b : Bool) → leb (length s) (length out) ≡ b → w.length ≤ length after
      go true t =
          let room = leb-true (length s) (length out) t in
          rw (e, f, t) (omega (arith, pasted_length room, room))
      go false t = rw (e, f, t) (omega arith)

-- what a writer put at the front of a buffer of its own, handed out from there
module _ {d e s : List ℕ} {r : ℕ} (put : Put d e 0 s r) where
  pub front_length : r ≡ length (take r e)
  front_length = omega (arith, put.behind, ap length (put_front put))

  pub front_handed : (room : ℕ) {w : Written} → w ≡ handed (take r e) room → w ≡ handed s room
  front_handed room h = h ∙ ap (λ (t : List ℕ). handed t room) (put_front put)

  pub front_left : (out : List ℕ) {after : List ℕ} → after ≡ handed_into (take r e) out → after ≡ handed_into s out
  front_left out h = h ∙ ap (λ (t : List ℕ). handed_into t out) (put_front put)

-- what is handed out unless a refusal comes before
module _ (s : List ℕ) (room : ℕ) where
  pub unless_none : {refusal : ℕ} → refusal ≡ 0 → written_unless refusal s room ≡ handed s room
  unfolding written_unless handed
  unless_none {refusal} e = rw (eq-eqb refusal 0 e)

  pub unless_refused : {refusal : ℕ} → 0 < refusal → written_unless refusal s room ≡ refused_written refusal
  unfolding written_unless
  unless_refused {refusal} h = rw (ne_eqb refusal 0 (λ (e : refusal ≡ 0). omega (arith, e, h)))

module _ (s out : List ℕ) where
  pub unless_into : {refusal : ℕ} → refusal ≡ 0 → buffer_unless refusal s out ≡ handed_into s out
  unfolding buffer_unless handed_into
  unless_into {refusal} e = rw (eq-eqb refusal 0 e)

  pub unless_left : {refusal : ℕ} → 0 < refusal → buffer_unless refusal s out ≡ out
  unfolding buffer_unless
  unless_left {refusal} h = rw (ne_eqb refusal 0 (λ (e : refusal ≡ 0). omega (arith, e, h)))
