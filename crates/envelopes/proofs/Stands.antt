-- Bytes that stand at a place of a file, and what is read there. Nothing here is about envelopes.
use Prim.Native.Nat.{ℕ, ◌+◌, ◌≤◌, ◌<◌}
use mathlib.Core.List.{List, ◌++◌}
use mathlib.Core.Path.{◌≡◌, sym, ap, ◌∙◌}
use native.Mathlib.Omega.{arith}
use lib.ListN.{length, get_or, take, drop, length-append, length-drop, get_or-append}
use lib.Seq.{drop-append-add, drop-append-le, take-append-le, get_or-append-add}
use Rattle.format.specs.Bytes.{bytes_at}

-- part stands in file at place at
pub record Stands (file : List ℕ) (at : ℕ) (part : List ℕ) : Type 0 where
  pub front : List ℕ
  pub back : List ℕ
  pub whole : file ≡ front ++ (part ++ back)
  pub before : length front ≡ at

module _ {file : List ℕ} {at : ℕ} {part : List ℕ} (s : Stands file at part) where
  -- the n bytes that the part has at place i
  pub stands_bytes : (i n : ℕ) → i + n ≤ length part → bytes_at file (at + i) n ≡ bytes_at part i n
  stands_bytes i n h =
      ap (λ (r : List ℕ). take n (drop (at + i) r)) s.whole
      ∙ ap (λ (k : ℕ). take n (drop (k + i) (s.front ++ (part ++ s.back)))) (sym s.before)
      ∙ ap (λ (r : List ℕ). take n r) (drop-append-add s.front (part ++ s.back) i ∙ drop-append-le i part s.back (omega arith))
      ∙ take-append-le n (drop i part) s.back (omega (arith, length-drop i part))

  -- its byte at place i
  pub stands_byte : (i : ℕ) → i < length part → get_or file (at + i) 0 ≡ get_or part i 0
  stands_byte i h =
      ap (λ (r : List ℕ). get_or r (at + i) 0) s.whole
      ∙ ap (λ (k : ℕ). get_or (s.front ++ (part ++ s.back)) (k + i) 0) (sym s.before)
      ∙ get_or-append-add s.front (part ++ s.back) i 0
      ∙ get_or-append part s.back 0 i h

  -- the file reaches as far
  pub stands_within : at + length part ≤ length file
  stands_within =
      omega (arith, ap length s.whole, length-append s.front (part ++ s.back), length-append part s.back, s.before)
