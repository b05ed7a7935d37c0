-- Laws of the names of an envelope's records, one after the other.
use Prim.Native.Nat.{ℕ, ◌+◌, ◌-◌, ◌*◌, ◌/◌, ◌%◌, ◌≤◌, ◌<◌}
use mathlib.Core.List.{List, ◌++◌, append_assoc}
use mathlib.Core.Path.{◌≡◌, refl, sym, ap, ap₂, ◌∙◌}
use native.Mathlib.Decide.{dec_lt}
use native.Mathlib.Omega.{arith}
use borrow.Rule.Slice.PartMut.{put_mid}
use lib.ListN.{length, get_or, drop, replicate, length-drop, length-append, get_or-append}
use lib.Seq.{length-take-le, get_or-take, get_or-drop, ext_get_or, drop_at}
use Rattle.std.proofs.lemmas.List.{get_or-append_right, drop-replicate}
use Rattle.format.specs.Bytes.{bytes_at}
use Rattle.lists.proofs.Tables.{length_listed, get_d_listed, get_d_filled, length_filled, take_filled}
use Rattle.lists.specs.Tables.{listed, filled}
use Rattle.envelope_file.specs.File.{name_in}
use Rattle.envelope_file.specs.Labels.{name_byte, names_in}

-- the names of k records, and one name more
name_listed : (file : List ℕ) (k : ℕ) → length (name_in file k) ≡ 8
    → listed (name_byte file) (8 * k) ++ name_in file k ≡ listed (name_byte file) (8 * (k + 1))
unfolding name_byte
name_listed file k eight =
    ext_get_or 0 _ _ (simp (length-append, length_listed (name_byte file) (8 * k), length_listed (name_byte file) (8 * (k + 1))) (omega arith))
    (λ i h. at i (omega (arith, length-append (listed (name_byte file) (8 * k)) (name_in file k), length_listed (name_byte file) (8 * k))) (dec_lt i (8 * k)))
  where
    at : (i : ℕ) → i < 8 * k + 8 → Dec (i < 8 * k) → get_or (listed (name_byte file) (8 * k) ++ name_in file k) i 0 ≡ get_or (listed (name_byte file) (8 * (k + 1))) i 0
    at i h (yes l) =
        get_or-append (listed (name_byte file) (8 * k)) (name_in file k) 0 i (omega (arith, length_listed (name_byte file) (8 * k)))
        ∙ get_d_listed (name_byte file) (8 * k) i 0 l ∙ sym (get_d_listed (name_byte file) (8 * (k + 1)) i 0 (omega arith))
    at i h (no m) =
        let which : i / 8 ≡ k = omega arith in
        let byte : i - 8 * k ≡ i % 8 = omega arith in
        get_or-append_right (listed (name_byte file) (8 * k)) (name_in file k) (8 * k) i 0 (length_listed (name_byte file) (8 * k)) (omega arith)
        ∙ ap₂ (λ (n b : ℕ). get_or (name_in file n) b 0) (sym which) byte
        ∙ sym (get_d_listed (name_byte file) (8 * (k + 1)) i 0 (omega arith))

-- one name stored behind the others
pub name_stored : (file names copied : List ℕ) (k : ℕ) → k < 64 → names ≡ filled 512 0 (name_byte file) (8 * k) → copied ≡ name_in file k
    → length copied ≡ 8 → put_mid (8 * k) (8 * k + 8 - 8 * k) names copied ≡ filled 512 0 (name_byte file) (8 * (k + 1))
name_stored file names copied k few stored name eight =
    let f : ℕ → ℕ = name_byte file in
    let size : 8 * k + 8 - 8 * k ≡ 8 = omega arith in
    let left : 512 - 8 * k - 8 ≡ 512 - 8 * (k + 1) = omega arith in
    rw (
      stored,
      name,
      size,
      take_filled f 512 0 (8 * k),
      drop_at (listed f (8 * k)) (replicate (512 - 8 * k) 0) (8 * k) (length_listed f (8 * k)),
      drop-replicate {X = ℕ} 8 (512 - 8 * k) 0,
      left,
      ← append_assoc,
      name_listed file k (ap length (sym name) ∙ eight),
    )
    refl

-- the eight bytes from 8 * k on are the name of record k
pub name_bytes : (file : List ℕ) (records k : ℕ) → records ≤ 64 → k < records → length (name_in file k) ≡ 8
    → bytes_at (names_in file records) (8 * k) 8 ≡ name_in file k
unfolding name_byte
name_bytes file records k few l eight =
    let names : List ℕ = names_in file records in
    let size : length names ≡ 512 = length_filled (name_byte file) 512 0 (8 * records) (omega arith) in
    let part : length (bytes_at names (8 * k) 8) ≡ 8 = length-take-le 8 (drop (8 * k) names) (omega (arith, length-drop (8 * k) names)) in
    ext_get_or 0 (bytes_at names (8 * k) 8) (name_in file k) (part ∙ sym eight) (λ j h. at j (omega arith))
  where
    at : (j : ℕ) → j < 8 → get_or (bytes_at (names_in file records) (8 * k) 8) j 0 ≡ get_or (name_in file k) j 0
    at j h =
        let which : (8 * k + j) / 8 ≡ k = omega arith in
        let byte : (8 * k + j) % 8 ≡ j = omega arith in
        get_or-take 8 (drop (8 * k) (names_in file records)) j 0 h
        ∙ get_or-drop (8 * k) (names_in file records) j 0
        ∙ get_d_filled (name_byte file) 512 0 (8 * records) (8 * k + j) 0 (omega arith)
        ∙ ap₂ (λ (m b : ℕ). get_or (name_in file m) b 0) which byte
