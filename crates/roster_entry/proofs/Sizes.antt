-- The sizes of records: a record ends within its file, and one that is not refused as it is read has at least 4 bytes. A refusal has a number above 0.
use Prim.Native.Nat.{ℕ, ◌+◌, ◌-◌, ◌≤◌, ◌<◌}
use mathlib.Core.Bool.{Bool, true, false, cond}
use mathlib.Core.List.{List}
use mathlib.Core.Path.{◌≡◌, refl}
use native.Mathlib.Omega.{arith}
use lib.Dec.{ltb}
use lib.ListN.{length}
use borrow.Author.Tests.{ltb-false}
use Rattle.format.specs.Bytes.{bytes_at, same_bytes}
use Rattle.format.specs.Marks.{JN, MV, HD, RL, WD}
use Rattle.roster_file.specs.File.{marked_entry, entry_at, size_of}
use Rattle.roster_file.specs.declared.Entry.TheVariants.{Join, Move, Hold, Release, Withdraw, Refused}
use Rattle.roster_file.specs.declared.Entry.{Entry}

-- a record that `left` bytes hold: refused under a number above 0, or of at least 4 bytes
abbrev pub Fits : (left : ℕ) → Entry → Type 0
Fits left (Join number target) = 12 ≤ left
Fits left (Move number target) = 12 ≤ left
Fits left (Hold number) = 4 ≤ left
Fits left (Release number) = 4 ≤ left
Fits left (Withdraw number) = 4 ≤ left
Fits left (Refused n) = 0 < n

-- what holds of both sides of a test holds of what the test picks
either : (P : Entry → Type 0) (b : Bool) (x y : Entry) → P x → (b ≡ false → P y) → P (cond b x y)
either P true x y f g = f
either P false x y f g = g refl

both : (P : Entry → Type 0) (b : Bool) (x y : Entry) → P x → P y → P (cond b x y)
both P true x y f g = f
both P false x y f g = g

pub marked_fits : (policy : List ℕ) (labels : ℕ) (file : List ℕ) (at left : ℕ) → Fits left (marked_entry policy labels file at left)
unfolding marked_entry
marked_fits policy labels file at left =
    let P = Fits left in
    let mark = bytes_at file at 2 in
    both P (same_bytes mark JN) _ _ (either P (ltb left 12) _ _ (omega arith) (λ e. ltb-false left 12 e))
    (both P (same_bytes mark MV) _ _ (either P (ltb left 12) _ _ (omega arith) (λ e. ltb-false left 12 e))
    (both P (same_bytes mark HD) _ _ (either P (ltb left 4) _ _ (omega arith) (λ e. ltb-false left 4 e))
    (both P (same_bytes mark RL) _ _ (either P (ltb left 4) _ _ (omega arith) (λ e. ltb-false left 4 e))
    (both P (same_bytes mark WD) _ _ (either P (ltb left 4) _ _ (omega arith) (λ e. ltb-false left 4 e)) (omega arith)))))

pub entry_fits : (policy : List ℕ) (labels : ℕ) (file : List ℕ) (at : ℕ) → Fits (length file - at) (entry_at policy labels file at)
unfolding entry_at
entry_fits policy labels file at =
    both (Fits (length file - at)) (ltb (length file - at) 2) _ _ (omega arith) (marked_fits policy labels file at (length file - at))

-- so it ends within the file
pub fits_within : (left : ℕ) (entry : Entry) → Fits left entry → size_of entry ≤ left
fits_within left (Join number target) h = h
fits_within left (Move number target) h = h
fits_within left (Hold number) h = h
fits_within left (Release number) h = h
fits_within left (Withdraw number) h = h
fits_within left (Refused n) h = omega arith

pub entry_within : (policy : List ℕ) (labels : ℕ) (file : List ℕ) (at : ℕ) → at ≤ length file → at + size_of (entry_at policy labels file at) ≤ length file
entry_within policy labels file at l = let fits = fits_within (length file - at) (entry_at policy labels file at) (entry_fits policy labels file at) in omega (arith, fits)

-- and it has at least 4 bytes, unless it is refused as it is read
pub entry_long : (entry : Entry) → ((n : ℕ) → entry ≡ Refused n → ⊥) → 4 ≤ size_of entry
entry_long (Join number target) h = omega arith
entry_long (Move number target) h = omega arith
entry_long (Hold number) h = omega arith
entry_long (Release number) h = omega arith
entry_long (Withdraw number) h = omega arith
entry_long (Refused n) h = absurd (h n refl)
