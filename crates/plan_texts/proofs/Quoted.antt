-- A name between quotes needs no escape: of an accepted policy it has nothing but capital letters and digits.
use Prim.Native.Nat.{ℕ, zero, suc, ◌≤◌, ◌<◌}
use mathlib.Core.List.Memᴰ
use mathlib.Core.List.{List, [], ◌∷◌, Memᴰ}
use mathlib.Core.Logic.{⊎_elim}
use native.Mathlib.Omega.{arith}
use lib.ListN.{length, get_or, take}
use Rattle.format.proofs.Padding.{unpadded_signs}
use Rattle.format.specs.Form.{Sign}
use Rattle.format.specs.Names.{unpadded}
use Rattle.policy_file.proofs.Lawful.{lawful}
use Rattle.policy_file.specs.File.{name_of}
use Rattle.policy_file.specs.Whole.{label_count, AcceptedPolicy}

-- what holds of the first n bytes, one by one, holds of each of them
taken_each : (P : ℕ → Type 0) (s : List ℕ) (n : ℕ) → n ≤ length s → ((i : ℕ) → i < n → P (get_or s i 0))
    → (b : ℕ) → Memᴰ b (take n s) → P b
taken_each P s zero h each b m = absurd (Memᴰ.not-nil m)
taken_each P [] (suc n) h each b m = absurd (omega arith)
taken_each P (a ∷ s) (suc n) h each b m =
    ⊎_elim (λ same. rw same (each 0 (omega arith))) (taken_each P s n (omega arith) (λ i l. each (suc i) (omega arith)) b) (Memᴰ.cases_cons m)

pub name_plain : (file : List ℕ) → AcceptedPolicy file → (m : ℕ) → m < label_count file → (b : ℕ) → Memᴰ b (unpadded (name_of file m)) → Sign b
name_plain file ok m l b mem =
    let form = (lawful file ok).formed m l in
    taken_each Sign (name_of file m) form.signs form.within form.sign b (rw (unpadded_signs (name_of file m) form) at mem)
