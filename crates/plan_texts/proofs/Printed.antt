-- What the plan programs print: 4,096 bytes have room for it, and the file's first 2,828 bytes decide it.
use Prim.Native.Nat.{ℕ, ◌≤◌}
use mathlib.Core.List.{List}
use mathlib.Core.Path.{◌≡◌, ap, ap₂}
use native.Mathlib.Omega.{arith}
use lib.ListN.{length, take}
use Rattle.policy_file.proofs.Front.{front_agrees}
use Rattle.policy_file.specs.Whole.{policy_refusal}
use Rattle.policy_file.specs.declared.Policy.{Policy}
use Rattle.decimals.proofs.Printed.{printed_short}
use Rattle.decimals.specs.Worded.{printed_unless}
use Rattle.plan_texts.specs.Listing.{plan_text}
use Rattle.plan_texts.specs.Printed.{printed}
use Rattle.plan_texts.proofs.Front.{text_front}
use Rattle.plan_texts.proofs.Plans.{text_suffices}

pub printed_same : (n : ℕ) → 2828 ≤ n → (file : List ℕ) {s t : List ℕ} → s ≡ t
    → printed_unless (policy_refusal file) s ≡ printed_unless (policy_refusal (take n file)) t
printed_same n enough file same = ap₂ printed_unless (ap (λ (v : Policy). v.refusal) (front_agrees n enough file).verdict) same

-- what `plan` prints
pub printed_suffices : (file : List ℕ) → length (printed file) ≤ 3281
unfolding printed
printed_suffices file = printed_short (policy_refusal file) (plan_text file) 3281 (omega arith) (text_suffices file)

pub printed_front : (n : ℕ) → 2828 ≤ n → (file : List ℕ) → printed file ≡ printed (take n file)
unfolding printed
printed_front n enough file = printed_same n enough file (text_front n enough file)
