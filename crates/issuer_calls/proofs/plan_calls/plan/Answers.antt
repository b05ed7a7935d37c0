-- `issuer_calls::plan_calls::plan` meets its contract: the policy is the one that was read, or any if the call has failed.
use Prim.Native.Nat.{ℕ}
use mathlib.Core.List.{List, []}
use Rattle.std.proofs.Common.{Bor}
use Rattle.outcomes.proofs.Ending.{said_printed}
use Rattle.outcomes.proofs.Reading.{over_done}
use Rattle.policy_file.specs.Whole.{policy_refusal}
use Rattle.plan_texts.specs.Listing.{plan_text}
use Rattle.issuer_calls.proofs.plan_calls.plan.Goals as goal

pub returns : goal.returns
returns c =
    let ended = over_done [] (λ (file : Bor (List ℕ)). file.now) policy_refusal plan_text _ c.plan.result c.plan.ensures in
    (ended.0, said_printed _ _ c.of_policy.ensures ended.1)
