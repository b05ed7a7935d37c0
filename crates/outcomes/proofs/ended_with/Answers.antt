-- `outcomes::ended_with` meets its contract: a refusal is said by its number, anything else as it is.
use Prim.Native.Nat.{◌<◌}
use mathlib.Core.Path.{refl}
use native.Mathlib.Omega.{arith}
use Rattle.outcomes.proofs.Ending.{ends_answered, ends_refused, ends_said}
use Rattle.outcomes.specs.declared.Ended.TheVariants.{Refused}
use Rattle.outcomes.proofs.ended_with.Goals as goal

pub returns-then-refusal-ne0 : goal.returns-then-refusal-ne0
returns-then-refusal-ne0 c =
    let some : 0 < c.args.refusal = omega (arith, c.if-refusal-ne0.true) in
    (refl, ends_refused _ _ (Refused c.args.refusal) some (some, refl, refl))

pub returns : goal.returns
returns c =
    let a = c.answer in
    (a.ensures.0, ends_answered _ _ a.result c.if-refusal-ne0.false (ends_said _ a.result a.ensures.1))
