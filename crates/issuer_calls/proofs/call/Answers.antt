-- `issuer_calls::call` meets its contract: no verb is called unless it takes the arguments.
use mathlib.Core.Bool.{false≢true}
use Prim.Native.Nat.{ℕ}
use mathlib.Core.List.{List}
use mathlib.Core.Path.{sym, ap, ◌∙◌}
use native.Mathlib.Omega.{arith}
use Rattle.verbs.proofs.Taken.{told}
use Rattle.verbs.specs.Verbs.{place_of}
use Rattle.issuer_tables.specs.Calls.{verbs}
use Rattle.issuer_calls.proofs.call.Goals as goal

pub returns-then-takes : goal.returns-then-takes
unfolding verbs
returns-then-takes c =
    let args = c.args in
    let same =
    told
    args.word.now
    args.count
    verbs
    (omega arith)
    c.words.result
    c.least.result
    c.most.result
    c.find-verb.result
    c.words.ensures
    c.find-verb.ensures
    c.least.ensures
    c.most.ensures
    c.takes.ensures
    in
    let at = c.find-verb.ensures ∙ ap (λ (words : List (List ℕ)). place_of words args.word.now) c.words.ensures in
    record { ok_value = λ wrong. absurd (false≢true (sym wrong ∙ sym same ∙ c.if-takes.true)); performed = rw (← at) c.perform.ensures }
