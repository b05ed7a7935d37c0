-- `desk_calls::call` meets its contract: no verb is called unless it takes the arguments.
use mathlib.Core.Bool.{false≢true}
use Prim.Native.Nat.{ℕ}
use mathlib.Core.List.{List}
use mathlib.Core.Path.{sym, ap, ◌∙◌}
use native.Mathlib.Omega.{arith}
use Rattle.verbs.proofs.Taken.{told}
use Rattle.verbs.specs.Verbs.{place_of}
use Rattle.desk_tables.specs.Calls.{verbs}
use Rattle.desk_calls.proofs.call.Goals as goal

pub returns-then-takes : goal.returns-then-takes
unfolding verbs
returns-then-takes c =
    let i = c in
    let t = i in
    let m = t in
    let l = m in
    let f = l in
    let w = f in
    let args = w.args in
    let same =
    told
    args.word.now
    args.count
    verbs
    (omega arith)
    w.words.result
    l.least.result
    m.most.result
    f.find-verb.result
    w.words.ensures
    f.find-verb.ensures
    l.least.ensures
    m.most.ensures
    t.takes.ensures
    in
    let at = f.find-verb.ensures ∙ ap (λ (words : List (List ℕ)). place_of words args.word.now) w.words.ensures in
    record {
      ok_value = λ wrong. absurd (false≢true (sym wrong ∙ sym same ∙ i.if-takes.true));
      performed = rw (← at) c.perform.ensures;
    }
