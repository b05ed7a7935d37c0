-- `label_record::find_name` meets its contract. Invariant: the answer is that of a search from label i on.
use mathlib.Core.Bool.{true, false}
use mathlib.Core.Path.{◌≡◌, sym, ◌∙◌}
use native.Mathlib.Omega.{arith}
use Rattle.format.proofs.Search.{first_start, none_at, hit_at, miss_at}
use Rattle.label_record.proofs.OneLabel.{named}
use Rattle.policy_file.specs.File.{is_named, label_named}
use Rattle.label_record.proofs.find_name.Goals as goal

pub loop-i-init : goal.loop-i-init
unfolding label_named
loop-i-init c = (omega arith, first_start _ _)

pub loop-i-preserved : goal.loop-i-preserved
loop-i-preserved c =
    let l = c.loop-i in
    let a = c.args in
    let same = named a.policy.now a.name c.read_name.result l.i c.read_name.ensures in
    let e : is_named a.policy.now a.name l.i ≡ false = same ∙ sym c.same_name.ensures ∙ c.if-same_name.false in
    (omega arith, l.invariant.1 ∙ miss_at (is_named a.policy.now a.name) l.i a.labels (omega arith) e)

pub returns-then-i-labels : goal.returns-then-i-labels
returns-then-i-labels c =
    let l = c.loop-i in
    let a = c.args in
    sym (l.invariant.1 ∙ none_at (is_named a.policy.now a.name) l.i a.labels c.if-i-labels.true)

pub returns-then-same_name : goal.returns-then-same_name
returns-then-same_name c =
    let l = c.loop-i in
    let a = c.args in
    let same = named a.policy.now a.name c.read_name.result l.i c.read_name.ensures in
    let e : is_named a.policy.now a.name l.i ≡ true = same ∙ sym c.same_name.ensures ∙ c.if-same_name.true in
    sym (l.invariant.1 ∙ hit_at (is_named a.policy.now a.name) l.i a.labels (omega arith) e)
