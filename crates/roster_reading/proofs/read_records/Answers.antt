-- `roster_reading::read_records` meets its contract: the loop's turns by the laws of `Turns.antt`.
use Rattle.std.proofs.Common.{◌≡◌, ◌+◌, ℕ, sym, refl, ap, ◌∙◌, true, length}
use borrow.Author.Tests.{lt-ltb, le-ltb}
use Rattle.roster_file.specs.Whole.{read_from}
use Rattle.roster_reading.specs.Place.{goes_on}
use Rattle.roster_reading.proofs.Turns.{start, ends, obeyed, leaves_fewer, goes_on_to_end, refused_ends, passed_after, refused_after}
use Rattle.roster_reading.proofs.read_records.Goals as goal

pub loop-at-init : goal.loop-at-init
loop-at-init c = (length c.args.file.now, start c.args.policy.now c.args.labels c.args.file.now c.args.roster.now)

pub loop-at-smaller : goal.loop-at-smaller
loop-at-smaller c =
    let l = c.loop-at in
    let file = c.args.file.now in
    let entry = c.read_entry-entry.result in
    let on : goes_on file 0 l.at ≡ true = sym (goes_on_to_end file 0 l.at refl) ∙ lt-ltb _ _ c.loop-at-test.true in
    leaves_fewer c.args.policy.now c.args.labels file 0 l.at l.roster on entry c.read_entry-entry.ensures 0 (sym c.if-refusal-ne0.false ∙ c.obey-refusal.ensures.0)
    (l.at + c.entry_size-at.result) (ap (λ (k : ℕ). l.at + k) c.entry_size-at.ensures ∙ passed_after entry 0 l.at refl)

pub loop-at-preserved : goal.loop-at-preserved
loop-at-preserved c =
    let l = c.loop-at in
    let file = c.args.file.now in
    let policy = c.args.policy.now in
    let entry = c.read_entry-entry.result in
    let on : goes_on file 0 l.at ≡ true = sym (goes_on_to_end file 0 l.at refl) ∙ lt-ltb _ _ c.loop-at-test.true in
    let next = obeyed policy c.args.labels file (read_from (length file) policy c.args.labels file 0 c.args.roster.now) l.invariant.0 0 l.at l.roster
    l.invariant.1 on entry c.read_entry-entry.ensures 0 c.obey-refusal.new.roster (sym c.if-refusal-ne0.false ∙ c.obey-refusal.ensures.0, c.obey-refusal.ensures.1)
    (l.at + c.entry_size-at.result) (ap (λ (k : ℕ). l.at + k) c.entry_size-at.ensures ∙ passed_after entry 0 l.at refl)
    in
    (next.0, next.2)

pub returns-then-refusal-ne0 : goal.returns-then-refusal-ne0
returns-then-refusal-ne0 c =
    let l = c.loop-at in
    let file = c.args.file.now in
    let policy = c.args.policy.now in
    let refusal = c.obey-refusal.result in
    let whole = read_from (length file) policy c.args.labels file 0 c.args.roster.now in
    let on : goes_on file 0 l.at ≡ true = sym (goes_on_to_end file 0 l.at refl) ∙ lt-ltb _ _ c.loop-at-test.true in
    let next = obeyed policy c.args.labels file whole l.invariant.0 0 l.at l.roster
    l.invariant.1 on c.read_entry-entry.result c.read_entry-entry.ensures refusal c.obey-refusal.new.roster c.obey-refusal.ensures
    l.at (refused_after c.read_entry-entry.result refusal l.at c.if-refusal-ne0.true)
    in
    ends policy c.args.labels file whole next.0 refusal l.at c.obey-refusal.new.roster next.2 (sym (refused_ends file refusal l.at c.if-refusal-ne0.true))

pub returns : goal.returns
returns c =
    let l = c.loop-at in
    let file = c.args.file.now in
    let policy = c.args.policy.now in
    ends policy c.args.labels file (read_from (length file) policy c.args.labels file 0 c.args.roster.now) l.invariant.0 0 l.at l.roster l.invariant.1
    (sym (goes_on_to_end file 0 l.at refl) ∙ le-ltb _ _ c.loop-at-test.false)
