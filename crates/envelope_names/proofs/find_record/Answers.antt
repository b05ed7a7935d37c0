-- `envelope_names::find_record` meets its contract. Invariant: the answer is that of a search from record k on.
use mathlib.Core.Bool.{true, false}
use mathlib.Core.Path.{◌≡◌, sym, ◌∙◌}
use native.Mathlib.Omega.{arith}
use Rattle.format.proofs.Search.{first_start, none_at, hit_at, miss_at}
use Rattle.envelope_file.proofs.Starts.{room, name_compared}
use Rattle.envelope_file.specs.File.{carries, record_named}
use Rattle.envelope_names.proofs.find_record.Goals as goal

pub loop-k-init : goal.loop-k-init
unfolding record_named
loop-k-init c = (omega arith, first_start _ _)

pub overflow_add-at : goal.overflow_add-at
overflow_add-at c =
    let a = c.args in
    omega (arith, room a.envelope.now a.starts.now a.records c.requires c.loop-k.k (omega arith))

pub read_name-requires : goal.read_name-requires
read_name-requires c =
    let a = c.args in
    omega (arith, room a.envelope.now a.starts.now a.records c.requires c.loop-k.k (omega arith))

pub loop-k-preserved : goal.loop-k-preserved
loop-k-preserved c =
    let l = c.loop-k in
    let start = c in
    let file = start.args.envelope.now in
    let read = c.read_name in
    let same = name_compared file start.args.starts.now start.args.records start.requires l.k (omega arith) start.args.name read.result read.ensures in
    let e : carries file start.args.name l.k ≡ false = same ∙ sym c.same_name.ensures ∙ c.if-same_name.false in
    (omega arith, l.invariant.1 ∙ miss_at (carries file start.args.name) l.k start.args.records (omega arith) e)

pub returns-then-k-records : goal.returns-then-k-records
returns-then-k-records c =
    let l = c.loop-k in
    let a = c.args in
    sym (l.invariant.1 ∙ none_at (carries a.envelope.now a.name) l.k a.records c.if-k-records.true)

pub returns-then-same_name : goal.returns-then-same_name
returns-then-same_name c =
    let l = c.loop-k in
    let start = c in
    let file = start.args.envelope.now in
    let read = c.read_name in
    let same = name_compared file start.args.starts.now start.args.records start.requires l.k (omega arith) start.args.name read.result read.ensures in
    let e : carries file start.args.name l.k ≡ true = same ∙ sym c.same_name.ensures ∙ c.if-same_name.true in
    sym (l.invariant.1 ∙ hit_at (carries file start.args.name) l.k start.args.records (omega arith) e)
