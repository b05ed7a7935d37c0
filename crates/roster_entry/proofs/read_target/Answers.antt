-- `roster_entry::read_target` meets its contract.
use Rattle.std.proofs.Common.{◌≡◌, ◌<◌, sym, ◌∙◌, rules, arith}
use Rattle.roster_entry.proofs.OneEntry.{label_below, target_is}
use Rattle.roster_entry.proofs.read_target.Goals as goal

pub map-requires : goal.map-requires
map-requires c = λ x e.
    let below = label_below c.args.policy.now c.args.labels c.read_name.result x (sym c.find_name.ensures ∙ e) in
    let small : x < 256 = omega (arith, below, c.requires.1) in
    search rules

pub returns : goal.returns
returns c =
    let a = c.args in
    let same : c.map.result ≡ c.find_name.result = search rules in
    same ∙ target_is a.policy.now a.labels a.file.now a.at c.read_name.result c.find_name.result c.read_name.ensures (sym c.find_name.ensures)
