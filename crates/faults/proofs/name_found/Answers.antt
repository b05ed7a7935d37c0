-- `faults::name_found` meets its contract: the name of a label found, or eight spaces.
use mathlib.Core.Path.{sym, ◌∙◌}
use Rattle.faults.proofs.Searches.{name_at, name_none}
use Rattle.policy_file.specs.File.{name_of}
use Rattle.faults.proofs.name_found.Goals as goal

pub returns-in-Some : goal.returns-in-Some
unfolding name_of
returns-in-Some c =
    let a = c.args in
    c.read_name.ensures ∙ sym (name_at a.policy.now _ c.in-Some.is)

pub returns-in-None : goal.returns-in-None
returns-in-None c = let a = c.args in sym (name_none a.policy.now c.in-None.is)
