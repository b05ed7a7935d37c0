-- `secrets::next_secret` meets its contract.
use mathlib.Core.Path.{◌∙◌}
use native.Mathlib.Omega.{arith}
use Rattle.policy_file.specs.File.{name_of}
use Rattle.weights.specs.Tables.{entries}
use Rattle.secrets.specs.Asks.{secret_at}
use Rattle.secrets.proofs.Hanging.{secret_root, secret_made}
use Rattle.secrets.proofs.next_secret.Goals as goal

pub returns-then-m-eq0 : goal.returns-then-m-eq0
returns-then-m-eq0 c =
    let a = c.args in
    secret_root (name_of a.policy.now) (entries a.parents.now) a.root a.m c.if-m-eq0.true

pub returns : goal.returns
unfolding name_of
returns c =
    let a = c.args in
    let n = c.read_name in
    let parent = entries a.parents.now in
    let made = rw c.from.ensures at c.child_secret.ensures in
    made
    ∙ secret_made (name_of a.policy.now) parent a.root a.m c.if-m-eq0.false (λ k l. c.requires.0.falls k (omega arith))
    (secret_at a.secrets.now (parent a.m)) n.result (c.requires.1 c.if-m-eq0.false) n.ensures
