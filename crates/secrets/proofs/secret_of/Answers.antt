-- `secrets::secret_of` meets its contract: the secret of the one label that is marked.
use native.Mathlib.Omega.{arith}
use Rattle.secrets.proofs.Marks.{mark_alone}
use Rattle.secrets.proofs.secret_of.Goals as goal

pub returns : goal.returns
returns c =
    let s = c in
    let m = s.args.m in
    c.make_secrets-secrets.ensures.secret m (omega arith) (mark_alone m (omega (arith, s.requires.few)))
