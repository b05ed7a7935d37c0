-- `issuer_calls::keys::root` meets its contract: it ends as `make_root` does, or has failed.
use mathlib.Core.Path.{refl}
use lib.ListN.{replicate}
use Rattle.issuer_calls.proofs.keys.root.Goals as goal

pub returns-then-is_no_file : goal.returns-then-is_no_file
returns-then-is_no_file c = (replicate 32 0, refl, tt)
