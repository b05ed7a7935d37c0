-- `poly1305::same_tag` meets its contract.
use mathlib.Core.Path.{◌≡◌, ◌∙◌, ap}
use Prim.Native.Nat.{ℕ}
use lib.Dec.{eqb}
use lib.ListN.{length}
use borrow.Author.Rules.{rules}
use Rattle.poly1305.proofs.Tags.{no_difference}
use Rattle.poly1305.proofs.same_tag.Goals as goal

pub returns : goal.returns
returns c =
    let size : length c.args.a ≡ length c.args.b.now = search rules in
    ap (λ (d : ℕ). eqb d 0) c.differences.ensures ∙ no_difference c.args.a c.args.b.now size
