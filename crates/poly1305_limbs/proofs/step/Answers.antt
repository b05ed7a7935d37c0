-- `poly1305_limbs::step` meets its contract.
use mathlib.Core.Path.{◌≡◌, ap, ◌∙◌}
use Prim.Native.Nat.{◌%◌}
use Rattle.poly1305_limbs.specs.declared.Accumulator.{Accumulator}
use Rattle.poly1305_limbs.specs.Prime.{prime}
use Rattle.poly1305_limbs.specs.Limbs.{value}
use Rattle.poly1305_limbs.specs.Columns.{plus, product, carried, folded}
use Rattle.poly1305_limbs.proofs.Bounds.{step_reduced}
use Rattle.poly1305_limbs.proofs.Values.{value_step}
use Rattle.poly1305_limbs.proofs.step.Goals as goal

pub returns : goal.returns
returns c =
    let b = c in
    let s = b in
    let last : c.carried.result ≡ carried (folded b.carried-d.result) = c.carried.ensures.0 ∙ ap carried c.folded.ensures.0 in
    let first : b.carried-d.result ≡ carried (product (plus s.args.h s.args.n s.args.high) s.args.r) =
    b.carried-d.ensures.0
    ∙ ap carried (b.product.ensures.0 ∙ ap (λ (d : Accumulator). product d s.args.r) b.plus.ensures.0)
    in (
      rw last (step_reduced b.carried-d.result b.carried-d.ensures.1),
      ap (λ (d : Accumulator). value d % prime) (last ∙ ap (λ (d : Accumulator). carried (folded d)) first)
          ∙ value_step s.args.h s.args.r s.args.n s.args.high s.requires.1,
    )
