-- `poly1305_limbs::product` meets its contract.
use native.Mathlib.Omega.{arith}
use Rattle.poly1305_limbs.specs.Columns.{product}
use Rattle.poly1305_limbs.proofs.Bounds.{top_small}
use Rattle.poly1305_limbs.proofs.product.Goals as goal

pub returns : goal.returns
unfolding product
returns c =
    let k = c in
    let b = k in
    let a = b in (
      rw (
        k.column-4.ensures.0,
        k.column-3.ensures.0,
        k.column-2.ensures.0,
        k.column.ensures.0,
        b.back-s3.ensures.0,
        b.back-s2.ensures.0,
        b.back-s1.ensures.0,
      ),
      record {
        h0_fits = omega (arith, k.column.ensures.1);
        h1_fits = omega (arith, k.column-2.ensures.1);
        h2_fits = omega (arith, k.column-3.ensures.1);
        h3_fits = omega (arith, k.column-4.ensures.1);
        h4_fits = omega (arith, top_small a.args.h.h4 a.args.r.r0 a.requires.0.h4_wide a.requires.1.r0_small);
      },
    )
