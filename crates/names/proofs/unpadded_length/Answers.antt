-- `names::unpadded_length` meets its contract: as many bytes stand before the first space as its place says.
use Prim.Native.Nat.{ℕ}
use mathlib.Core.List.{List}
use mathlib.Core.Path.{◌≡◌, refl, sym, ◌∙◌}
use lib.Dec.{eqb}
use lib.ListN.{length}
use Rattle.std.proofs.Common.{rules, tests, arith}
use Rattle.std.proofs.lemmas.Bool.Decides.{nat_tests}
use Rattle.std.proofs.lemmas.Iterator.{YieldsList-from_slice}
use Rattle.std.proofs.lemmas.Iterator.Search.{position_from_yields_List}
use Rattle.std.proofs.lemmas.List.Recursion.{is_position_or_len}
use Rattle.std.specs.List.{position, position_or_len}
use Rattle.std.specs.Option.{unwrap_or}
use Rattle.format.proofs.Padding.{unpadded_short}
use Rattle.format.specs.Names.{unpadded}
use Rattle.names.proofs.unpadded_length.Goals as goal

unpadded_until : (name : List ℕ) → length (unpadded name) ≡ position_or_len (λ b. eqb b 32) name
unfolding unpadded
unpadded_until = is_position_or_len (λ name. length (unpadded name)) (λ b. eqb b 32) refl (λ b bs. grind arith)

unpadded_place : (name : List ℕ) → length (unpadded name) ≡ unwrap_or (position (λ b. eqb b 32) name) (length name)
unpadded_place name =
    let until = unpadded_until name in
    let short = unpadded_short name in
    grind (arith, nat_tests)

pub returns : goal.returns
returns c =
    let name = c.args.name.now in
    let found : c.position.result ≡ position (λ b. eqb b 32) name = position_from_yields_List (λ b. eqb b 32) _ _ c.position.result c.position.ensures.ran (YieldsList-from_slice name cc) (λ x b q k. search (rules, tests)) in
    c.unwrap_or.ensures ∙ rw found (sym (unpadded_place name))
