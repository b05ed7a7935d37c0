-- One account more at a label: the file is accepted again, and differs in that one count.
use Prim.Native.Nat.{ℕ, suc, ◌<◌}
use mathlib.Core.Bool.{cond}
use mathlib.Core.List.{List}
use mathlib.Core.Path.{◌≡◌, refl, sym, ◌∙◌}
use native.Mathlib.Decide.{ℕ_discrete}
use native.Mathlib.Omega.{arith}
use borrow.Author.Tests.{eq-eqb, ne_eqb}
use lib.Dec.{eqb}
use Rattle.policy_file.proofs.Recounted.{with_counts, count_replaced}
use Rattle.policy_file.specs.Counts.{OtherCounts}
use Rattle.policy_file.specs.File.{count_of}
use Rattle.policy_file.specs.Whole.{label_count, AcceptedPolicy}
use Rattle.trees.proofs.Growth.{more_there, more_elsewhere}
use Rattle.trees.specs.Growth.{one_more}
use Rattle.claims.specs.Growth.{raised}

pub raised_policy : (file : List ℕ) → AcceptedPolicy file → (l : ℕ) → l < label_count file → count_of file l < 65_535
    → OtherCounts file (raised file l) (one_more (count_of file) l)
unfolding raised
raised_policy file ok l hl room =
    let so = count_replaced file ok l (suc (count_of file l)) hl (omega arith) in
    with_counts so (λ m hm. so.counts m hm ∙ go m (ℕ_discrete m l))
  where
    go : (m : ℕ) → Dec (m ≡ l) → cond (eqb m l) (suc (count_of file l)) (count_of file m) ≡ one_more (count_of file) l m
    go m (yes e) = rw (e, eq-eqb l l refl) (sym (more_there (count_of file) l l refl))
    go m (no ne) = rw (ne_eqb m l ne) (sym (more_elsewhere (count_of file) l m ne))
