-- `derivation::derive_record` meets its contract: the key is made from the secret that the walk leads to, one application after its steps.
use Prim.Native.Nat.{ℕ, ◌+◌}
use mathlib.Core.List.{List}
use mathlib.Core.Path.{◌≡◌, ap, ◌∙◌}
use native.Mathlib.Omega.{arith}
use lib.ListN.{get_or}
use Rattle.hmac.specs.Secrets.{label_key}
use Rattle.envelope_file.proofs.Starts.{room, name_there}
use Rattle.envelope_file.specs.Derive.{walk_to, derived_at}
use Rattle.envelope_file.specs.File.{name_in}
use Rattle.envelope_file.specs.declared.Walk.{Walk}
use Rattle.derivation.proofs.derive_record.Goals as goal

-- the key and the count of applications, from the way to the record's secret
derived_made : (file : List ℕ) (k : ℕ) (walk : Walk) (key : List ℕ) → walk ≡ walk_to file k → key ≡ label_key walk.secret (name_in file k)
    → record { refusal = 0; key = key; applications = walk.steps + 1 } ≡ derived_at file k
unfolding derived_at
derived_made file k walk key w e =
    ap (λ (x : List ℕ). record { refusal = 0; key = x; applications = walk.steps + 1 }) e
    ∙ ap (λ (v : Walk). record { refusal = 0; key = label_key v.secret (name_in file k); applications = v.steps + 1 }) w

pub overflow_add-at : goal.overflow_add-at
overflow_add-at c =
    let r = c.args.read.now.front in
    omega (arith, room r.envelope.now r.starts r.count r.located c.args.k c.requires)

pub read_name-requires : goal.read_name-requires
read_name-requires c =
    let r = c.args.read.now.front in
    omega (arith, room r.envelope.now r.starts r.count r.located c.args.k c.requires)

pub returns : goal.returns
returns c =
    let r = c.args.read.now.front in
    let file = r.envelope.now in
    let k = c.args.k in
    let walk = c.walk_to-walk in
    let begins = r.located.begins k c.requires in
    let name = name_there file k (get_or r.starts k 0) begins c.read_name.ensures in
    derived_made file k walk.result c.label_key.result walk.ensures.0
    (c.label_key.ensures ∙ ap (label_key walk.result.secret) name)
