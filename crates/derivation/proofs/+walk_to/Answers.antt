-- `derivation::walk_to` meets its contract.
use Prim.Native.Nat.{ℕ, ◌+◌, ◌<◌}
use mathlib.Core.Bool.{false}
use mathlib.Core.List.{List}
use mathlib.Core.Path.{◌≡◌, sym, ap, ◌∙◌}
use native.Mathlib.Omega.{arith}
use lib.ListN.{get_or}
use Rattle.hmac.specs.Secrets.{child_secret}
use Rattle.envelope_file.proofs.Starts.{room, held_room, name_there, secret_there, own_held, other_under, place_bound}
use Rattle.envelope_file.proofs.Walks.{walk_held, walk_down}
use Rattle.envelope_file.specs.Derive.{step_down, walk_to}
use Rattle.envelope_file.specs.File.{is_held, name_in, place_in}
use Rattle.envelope_file.specs.Reads.{Falling}
use Rattle.envelope_file.specs.declared.Walk.{Walk}
use Rattle.derivation.proofs.+walk_to.Goals as goal

-- one step from a walk to the record's place, as it was kept, and the child's secret
walk_made : (file : List ℕ) (records : ℕ) → Falling file records → (k : ℕ) → k < records → is_held file k ≡ false → (above : Walk) (place : ℕ) (secret : List ℕ)
    → above ≡ walk_to file place → place ≡ place_in file k → secret ≡ child_secret above.secret (name_in file k)
    → record { secret = secret; steps = above.steps + 1 } ≡ walk_to file k
walk_made file records f k l e above place secret a p s =
    ap (λ (x : List ℕ). record { secret = x; steps = above.steps + 1 }) s
    ∙ ap (λ (w : Walk). step_down w (name_in file k)) (a ∙ ap (walk_to file) p)
    ∙ sym (walk_down file records f k l e)

pub overflow_add-at : goal.overflow_add-at
overflow_add-at t c =
    let read = c.args.read.now in
    let r = read.front in
    let file = r.envelope.now in
    let k = c.args.k in
    omega (
      arith,
      held_room file r.starts r.count r.located k c.requires
          (own_held file read.places r.count read.placed read.falling k c.requires (sym c.from-place.ensures ∙ c.if-place-k.true)),
    )

pub read_secret-requires : goal.read_secret-requires
read_secret-requires t c =
    let read = c.args.read.now in
    let r = read.front in
    let file = r.envelope.now in
    let k = c.args.k in
    omega (
      arith,
      held_room file r.starts r.count r.located k c.requires
          (own_held file read.places r.count read.placed read.falling k c.requires (sym c.from-place.ensures ∙ c.if-place-k.true)),
    )

pub returns-then-place-k : goal.returns-then-place-k
returns-then-place-k t c =
    let read = c.args.read.now in
    let r = read.front in
    let file = r.envelope.now in
    let k = c.args.k in
    let held = own_held file read.places r.count read.placed read.falling k c.requires (sym c.from-place.ensures ∙ c.if-place-k.true) in
    let secret = secret_there file k (get_or r.starts k 0) (r.located.begins k c.requires) c.read_secret.ensures in
    (ap (λ (x : List ℕ). record { secret = x; steps = 0 }) secret ∙ sym (walk_held file k held), omega arith)

pub overflow_add-at-2 : goal.overflow_add-at-2
overflow_add-at-2 t c = let r = c.args.read.now.front in omega (arith, room r.envelope.now r.starts r.count r.located c.args.k c.requires)

pub read_name-requires : goal.read_name-requires
read_name-requires t c = let r = c.args.read.now.front in omega (arith, room r.envelope.now r.starts r.count r.located c.args.k c.requires)

pub returns : goal.returns
returns t c =
    let read = c.args.read.now in
    let r = read.front in
    let file = r.envelope.now in
    let k = c.args.k in
    let place = c.from-place.ensures in
    let other : get_or read.places k 0 ≡ k → ⊥ = λ z. c.if-place-k.false (place ∙ z) in
    let above = c.walk_to-above in
    let under = other_under file read.places r.count read.placed read.falling k c.requires other in
    let name = name_there file k (get_or r.starts k 0) (r.located.begins k c.requires) c.read_name.ensures in
    let secret = c.child_secret.ensures ∙ ap (child_secret above.result.secret) name in
    let place_is = place ∙ read.placed.given k c.requires under in (
      walk_made file r.count read.falling k c.requires under above.result c.from-place.result c.child_secret.result above.ensures.0 place_is secret,
      omega (arith, above.ensures.1, place_bound file read.places r.count read.placed read.falling k c.requires, other),
    )
