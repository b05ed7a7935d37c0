-- Laws of the way to a record's secret, where places fall.
use Prim.Native.Nat.{ℕ, zero, suc, ◌≤◌, ◌<◌}
use mathlib.Core.Bool.{Bool, true, false, cond}
use mathlib.Core.List.{List}
use mathlib.Core.Path.{◌≡◌, refl, sym, ap, ◌∙◌}
use native.Mathlib.Omega.{arith}
use Rattle.envelope_file.specs.Derive.{held_walk, step_down, walked, walk_to}
use Rattle.envelope_file.specs.File.{is_held, name_in, place_in}
use Rattle.envelope_file.specs.Reads.{Falling}
use Rattle.envelope_file.specs.declared.Walk.{Walk}

-- one turn of the count: a held record ends it, any other leads to the record at its place
module _ (file : List ℕ) (n k : ℕ) where
  walked_held : is_held file k ≡ true → walked (suc n) file k ≡ held_walk file k
  unfolding walked
  walked_held e = rw e

  walked_down : is_held file k ≡ false → walked (suc n) file k ≡ step_down (walked n file (place_in file k)) (name_in file k)
  unfolding walked
  walked_down e =
      ap (λ (held : Bool). cond held (held_walk file k) (step_down (walked n file (place_in file k)) (name_in file k))) e

-- a path has no more steps than are counted
walked_steps : (file : List ℕ) (n k : ℕ) → (walked n file k).steps ≤ n
unfolding walked
walked_steps file zero k = omega arith
walked_steps file (suc n) k = go (is_held file k) (walked_steps file n (place_in file k))
  where
    go : (held : Bool) → (walked n file (place_in file k)).steps ≤ n
        → (cond held (held_walk file k) (step_down (walked n file (place_in file k)) (name_in file k))).steps ≤ suc n
    go true rest = omega arith
    go false rest = omega arith

pub walk_steps : (file : List ℕ) (k : ℕ) → (walk_to file k).steps ≤ k
unfolding walk_to
walk_steps file k = walked_steps file k k

-- the secret of a held record
pub walk_held : (file : List ℕ) (k : ℕ) → is_held file k ≡ true → walk_to file k ≡ held_walk file k
unfolding walk_to walked
walk_held file zero e = refl
walk_held file (suc k) e = walked_held file k (suc k) e

-- where places fall, two counts that are both enough agree
module _ (file : List ℕ) (records : ℕ) (f : Falling file records) where
  -- nothing is left to count at the first record, which holds its secret
  walked_first : (n k : ℕ) → k < records → k ≤ 0 → walked n file k ≡ held_walk file k
  unfolding walked
  walked_first zero k l h = refl
  walked_first (suc n) k l h = go (is_held file k) refl
    where
      go : (held : Bool) → is_held file k ≡ held → walked (suc n) file k ≡ held_walk file k
      go true e = walked_held file n k e
      go false e = absurd (omega (arith, f.falls k l e))

  walked_same : (n m k : ℕ) → k < records → k ≤ n → k ≤ m → walked n file k ≡ walked m file k
  walked_same zero m k l hn hm = walked_first zero k l hn ∙ sym (walked_first m k l hn)
  walked_same (suc n) zero k l hn hm = walked_first (suc n) k l hm ∙ sym (walked_first zero k l hm)
  walked_same (suc n) (suc m) k l hn hm = go (is_held file k) refl (walked_same n m (place_in file k))
    where
      go : (held : Bool) → is_held file k ≡ held
          → (place_in file k < records → place_in file k ≤ n → place_in file k ≤ m → walked n file (place_in file k) ≡ walked m file (place_in file k))
          → walked (suc n) file k ≡ walked (suc m) file k
      go true e rest = walked_held file n k e ∙ sym (walked_held file m k e)
      go false e rest =
          let p = f.falls k l e in
          walked_down file n k e
          ∙ ap (λ (w : Walk). step_down w (name_in file k)) (rest (omega arith) (omega arith) (omega arith))
          ∙ sym (walked_down file m k e)

  -- a count from k or more leads to the secret of record k
  pub walked_enough : (n k : ℕ) → k < records → k ≤ n → walked n file k ≡ walked k file k
  walked_enough n k l h = walked_same n k k l h (omega arith)

  -- the secret of a record that is not held is one step from that of the record at its place
  pub walk_down : (k : ℕ) → k < records → is_held file k ≡ false → walk_to file k ≡ step_down (walk_to file (place_in file k)) (name_in file k)
  unfolding walk_to
  walk_down zero l e = absurd (omega (arith, f.falls 0 l e))
  walk_down (suc k) l e =
      let p = f.falls (suc k) l e in
      walked_down file k (suc k) e
      ∙ ap (λ (w : Walk). step_down w (name_in file (suc k))) (walked_enough k (place_in file (suc k)) (omega arith) (omega arith))
