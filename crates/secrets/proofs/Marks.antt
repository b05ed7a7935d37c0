-- Laws of the tables of needed labels and of their secrets, as they are filled in.
use Prim.Native.Nat.{ℕ, ◌+◌, ◌≤◌, ◌<◌}
use mathlib.Core.Bool.{Bool, true, false, false≢true}
use mathlib.Core.List.{List, []}
use mathlib.Core.Logic.{◌≢◌}
use mathlib.Core.Path.{◌≡◌, sym, ap, ◌∙◌}
use native.Mathlib.Decide.{ℕ_discrete}
use native.Mathlib.Omega.{arith}
use lib.ListN.{length, set, replicate}
use lib.Seq.{get_or-set_same, get_or-set_other}
use Rattle.trees.specs.Trees.{top}
use Rattle.weights.specs.Tables.{entries}
use Rattle.secrets.specs.Asks.{ParentsFall, is_marked, Needed, table_secret, secret_at, Made}

-- one mark alone
pub mark_alone : (m : ℕ) → m < 64 → is_marked (set (replicate 64 false) m true) m ≡ true
mark_alone m h = get_or-set_same (replicate 64 false) m true false h

-- a mark more takes none away
mark_stays : (marks : List Bool) (p m : ℕ) → p < length marks → is_marked marks m ≡ true → is_marked (set marks p true) m ≡ true
mark_stays marks p m h y = go (ℕ_discrete m p)
  where
    go : Dec (m ≡ p) → is_marked (set marks p true) m ≡ true
    go (yes e) = ap (is_marked (set marks p true)) e ∙ get_or-set_same marks p true false h
    go (no ne) = get_or-set_other marks p m true false ne ∙ y

-- the labels are gone through downwards
module _ {held : List Bool} {parents : List ℕ} {labels : ℕ} where
  pub needed_none : Needed held held parents labels labels
  needed_none = record { kept = λ m h. h; above = λ m f l h. absurd (omega arith) }

  module _ {needed : List Bool} {from : ℕ} (n : Needed held needed parents from labels) where
    pub needed_from : (k : ℕ) → from ≤ k → Needed held needed parents k labels
    needed_from k h = record { kept = n.kept; above = λ m f. n.above m (omega arith) }

    -- the next label is marked, and its parent with it
    pub needed_more : (m p : ℕ) → from ≤ m + 1 → p ≡ entries parents m → p < m → m < length needed → Needed held (set needed p true) parents m labels
    needed_more m p f e lt len = record { kept = λ i h. stays i (n.kept i h); above = up }
      where
        stays : (i : ℕ) → is_marked needed i ≡ true → is_marked (set needed p true) i ≡ true
        stays i = mark_stays needed p i (omega arith)

        up : (i : ℕ) → m ≤ i → i < labels → is_marked (set needed p true) i ≡ true → is_marked (set needed p true) (entries parents i) ≡ true
        up i l il h = go (ℕ_discrete i m)
          where
            go : Dec (i ≡ m) → is_marked (set needed p true) (entries parents i) ≡ true
            go (yes same) = ap (is_marked (set needed p true)) (ap (entries parents) same ∙ sym e) ∙ get_or-set_same needed p true false (omega arith)
            go (no other) = stays (entries parents i) (n.above i (omega arith) il (sym (get_or-set_other needed p i true false (λ q. omega arith)) ∙ h))

    -- the next label is not marked
    pub needed_same : (m : ℕ) → from ≤ m + 1 → is_marked needed m ≡ false → Needed held needed parents m labels
    needed_same m f no_mark = record { kept = n.kept; above = up }
      where
        up : (i : ℕ) → m ≤ i → i < labels → is_marked needed i ≡ true → is_marked needed (entries parents i) ≡ true
        up i l il h = go (ℕ_discrete i m)
          where
            go : Dec (i ≡ m) → is_marked needed (entries parents i) ≡ true
            go (yes same) = absurd (false≢true (sym no_mark ∙ ap (is_marked needed) (sym same) ∙ h))
            go (no other) = n.above i (omega arith) il h

-- the secrets are made upwards
module _ {file parents root : List ℕ} {needed : List Bool} {secrets : List (List ℕ)} where
  pub made_none : Made file parents root needed secrets 0
  made_none = record { secret = λ m h. absurd (omega arith) }

  module _ {m : ℕ} (d : Made file parents root needed secrets m) where
    pub made_more : (secret : List ℕ) → secret ≡ table_secret file parents root m → m < length secrets
        → Made file parents root needed (set secrets m secret) (m + 1)
    made_more secret e len = record { secret = at }
      where
        at : (i : ℕ) → i < m + 1 → is_marked needed i ≡ true → secret_at (set secrets m secret) i ≡ table_secret file parents root i
        at i l h = go (ℕ_discrete i m)
          where
            go : Dec (i ≡ m) → secret_at (set secrets m secret) i ≡ table_secret file parents root i
            go (yes same) =
                ap (secret_at (set secrets m secret)) same ∙ get_or-set_same secrets m secret [] len ∙ e
                ∙ ap (table_secret file parents root) (sym same)
            go (no other) = get_or-set_other secrets m i secret [] other ∙ d.secret i (omega arith) h

    pub made_same : is_marked needed m ≡ false → Made file parents root needed secrets (m + 1)
    made_same no_mark = record { secret = at }
      where
        at : (i : ℕ) → i < m + 1 → is_marked needed i ≡ true → secret_at secrets i ≡ table_secret file parents root i
        at i l h = go (ℕ_discrete i m)
          where
            go : Dec (i ≡ m) → secret_at secrets i ≡ table_secret file parents root i
            go (yes same) = absurd (false≢true (sym no_mark ∙ ap (is_marked needed) (sym same) ∙ h))
            go (no other) = d.secret i (omega arith) h

    module _ {held : List Bool} {labels : ℕ} (n : Needed held needed parents 1 labels) where
      -- the parent of the next label has its secret in the table
      pub made_above : ParentsFall parents labels → m < labels → is_marked needed m ≡ true → m ≢ top
          → secret_at secrets (entries parents m) ≡ table_secret file parents root (entries parents m)
      made_above falls l h ne = d.secret (entries parents m) (falls m l ne) (n.above m (omega arith) l h)

      pub made_held : Made file parents root held secrets m
      made_held = record { secret = λ i l h. d.secret i l (n.kept i h) }
