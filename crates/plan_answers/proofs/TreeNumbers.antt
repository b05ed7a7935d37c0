-- Each number of a tree file is given when 01's row says so and only then. The words are those of specs/TreeRows.antt.
use Prim.Native.Nat.{ℕ, zero, suc, ◌+◌, ◌<◌}
use mathlib.Core.Bool.{Bool, true, false, cond, ◌&&◌, false≢true}
use mathlib.Core.List.{List}
use mathlib.Core.Logic.{◌⊎◌, inl, inr, ◌≢◌, ◌↔◌}
use mathlib.Core.Path.{◌≡◌, refl, sym, ap, ◌∙◌}
use native.Mathlib.Omega.{arith}
use borrow.Author.Tests.{lt-ltb, ltb-true, ltb-false, eqb-true, eqb-false, eq-eqb, ne_eqb}
use lib.Dec.{eqb, ltb}
use lib.ListN.{length}
use Rattle.format.proofs.Bytes.{same_refl, same_eq, differ}
use Rattle.format.specs.Bytes.{bytes_at, same_bytes}
use Rattle.format.specs.Marks.{TR}
use Rattle.lists.proofs.Tables.{every_at, every_all}
use Rattle.lists.specs.Tables.{every_below}
use Rattle.trees.proofs.Lists.{both_yes}
use Rattle.trees.proofs.Order.{is_top, above_tested}
use Rattle.trees.specs.Order.{Order}
use Rattle.trees.specs.Trees.{top, Above, Tree}
use Rattle.plan_answers.proofs.TreeChecks.{number_short, number_foreign, number_length, number_byte, number_none}
use Rattle.plan_answers.specs.TreeFile.{parent_in, hangs_at, tree_refusal}
use Rattle.plan_answers.specs.TreeRows.{NoTreeMark, none_or_one, other_mark, Marked, OtherLength, ByteEach, WrongByte, top_byte_lem, not_higher, NoParent, GivesTree, TreeAnswered, row_2, row_11, row_12, read}

-- a number that lacks p, where not every one has it
some_miss : (p : ℕ → Bool) (n : ℕ) → every_below p n ≡ false → (k : ℕ) × (k < n) × (p k ≡ false)
unfolding every_below
some_miss p zero e = absurd (false≢true (sym e))
some_miss p (suc n) e = go (p n) refl e (λ h. some_miss p n h)
  where
    go : (t : Bool) → p n ≡ t → every_below p n && p n ≡ false → (every_below p n ≡ false → (k : ℕ) × (k < n) × (p k ≡ false))
        → (k : ℕ) × (k < suc n) × (p k ≡ false)
    go false h e rest = (n, omega arith, h)
    go true h e rest = by (every_below p n) refl
      where
        by : (b : Bool) → every_below p n ≡ b → (k : ℕ) × (k < suc n) × (p k ≡ false)
        by true q = absurd (false≢true (sym e ∙ rw (q, h)))
        by false q = let r = rest q in (r.0, omega (arith, r.1), r.2)

module _ {n : ℕ} {R : ℕ → ℕ → Type 0} {le : ℕ → ℕ → Bool} (O : Order n R le) (tree : List ℕ) where
  -- ---- one label's byte

  pub top_hangs : (hangs_at le tree top ≡ true) ↔ (parent_in tree top ≡ 0)
  unfolding hangs_at
  top_hangs = (eqb-true (parent_in tree top) top, eq-eqb (parent_in tree top) top)

  pub above_hangs : (m : ℕ) → m < n → m ≢ top → (hangs_at le tree m ≡ true) ↔ Above n R (parent_in tree m) m
  unfolding hangs_at
  above_hangs m hm ne = (there, back)
    where
      there : hangs_at le tree m ≡ true → Above n R (parent_in tree m) m
      there e =
          let t = both_yes (ltb (parent_in tree m) m) (le m (parent_in tree m)) (rw (ne_eqb m top ne) at e) in
          (above_tested O hm).1 (ltb-true (parent_in tree m) m t.0, t.1)

      back : Above n R (parent_in tree m) m → hangs_at le tree m ≡ true
      back a = let t = (above_tested O hm).0 a in rw (ne_eqb m top ne, lt-ltb (parent_in tree m) m t.0, t.1)

  not_yes : (b : Bool) → ¬ (b ≡ true) → b ≡ false
  not_yes true h = absurd (h refl)
  not_yes false h = refl

  wrong_byte : (m : ℕ) → m < n → hangs_at le tree m ≡ false → WrongByte n R tree
  wrong_byte m hm e = go (is_top m)
    where
      go : (m ≡ top) ⊎ (m ≢ top) → WrongByte n R tree
      go (inl q) = top_byte_lem (λ z. false≢true (sym e ∙ ap (hangs_at le tree) q ∙ top_hangs.1 z))
      go (inr ne) = not_higher m hm ne (λ a. false≢true (sym e ∙ (above_hangs m hm ne).1 a))

  all_hang : parent_in tree top ≡ 0 → Tree n R (parent_in tree) → (m : ℕ) → m < n → hangs_at le tree m ≡ true
  all_hang z T m hm = go (is_top m)
    where
      go : (m ≡ top) ⊎ (m ≢ top) → hangs_at le tree m ≡ true
      go (inl q) = ap (hangs_at le tree) q ∙ top_hangs.1 z
      go (inr ne) = (above_hangs m hm ne).1 (T.hangs m hm ne)

  -- ---- the file's answer in words, and no other

  pub tree_answered : TreeAnswered n R tree (tree_refusal n le tree)
  unfolding tree_refusal
  tree_answered =
      go (ltb (length tree) 2) (same_bytes (bytes_at tree 0 2) TR) (eqb (length tree) (2 + n)) (every_below (hangs_at le tree) n) refl refl refl refl
    where
      go : (s t l e : Bool) → ltb (length tree) 2 ≡ s → same_bytes (bytes_at tree 0 2) TR ≡ t → eqb (length tree) (2 + n) ≡ l
          → every_below (hangs_at le tree) n ≡ e → TreeAnswered n R tree (cond s 2 (cond t (cond l (cond e 0 12) 11) 2))
      go true t l e es et el ee = row_2 (none_or_one (ltb-true (length tree) 2 es))
      go false false l e es et el ee =
          row_2 (other_mark (ltb-false (length tree) 2 es) (λ q. false≢true (sym et ∙ ap (λ (b : List ℕ). same_bytes b TR) q ∙ same_refl TR)))
      go false true false e es et el ee =
          row_11 (record { marked = record { two = ltb-false (length tree) 2 es; mark = same_eq (bytes_at tree 0 2) TR et }; other = eqb-false (length tree) (2 + n) el })
      go false true true e es et el ee = of e ee
        where
          form : ByteEach n tree
          form = record {
            marked = record { two = ltb-false (length tree) 2 es; mark = same_eq (bytes_at tree 0 2) TR et };
            whole = eqb-true (length tree) (2 + n) el;
          }

          of : (b : Bool) → every_below (hangs_at le tree) n ≡ b → TreeAnswered n R tree (cond b 0 12)
          of true q = read (record {
            form = form;
            top_byte = top_hangs.0 (every_at (hangs_at le tree) n top q O.some);
            hung = record { hangs = λ m hm ne. (above_hangs m hm ne).0 (every_at (hangs_at le tree) n m q hm) };
          })
          of false q = let r = some_miss (hangs_at le tree) n q in row_12 (record { form = form; byte = wrong_byte r.0 r.1 r.2 })

  marked_same : Marked tree → same_bytes (bytes_at tree 0 2) TR ≡ true
  marked_same h = ap (λ (b : List ℕ). same_bytes b TR) h.mark ∙ same_refl TR

  pub tree_answered_only : {k : ℕ} → TreeAnswered n R tree k → tree_refusal n le tree ≡ k
  tree_answered_only (row_2 (none_or_one l)) = number_short n le tree l
  tree_answered_only (row_2 (other_mark l ne)) = number_foreign n le tree l (differ (bytes_at tree 0 2) TR ne)
  tree_answered_only (row_11 h) = number_length n le tree h.marked.two (marked_same h.marked) h.other
  tree_answered_only (row_12 h) = go h.byte
    where
      at : (m : ℕ) → m < n → hangs_at le tree m ≡ false → tree_refusal n le tree ≡ 12
      at = number_byte n le tree h.form.marked.two (marked_same h.form.marked) h.form.whole

      go : WrongByte n R tree → tree_refusal n le tree ≡ 12
      go (top_byte_lem ne) = at top O.some (not_yes (hangs_at le tree top) (λ e. ne (top_hangs.0 e)))
      go (not_higher m hm ne no_above) = at m hm (not_yes (hangs_at le tree m) (λ e. no_above ((above_hangs m hm ne).0 e)))
  tree_answered_only (read h) =
      number_none n le tree h.form.marked.two (marked_same h.form.marked) h.form.whole
      (every_all (hangs_at le tree) n (all_hang h.top_byte h.hung))

  -- ---- each number, exactly when its row says so

  -- "a single byte left (in a tree file, none or one), or a mark not belonging to this file"
  pub tree_refusal_2 : (tree_refusal n le tree ≡ 2) ↔ NoTreeMark tree
  tree_refusal_2 = (λ e. go tree_answered e, λ r. tree_answered_only (row_2 r))
    where
      go : {k : ℕ} → TreeAnswered n R tree k → k ≡ 2 → NoTreeMark tree
      go (row_2 r) e = r
      go (row_11 r) e = absurd (omega arith)
      go (row_12 r) e = absurd (omega arith)
      go (read r) e = absurd (omega arith)

  -- "length is not 2 plus the label count"
  pub tree_refusal_11 : (tree_refusal n le tree ≡ 11) ↔ OtherLength n tree
  tree_refusal_11 = (λ e. go tree_answered e, λ r. tree_answered_only (row_11 r))
    where
      go : {k : ℕ} → TreeAnswered n R tree k → k ≡ 11 → OtherLength n tree
      go (row_2 r) e = absurd (omega arith)
      go (row_11 r) e = r
      go (row_12 r) e = absurd (omega arith)
      go (read r) e = absurd (omega arith)

  -- "first byte that is no strictly higher label, or top's byte not 0"
  pub tree_refusal_12 : (tree_refusal n le tree ≡ 12) ↔ NoParent n R tree
  tree_refusal_12 = (λ e. go tree_answered e, λ r. tree_answered_only (row_12 r))
    where
      go : {k : ℕ} → TreeAnswered n R tree k → k ≡ 12 → NoParent n R tree
      go (row_2 r) e = absurd (omega arith)
      go (row_11 r) e = absurd (omega arith)
      go (row_12 r) e = r
      go (read r) e = absurd (omega arith)

  -- every other file is read: it has its form and gives a derivation tree
  pub tree_accepted : (tree_refusal n le tree ≡ 0) ↔ GivesTree n R tree
  tree_accepted = (λ e. go tree_answered e, λ r. tree_answered_only (read r))
    where
      go : {k : ℕ} → TreeAnswered n R tree k → k ≡ 0 → GivesTree n R tree
      go (row_2 r) e = absurd (omega arith)
      go (row_11 r) e = absurd (omega arith)
      go (row_12 r) e = absurd (omega arith)
      go (read r) e = r

  pub tree_refusal_range : (tree_refusal n le tree ≡ 0) ⊎ (tree_refusal n le tree ≡ 2) ⊎ (tree_refusal n le tree ≡ 11) ⊎ (tree_refusal n le tree ≡ 12)
  tree_refusal_range = go tree_answered
    where
      go : {k : ℕ} → TreeAnswered n R tree k → (k ≡ 0) ⊎ (k ≡ 2) ⊎ (k ≡ 11) ⊎ (k ≡ 12)
      go (read r) = inl refl
      go (row_2 r) = inr (inl refl)
      go (row_11 r) = inr (inr (inl refl))
      go (row_12 r) = inr (inr (inr refl))
