-- The laws of policy files that other crates use.
use Prim.Native.Nat.{ℕ, zero, suc, ◌+◌, ◌*◌, ◌≤◌, ◌<◌}
use mathlib.Core.List.{List}
use mathlib.Core.Path.{◌≡◌, sym}
use native.Mathlib.Omega.{arith}
use lib.ListN.{length, get_or, length-take, length-drop}
use Rattle.format.specs.Form.{NameForm}
use Rattle.policy_file.proofs.Demand1.{accepted_iff, accepted_length}
use Rattle.lists.proofs.Tables.{length_listed, get_d_listed}
use Rattle.policy_file.proofs.Passing.{labels_bound, pairs_bound, label_passed, over_passed}
use Rattle.policy_file.specs.File.{place_of, name_of, count_of, pair_at}
use Rattle.policy_file.specs.Rows.{LowerOf, NoneRefuses, PolicyPasses}
use Rattle.policy_file.specs.Whole.{label_count, pair_count, AcceptedPolicy, pairs_of, no_pair}

-- what holds of an accepted policy
pub record Lawful (file : List ℕ) : Type 0 where
  pub some_label : 1 ≤ label_count file
  pub few_labels : label_count file ≤ 64
  pub few_pairs : pair_count file ≤ 512
  pub whole : length file ≡ place_of (label_count file) (pair_count file)
  pub formed : (i : ℕ) → i < label_count file → NameForm (name_of file i)
  pub distinct : (i j : ℕ) → i < label_count file → j < label_count file → name_of file i ≡ name_of file j → i ≡ j
  pub lower : (k : ℕ) → k < pair_count file → (pair_at file (label_count file) k).lower < label_count file
  pub down : (k : ℕ) → k < pair_count file → (pair_at file (label_count file) k).upper < (pair_at file (label_count file) k).lower
  pub placed : (m : ℕ) → m < label_count file → 0 < m → LowerOf file (label_count file) (pair_count file) m

-- a file without labels has no pairs, so nothing at all
some_label_lem : (file : List ℕ) (labels pairs : ℕ) → NoneRefuses file labels pairs → 1 ≤ labels
some_label_lem file (suc labels) pairs r = omega arith
some_label_lem file zero zero r = absurd (omega (arith, r.some, r.ends))
some_label_lem file zero (suc pairs) r = absurd (omega (arith, (over_passed r.passes 0 (omega arith)).lower))

pub lawful : (file : List ℕ) → AcceptedPolicy file → Lawful file
lawful file ok = record {
  some_label = some_label_lem file (label_count file) (pair_count file) ((accepted_iff file).0 ok);
  few_labels = labels_bound passed;
  few_pairs = pairs_bound passed;
  whole = accepted_length file ok;
  formed = λ i l. (label_passed passed i l).formed;
  distinct = apart;
  lower = λ k l. (over_passed passed k l).lower;
  down = λ k l. (over_passed passed k l).falls;
  placed = ((accepted_iff file).0 ok).placed;
}
  where
    passed : PolicyPasses file (label_count file) (pair_count file)
    passed = ((accepted_iff file).0 ok).passes

    apart : (i j : ℕ) → i < label_count file → j < label_count file → name_of file i ≡ name_of file j → i ≡ j
    apart i j li lj same =
        let less : i < j → ⊥ = λ l. (label_passed passed j lj).new i l same in
        let more : j < i → ⊥ = λ l. (label_passed passed i li).new j l (sym same) in
        omega arith

-- a name has 8 bytes
pub name_length : (file : List ℕ) → AcceptedPolicy file → (i : ℕ) → i < label_count file → length (name_of file i) ≡ 8
unfolding name_of
name_length file ok i l = simp (length-take, length-drop) (omega (arith, (lawful file ok).whole))

-- a count of two bytes is below 65,536
pub count_small : (file : List ℕ) → ((i : ℕ) → get_or file i 0 < 256) → (i : ℕ) → count_of file i < 65536
unfolding count_of
count_small file bytes i = omega (arith, bytes (12 * i + 10), bytes (12 * i + 10 + 1))

-- the list of pairs: its length, and each pair by its number
pub pairs_length : (file : List ℕ) → length (pairs_of file) ≡ pair_count file
unfolding pairs_of
pairs_length file = length_listed (pair_at file (label_count file)) (pair_count file)

pub pairs_at : (file : List ℕ) (k : ℕ) → k < pair_count file → get_or (pairs_of file) k no_pair ≡ pair_at file (label_count file) k
unfolding pairs_of
pairs_at file k l = get_d_listed (pair_at file (label_count file)) (pair_count file) k no_pair l
