-- What the tables of `read_policy`'s answer hold: the file's counts and pairs, then zeros.
use Prim.Native.Nat.{ℕ, ◌≤◌, ◌<◌}
use mathlib.Core.Path.{◌≡◌}
use mathlib.Core.List.{List}
use lib.ListN.{length, get_or, take}
use Rattle.order.specs.Table.{order_table}
use Rattle.policy_file.specs.File.{count_of, pair_at}
use Rattle.policy_file.specs.Whole.{label_count, pair_count, pairs_of, order_of, no_pair, policy_of}
use Rattle.lists.proofs.Tables.{length_filled, take_filled, get_d_filled, get_d_past}
use Rattle.policy_file.proofs.Verdict.{bounds, counts_read, pairs_read}

module _ (file : List ℕ) where
  pub counts_length : length (policy_of file).counts ≡ 64
  counts_length = rw (counts_read file) (length_filled (count_of file) 64 0 (label_count file) (bounds file).0)

  pub counts_at : (i : ℕ) → i < label_count file → get_or (policy_of file).counts i 0 ≡ count_of file i
  counts_at i l = rw (counts_read file) (get_d_filled (count_of file) 64 0 (label_count file) i 0 l)

  pub counts_past : (i : ℕ) → label_count file ≤ i → get_or (policy_of file).counts i 0 ≡ 0
  counts_past i l = rw (counts_read file) (get_d_past (count_of file) 64 0 (label_count file) i l)

  pub over_length : length (policy_of file).over ≡ 512
  over_length = rw (pairs_read file) (length_filled (pair_at file (label_count file)) 512 no_pair (pair_count file) (bounds file).1)

  pub over_at : (k : ℕ) → k < pair_count file → get_or (policy_of file).over k no_pair ≡ pair_at file (label_count file) k
  over_at k l = rw (pairs_read file) (get_d_filled (pair_at file (label_count file)) 512 no_pair (pair_count file) k no_pair l)

  pub over_past : (k : ℕ) → pair_count file ≤ k → get_or (policy_of file).over k no_pair ≡ no_pair
  over_past k l = rw (pairs_read file) (get_d_past (pair_at file (label_count file)) 512 no_pair (pair_count file) k l)

  pub over_pairs : take (pair_count file) (policy_of file).over ≡ pairs_of file
  unfolding pairs_of
  over_pairs = rw (pairs_read file) (take_filled (pair_at file (label_count file)) 512 no_pair (pair_count file))

  -- the table that is built from the answer is the order of the file's labels
  pub over_order : order_table (label_count file) (take (pair_count file) (policy_of file).over) ≡ order_of file
  unfolding order_of
  over_order = rw over_pairs
