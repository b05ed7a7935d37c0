-- Whether a verb takes so many arguments, test by test.
use Prim.Native.Nat.{ℕ, ◌≤◌, ◌<◌}
use mathlib.Core.Bool.{false}
use mathlib.Core.List.{List}
use mathlib.Core.Path.{◌≡◌}
use borrow.Author.Tests.{lt-ltb, le-ltb, le-leb, lt-leb}
use lib.Dec.{leb}
use lib.ListN.{get_or}
use Rattle.verbs.specs.Verbs.{takes_so}

module _ (least most : List ℕ) (verb count : ℕ) where
  pub takes_most : verb < 16 → get_or least verb 0 ≤ count → takes_so least most verb count ≡ leb count (get_or most verb 0)
  unfolding takes_so
  takes_most h l = rw (lt-ltb verb 16 h, le-leb (get_or least verb 0) count l)

  pub takes_few : verb < 16 → count < get_or least verb 0 → takes_so least most verb count ≡ leb (get_or least verb 0) count
  unfolding takes_so
  takes_few h l = rw (lt-ltb verb 16 h, lt-leb (get_or least verb 0) count l)

  pub takes_none : 16 ≤ verb → takes_so least most verb count ≡ false
  unfolding takes_so
  takes_none h = rw (le-ltb verb 16 h)
