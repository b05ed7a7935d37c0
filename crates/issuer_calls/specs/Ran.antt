-- How a call of `yendlowa` may end.
use Rattle.std.specs.Prelude.{ℕ, Bool, false, List, ◌≡◌, length, take}
use Rattle.answers.specs.Version.{version_line}
use Rattle.decimals.specs.Text.{bytes_of}
use Rattle.fingerprint.specs.Fingerprint.{fingerprint_of}
use Rattle.growth_answers.specs.GrowthListing.{growth_text}
use Rattle.issuer_answers.specs.Issue.{issued_of}
use Rattle.issuer_answers.specs.Keys.{issuer_key_of}
use Rattle.issuer_tables.specs.Calls.{verbs}
use Rattle.lines.specs.Lines.{key_text, issued_text, fingerprint_line}
use Rattle.outcomes.specs.Status.{is_done, Said, Ends}
use Rattle.outcomes.specs.declared.Ended.{Ended}
use Rattle.plan_answers.specs.Weighing.{weigh_of}
use Rattle.plan_texts.specs.Drawing.{dot_text}
use Rattle.plan_texts.specs.Listing.{plan_text}
use Rattle.policy_file.specs.Whole.{policy_refusal}
use Rattle.seal_call.specs.Sealed.{SealEnds}
use Rattle.verbs.specs.Tables.{words_of}
use Rattle.verbs.specs.Verbs.{place_of}
use Rattle.weigh_lines.specs.Weighed.{weighed_text}

-- Each verb ends as its operation answers on some bytes: those that the system read.
abbrev pub PlanEnds : Ended → Type 0
PlanEnds e = (policy : List ℕ) × Ends (policy_refusal policy) (plan_text policy) e

abbrev pub DrawEnds : Ended → Type 0
DrawEnds e = (policy : List ℕ) × Ends (policy_refusal policy) (dot_text policy) e

abbrev pub WeighEnds : Ended → Type 0
WeighEnds e = (policy : List ℕ) × (tree : List ℕ) × Ends (weigh_of policy tree).refusal (weighed_text (weigh_of policy tree).total (weigh_of policy tree).least) e

abbrev pub KeyEnds : Bool → Ended → Type 0
KeyEnds option e = (policy : List ℕ) × (name : List ℕ) × (root : List ℕ)
    × Ends (issuer_key_of policy name root).refusal (key_text (issuer_key_of policy name root).key (fingerprint_of root).bytes option) e

abbrev pub IssueEnds : (option : Bool) (account : ℕ) → Ended → Type 0
IssueEnds option account e = (policy : List ℕ) × (name : List ℕ) × (root : List ℕ)
    × Ends (issued_of policy name account root 4096).refusal (issued_text (issued_of policy name account root 4096).length (fingerprint_of root).bytes option) e

abbrev pub RootEnds : Ended → Type 0
RootEnds e = (root : List ℕ) × (length root ≡ 32) × Ends 0 (fingerprint_line (fingerprint_of root).bytes) e

abbrev pub GrowthEnds : Ended → Type 0
GrowthEnds e = (policy : List ℕ) × Ends (policy_refusal policy) (growth_text policy) e

-- How a call of the verb at this place of the list of verbs ended.
pub data Performed (verb : ℕ) (e : Ended) : Type 0 where
  planned : verb ≡ 0 → PlanEnds e → Performed verb e
  drawn : verb ≡ 1 → DrawEnds e → Performed verb e
  weighed : verb ≡ 2 → WeighEnds e → Performed verb e
  keyed : verb ≡ 3 → (option : Bool) → KeyEnds option e → Performed verb e
  issued : verb ≡ 4 → (option : Bool) (account : ℕ) → IssueEnds option account e → Performed verb e
  drew : verb ≡ 5 → RootEnds e → Performed verb e
  sealed : verb ≡ 6 → (option : Bool) → SealEnds option e → Performed verb e
  grown : verb ≡ 7 → GrowthEnds e → Performed verb e
  undone : is_done e ≡ false → Performed verb e

-- How a call ended: as the verb that some word says, with the help or the version, or as one that failed.
pub data Ran (e : Ended) : Type 0 where
  performed : (word : List ℕ) → Performed (place_of (words_of verbs) word) e → Ran e
  helped : (text : List ℕ) → take 6 text ≡ bytes_of "usage:" → Said 0 text e → Ran e
  versioned : (version : List ℕ) → Said 0 (version_line (bytes_of "yendlowa") version) e → Ran e
  failed : is_done e ≡ false → Ran e
