-- How a call of `yendlowa-desk` may end.
use Rattle.std.specs.Prelude.{ℕ, false, List, ◌≡◌, take}
use Rattle.answers.specs.Version.{version_line}
use Rattle.decimals.specs.Text.{bytes_of}
use Rattle.desk_tables.specs.Calls.{verbs}
use Rattle.envelope_file.specs.Derive.{derived_of}
use Rattle.envelope_file.specs.Labels.{envelope_labels}
use Rattle.label_lines.specs.Labels.{labels_text}
use Rattle.lines.specs.Lines.{hex_line}
use Rattle.open_call.specs.Opened.{OpenEnds}
use Rattle.outcomes.specs.Status.{is_done, Said, Ends}
use Rattle.outcomes.specs.declared.Ended.{Ended}
use Rattle.verbs.specs.Tables.{words_of}
use Rattle.verbs.specs.Verbs.{place_of}

-- Each verb ends as its operation answers on some bytes: those that the system read.
abbrev pub DeriveEnds : Ended → Type 0
DeriveEnds e = (envelope : List ℕ) × (name : List ℕ) × Ends (derived_of envelope name).refusal (hex_line (derived_of envelope name).key) e

abbrev pub LabelsEnds : Ended → Type 0
LabelsEnds e = (envelope : List ℕ)
    × Ends (envelope_labels envelope).refusal (labels_text (envelope_labels envelope).account (envelope_labels envelope).names (envelope_labels envelope).labels) e

-- How a call of the verb at this place of the list of verbs ended.
pub data Performed (verb : ℕ) (e : Ended) : Type 0 where
  derived : verb ≡ 0 → DeriveEnds e → Performed verb e
  listed : verb ≡ 1 → LabelsEnds e → Performed verb e
  opened : verb ≡ 2 → OpenEnds e → Performed verb e
  undone : is_done e ≡ false → Performed verb e

-- How a call ended: as the verb that some word says, with the help or the version, or as one that failed.
pub data Ran (e : Ended) : Type 0 where
  performed : (word : List ℕ) → Performed (place_of (words_of verbs) word) e → Ran e
  helped : (text : List ℕ) → take 6 text ≡ bytes_of "usage:" → Said 0 text e → Ran e
  versioned : (version : List ℕ) → Said 0 (version_line (bytes_of "yendlowa-desk") version) e → Ran e
  failed : is_done e ≡ false → Ran e
