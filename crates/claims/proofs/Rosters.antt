-- The promise of 02's Ask 4, shown for all lists of bytes that are an accepted policy and an accepted roster.
use Prim.Native.Nat.{ℕ, ◌<◌}
use mathlib.Core.Bool.{Bool, true, false, false≢true}
use mathlib.Core.List.{List, []}
use mathlib.Core.Logic.{◌≢◌}
use mathlib.Core.Path.{◌≡◌, refl, sym, ap, ◌∙◌, subst}
use native.Mathlib.Decide.{ℕ_discrete, dec_lt}
use native.Mathlib.Omega.{arith}
use borrow.Author.Tests.{eq-eqb}
use lib.ListN.{length, get_or}
use Rattle.buffers.specs.Handed.{refused_written}
use Rattle.buffers.specs.declared.Written.{Written}
use Rattle.envelope_file.specs.Derive.{refused_derived, derived_of}
use Rattle.envelope_file.specs.declared.Derived.{Derived}
use Rattle.growth_answers.specs.Growing.{growth_of, refused_growth}
use Rattle.growth_answers.specs.GrowthTextAnswer.{growth_written, growth_after}
use Rattle.issuer_answers.specs.Keys.{issuer_key_of, refused_key}
use Rattle.issuer_answers.specs.declared.IssuerKey.{IssuerKey}
use Rattle.lists.proofs.Tables.{get_d_listed}
use Rattle.order.specs.Order.{AtOrBelow}
use Rattle.order.specs.declared.Pair.{Pair}
use Rattle.plan_answers.specs.Planned.{plan_of, refused_plan}
use Rattle.plan_answers.specs.Weighing.{weigh_of, refused_weighed}
use Rattle.plan_answers.specs.declared.Plan.{Plan}
use Rattle.plan_texts.specs.DrawingAnswer.{drawing_written, drawing_after}
use Rattle.plan_texts.specs.TextAnswer.{text_written, text_after}
use Rattle.policy_file.specs.Counts.{OtherCounts}
use Rattle.policy_file.specs.File.{name_of}
use Rattle.policy_file.specs.Whole.{label_count}
use Rattle.roster_answers.proofs.Answered.{roster_14, roster_26, roster_15, roster_16, roster_given, roster_left, roster_kept}
use Rattle.roster_answers.proofs.Counted.{accepted_policy, on_accepted}
use Rattle.roster_answers.proofs.Recounted.{roster_count_lem, roster_few, roster_placed, roster_past, roster_sum, counted_other}
use Rattle.roster_answers.specs.Counted.{roster_plan, roster_weighed, roster_growth, roster_text_written, roster_text_after, roster_drawing_written, roster_drawing_after, roster_growth_written, roster_growth_after, roster_key, roster_sealed, roster_file_after}
use Rattle.roster_answers.specs.Issue.{roster_issued}
use Rattle.roster_answers.specs.Rostered.{files_refusal, AcceptedFiles, roster_of, roster_count, counted_policy}
use Rattle.roster_answers.specs.Rows.{RosterLabel, NotOn, RosterAccount, roster_envelope}
use Rattle.roster_answers.specs.Standings.{roster_read, standings_of}
use Rattle.roster_answers.specs.declared.Standings.{Standings}
use Rattle.roster_file.proofs.Counted.{stands_on_lem, stands_true}
use Rattle.roster_file.proofs.Rosters.{on_in}
use Rattle.roster_file.specs.Counts.{count_in, stands_on}
use Rattle.roster_file.specs.Machine.{standing_of}
use Rattle.roster_file.specs.declared.Activity.TheVariants.{Active, Held}
use Rattle.roster_file.specs.declared.Activity.{Activity}
use Rattle.roster_file.specs.declared.Standing.TheVariants.{On}
use Rattle.seal_answers.specs.Seal.{label_sealed, sealed_of, file_after}
use Rattle.weights.specs.Tables.{entries}
use Rattle.claims.specs.Accounts.{FewestFor, WithAccounts}
use Rattle.claims.specs.Demand2.{OfEnvelope}
use Rattle.claims.specs.Published.{R}
use Rattle.claims.specs.Rosters.{OnCounts, OfAsked, OfActive, Ask4}
use Rattle.claims.specs.Sealed.{Ask2}
use Rattle.claims.proofs.Accounts.{with_accounts}
use Rattle.claims.proofs.Demand2.{of_envelope, into_room}
use Rattle.claims.proofs.Growth.{ask3}
use Rattle.claims.proofs.Sealed.{ask2}

abbrev refusal : Written → ℕ
refusal w = w.refusal

module _ (policy roster : List ℕ) (ok : AcceptedFiles policy roster) where
  abbrev counted : List ℕ
  counted = counted_policy policy roster

  so : OtherCounts policy counted (roster_count policy roster)
  so = counted_other policy roster ok

  -- ---- the operations on the policy with the roster's counts

  on_counts : OnCounts policy roster
  unfolding roster_plan roster_weighed roster_growth roster_key roster_text_written roster_text_after roster_drawing_written roster_drawing_after roster_growth_written roster_growth_after roster_sealed roster_file_after
  on_counts = record {
    plan = on_accepted policy roster refused_plan plan_of ok;
    weighed = λ tree. on_accepted policy roster refused_weighed (λ file. weigh_of file tree) ok;
    growth = on_accepted policy roster refused_growth growth_of ok;
    key = λ name root. on_accepted policy roster refused_key (λ file. issuer_key_of file name root) ok;
    plan_text_lem = λ room. on_accepted policy roster refused_written (λ file. text_written file room) ok;
    plan_text_left = λ out. on_accepted policy roster (λ n. out) (λ file. text_after file out) ok;
    drawing = λ room. on_accepted policy roster refused_written (λ file. drawing_written file room) ok;
    drawing_left = λ out. on_accepted policy roster (λ n. out) (λ file. drawing_after file out) ok;
    growth_text_lem = λ room. on_accepted policy roster refused_written (λ file. growth_written file room) ok;
    growth_text_left = λ out. on_accepted policy roster (λ n. out) (λ file. growth_after file out) ok;
    sealed = λ name root nonce text room. on_accepted policy roster refused_written (λ file. sealed_of file name root nonce text room) ok;
    sealed_left = λ name root nonce text out. on_accepted policy roster (λ n. out) (λ file. file_after file name root nonce text out) ok;
  }

  roster_read_lem : roster_read policy roster ≡ standings_of (label_count policy) (roster_of policy roster)
  unfolding roster_read
  roster_read_lem = rw (eq-eqb (files_refusal policy roster) 0 ok)

  read_counts_lem : (l : ℕ) → l < 64 → entries (roster_read policy roster).counts l ≡ roster_count policy roster l
  unfolding standings_of
  read_counts_lem l h = ap (λ (s : Standings). entries s.counts l) roster_read_lem ∙ get_d_listed (count_in (roster_of policy roster)) 64 l 0 h

  -- ---- 14 and 26

  module _ (root : List ℕ) (l account : ℕ) (hl : l < label_count policy) (out : List ℕ) where
    abbrev number : ℕ
    number = (roster_issued policy roster (name_of policy l) account root (length out)).refusal

    at : RosterLabel policy roster (name_of policy l) l
    at = record { accepted = ok; label = record { accepted = accepted_policy policy roster ok; label = hl; named = refl } }

    abbrev Placed : Activity → Type 0
    Placed activity = standing_of (roster_of policy roster) account ≡ On l activity

    here : {activity : Activity} → Placed activity → RosterAccount policy roster (name_of policy l) l account activity
    here e = record { label = at; stands = e }

    none_14 : NotOn policy roster l account → number ≡ 14
    none_14 none = ap refusal (roster_14 policy roster (name_of policy l) account root at none (length out))

    held_26 : Placed Held → number ≡ 26
    held_26 e = ap refusal (roster_26 policy roster (name_of policy l) account root (here e) (length out))

    -- an active account is refused under neither
    active_neither : Placed Active → (number ≢ 14) × (number ≢ 26)
    active_neither e = go (ℕ_discrete (length root) 32)
      where
        room_says : length root ≡ 32 → Dec (length out < length (roster_envelope policy roster root l account)) → (number ≢ 14) × (number ≢ 26)
        room_says whole (yes short) =
            let n : number ≡ 16 = ap refusal (roster_16 policy roster (name_of policy l) account root (here e) whole (length out) short) in
            (λ z. omega arith, λ z. omega arith)
        room_says whole (no d) =
            let n : number ≡ 0 = ap refusal (roster_given policy roster (name_of policy l) account root (here e) whole (length out) (omega arith)) in
            (λ z. omega arith, λ z. omega arith)

        go : Dec (length root ≡ 32) → (number ≢ 14) × (number ≢ 26)
        go (yes whole) = room_says whole (dec_lt (length out) (length (roster_envelope policy roster root l account)))
        go (no ne) =
            let n : number ≡ 15 = ap refusal (roster_15 policy roster (name_of policy l) account root (here e) ne (length out)) in
            (λ z. omega arith, λ z. omega arith)

    fourteen_none : number ≡ 14 → NotOn policy roster l account
    fourteen_none e a = go a.0 a.1
      where
        go : (activity : Activity) → Placed activity → ⊥
        go Held p = omega (arith, held_26 p)
        go Active p = (active_neither p).0 e

    of_asked : OfAsked policy roster root l account out
    of_asked = record { not_on = (fourteen_none, none_14); held = (λ e. go e (stands_on (roster_of policy roster) l account) refl, held_26) }
      where
        held_is : number ≡ 26 → (activity : Activity) → Placed activity → Placed Held
        held_is e Held p = p
        held_is e Active p = absurd ((active_neither p).1 e)

        go : number ≡ 26 → (b : Bool) → stands_on (roster_of policy roster) l account ≡ b → Placed Held
        go e true t = let a = stands_on_lem (roster_of policy roster) l account t in held_is e a.0 a.1
        go e false t = absurd (omega (arith, none_14 (λ a. false≢true (sym t ∙ stands_true (roster_of policy roster) l account a))))

  -- ---- an active account

  module _ (root : List ℕ) (whole : length root ≡ 32) (l account : ℕ) (on : standing_of (roster_of policy roster) account ≡ On l Active) where
    abbrev written : List ℕ
    written = roster_envelope policy roster root l account

    label : l < label_count policy
    label = roster_placed policy roster account l Active on

    its : RosterAccount policy roster (name_of policy l) l account Active
    its = here root l account label [] on

    at_desk : OfEnvelope counted root l account written
    at_desk =
        let range = on_in (roster_of policy roster) account on in
        of_envelope counted so.accepted root whole l account (omega (arith, so.labels, label)) (omega (arith, range.some)) (omega (arith, range.within))

    -- the same for the names and the order of the policy itself
    module _ (m : ℕ) (hm : m < label_count policy) where
      inside : m < label_count counted
      inside = omega (arith, so.labels)

      desk_key : R policy m l → ((derived_of written (name_of policy m)).refusal ≡ 0)
          × ((derived_of written (name_of policy m)).key ≡ (roster_key policy roster (name_of policy m) root).key)
      desk_key r =
          let e = at_desk.opens m inside (subst (λ (pairs : List Pair). AtOrBelow pairs m l) (sym so.pairs) r) in
          subst (λ (name : List ℕ). ((derived_of written name).refusal ≡ 0) × ((derived_of written name).key ≡ (roster_key policy roster name root).key)) (so.names m hm) (
            ap (λ (d : Derived). d.refusal) e,
            ap (λ (d : Derived). d.key) e ∙ sym (ap (λ (k : IssuerKey). k.key) (on_counts.key (name_of counted m) root)),
          )

      desk_20 : ¬ R policy m l → derived_of written (name_of policy m) ≡ refused_derived 20
      desk_20 other =
          subst (λ (name : List ℕ). derived_of written name ≡ refused_derived 20) (so.names m hm)
          (at_desk.refuses_label m inside (λ r. other (subst (λ (pairs : List Pair). AtOrBelow pairs m l) so.pairs r)))

    of_active : OfActive policy roster root l account written
    of_active = record {
      label = label;
      issued = λ out room. roster_given policy roster (name_of policy l) account root its whole (length out) room;
      left = λ out room. roster_left policy roster (name_of policy l) account root its whole out ∙ into_room written out room;
      refused = λ out short. roster_16 policy roster (name_of policy l) account root its whole (length out) short;
      kept = λ out short. roster_kept policy roster (name_of policy l) account root its whole out short;
      opens = desk_key;
      refuses = desk_20;
      envelope = at_desk;
    }

  -- ---- the whole promise

  pub ask4 : ((i : ℕ) → get_or policy i 0 < 256) → Ask4 policy roster
  ask4 bytes = record {
    counts = roster_count_lem policy roster;
    few = roster_few policy roster;
    past = roster_past policy roster;
    sums = roster_sum policy roster ok;
    read = roster_read_lem;
    read_counts_lem = read_counts_lem;
    replaced = so;
    demands = demands;
    answers = on_counts;
    fewest = subst (λ (p : Plan). FewestFor policy (roster_count policy roster) p.total) (sym on_counts.plan) demands.fewest;
    growth = λ l hl. ask3 counted so.accepted l (omega (arith, so.labels)) (omega (arith, so.counts l hl, roster_few policy roster l));
    asked = of_asked;
    active = of_active;
    seals = λ root nonce text m whole twelve short hm.
        subst (λ (name : List ℕ). Ask2 counted root nonce text m (label_sealed counted name root nonce text)) (so.names m hm)
        (ask2 counted so.accepted root nonce text m whole twelve short (omega (arith, so.labels)));
  }
    where
      demands : WithAccounts policy counted (roster_count policy roster)
      demands = with_accounts policy (accepted_policy policy roster ok) (roster_count policy roster) bytes counted so
