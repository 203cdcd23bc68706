-- A COUNT changes no answer: what is read of a plan with a right COUNT differs from what is read without it in the declared sizes alone, and nothing
-- above reading looks at these.
use Rattle.declared_sizes.proofs.Prelude.{◌≡◌, refl, ap, sym, ◌∙◌, List, [], ℕ, ◌≤◌, arith, length, replicate, Accepted}
use Rattle.declared_sizes.proofs.Prelude.{OnceElement, Contents, layout, record_of, All, GoodOnce, WithinLimits, CountRight, reading, accepted}
use Rattle.declared_sizes.proofs.Prelude.{ReadPlan, layout_is_read}
use Rattle.std.specs.Prelude.{Option, Result, Ok, Err}
use Rattle.plan.specs.Limits.{TABLE_WORDS}
use Rattle.plan.specs.declared.fault.Fault.{Fault}
use Rattle.reading.specs.Kinds.{Single, sizes, single-discrete, single, table as tabled, rule, usage, unit, edge, end}
use Rattle.dependency_graph.specs.Units.{Units}
use Rattle.dependency_graph.specs.PlanUnits.{units_of}
use Rattle.plan_meaning.specs.Settled.{settled}
use Rattle.plan_meaning.specs.Asked.{asked}
use Rattle.judge.specs.Answers.{JudgeAnswer, judged}
use Rattle.demands.specs.Answer.{Answer as Listed, unless_refused, after_graph, table_outcome, answer}
use Rattle.plan_sheet.specs.PlanSheets.{sheet_of, plan_sheet}
use Rattle.stepping.specs.Followed.{next_in, followed}
use Rattle.declared_sizes.specs.Uncounted.{no_count, uncounted, AnsweredAlike}

-- ---- the answers, from what was read

abbrev judged_of : ℕ → ReadPlan → JudgeAnswer
judged_of M r = elim r.outcome [ Err f ↦ Err f | Ok u ↦ Ok (settled r.plan M) ]

abbrev listed_of : List ℕ → ReadPlan → Listed
listed_of table r = unless_refused (table_outcome table) table (unless_refused r.outcome table (after_graph (units_of r.plan) table))

abbrev next_of : Option ℕ → ReadPlan → Result (Option ℕ) Fault
next_of from r = elim r.outcome [ Err f ↦ Err f | Ok u ↦ Ok (next_in r.plan from) ]

-- ---- a plan and the same without its COUNT

module _ (c : Contents) where
  -- the graph, the lists and what shows are told from these
  pub units_alike : units_of (record_of c) ≡ units_of (record_of (uncounted c))
  unfolding units_of record_of
  units_alike = refl

  settled_alike : (M : ℕ) → settled (record_of c) M ≡ settled (record_of (uncounted c)) M
  unfolding record_of
  settled_alike M = refl

  next_alike : (from : Option ℕ) → next_in (record_of c) from ≡ next_in (record_of (uncounted c)) from
  unfolding record_of next_in
  next_alike from = refl

  one_left : WithinLimits c → (s : Single) → length (no_count c s) ≤ 1
  one_left w s = go (single-discrete s sizes)
    where
      go : (d : Dec (s ≡ sizes)) → length {A = OnceElement s} (elim d [ yes e ↦ [] | no n ↦ c.once s ]) ≤ 1
      go (yes e) = omega arith
      go (no n) = w.under (single s)

  good_left : WithinLimits c → (s : Single) → All (GoodOnce s) (no_count c s)
  good_left w s = go (single-discrete s sizes)
    where
      go : (d : Dec (s ≡ sizes)) → All (GoodOnce s) (elim d [ yes e ↦ [] | no n ↦ c.once s ])
      go (yes e) = tt
      go (no n) = w.good_once s

  pub uncounted_within : WithinLimits c → WithinLimits (uncounted c)
  uncounted_within w =
      record {
        under =
            elim [
              | single s ↦ one_left w s
              | tabled ↦ w.under tabled
              | rule ↦ w.under rule
              | usage ↦ w.under usage
              | unit ↦ w.under unit
              | edge ↦ w.under edge
              | end ↦ w.under end
            ];
        good_once = good_left w;
        good_tables = w.good_tables;
        good_rules = w.good_rules;
        good_uses = w.good_uses;
        no_use_again = w.no_use_again;
        good_units = w.good_units;
        good_edges = w.good_edges;
        no_repeat = w.no_repeat;
      }

  module _ (within : WithinLimits c) (counted : CountRight c) where
    whole : reading (layout c) ≡ accepted (record_of c)
    whole = layout_is_read c within counted

    plain : reading (layout (uncounted c)) ≡ accepted (record_of (uncounted c))
    plain = layout_is_read (uncounted c) (uncounted_within within) tt

    listed_so : (table : List ℕ) → answer (layout c) table ≡ answer (layout (uncounted c)) table
    unfolding answer
    listed_so table =
        let mid : listed_of table (accepted (record_of c)) ≡ listed_of table (accepted (record_of (uncounted c))) =
        ap (λ (S : Units). unless_refused (table_outcome table) table (unless_refused Accepted table (after_graph S table))) units_alike in
        ap (listed_of table) whole ∙ mid ∙ sym (ap (listed_of table) plain)

    judged_so : (M : ℕ) → judged (layout c) M ≡ judged (layout (uncounted c)) M
    unfolding asked
    judged_so M = ap (judged_of M) whole ∙ ap Ok (settled_alike M) ∙ sym (ap (judged_of M) plain)

    next_so : (from : Option ℕ) → followed (layout c) from ≡ followed (layout (uncounted c)) from
    unfolding asked
    next_so from = ap (next_of from) whole ∙ ap Ok (next_alike from) ∙ sym (ap (next_of from) plain)

    sheet_so : plan_sheet (layout c) ≡ plan_sheet (layout (uncounted c))
    unfolding plan_sheet
    sheet_so = ap sheet_of (listed_so (replicate {A = ℕ} TABLE_WORDS 0))

    pub answered_alike : AnsweredAlike (layout c) (layout (uncounted c))
    answered_alike = record { judged_alike = judged_so; listed_alike = listed_so; sheet_alike = sheet_so; next_alike = next_so }
