-- Propagation: what is sought in a context survives each step, and the filter keeps its entry.
use Rattle.propagating.proofs.Prelude.{◌≡◌, ℕ, ◌^◌, ◌<◌, ATOMS, ◌∩◌, get_or, MAX_TABLES, lent, Narrows, State, narrows_for, Summed}
use Rattle.propagating.proofs.Prelude.{pilots_of, linked_of, JoinsAll, joins_some}
use Rattle.std.proofs.Math.Logic.{∥∥₁_elim}
use Rattle.std.proofs.Math.Bridge.{le_prop}
use Rattle.std.proofs.Math.Nat.{ℕ_set}
use Rattle.answer_sets.specs.Lent.{Lent}
use Rattle.answer_sets.specs.Program.{SatisfiesAll}
use Rattle.answer_sets.proofs.JudgedSets.{decides_answer_set}
use Rattle.narrowing.specs.Inputs.{AnswersInputs}
use Rattle.narrowing.proofs.NumberedSteps.{satisfying_narrow}
use Rattle.pilots.specs.Pilots.{FollowsTable}
use Rattle.pilots.proofs.LinkedRules.{answers_linked}
use Rattle.answer_sets.proofs.Support.{satisfied}
use Rattle.propagating.specs.Context.{WiredIn}
use Rattle.propagating.specs.declared.context.Context.{Context}

module _ (cx : Context) where
  -- the linked rules are there
  pub linked_lent : Lent (linked_of cx.desk.now) cx.unit.rules
  linked_lent = ∥∥₁_elim cx.linked (hlevel le_prop) (λ l. l.there)

  answers : cx.unit.rules < 2 ^ ATOMS → (M : ℕ) → WiredIn cx M → AnswersInputs cx.rules.now cx.unit.rules cx.unit.inputs M
  answers fits M b =
      record { answer = (decides_answer_set (lent cx.rules.now) cx.unit.rules (M ∩ cx.unit.inputs) M fits).yes b.belongs.answers }

  module _ {s t : State} where
    -- what is sought joins the lists that the search looks at
    pub lists_narrow : Narrows (JoinsAll cx.table.now cx.counts.now cx.desk.now cx.unit.nearest) s t → Narrows (WiredIn cx) s t
    lists_narrow n =
        narrows_for
        (λ M b. joins_some cx.table.now cx.counts.now cx.desk.now cx.unit.predecessors cx.unit.nearest M cx.searchable.near
        (record { joined = b.belongs.joined })) n

    -- each pilot follows its table
    pub table_narrows : {i w : ℕ} → i < MAX_TABLES → w ≡ get_or (pilots_of cx.desk.now) i 0 → Narrows (FollowsTable cx.rules.now i w) s t
        → Narrows (WiredIn cx) s t
    table_narrows {i} l e n = narrows_for (λ M b. rw e (b.follow.each i l)) n

    module _ (fits : cx.unit.rules < 2 ^ ATOMS) where
      -- it is an answer set of the unit's rules with its input as facts
      pub rules_narrow : Narrows (AnswersInputs cx.rules.now cx.unit.rules cx.unit.inputs) s t → Narrows (WiredIn cx) s t
      rules_narrow n = narrows_for (answers fits) n

      -- and of the linked rules
      pub linked_narrow : Narrows (AnswersInputs (linked_of cx.desk.now) cx.unit.rules cx.unit.inputs) s t → Narrows (WiredIn cx) s t
      linked_narrow n =
          ∥∥₁_elim cx.linked (hlevel ℕ_set) (λ l. narrows_for (λ M b. answers_linked l cx.within b.follow (answers fits M b)) n)

      -- so it satisfies each of these
      pub satisfying_wired : Narrows (SatisfiesAll (lent (linked_of cx.desk.now)) cx.unit.rules) s t → Narrows (WiredIn cx) s t
      satisfying_wired n = linked_narrow (satisfying_narrow (linked_of cx.desk.now) cx.unit.rules cx.unit.inputs n)

      -- all pilots follow their tables, and it satisfies the rules as they are
      pub sums_narrow : Narrows (Summed cx.rules.now (pilots_of cx.desk.now) cx.unit.rules) s t → Narrows (WiredIn cx) s t
      sums_narrow n =
          narrows_for
          (λ M b. record {
            follow = b.follow;
            satisfies = record { each = λ r h. satisfied (lent cx.rules.now) cx.unit.rules (M ∩ cx.unit.inputs) M r (answers fits M b).answer h };
          }) n
