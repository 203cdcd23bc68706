-- Circuits 2 to 11 of document 01 and plan P, from their bytes: the definitions give the outcomes and the last lists that the
-- paper has. And plan P with a contact table (02, S-4) in place of the second rule's positive body, plans with a
-- SHOW (02, S-11), and plans with a COUNT (02, S-10).
use Prim.Native.Nat.{ℕ, zero, suc}
use mathlib.Core.Path.{◌≡◌, refl}
use mathlib.Core.List.{List, [], ◌∷◌, ◌++◌, map}
use Rattle.std.specs.Prelude.{false, Some, None, Ok}
use lib.Count.{ones}
use lib.ListN.{take, drop, get_or, replicate}
use Rattle.plan.specs.Limits.{LAST_LIST, LAST_COUNT, TABLE_WORDS}
use Rattle.atoms.specs.Word.{has, subset, apart, ◌∩◌, ◌∪◌, ◌∖◌, atom, below}
use Rattle.atoms.specs.Bounded.{all_below, some_below, word_below, union_in}
use Rattle.atoms.specs.Collected.{lowest, lowest_of}
use Rattle.atoms.specs.Rising.{members, insert_into}
use Rattle.atoms.specs.Cuts.{cut_list}
use Rattle.atoms.specs.Lists.{padded, tabulate}
use Rattle.contact_tables.specs.ContactTable.{place, row as table_row, table_answer as said}
use Rattle.answer_sets.specs.Lent.{used_table, asks, use_holds, uses_hold, used_inputs, lent}
use Rattle.answer_sets.specs.Test.{body, satisfies, satisfies_all, kept, kept_if, some_smaller, answer_set}
use Rattle.reading.specs.Words.{spelled, word_at}
use Rattle.plan.specs.Record.{empty_plan, with_count, with_given, with_table, with_rule, with_use, with_unit, with_edge, with_show}
use Rattle.reading.specs.Commands.{kind_of, carrying, late, empty_rule, contradictory, bad_table, bad_use, absent_rule, bad_edge, miscounted, of_kind}
use Rattle.reading.specs.Commands.{command_at}
use Rattle.reading.specs.Reading.{walk, reading}
use Rattle.plan.specs.declared.fault.Fault.TheVariants.{Truncated, UnknownCommand, OutOfOrder, TooMany, Cycle, NonmonotonicUnseen, MonotonicUnseen}
use Rattle.plan.specs.declared.fault.Fault.TheVariants.{WrongCount}
use Rattle.plan.specs.Faults.{Accepted, Outcome, Refused}
use Rattle.dependency_graph.specs.Heads.{through, reach_via, reach, own, heads, input_heads}
use Rattle.dependency_graph.specs.Order.{ready, next_unit, order_from, working_order}
use Rattle.dependency_graph.specs.PlanUnits.{units_of}
use Rattle.dependency_graph.specs.Offenders.{twice_below, seen, unseen_heads, nonmonotonic_unseen_in, monotonic_seen_in, given_in_head, rule_in_no_unit}
use Rattle.dependency_graph.specs.Offenders.{headed_rule_in_several, cycle, nonmonotonic_unseen, monotonic_unseen}
use Rattle.dependency_graph.specs.Check.{fault_or, verdict}
use Rattle.splitting.specs.UnitList.{with_last}
use Rattle.plan_meaning.specs.Asked.{asked}
use Rattle.judge.specs.Answers.{judged}
use Rattle.judge.specs.JudgedSheets.{bad_bytes, places_judged, sheet_in, sheet_judged}
use Rattle.demands.specs.UnitLists.{is_input, in_list, unit_list_of, last_list_of}
use Rattle.demands.specs.LentTable.{list_at, runs, table_with, counts_with, no_counts_of}
use Rattle.demands.specs.Answer.{unless_refused, work_from, table_outcome, answer}

-- a word below 256 in a plan
abbrev word : ℕ → List ℕ
word n = n ∷ 0 ∷ 0 ∷ 0 ∷ 0 ∷ 0 ∷ 0 ∷ 0 ∷ []

abbrev count : ℕ → ℕ → ℕ → List ℕ
count rules units edges = 7 ∷ rules ∷ units ∷ edges ∷ []

abbrev given : ℕ → List ℕ
given w = 4 ∷ word w

abbrev rule : ℕ → ℕ → ℕ → List ℕ
rule h p n = 1 ∷ word h ++ (word p ++ word n)

abbrev table : ℕ → ℕ → List ℕ
table inputs truth = 5 ∷ word inputs ++ word truth

abbrev wants : ℕ → ℕ → ℕ → List ℕ
wants r t sign = 6 ∷ r ∷ t ∷ sign ∷ []

abbrev unit : ℕ → List ℕ
unit r = 2 ∷ word r

abbrev edge : ℕ → ℕ → List ℕ
edge u v = 3 ∷ u ∷ v ∷ []

abbrev show : ℕ → List ℕ
show w = 8 ∷ word w

abbrev end : List ℕ
end = 0 ∷ []

-- the edges of circuit 7: unit 3 stands behind 1 and 2, and both behind 0
abbrev diamond : List ℕ
diamond = edge 1 0 ++ (edge 2 0 ++ (edge 3 1 ++ (edge 3 2 ++ end)))

abbrev pub circuit_2 : List ℕ
circuit_2 = rule 3 0 0 ++ (unit 1 ++ end)

abbrev pub circuit_7 : List ℕ
circuit_7 = rule 3 0 0 ++ (rule 4 1 0 ++ (rule 8 1 0 ++ (rule 16 12 0 ++ (unit 1 ++ (unit 2 ++ (unit 4 ++ (unit 8 ++ diamond)))))))

-- circuits 2 to 11, plan P, and P without its EDGE; P with a table that is true where atom 0 is up, with either sign, and without its EDGE;
-- two facts on pairs that show atoms 0 and 1 alone, and no atom; circuit 4 that shows no atom; P that shows atoms 1 and 2; a second SHOW, an EDGE
-- and an unknown byte behind a SHOW; 0←2 where 2 is given; 2 by a table 1 that is true where 1 is up and 0 is not, beside a table 0 that is never true;
-- facts 0 and 1 in units that do not see each other, and a table over atom 0 that no rule uses; P that declares its sizes, and that without its EDGE;
-- sizes of 0 declared of a plan without units and one with a unit, with a byte behind END; a second COUNT, and one behind a GIVEN; three rules, two units and
-- one edge, declared rightly, and with rules and units exchanged; a second GIVEN, and a late one; ←0,not 2 in a unit that sees 0∨1 and 2∨3, and in one that
-- sees 2∨3 alone: a positive atom of a rule with a negative one makes no nonmonotonic dependence; rules that depend on themselves alone, 0∨1←not 0 and 2←2, in
-- units without an edge; two equal facts in two units, which are two rules and depend on each other
abbrev pub plans : List (List ℕ)
plans =
    circuit_2
    ∷ (rule 1 1 0 ++ (unit 1 ++ end))
    ∷ (rule 1 0 1 ++ (unit 1 ++ end))
    ∷ (rule 1 0 2 ++ (rule 2 0 1 ++ (unit 3 ++ end)))
    ∷ (rule 3 0 0 ++ (rule 1 2 0 ++ (rule 2 1 0 ++ (unit 7 ++ end))))
    ∷ circuit_7
    ∷ (rule 1 0 0 ++ (rule 2 0 0 ++ (rule 0 3 0 ++ (unit 1 ++ (unit 2 ++ (unit 4 ++ (unit 4 ++ (edge 2 0 ++ (edge 3 1 ++ end)))))))))
    ∷ (rule 1 0 0 ++ (rule 2 0 0 ++ (rule 0 3 0 ++ (unit 1 ++ (unit 2 ++ (unit 4 ++ (unit 4 ++ (edge 2 0 ++ (edge 3 1 ++ (edge 2 1 ++ end))))))))))
    ∷ (rule 3 0 0 ++ (rule 0 0 1 ++ (unit 1 ++ (unit 2 ++ end))))
    ∷ (unit 0 ++ (unit 0 ++ (edge 0 1 ++ (edge 1 0 ++ end))))
    ∷ (rule 3 0 0 ++ (rule 4 1 0 ++ (unit 1 ++ (unit 2 ++ (edge 1 0 ++ end)))))
    ∷ (rule 3 0 0 ++ (rule 4 1 0 ++ (unit 1 ++ (unit 2 ++ end))))
    ∷ (table 1 2 ++ (rule 3 0 0 ++ (rule 4 0 0 ++ (wants 1 0 0 ++ (unit 1 ++ (unit 2 ++ (edge 1 0 ++ end)))))))
    ∷ (table 1 2 ++ (rule 3 0 0 ++ (rule 4 0 0 ++ (wants 1 0 1 ++ (unit 1 ++ (unit 2 ++ (edge 1 0 ++ end)))))))
    ∷ (table 1 2 ++ (rule 3 0 0 ++ (rule 4 0 0 ++ (wants 1 0 0 ++ (unit 1 ++ (unit 2 ++ end))))))
    ∷ (rule 3 0 0 ++ (rule 12 0 0 ++ (unit 3 ++ (show 3 ++ end))))
    ∷ (rule 3 0 0 ++ (rule 12 0 0 ++ (unit 3 ++ (show 0 ++ end))))
    ∷ (rule 1 0 1 ++ (unit 1 ++ (show 0 ++ end)))
    ∷ (rule 3 0 0 ++ (rule 4 1 0 ++ (unit 1 ++ (unit 2 ++ (edge 1 0 ++ (show 6 ++ end))))))
    ∷ (show 3 ++ (show 3 ++ end))
    ∷ (unit 0 ++ (unit 0 ++ (show 3 ++ (edge 0 1 ++ end))))
    ∷ (show 3 ++ (9 ∷ end))
    ∷ (given 4 ++ (rule 1 4 0 ++ (unit 1 ++ end)))
    ∷ (table 1 0 ++ (table 3 4 ++ (rule 3 0 0 ++ (rule 4 0 0 ++ (wants 1 1 0 ++ (unit 3 ++ end))))))
    ∷ (table 1 2 ++ (rule 1 0 0 ++ (rule 2 0 0 ++ (unit 1 ++ (unit 2 ++ end)))))
    ∷ (count 2 2 1 ++ (rule 3 0 0 ++ (rule 4 1 0 ++ (unit 1 ++ (unit 2 ++ (edge 1 0 ++ end))))))
    ∷ (count 2 2 1 ++ (rule 3 0 0 ++ (rule 4 1 0 ++ (unit 1 ++ (unit 2 ++ end)))))
    ∷ (count 0 0 0 ++ end)
    ∷ (count 0 0 0 ++ (unit 0 ++ (end ++ end)))
    ∷ (count 0 0 0 ++ (count 0 0 0 ++ end))
    ∷ (given 4 ++ (count 0 0 0 ++ end))
    ∷ (count 3 2 1 ++ (rule 3 0 0 ++ (rule 4 1 0 ++ (rule 8 0 0 ++ (unit 1 ++ (unit 6 ++ (edge 1 0 ++ end)))))))
    ∷ (count 2 3 1 ++ (rule 3 0 0 ++ (rule 4 1 0 ++ (rule 8 0 0 ++ (unit 1 ++ (unit 6 ++ (edge 1 0 ++ end)))))))
    ∷ (given 4 ++ (given 4 ++ end))
    ∷ (given 4 ++ (rule 1 4 0 ++ (given 4 ++ end)))
    ∷ (rule 3 0 0 ++ (rule 12 0 0 ++ (rule 0 1 4 ++ (unit 1 ++ (unit 2 ++ (unit 4 ++ (unit 4 ++ (edge 2 0 ++ (edge 2 1 ++ (edge 3 1 ++ end))))))))))
    ∷ (rule 3 0 1 ++ (rule 4 4 0 ++ (unit 1 ++ (unit 2 ++ end))))
    ∷ (rule 1 0 0 ++ (rule 1 0 0 ++ (unit 1 ++ (unit 2 ++ end))))
    ∷ []

abbrev pub results : List (Outcome × List ℕ)
results =
    (Accepted, 1 ∷ 2 ∷ [])
    ∷ (Accepted, 0 ∷ [])
    ∷ (Accepted, [])
    ∷ (Accepted, 1 ∷ 2 ∷ [])
    ∷ (Accepted, 3 ∷ [])
    ∷ (Accepted, 2 ∷ 29 ∷ [])
    ∷ (Refused (MonotonicUnseen 2), [])
    ∷ (Accepted, [])
    ∷ (Refused (NonmonotonicUnseen 1), [])
    ∷ (Refused (Cycle 0), [])
    ∷ (Accepted, 2 ∷ 5 ∷ [])
    ∷ (Refused (MonotonicUnseen 1), [])
    ∷ (Accepted, 2 ∷ 5 ∷ [])
    ∷ (Accepted, 1 ∷ 6 ∷ [])
    ∷ (Refused (NonmonotonicUnseen 1), [])
    ∷ (Accepted, 1 ∷ 2 ∷ [])
    ∷ (Accepted, 0 ∷ [])
    ∷ (Accepted, [])
    ∷ (Accepted, 2 ∷ 4 ∷ [])
    ∷ (Refused (OutOfOrder 9), [])
    ∷ (Refused (OutOfOrder 27), [])
    ∷ (Refused (UnknownCommand 9), [])
    ∷ (Accepted, 5 ∷ [])
    ∷ (Accepted, 1 ∷ 6 ∷ [])
    ∷ (Accepted, 3 ∷ [])
    ∷ (Accepted, 2 ∷ 5 ∷ [])
    ∷ (Refused (WrongCount 0), [])
    ∷ (Accepted, 0 ∷ [])
    ∷ (Refused (WrongCount 0), [])
    ∷ (Refused (OutOfOrder 4), [])
    ∷ (Refused (OutOfOrder 9), [])
    ∷ (Accepted, 10 ∷ 13 ∷ [])
    ∷ (Refused (WrongCount 0), [])
    ∷ (Refused (OutOfOrder 9), [])
    ∷ (Refused (OutOfOrder 34), [])
    ∷ (Accepted, 5 ∷ 6 ∷ 10 ∷ [])
    ∷ (Accepted, 2 ∷ [])
    ∷ (Refused (MonotonicUnseen 0), [])
    ∷ []

-- what `answer` gives for the bytes and a table of zeros: its outcome, and "the words from 4,096 on, as many as the last count says"
unfoldable pub answered : List ℕ → Outcome × List ℕ
answered bytes =
    let a = answer bytes (replicate {A = ℕ} TABLE_WORDS 0) in (a.outcome, take (get_or a.counts LAST_COUNT 0) (drop LAST_LIST a.table))

-- the results of all of them; and of circuit 2: "Position 3 isn't settled."
pub circuits : (map answered plans ≡ results) × (judged circuit_2 3 ≡ Ok false)
unfolding asked answered answer table_outcome reading walk command_at of_kind kind_of carrying late empty_rule contradictory absent_rule bad_edge bad_table
    bad_use miscounted empty_plan with_count with_given with_table with_rule with_use with_unit with_edge with_show spelled word_at unless_refused
    work_from no_counts_of
    table_with counts_with list_at runs padded tabulate last_list_of cut_list insert_into unit_list_of in_list is_input members all_below some_below
    word_below union_in twice_below
    heads input_heads own reach reach_via through with_last units_of lent uses_hold use_holds used_table asks used_inputs said table_row place ones answer_set
    some_smaller satisfies_all satisfies body kept kept_if has subset apart ◌∩◌ ◌∪◌ ◌∖◌ atom below verdict fault_or given_in_head rule_in_no_unit
    headed_rule_in_several cycle nonmonotonic_unseen monotonic_unseen nonmonotonic_unseen_in monotonic_seen_in seen unseen_heads lowest_of lowest working_order
    order_from next_unit ready
circuits = (refl, refl)

-- ---- one command more than there may be

-- n of them, one behind the other
abbrev times : ℕ → List ℕ → List ℕ
times zero bytes = []
times (suc n) bytes = bytes ++ times n bytes

-- USEs by n rules of all sixteen tables with either sign
abbrev used_by : ℕ → ℕ → List ℕ
used_by r zero = []
used_by r (suc t) = wants r t 0 ++ (wants r t 1 ++ used_by r t)

abbrev uses_of_all : ℕ → List ℕ
uses_of_all zero = []
uses_of_all (suc r) = used_by r 16 ++ uses_of_all r

-- a 17th TABLE, a 65th RULE, a 17th UNIT, and a 257th USE
pub one_too_many :
    ((reading (times 17 (table 1 2))).outcome ≡ Refused (TooMany 272))
    × ((reading (times 65 (rule 1 0 0))).outcome ≡ Refused (TooMany 1600))
    × ((reading (times 17 (unit 0))).outcome ≡ Refused (TooMany 144))
    × ((reading (times 16 (table 1 2) ++ (times 9 (rule 1 0 0) ++ uses_of_all 9))).outcome ≡ Refused (TooMany 1521))
unfolding reading walk command_at of_kind kind_of carrying late empty_rule contradictory absent_rule bad_edge bad_table bad_use miscounted empty_plan with_table
    with_rule with_use with_unit spelled word_at padded tabulate ones apart ◌∩◌ ◌∪◌ atom has
one_too_many = (refl, refl, refl, refl)

-- ---- the first row that fits

-- a late RULE that is cut short and a 17th TABLE behind a RULE are 4, a 65th RULE that is cut short is 5, and three zero words that are cut short are 2
pub first_rows :
    ((reading (show 3 ++ (1 ∷ []))).outcome ≡ Refused (OutOfOrder 9))
    × ((reading (times 16 (table 1 2) ++ (rule 1 0 0 ++ table 1 2))).outcome ≡ Refused (OutOfOrder 297))
    × ((reading (times 64 (rule 1 0 0) ++ (1 ∷ []))).outcome ≡ Refused (TooMany 1600))
    × ((reading (1 ∷ word 0 ++ word 0)).outcome ≡ Refused (Truncated 0))
unfolding reading walk command_at of_kind kind_of carrying late empty_rule contradictory bad_table miscounted empty_plan with_table with_rule with_show
    spelled word_at
    padded tabulate ones apart ◌∩◌ has
first_rows = (refl, refl, refl, refl)

-- ---- whole sheets (02, S-12)

-- "Each position is a word as in the plan, lowest byte first": 1 and 2, and 2 and 3, of circuit 2
pub sheets : (sheet_judged circuit_2 (word 1 ++ word 2) ≡ Ok None) × (sheet_judged circuit_2 (word 2 ++ word 3) ≡ Ok (Some 1))
unfolding asked sheet_in bad_bytes places_judged lowest reading walk command_at of_kind kind_of carrying late empty_rule contradictory absent_rule
    miscounted empty_plan
    with_rule with_unit spelled word_at padded tabulate lent uses_hold use_holds used_table asks answer_set some_smaller satisfies_all satisfies body
    kept kept_if has
    subset apart ◌∩◌ ◌∪◌ ◌∖◌ atom below all_below some_below word_below union_in said table_row place ones members
sheets = (refl, refl)
