-- The head atoms of document 01's circuits 7 and 12, computed from their bytes: the diamond has five, so the theorems speak of it; the eight pairs have
-- sixteen, so they say nothing there, and its last list has 256 members, more than ten head atoms allow.
use Rattle.antichains.proofs.Prelude.{◌≡◌, refl, sym, Bool, true, false, true≢false, List, [], ◌∷◌, ◌++◌, flat_map, ℕ, arith, ones, ltb, ltb-true, has}
use Rattle.antichains.proofs.Prelude.{subset, apart, ◌∩◌, ◌∪◌, ◌∖◌, atom, below, walk, reading, Contents, IsByte, All, through, reach_via, reach, own}
use Rattle.antichains.proofs.Prelude.{units_of, head_atoms_of, FewHeads, TenHeaded}
use Rattle.atoms.specs.Bounded.{all_below, some_below, word_below, union_in}
use Rattle.atoms.specs.Collected.{lowest, lowest_of}
use Rattle.atoms.specs.Lists.{padded, tabulate}
use Rattle.answer_sets.specs.Lent.{used_table, asks, used_inputs, lent}
use Rattle.reading.specs.Words.{BYTE_VALUES, spelled, word_at}
use Rattle.plan.specs.Record.{empty_plan, with_table, with_rule, with_use, with_unit, with_edge, with_show}
use Rattle.reading.specs.Commands.{kind_of, carrying, late, empty_rule, contradictory, bad_table, bad_use, absent_rule, bad_edge, miscounted, of_kind}
use Rattle.reading.specs.Commands.{command_at}
use Rattle.dependency_graph.specs.Offenders.{twice_below, seen, unseen_heads, nonmonotonic_unseen_in, monotonic_seen_in, given_in_head, rule_in_no_unit}
use Rattle.dependency_graph.specs.Offenders.{headed_rule_in_several, cycle, nonmonotonic_unseen, monotonic_unseen}
use Rattle.dependency_graph.specs.Check.{fault_or, verdict}
use Rattle.dependency_graph.proofs.Verdicts.{passes_of_verdict}
use Rattle.circuit_theorem.proofs.Circuits.{circuit_7}
use Rattle.antichains.proofs.TenHeads.{ten_headed}

-- a fact on a pair of atoms, by the two low bytes of its head
abbrev fact : ℕ × ℕ → List ℕ
fact (low, high) = 1 ∷ low ∷ high ∷ 0 ∷ 0 ∷ 0 ∷ 0 ∷ 0 ∷ 0 ∷ 0 ∷ 0 ∷ 0 ∷ 0 ∷ 0 ∷ 0 ∷ 0 ∷ 0 ∷ 0 ∷ 0 ∷ 0 ∷ 0 ∷ 0 ∷ 0 ∷ 0 ∷ 0 ∷ []

abbrev pairs : List (ℕ × ℕ)
pairs = (3, 0) ∷ (12, 0) ∷ (48, 0) ∷ (192, 0) ∷ (0, 3) ∷ (0, 12) ∷ (0, 48) ∷ (0, 192) ∷ []

abbrev end : List ℕ
end = 0 ∷ []

-- "Eight facts on separate pairs", all in one unit
abbrev pub circuit_12 : List ℕ
circuit_12 = flat_map fact pairs ++ (2 ∷ 255 ∷ 0 ∷ 0 ∷ 0 ∷ 0 ∷ 0 ∷ 0 ∷ 0 ∷ end)

abbrev head_count : List ℕ → ℕ
head_count bytes = ones (head_atoms_of (units_of (reading bytes).plan))

pub head_counts : (head_count circuit_7 ≡ 5) × (head_count circuit_12 ≡ 16)
unfolding head_atoms_of units_of lent reading walk command_at of_kind kind_of carrying late empty_rule contradictory absent_rule bad_edge bad_table
    bad_use miscounted
    empty_plan with_table with_rule with_use with_unit with_edge with_show spelled word_at padded tabulate union_in has subset apart ◌∩◌ ◌∪◌ ◌∖◌ atom
    below ones flat_map
head_counts = (refl, refl)

-- ---- circuit 7 is such a plan

abbrev are_bytes : List ℕ → Bool
are_bytes [] = true
are_bytes (b ∷ bytes) = elim (ltb b BYTE_VALUES) [ true ↦ are_bytes bytes | false ↦ false ]

are_bytes_lem : (bytes : List ℕ) → are_bytes bytes ≡ true → All IsByte bytes
are_bytes_lem [] e = tt
are_bytes_lem (b ∷ bytes) e = go (ltb b BYTE_VALUES) refl (are_bytes_lem bytes)
  where
    go : (t : Bool) → ltb b BYTE_VALUES ≡ t → (are_bytes bytes ≡ true → All IsByte bytes) → IsByte b × All IsByte bytes
    go true t rest = (ltb-true b BYTE_VALUES t, rest (rw (t, are_bytes) at e))
    go false t rest = absurd (true≢false (sym (rw (t, are_bytes) at e)))

pub circuit_7_ten_headed : (c : Contents) × TenHeaded circuit_7 c
unfolding head_atoms_of units_of lent reading walk command_at of_kind kind_of carrying late empty_rule contradictory absent_rule bad_edge bad_table
    bad_use miscounted
    empty_plan with_table with_rule with_use with_unit with_edge with_show spelled word_at padded tabulate union_in has subset apart ◌∩◌ ◌∪◌ ◌∖◌ atom below ones
    used_table asks used_inputs all_below some_below word_below twice_below own reach reach_via through verdict fault_or given_in_head rule_in_no_unit
    headed_rule_in_several
    cycle nonmonotonic_unseen monotonic_unseen nonmonotonic_unseen_in monotonic_seen_in seen unseen_heads lowest_of lowest
circuit_7_ten_headed =
    ten_headed circuit_7 (are_bytes_lem circuit_7 refl) refl (passes_of_verdict (units_of (reading circuit_7).plan) refl)
    (record { count = omega (arith, head_counts.0) })

-- circuit 12 is not
pub circuit_12_many_headed : ¬ FewHeads 10 (units_of (reading circuit_12).plan)
circuit_12_many_headed few = omega (arith, few.count, head_counts.1)
