-- The pass over the constraints, computed from a plan's bytes: it goes up by rule number, and given atoms are facts.
use Rattle.blaming.proofs.Prelude.{Ok}
use Rattle.blaming.proofs.Prelude.{ℕ, ◌≡◌, refl, List, [], ◌∷◌, ◌++◌, has, subset, apart, ◌∩◌, ◌∪◌, ◌∖◌, atom, below, all_below, some_below, word_below}
use Rattle.blaming.proofs.Prelude.{union_in, lowest, used_table, asks, use_holds, uses_hold, lent, body, satisfies, satisfies_all, kept, kept_if}
use Rattle.blaming.proofs.Prelude.{some_smaller, answer_set, empty_plan, with_given, with_rule, walk, reading, next_in, leaves, passed, held_in, blame_in}
use Rattle.blaming.proofs.Prelude.{blamed, Held}
use Rattle.atoms.specs.Lists.{padded}
use Rattle.reading.specs.Words.{spelled, word_at}
use Rattle.reading.specs.Commands.{kind_of, carrying, late, empty_rule, contradictory, miscounted, of_kind, command_at}
use Rattle.plan_meaning.specs.Asked.{asked}

-- a word below 256 in a plan
abbrev word : ℕ → List ℕ
word n = n ∷ 0 ∷ 0 ∷ 0 ∷ 0 ∷ 0 ∷ 0 ∷ 0 ∷ []

abbrev rule : ℕ → ℕ → ℕ → List ℕ
rule h p n = 1 ∷ word h ++ (word p ++ word n)

-- the fact 0 and twice ←0: the first is dropped, since the second still leaves no answer set; and the same with 0 given
pub going_up :
    (blamed (rule 1 0 0 ++ (rule 0 1 0 ++ (rule 0 1 0 ++ (0 ∷ [])))) ≡ Ok (Held 4))
    × (blamed (4 ∷ word 1 ++ (rule 0 1 0 ++ (rule 0 1 0 ++ (0 ∷ [])))) ≡ Ok (Held 2))
unfolding asked blame_in held_in passed leaves next_in reading walk command_at of_kind kind_of carrying late empty_rule contradictory miscounted
    empty_plan with_given
    with_rule spelled word_at padded lent uses_hold use_holds used_table asks answer_set some_smaller satisfies_all satisfies body kept kept_if has
    subset apart ◌∩◌
    ◌∪◌ ◌∖◌ atom below all_below some_below word_below union_in lowest
going_up = (refl, refl)
