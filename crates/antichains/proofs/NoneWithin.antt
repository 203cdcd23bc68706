-- "Show first that no uncut answer set lies within another, nor, in plans that pass reading and graph, a member of a unit's list within another of that
-- list, tables and given facts included." (document 02, S-14)
use Rattle.antichains.proofs.Prelude.{ℕ, ◌<◌, arith, ◌⊂◌, Units, Passes, Listed, Clean, with_last, last_passes, list_antichain}
use Rattle.answer_sets.specs.Program.{Program}
use Rattle.answer_sets.specs.AnswerSet.{AnswerSet}
use Rattle.answer_sets.proofs.Support.{antichain}

-- of any rules, with tables or without, and any facts
pub none_within : (P : Program) (which facts M N : ℕ) → AnswerSet P which facts M → AnswerSet P which facts N → ¬ (M ⊂ N)
none_within P which facts M N s t f = f.short (antichain P which facts M N s t f.within)

-- of one list; constraints may stand in several units, so that a list need not be that of a whole program's answer sets
pub none_within_list : (S : Units) → Passes S → (u M N : ℕ) → u < S.units → Listed S u M → Listed S u N → ¬ (M ⊂ N)
none_within_list S pass u M N l p q f = f.short (list_antichain S pass pass.given_free u l M N p q f.within)

-- of the last list, before it is cut to shown atoms; cut, {1} and {1, 2} may both show
pub none_within_last : (S : Units) → Passes S → Clean S → (M N : ℕ) → Listed (with_last S) S.units M → Listed (with_last S) S.units N
    → ¬ (M ⊂ N)
unfolding with_last
none_within_last S pass clean M N p q = none_within_list (with_last S) (last_passes S clean pass) S.units M N (omega arith) p q
