-- The computing twins of the definitions: what the functions return.
use Rattle.std.specs.Prelude.{◌≡◌, Bool, true, false, not, ◌&&◌, ◌||◌, ◌⊎◌, ℕ}
use Rattle.atoms.specs.Word.{has, ◌⊂◌, ◌⊆◌, subset, apart, ◌∖◌, atom}
use Rattle.atoms.specs.Bounded.{Decides, all_in, some_below, word_below}
use Rattle.plan.specs.Limits.{MAX_RULES}
use Rattle.answer_sets.specs.Program.{Program, SatisfiesAll}

-- the body holds at M
unfoldable pub body : Program → ℕ → ℕ → Bool
body P r M = subset (P.positive r) M && P.rest r M

-- M satisfies the rule
unfoldable pub satisfies : Program → ℕ → ℕ → Bool
satisfies P r M = not (body P r M) || not (apart (P.head r) M)

-- M satisfies each rule numbered in `which`
unfoldable pub satisfies_all : Program → ℕ → ℕ → Bool
satisfies_all P which M = all_in MAX_RULES which (λ r. satisfies P r M)

-- the word of the rules that the reduct at M keeps
unfoldable pub kept : Program → ℕ → ℕ → ℕ
kept P which M = word_below MAX_RULES (λ r. has which r && body P r M)

-- the word without rule r where its body fails at M
unfoldable pub kept_if : Program → ℕ → ℕ → ℕ → ℕ
kept_if P r M word = elim (body P r M) [ true ↦ word | false ↦ word ∖ atom r ]

-- "some proper subset of the position has all those facts and satisfies each rule so numbered" (document 02, S-3)
pub record Smaller (P : Program) (numbers facts M : ℕ) : Type 0 where
  pub set : ℕ
  pub proper : set ⊂ M
  pub facts_up : facts ⊆ set
  pub satisfied : SatisfiesAll P numbers set

-- the same, computed: a proper subset of M is a smaller number
unfoldable pub some_smaller : Program → ℕ → ℕ → ℕ → Bool
some_smaller P numbers facts M = some_below M (λ N. subset N M && (subset facts N && satisfies_all P numbers N))

-- "It says yes exactly if" so; facts that are not all in the position give no
pub record SubsetTested (P : Program) (numbers facts M : ℕ) (answer : Bool) : Type 0 where
  pub exactly : Decides (Smaller P numbers facts M) answer
  pub computed : answer ≡ some_smaller P numbers facts M
  pub facts_outside : ¬ (facts ⊆ M) → answer ≡ false

-- the set beside that answer: a smaller one where there is one, else 0
pub record SmallerSet (P : Program) (numbers facts M : ℕ) (answer : Bool) (set : ℕ) : Type 0 where
  pub shown : answer ≡ true → (s : Smaller P numbers facts M) × (s.set ≡ set)
  pub none : answer ≡ false → set ≡ 0

-- M is an answer set
unfoldable pub answer_set : Program → ℕ → ℕ → ℕ → Bool
answer_set P which facts M =
    subset facts M && (satisfies_all P (kept P which M) M && not (some_smaller P (kept P which M) facts M))

-- the set beside that answer: what shows that M is none, M itself where it lacks a fact or does not satisfy a kept rule, else a smaller set; 0 where M is one
pub record RefutedBy (P : Program) (which facts M : ℕ) (answer : Bool) (set : ℕ) : Type 0 where
  pub refuted : answer ≡ false
      → ((set ≡ M) × ¬ ((facts ⊆ M) × SatisfiesAll P (kept P which M) M)) ⊎ ((s : Smaller P (kept P which M) facts M) × (s.set ≡ set))
  pub none : answer ≡ true → set ≡ 0

-- the subset test is settled before it is run: M lacks a fact or does not satisfy a kept rule, so that it is no answer set and shows that itself
pub record TestSettled (P : Program) (which facts M : ℕ) : Type 0 where
  pub answers : answer_set P which facts M ≡ false
  pub refuted : RefutedBy P which facts M false M

-- or it is due: M has the facts and satisfies the rules of the word, which are those kept
pub record TestDue (P : Program) (which facts M word : ℕ) : Type 0 where
  pub kept_is : word ≡ kept P which M
  pub has_facts : subset facts M ≡ true
  pub satisfied : satisfies_all P word M ≡ true
