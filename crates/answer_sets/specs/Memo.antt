-- Inner: the memo of a subset test that said none, and when it says the same of another test.
use Rattle.std.specs.Prelude.{◌≡◌, List, ℕ, ◌^◌, ◌<◌, length, get_or}
use Rattle.atoms.specs.Word.{ATOMS, Has, ◌⊆◌, Apart, ◌∪◌, ◌∖◌}
use Rattle.answer_sets.specs.Program.{Program, SatisfiesAll}
use Rattle.answer_sets.specs.Lent.{lent}
use Rattle.answer_sets.specs.SubsetTest.{InRule}
use Rattle.states.specs.State.{Completes, undecided}
use Rattle.states.specs.declared.state.State.{State}
use Rattle.answer_sets.specs.declared.rule_pass.Passed.{Passed}

-- of the completions of the state only the one with every atom that is not dropped may satisfy each rule that is left
pub record OnlyWhole (P : Program) (p : Passed) : Type 0 where
  pub up_fits : p.state.up < 2 ^ ATOMS
  pub has_all : (N : ℕ) → N < 2 ^ ATOMS → Completes p.state N → SatisfiesAll P p.left N
      → (i : ℕ) → i < ATOMS → ¬ Has p.state.dropped i → Has N i

-- a memo in three words: the rules that are left, and the two words of the state
abbrev pub MEMO_WORDS : ℕ
MEMO_WORDS = 3

abbrev pub memo_of : List ℕ → Passed
memo_of words = record { state = record { up = get_or words 1 0; dropped = get_or words 2 0 }; left = get_or words 0 0 }

-- what is promised of a memo
pub record Memo (rules words : List ℕ) : Type 0 where
  pub long : length words ≡ MEMO_WORDS
  pub only_whole : OnlyWhole (lent rules) (memo_of words)

-- a memo that says nothing keeps its promise for any rules
pub record Blank (words : List ℕ) : Type 0 where
  pub memo : (rules : List ℕ) → Memo rules words

-- the words are the memo
pub record Written (p : Passed) (words : List ℕ) : Type 0 where
  pub long : length words ≡ MEMO_WORDS
  pub is : memo_of words ≡ p

-- the atoms of which two states say different things
abbrev pub differing : State → State → ℕ
differing s t = ((s.up ∖ t.up) ∪ (t.up ∖ s.up)) ∪ ((s.dropped ∖ t.dropped) ∪ (t.dropped ∖ s.dropped))

-- no rule of the word has an atom of w
pub record NoRuleHas (rules : List ℕ) (which w : ℕ) : Type 0 where
  pub none : (r : ℕ) → Has which r → (i : ℕ) → InRule rules r i → ¬ Has w i

-- the memo n tells of p, at position M: its rules are left there too, and the two differ in no atom that such a rule has or that is open
pub record RestAlike (rules : List ℕ) (M : ℕ) (n p : Passed) : Type 0 where
  pub part : n.left ⊆ p.left
  pub free : Apart n.state.up n.state.dropped
  pub in_position : Apart p.state.dropped M
  pub same_open : Apart (differing n.state p.state) (undecided p.state.up p.state.dropped)
  pub same_rules : NoRuleHas rules n.left (differing n.state p.state)
