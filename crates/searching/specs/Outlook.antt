-- What a state leaves to search (document 02, S-7): "The search goes no further where some rule's body holds and all its head atoms are dropped".
use Rattle.std.specs.Prelude.{◌≡◌, ◌⊎◌, List, ℕ, ◌+◌, ◌<◌, get_or}
use Rattle.atoms.specs.Word.{ATOMS, Has, Apart, ◌∩◌}
use Rattle.states.specs.State.{undecided}
use Rattle.states.specs.Narrowing.{Overlaps}
use Rattle.states.specs.declared.state.State.{State}
use Rattle.narrowing.specs.Stops.{AtStop, NoStop}
use Rattle.narrowing.specs.Wide.{SomeWide}
use Rattle.learning.specs.Store.{learnt_pairs}
use Rattle.propagating.specs.Desk.{BACKERS_AT}
use Rattle.searching.specs.declared.outlook.Outlook.{Outlook}
use Rattle.searching.specs.declared.outlook.Outlook.TheVariants.{Stop, Leaf, Open}

-- a rule of the word is at a stop
pub record SomeStop (rules : List ℕ) (which : ℕ) (s : State) : Type 0 where
  pub rule : ℕ
  pub in_word : Has which rule
  pub at_stop : AtStop rules rule s

-- a stop, since an atom is up and dropped or a rule is at a stop; a leaf, where nothing is undecided; or an atom that is, and no rule is at a stop
abbrev pub Leaves : List ℕ → ℕ → State → Outlook → Type 0
Leaves rules which s Stop = Overlaps s ⊎ SomeStop rules which s
Leaves rules which s Leaf = Apart s.up s.dropped × (undecided s.up s.dropped ≡ 0)
Leaves rules which s (Open i) = Has (undecided s.up s.dropped) i × (i < ATOMS) × NoStop rules which s

-- with so many pairs learnt it is refuting that takes the time
abbrev pub MANY : ℕ
MANY = 64

-- atom i is tried up first: not so much was learnt yet, and a rule that may back it is wide. Which phase comes first is free
pub record TriedUp (rules desk : List ℕ) (which : ℕ) (memory : List ℕ) (s : State) (i : ℕ) : Type 0 where
  pub few : learnt_pairs memory < MANY
  pub wide : SomeWide rules (which ∩ get_or desk (BACKERS_AT + i) 0) s
